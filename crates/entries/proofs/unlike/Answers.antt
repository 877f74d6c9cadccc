-- Assumes nothing.
use Rattle.std.proofs.Common.{arith, ◌*◌, ◌+◌, ◌-◌}
use Rattle.laws.proofs.Store.{taken-room}
use Rattle.entries.proofs.Comparing.{unlike_held}
use Rattle.entries.proofs.unlike.Goals as goal

pub span_at-held-requires : goal.span_at-held-requires
span_at-held-requires c = omega (arith, taken-room c.args.store.now c.requires.0)

pub returns : goal.returns
returns c =
    let q = c.span_at-held.result in
    let e = c.entry_at-e.result in
    unlike_held c.args.store.now c.args.copy.now c.args.i c.args.p
    (512 * (c.args.i + 1) + 16 + e.len - (512 * (c.args.i + 1) + 16)) (q.start + q.len - q.start)
    c.requires.0 c.requires.3 c.if-p-eq0.false c.span_at-held.ensures c.entry_at-e.ensures (omega arith) (omega arith) c.same_part.ensures
