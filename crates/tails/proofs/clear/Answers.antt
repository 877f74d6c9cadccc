-- One block more is zero, down to the last that is to be cleared.
use Rattle.std.proofs.Common.{◌+◌, ◌-◌, ◌∙◌, arith, refl}
use Rattle.tails.proofs.Clearing.{blank_at, clear_next}
use Rattle.tails.proofs.clear.Goals as goal

pub loop-p-preserved : goal.loop-p-preserved
loop-p-preserved c =
    let l = c.loop-p in
    (omega arith, c.clear.ensures ∙ clear_next c.args.store.now l.store l.p (l.p - 1) l.invariant.1 (omega arith) (omega (arith, c.requires.room)))

pub returns : goal.returns
returns c = (refl, c.loop-p.invariant.1 ∙ blank_at c.args.store.now c.loop-p.p (c.args.used + (c.args.count - c.args.n)) (omega arith))
