-- One block after the other, from the end.
use Rattle.std.proofs.Common.{◌≡◌, ◌+◌, ◌-◌, ◌∙◌, arith}
use Rattle.store.proofs.Scanned.{filled_here, filled_none, filled_on}
use Rattle.store.proofs.filled.Goals as goal

pub returns-then-not-is_zero : goal.returns-then-not-is_zero
returns-then-not-is_zero c =
    let l = c.loop-p in
    let e : l.p - 1 + 1 ≡ l.p = omega arith in
    (e ∙ filled_here c.args.store.now l.p _ l.invariant (omega arith) _ c.is_zero.ensures c.if-not-is_zero.true, omega arith)

pub loop-p-preserved : goal.loop-p-preserved
loop-p-preserved c = filled_on c.args.store.now c.loop-p.p _ c.loop-p.invariant (omega arith) _ c.is_zero.ensures c.if-not-is_zero.false

pub returns : goal.returns
returns c = (filled_none c.args.store.now c.loop-p.p _ c.loop-p.invariant (omega arith), omega arith)
