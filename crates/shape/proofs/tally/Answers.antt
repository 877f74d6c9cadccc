-- At the start nothing is counted. One change more points to a block that is counted, or to another one.
use Rattle.std.proofs.Common.{◌-◌, ◌∙◌, arith, refl}
use Rattle.shape.proofs.Changes.{tally_hit, tally_miss, tally_starts, zeros_at}
use Rattle.shape.proofs.tally.Goals as goal
use Rattle.shape.proofs.tally.Goals.{else-at-p, then-at-p+then-p-at-lt32, else-at-p-via-then-at-p+else-p-at-lt32, else-at-p-via-else-at-p}

pub loop-j-init : goal.loop-j-init
loop-j-init c = tally_starts c.args.s.now c.args.base c.args.m c.args.at 32 _ refl (zeros_at 32)

pub loop-j-preserved : goal.loop-j-preserved
loop-j-preserved c =
    let a = c.args in
    let T = c.loop-j.invariant in
    let e = c.from-p.ensures ∙ c.get16.ensures in
    elim c.if-at-p.branch [
      | then-at-p+then-p-at-lt32 w ↦
          rw w.counts-is (tally_hit a.s.now a.base a.m a.at 32 T (omega arith) (c.from-p.result - a.at) (omega (arith, T.size)) (omega (arith, e)))
      | else-at-p w ↦
          rw w.counts-is (tally_miss a.s.now a.base a.m a.at 32 T (omega arith) (λ q g d. elim w.else-at-p.branch [
            | else-at-p-via-then-at-p+else-p-at-lt32 v ↦ omega (arith, e, d, T.size)
            | else-at-p-via-else-at-p v ↦ omega (arith, e, d)
          ]))
    ]
