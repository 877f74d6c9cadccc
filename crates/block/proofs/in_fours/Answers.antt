-- One step more.
use Rattle.std.proofs.Common.{◌/◌, ◌∙◌, length, sym, arith}
use Rattle.block.proofs.Fours.{fours-kept}
use Rattle.block.proofs.in_fours.Goals as goal

pub loop-i-preserved : goal.loop-i-preserved
loop-i-preserved c =
    let t = c.loop-i in
    let s = c.args.s.now in
    let next =
    fours-kept s (length s / 4) t.i t.even t.odd t.w c.read_four-x.ensures (λ k. omega (arith, c.type_inv.s k)) (omega arith) (omega arith)
    t.invariant.evens t.invariant.odds t.invariant.counted in
    record { evens = next.0; odds = next.1; counted = next.2; left = sym next.3 ∙ t.invariant.left }
