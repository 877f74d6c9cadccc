-- The check is right where the two fields have the two sums.
use Rattle.std.proofs.Common.{length, sym, ◌∙◌, arith}
use borrow.Author.Tests.{ne_eqb}
use Rattle.block.proofs.Sealing.{not-sealed, check_is}
use Rattle.block.proofs.check.Goals as goal

pub returns-then-s-eq512 : goal.returns-then-s-eq512
returns-then-s-eq512 c =
    check_is c.args.s.now c.sums_of.result.a c.sums_of.result.b c.if-s-eq512.true c.sums_of.ensures (λ i. omega (arith, c.type_inv.s i))
    c.stated.ensures.0 c.stated.ensures.1 c.eq.ensures

pub returns-else-s-eq512 : goal.returns-else-s-eq512
returns-else-s-eq512 c =
    let s = c.args.s.now in
    ne_eqb (length s) 512 c.if-s-eq512.false ∙ sym (not-sealed s c.if-s-eq512.false)
