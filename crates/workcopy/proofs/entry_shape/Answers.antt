-- The code's tests are the shape.
-- Assumes nothing.
use Rattle.std.proofs.Common.{arith}
use Rattle.std.proofs.lemmas.Bool.Decides.{nat_tests}
use Rattle.workcopy.proofs.Scan.{entry_shape_is}
use Rattle.workcopy.proofs.entry_shape.Goals as goal

pub returns-then-is_zero-2 : goal.returns-then-is_zero-2
returns-then-is_zero-2 c =
    let e = entry_shape_is c.args.s.now c.requires.0 (λ i. omega (arith, c.type_inv.s i)) c.requires.1 in
    grind (arith, nat_tests)

pub returns-else-is_zero-2 : goal.returns-else-is_zero-2
returns-else-is_zero-2 c =
    let e = entry_shape_is c.args.s.now c.requires.0 (λ i. omega (arith, c.type_inv.s i)) c.requires.1 in
    grind (arith, nat_tests)
