-- The code's tests are the shape.
-- Assumes nothing.
use Rattle.std.proofs.Common.{arith}
use Rattle.std.proofs.lemmas.Bool.Decides.{nat_tests}
use Rattle.workcopy.proofs.Scan.{seat_shape_is}
use Rattle.workcopy.proofs.seat_shape.Goals as goal

pub returns-then-contains : goal.returns-then-contains
returns-then-contains c =
    let e = seat_shape_is c.args.s.now c.requires.0 (λ i. omega (arith, c.type_inv.s i)) c.requires.1 in
    grind (arith, nat_tests)

pub returns-else-contains : goal.returns-else-contains
returns-else-contains c =
    let e = seat_shape_is c.args.s.now c.requires.0 (λ i. omega (arith, c.type_inv.s i)) c.requires.1 in
    grind (arith, nat_tests)
