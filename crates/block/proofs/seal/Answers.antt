-- The check is written in its two fields, and each sum fits its field.
use Rattle.std.proofs.Common.{take, arith}
use Rattle.block.proofs.Theorems.{sums_fit}
use Rattle.block.proofs.Sealing.{seal_by, seal_not}
use Rattle.block.proofs.seal.Goals as goal

pub overflow_cast-t : goal.overflow_cast-t
overflow_cast-t c = omega (arith, sums_fit (take 508 c.args.s.now) c.sums_of-t.ensures)

pub overflow_cast-t-then-s-eq512 : goal.overflow_cast-t-then-s-eq512
overflow_cast-t-then-s-eq512 c = omega (arith, sums_fit (take 508 c.args.s.now) c.sums_of-t.ensures)

pub returns-then-s-eq512 : goal.returns-then-s-eq512
returns-then-s-eq512 c =
    seal_by c.args.s.now c.sums_of-t.result.a c.sums_of-t.result.b c.if-s-eq512.true c.sums_of-t.ensures
    c.put16.ensures c.put16-then-s-eq512.ensures

pub returns-else-s-eq512 : goal.returns-else-s-eq512
returns-else-s-eq512 c = seal_not c.args.s.now c.if-s-eq512.false
