-- `rehearsal::say_number` meets its contract.
-- Assumes nothing.
use native.Mathlib.Omega.{arith}
use Rattle.text.proofs.Laws.{length_decimal}
use Rattle.text.specs.Text.{decimal_of}
use Rattle.rehearsal.proofs.Printing.{printed_byte}
use Rattle.rehearsal.proofs.say_number.Goals as goal

pub overflow_add-at : goal.overflow_add-at
overflow_add-at c = omega (arith, c.put_decimal-k.ensures.value, length_decimal 10 c.args.n)

pub overflow_add-result : goal.overflow_add-result
overflow_add-result c = omega (arith, c.put_decimal-k.ensures.value, length_decimal 10 c.args.n)

pub overflow_add-result-2 : goal.overflow_add-result-2
overflow_add-result-2 c = omega (arith, c.put_decimal-k.ensures.value, length_decimal 10 c.args.n)

pub returns-clause-printed : goal.returns-clause-printed
returns-clause-printed c =
    let a = c.args in
    let d = c.put_decimal-k in
    printed_byte a.at (decimal_of a.n) a.out.now d.new.out c.put.new.s d.result a.last d.ensures.value d.ensures.out_after c.put.ensures

pub returns-clause-upper_bound : goal.returns-clause-upper_bound
returns-clause-upper_bound c = omega (arith, c.put_decimal-k.ensures.value, length_decimal 10 c.args.n)
