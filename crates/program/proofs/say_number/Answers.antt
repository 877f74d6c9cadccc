-- A word, a number and the end of the line.
-- Assumes nothing.
use Rattle.std.proofs.Common.{◌+◌, ◌∙◌, ap, arith, set}
use Rattle.text.proofs.Laws.{length_decimal}
use Rattle.text.specs.Text.{decimal_of}
use Rattle.program.proofs.Printing.{said}
use Rattle.program.proofs.say_number.Goals as goal

pub overflow_add-p-2 : goal.overflow_add-p-2
overflow_add-p-2 c = omega (arith, c.put_decimal-k.ensures.value, length_decimal 10 c.args.n)

pub overflow_add-result : goal.overflow_add-result
overflow_add-result c = omega (arith, c.put_decimal-k.ensures.value, length_decimal 10 c.args.n)

pub returns-clause-out_after : goal.returns-clause-out_after
returns-clause-out_after c =
    let a = c.args in
    let d = c.put_decimal-k in
    said a.word.now (decimal_of a.n) a.out.now c.put_bytes.new.s d.new.out c.put.new.s 10 a.at (a.at + 3) (omega (arith, c.requires.0)) c.put_bytes.ensures d.ensures.out_after
    (c.put.ensures ∙ ap (λ k. set d.new.out (a.at + 3 + k) 10) d.ensures.value)

pub returns-clause-upper_bound : goal.returns-clause-upper_bound
returns-clause-upper_bound c = omega (arith, c.put_decimal-k.ensures.value, length_decimal 10 c.args.n)
