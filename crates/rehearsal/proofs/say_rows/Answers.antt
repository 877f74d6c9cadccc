-- `rehearsal::say_rows` meets its contract.
-- Assumes nothing.
use Rattle.rehearsal.specs.Output.{report_in, row_text}
use Rattle.rehearsal.specs.RehearsalCalls.{row_in}
use Rattle.rehearsal.proofs.Printing.{printed_four}
use Rattle.rehearsal.proofs.say_rows.Goals as goal

pub returns-clause-printed : goal.returns-clause-printed
returns-clause-printed c =
    let a = c.args in
    let l = a.rows in
    let w = c.say_row-p in
    let x = c.say_row-q in
    let y = c.say_row-e in
    let z = c.say_row in
    printed_four w.result x.result y.result z.result (row_text (report_in (row_in l 1))) (row_text (report_in (row_in l 2))) (row_text (report_in (row_in l 3))) (row_text (report_in (row_in l 4))) a.out.now w.new.out x.new.out y.new.out z.new.out w.ensures.printed x.ensures.printed y.ensures.printed z.ensures.printed
