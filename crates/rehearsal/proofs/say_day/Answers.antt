-- `rehearsal::say_day` meets its contract.
-- Assumes nothing.
use Rattle.std.proofs.Common.{◌∙◌, List, Option, Some, None, ap, sym}
use Rattle.std.proofs.Math.Option.{some}
use Rattle.rehearsal.specs.Output.{plan_at, plan_text, reports_in, rows_text}
use Rattle.rehearsal.specs.Rehearsal.{day_of}
use Rattle.rehearsal.specs.declared.Tally.{Tally}
use Rattle.rehearsal.proofs.Fairness.{four-rows}
use Rattle.rehearsal.proofs.Four.{can_run_so, day_so}
use Rattle.rehearsal.proofs.Printing.{day_text, printed_as}
use Rattle.rehearsal.proofs.say_day.Goals as goal

abbrev rows_or : List Tally → Option (List Tally) → List Tally
rows_or l None = l
rows_or l (Some m) = m

pub returns-in-Some-clause-printed : goal.returns-in-Some-clause-printed
returns-in-Some-clause-printed c =
    let a = c.args in
    let p = plan_at a.n in
    let x = c.say_rows in
    let g = can_run_so p.settings p.steps c.requires in
    let l = (day_of p.settings p.steps).rows in
    let rows = c.in-Some.rows in
    let told = ap (rows_or rows) (sym c.in-Some.is ∙ c.rehearse.ensures ∙ sym (day_so p.settings p.steps c.requires)) in
    let same = day_text l rows (four-rows p.settings p.steps g.0 g.1) told in
    printed_as (rows_text (reports_in rows)) (plan_text (some p)) a.out.now x.new.out x.result same x.ensures.printed
