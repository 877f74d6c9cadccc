-- `rehearsal::run` meets its contract: the ways through, each with what the input plans.
-- Assumes nothing.
use Rattle.std.proofs.Common.{◌≡◌, ◌≤◌, ◌∙◌, ℕ, List, length, rules, sym, take, ap}
use Rattle.std.proofs.Math.Option.{none, some}
use Rattle.text.specs.Text.{words}
use Rattle.rehearsal.specs.Nine.{nine_as}
use Rattle.rehearsal.specs.Output.{no_plan, numbered, plan_at, plan_text, rehearsal_output}
use Rattle.rehearsal.specs.Printed.{Printed}
use Rattle.rehearsal.proofs.Line.{more_lines, no_line_lem, one_line, output_is, plan_fits, too_long}
use Rattle.rehearsal.proofs.Printing.{printed_as, printed_whole}
use Rattle.rehearsal.proofs.run.Goals as goal
use Rattle.rehearsal.proofs.run.Goals.{then-is_empty-via-then-is_empty, then-is_empty-via-else-is_empty+then-input-gt4096}

-- a text that was printed, where it is the output
printed_so : (input t o o' : List ℕ) (r : ℕ) → rehearsal_output input ≡ t → Printed 0 t o r o' → Printed 0 (rehearsal_output input) o r o'
printed_so input t o o' r e P = printed_as t (rehearsal_output input) o o' r (sym e) P

whole : (input t o o' : List ℕ) (r : ℕ) → rehearsal_output input ≡ t → Printed 0 t o r o' → r ≤ 132 → 132 ≤ length o → take r o' ≡ rehearsal_output input
whole input t o o' r e P u room = printed_whole (rehearsal_output input) o o' r (printed_so input t o o' r e P) u room

pub returns-then-is_empty-clause-printed : goal.returns-then-is_empty-clause-printed
returns-then-is_empty-clause-printed c =
    let a = c.args in
    let x = c.say_none in
    let e : rehearsal_output a.input.now ≡ no_plan = elim c.then-is_empty.branch [
      | then-is_empty-via-then-is_empty w ↦ (let z : length a.input.now ≡ 0 = search rules in output_is a.input.now none (search rules) (no_line_lem a.input.now z))
      | then-is_empty-via-else-is_empty+then-input-gt4096 w ↦ too_long a.input.now w.if-input-gt4096.true
    ] in
    printed_so a.input.now no_plan a.out.now x.new.out x.result (e) x.ensures.printed

pub returns-then-is_empty-clause-out_after : goal.returns-then-is_empty-clause-out_after
returns-then-is_empty-clause-out_after c =
    let a = c.args in
    let x = c.say_none in
    let e : rehearsal_output a.input.now ≡ no_plan = elim c.then-is_empty.branch [
      | then-is_empty-via-then-is_empty w ↦ (let z : length a.input.now ≡ 0 = search rules in output_is a.input.now none (search rules) (no_line_lem a.input.now z))
      | then-is_empty-via-else-is_empty+then-input-gt4096 w ↦ too_long a.input.now w.if-input-gt4096.true
    ] in
    whole a.input.now no_plan a.out.now x.new.out x.result (e) x.ensures.printed x.ensures.upper_bound

pub returns-then-e-input-clause-printed : goal.returns-then-e-input-clause-printed
returns-then-e-input-clause-printed c =
    let a = c.args in
    let x = c.say_none-then-e-input in
    printed_so a.input.now no_plan a.out.now x.new.out x.result (output_is a.input.now none c.if-input-gt4096.false (more_lines a.input.now c.span-e.result c.span-e.ensures.0 c.if-e-input.true)) x.ensures.printed

pub returns-then-e-input-clause-out_after : goal.returns-then-e-input-clause-out_after
returns-then-e-input-clause-out_after c =
    let a = c.args in
    let x = c.say_none-then-e-input in
    whole a.input.now no_plan a.out.now x.new.out x.result (output_is a.input.now none c.if-input-gt4096.false (more_lines a.input.now c.span-e.result c.span-e.ensures.0 c.if-e-input.true)) x.ensures.printed x.ensures.upper_bound

pub say_day-requires : goal.say_day-requires
say_day-requires c =
    let line = take c.span-e.result c.args.input.now in
    plan_fits (numbered (words line)) (plan_at c.in-Some.n) (sym (ap nine_as c.in-Some.is) ∙ c.nine.ensures)

pub returns-in-Some-clause-printed : goal.returns-in-Some-clause-printed
returns-in-Some-clause-printed c =
    let a = c.args in
    let x = c.say_day in
    let full : length a.input.now ≡ 0 → ⊥ = search rules in
    printed_so a.input.now (plan_text (some (plan_at c.in-Some.n))) a.out.now x.new.out x.result (output_is a.input.now (some (plan_at c.in-Some.n)) c.if-input-gt4096.false (one_line a.input.now c.span-e.result full c.span-e.ensures.0 c.if-e-input.false ∙ sym c.nine.ensures ∙ ap nine_as c.in-Some.is)) x.ensures.printed

pub returns-in-Some-clause-out_after : goal.returns-in-Some-clause-out_after
returns-in-Some-clause-out_after c =
    let a = c.args in
    let x = c.say_day in
    let full : length a.input.now ≡ 0 → ⊥ = search rules in
    whole a.input.now (plan_text (some (plan_at c.in-Some.n))) a.out.now x.new.out x.result (output_is a.input.now (some (plan_at c.in-Some.n)) c.if-input-gt4096.false (one_line a.input.now c.span-e.result full c.span-e.ensures.0 c.if-e-input.false ∙ sym c.nine.ensures ∙ ap nine_as c.in-Some.is)) x.ensures.printed x.ensures.upper_bound

pub returns-in-None-clause-printed : goal.returns-in-None-clause-printed
returns-in-None-clause-printed c =
    let a = c.args in
    let x = c.say_none-in-None in
    let full : length a.input.now ≡ 0 → ⊥ = search rules in
    printed_so a.input.now no_plan a.out.now x.new.out x.result (output_is a.input.now none c.if-input-gt4096.false (one_line a.input.now c.span-e.result full c.span-e.ensures.0 c.if-e-input.false ∙ sym c.nine.ensures ∙ ap nine_as c.in-None.is)) x.ensures.printed

pub returns-in-None-clause-out_after : goal.returns-in-None-clause-out_after
returns-in-None-clause-out_after c =
    let a = c.args in
    let x = c.say_none-in-None in
    let full : length a.input.now ≡ 0 → ⊥ = search rules in
    whole a.input.now no_plan a.out.now x.new.out x.result (output_is a.input.now none c.if-input-gt4096.false (one_line a.input.now c.span-e.result full c.span-e.ensures.0 c.if-e-input.false ∙ sym c.nine.ensures ∙ ap nine_as c.in-None.is)) x.ensures.printed x.ensures.upper_bound
