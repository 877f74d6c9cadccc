-- What the printed numbers say of a plan (W8): "Asks equal commits plus the one waiting or holding, if any. No completed wait exceeds the holding times of the other three together."
-- Assumes nothing.
use Rattle.std.specs.Prelude.{◌+◌, ◌-◌, ◌≤◌, ℕ, cond, List, map, ◌≡◌, get_or, length, is_some, IfSome, Option as TheOption}
use Rattle.std.proofs.Math.Option.{some}
use Rattle.block.specs.Lists.{All}
use Rattle.model.specs.History.{Bytes}
use Rattle.rehearsal.specs.Outcomes.{can_run}
use Rattle.rehearsal.specs.Output.{Plan, plan_of, rehearsal_output, report_in, rows_text}
use Rattle.rehearsal.specs.Rehearsal.{Day, Report, day_of, greatest, others, row_of}
use Rattle.rehearsal.specs.RehearsalCalls.{Real, hall_of, row_in}
use Rattle.rehearsal.specs.declared.Setting.{Setting}
use Rattle.rehearsal.specs.declared.Tally.{Tally}
use Rattle.text.specs.Text.{lines}
use Rattle.turns.specs.Turns.{is_in}

abbrev pub no_report : Report
no_report = record { commits = 0; asks = 0; longest = 0 }

-- the line of seat s, where the day ends like this
pub record FairReport (settings : List Setting) (d : Day) (s : ℕ) (r : Report) : Type 0 where
  -- "Asks equal commits plus the one waiting or holding, if any."
  pub asks : r.asks ≡ r.commits + cond (is_in s d.queue) 1 0
  -- "longest completed wait in steps (0 if none)"
  pub longest : r.longest ≡ greatest (row_of d s).waits
  pub waits : All (λ (w : ℕ). w ≤ r.longest) (row_of d s).waits
  -- "No completed wait exceeds the holding times of the other three together."
  pub bound : r.longest ≤ others settings s

-- the four lines of a plan
pub record FairText (p : Plan) (text : Bytes) : Type 0 where
  pub reports : List Report
  pub four : length reports ≡ 4
  pub is : text ≡ rows_text reports
  -- "The real calls on a store of 121 blocks are used": the numbers are those that they give, and none of them is refused
  pub made : reports ≡ map report_in (hall_of p.settings p.steps).rows
  pub fair : (s : ℕ) → 1 ≤ s → s ≤ 4 → FairReport p.settings (day_of p.settings p.steps) s (get_or reports (s - 1) no_report)
  pub real : Real p.settings p.steps (hall_of p.settings p.steps)

-- THE STATEMENT, of what `rehearse` hands back: where it says that there is a day, and it says so exactly of four settings with every number in range
pub record FairOutcome (l : List Setting) (n : ℕ) (o : TheOption (List Tally)) : Type 0 where
  pub exactly : is_some o ≡ can_run l n
  pub fair : IfSome o (λ (rows : List Tally). (s : ℕ) → 1 ≤ s → s ≤ 4 → FairReport l (day_of l n) s (report_in (row_in rows s)))

-- THE STATEMENT, of the text that `run` writes
abbrev pub FairOutput : Type 0
FairOutput = (input text : Bytes) (p : Plan) → text ≡ rehearsal_output input → length input ≤ 4_096 → plan_of (lines input) ≡ some p → FairText p text
