-- What the rehearsal prints (W8), from what it reads: "Its input is one line, numbers and line end as in document 01's program: the steps, then period and holding time of seats 1 to 4, one space
-- between; anything else prints `?`. .. It prints a line for each seat: commits, asks, longest completed wait in steps (0 if none)."
-- Assumes nothing.
use Rattle.std.specs.Prelude.{ℕ, cond, true, List, [], ◌++◌, ◌∷◌, map, ◌≡◌, eqb, leb, get_or, length}
use Rattle.std.proofs.Math.Option.{Option, none, some}
use Rattle.block.specs.Lists.{all}
use Rattle.model.specs.History.{Bytes}
use Rattle.rehearsal.specs.Outcomes.{can_run}
use Rattle.rehearsal.specs.Rehearsal.{Report, day_of, in_range, report_of}
use Rattle.rehearsal.specs.RehearsalCalls.{row_in}
use Rattle.rehearsal.specs.declared.Setting.{Setting}
use Rattle.rehearsal.specs.declared.Tally.{Tally}
use Rattle.text.specs.Text.{decimal_of, lines, number_of, words}

-- every word is a number
abbrev pub both : Option ℕ → Option (List ℕ) → Option (List ℕ)
both none l = none
both (some n) none = none
both (some n) (some l) = some (n ∷ l)

abbrev pub numbered : List Bytes → Option (List ℕ)
numbered [] = some []
numbered (w ∷ ws) = both (number_of w) (numbered ws)

pub record Plan : Type 0 where
  pub steps : ℕ
  pub settings : List Setting

abbrev pub setting : ℕ → ℕ → Setting
setting p h = record { period = p; holding = h }

-- of nine numbers: the steps, then each seat's two
abbrev pub plan_at : List ℕ → Plan
plan_at l = record {
  steps = get_or l 0 0;
  settings = setting (get_or l 1 0) (get_or l 2 0) ∷ setting (get_or l 3 0) (get_or l 4 0) ∷ setting (get_or l 5 0) (get_or l 6 0) ∷ setting (get_or l 7 0) (get_or l 8 0) ∷ [];
}

abbrev pub plan_in : List ℕ → Option Plan
plan_in l = cond (eqb (length l) 9) (some (plan_at l)) none

abbrev pub ranged : Option (List ℕ) → Option Plan
ranged none = none
ranged (some l) = cond (all in_range l) (plan_in l) none

-- one line
abbrev pub plan_of : List Bytes → Option Plan
plan_of [] = none
plan_of (l ∷ []) = ranged (numbered (words l))
plan_of (l ∷ m ∷ ls) = none

-- four settings, and every number in range
abbrev pub Fits : Plan → Type 0
Fits p = can_run p.settings p.steps ≡ true

-- what is printed of the code's four tallies
abbrev pub report_in : Tally → Report
report_in r = record { commits = r.commits; asks = r.asks; longest = r.longest }

abbrev pub reports_in : List Tally → List Report
reports_in l = report_in (row_in l 1) ∷ report_in (row_in l 2) ∷ report_in (row_in l 3) ∷ report_in (row_in l 4) ∷ []

abbrev pub row_text : Report → Bytes
row_text r = decimal_of r.commits ++ (32 ∷ (decimal_of r.asks ++ (32 ∷ (decimal_of r.longest ++ (10 ∷ [])))))

abbrev pub rows_text : List Report → Bytes
rows_text [] = []
rows_text (r ∷ rs) = row_text r ++ rows_text rs

-- `?`
abbrev pub no_plan : Bytes
no_plan = 63 ∷ 10 ∷ []

abbrev pub plan_text : Option Plan → Bytes
plan_text none = no_plan
plan_text (some p) = rows_text (map report_of (day_of p.settings p.steps).rows)

unfoldable pub rehearsal_output : Bytes → Bytes
rehearsal_output input = cond (leb (length input) 4_096) (plan_text (plan_of (lines input))) no_plan
