-- The numbers that are handed back and those that are printed are fair: they are those of the day, whose waits are all in bounds.
-- Assumes nothing.
use Prim.Native.Nat.{◌-◌, ◌≤◌, suc, zero, ℕ}
use mathlib.Core.Bool.{Bool, cond, false, true}
use mathlib.Core.List.{List, [], ◌∷◌, map}
use mathlib.Core.Option.{some}
use mathlib.Core.Path.{◌∙◌, ◌≡◌, ap, refl, subst, sym}
use native.Mathlib.Omega.{arith}
use borrow.Author.Tests.{ltb-false, ltb-true}
use lib.Dec.{ltb}
use lib.ListN.{get_or-map, get_or, length, length-map}
use Rattle.std.specs.Prelude.{None, Some}
use Rattle.block.specs.Lists.{All}
use Rattle.laws.proofs.All.{All-map}
use Rattle.rehearsal.specs.FairOutput.{FairOutcome, FairOutput, FairReport, no_report}
use Rattle.rehearsal.specs.Outcomes.{can_run, outcome_of}
use Rattle.rehearsal.specs.Output.{report_in}
use Rattle.rehearsal.specs.Rehearsal.{Report, Row, Sensible, day_of, greatest, no_row, others, report_of, row_of}
use Rattle.rehearsal.specs.RehearsalCalls.{tally_of}
use Rattle.rehearsal.specs.declared.Setting.{Setting}
use Rattle.rehearsal.specs.declared.Tally.{Tally}
use Rattle.rehearsal.proofs.Fairness.{fair-day, four-rows}
use Rattle.rehearsal.proofs.Four.{can_run_so}
use Rattle.rehearsal.proofs.Line.{lines_fit, output_is}
use Rattle.rehearsal.proofs.RealDay.{real-day}
use Rattle.text.specs.Text.{lines}

-- the greatest of some numbers that are all at most m
all-greatest : (m : ℕ) (ws : List ℕ) → All (λ (w : ℕ). w ≤ m) ws → greatest ws ≤ m
all-greatest m [] a = omega arith
all-greatest m (w ∷ ws) a = go (ltb (greatest ws) w) (all-greatest m ws a.1)
  where
    go : (b : Bool) → greatest ws ≤ m → cond b w (greatest ws) ≤ m
    go true h = a.0
    go false h = h

-- each of some numbers is at most the greatest
greatest-all : (ws : List ℕ) → All (λ (w : ℕ). w ≤ greatest ws) ws
greatest-all [] = tt
greatest-all (w ∷ ws) = go (ltb (greatest ws) w) refl (greatest-all ws)
  where
    go : (b : Bool) → ltb (greatest ws) w ≡ b → All (λ (x : ℕ). x ≤ greatest ws) ws → All (λ (x : ℕ). x ≤ cond b w (greatest ws)) (w ∷ ws)
    go true e a = (omega arith, All-map (λ (x : ℕ). x ≤ greatest ws) (λ (x : ℕ). x ≤ w) ws (λ x i. let l = ltb-true (greatest ws) w e in omega (arith, i, l)) a)
    go false e a = (ltb-false (greatest ws) w e, a)

reports_are : (rows : List Row) → map report_of rows ≡ map report_in (map tally_of rows)
reports_are [] = refl
reports_are (r ∷ rows) = ap (λ (l : List Report). report_of r ∷ l) (reports_are rows)

report_at : (rows : List Row) (k : ℕ) → get_or (map report_of rows) k no_report ≡ report_of (get_or rows k no_row)
report_at [] k = refl
report_at (r ∷ rows) zero = refl
report_at (r ∷ rows) (suc k) = report_at rows k

-- what is reported of a seat's row
module _ (l : List Setting) (n : ℕ) (four : length l ≡ 4) (A : All Sensible l) (s : ℕ) (lo : 1 ≤ s) (hi : s ≤ 4) where
  fair_report : FairReport l (day_of l n) s (report_of (row_of (day_of l n) s))
  fair_report =
      let F = fair-day l n four A s lo hi in
      let waits = (row_of (day_of l n) s).waits in
      record { asks = F.asks; longest = refl; waits = greatest-all waits; bound = all-greatest (others l s) waits F.waits }

-- THE STATEMENTS
pub fair_outcome : (l : List Setting) (n : ℕ) → FairOutcome l n (outcome_of l n)
fair_outcome l n = go (can_run l n) refl
  where
    go : (b : Bool) → can_run l n ≡ b → FairOutcome l n (cond b (Some (map tally_of (day_of l n).rows)) None)
    go true e = record {
      exactly = sym e;
      fair = λ s lo hi.
          let f = can_run_so l n e in
          subst (λ (t : Tally). FairReport l (day_of l n) s (report_in t)) (sym (get_or-map tally_of (day_of l n).rows (s - 1) no_row)) (fair_report l n f.0 f.1 s lo hi);
    }
    go false e = record { exactly = sym e; fair = tt }

pub fair-output : FairOutput
fair-output input text p t short e =
    let f = can_run_so p.settings p.steps (lines_fit (lines input) p e) in
    let R = real-day p.settings p.steps f.0 f.1 f.2 in
    let d = day_of p.settings p.steps in
    record {
      reports = map report_of d.rows;
      four = length-map d.rows report_of ∙ four-rows p.settings p.steps f.0 f.1;
      is = t ∙ output_is input (some p) short e;
      made = reports_are d.rows ∙ ap (map report_in) (sym R.rows);
      fair = λ s lo hi. subst (FairReport p.settings d s) (sym (report_at d.rows (s - 1))) (fair_report p.settings p.steps f.0 f.1 s lo hi);
      real = R;
    }
