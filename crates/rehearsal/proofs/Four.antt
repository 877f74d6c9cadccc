-- Whether there is a day of settings, by what the code tests of four.
-- Assumes nothing.
use Prim.Native.Nat.{◌≤◌, ℕ}
use mathlib.Core.Bool.{Bool, ◌&&◌, cond, true}
use mathlib.Core.List.{List, [], ◌∷◌, map}
use mathlib.Core.Path.{◌≡◌, ap, sym}
use borrow.Author.Tests.{eqb-true, leb-true}
use lib.Dec.{eqb, leb}
use lib.ListN.{length}
use Rattle.block.specs.Lists.{All, all}
use Rattle.laws.proofs.Accepted.{both}
use Rattle.std.specs.Prelude.{Option, None, Some}
use Rattle.rehearsal.specs.Outcomes.{can_run, outcome_of}
use Rattle.rehearsal.specs.Rehearsal.{Sensible, day_of, in_range, is_sensible}
use Rattle.rehearsal.specs.RehearsalCalls.{tally_of}
use Rattle.rehearsal.specs.declared.Setting.{Setting}
use Rattle.rehearsal.specs.declared.Tally.{Tally}

-- ---- what the tests say

range_so : (n : ℕ) → in_range n ≡ true → (1 ≤ n) × (n ≤ 60)
range_so n e = let t = both (leb 1 n) (leb n 60) e in (leb-true 1 n t.0, leb-true n 60 t.1)

sensible_so : (x : Setting) → is_sensible x ≡ true → Sensible x
sensible_so x e =
    let t = both (in_range x.period) (in_range x.holding) e in
    let p = range_so x.period t.0 in
    let h = range_so x.holding t.1 in
    record { period_low = p.0; period_high = p.1; holding_low = h.0; holding_high = h.1 }

all_sensible : (l : List Setting) → all is_sensible l ≡ true → All Sensible l
all_sensible [] e = tt
all_sensible (x ∷ l) e = let t = both (is_sensible x) (all is_sensible l) e in (sensible_so x t.0, all_sensible l t.1)

pub can_run_so : (l : List Setting) (n : ℕ) → can_run l n ≡ true → (length l ≡ 4) × All Sensible l × (n ≤ 60)
can_run_so l n e =
    let t = both (eqb (length l) 4) (in_range n && all is_sensible l) e in
    let u = both (in_range n) (all is_sensible l) t.1 in
    (eqb-true (length l) 4 t.0, all_sensible l u.1, (range_so n u.0).1)

-- ---- the outcome, by them

module _ (l : List Setting) (n : ℕ) where
  abbrev by_test_lem : Bool → Option (List Tally)
  by_test_lem t = cond t (Some (map tally_of (day_of l n).rows)) None

  pub day_so : can_run l n ≡ true → Some (map tally_of (day_of l n).rows) ≡ outcome_of l n
  day_so e = sym (ap by_test_lem e)
