-- Entry by entry: whether each of them fits the store is whether the working copy does.
-- Assumes nothing.
use Rattle.std.specs.List.{list_all, range_with_len}
use Prim.Native.Nat.{◌+◌, suc, ℕ}
use mathlib.Core.Bool.{Bool, ◌&&◌, ◌||◌, false, not, true}
use mathlib.Core.List.{List, [], ◌∷◌}
use mathlib.Core.Path.{◌∙◌, ◌≡◌, ap, ap₂, refl, sym}
use native.Mathlib.Nat.{zero-add}
use native.Mathlib.Numerals.{add-one}
use native.Mathlib.Omega.{arith}
use lib.ListN.{get_or, length}
use Rattle.model.specs.Entry.{Entry, empty}
use Rattle.model.specs.Fitting.{fits_entry, fits_store}
use Rattle.model.specs.History.{Bytes, History}
use Rattle.model.specs.Rows.{some-row}
use Rattle.model.specs.Store.{store_history}
use Rattle.model.specs.WorkCopy.{HoldsCopy, entries_of}
use Rattle.entries.specs.View.{entry_in}
use Rattle.workcopy.proofs.Entries.{held}
use Rattle.workcopy.specs.Copy.{Accepted}

module _ (h : History) (es : List Entry) where
  abbrev unfit : ℕ → Entry → Bool
  unfit i e = not (fits_entry h i e)

  -- the entries from i on
  fits-from : (rest : List Entry) (i : ℕ) → ((j k : ℕ) → j ≡ i + k → get_or es j empty ≡ get_or rest k empty)
      → list_all (λ j. fits_entry h j (get_or es j empty)) (range_with_len i (length rest)) ≡ not (some-row unfit i rest)
  fits-from [] i q = refl
  fits-from (e ∷ rest) i q =
      ap₂ ◌&&◌ (ap (fits_entry h i) (q i 0 (omega arith)))
      (fits-from rest (i + 1) (λ j k z. q j (suc k) (omega arith)) ∙ ap (λ (n : ℕ). not (some-row unfit n rest)) (add-one i))
      ∙ split (fits_entry h i e) (some-row unfit (suc i) rest)
    where
      split : (a b : Bool) → (a && not b) ≡ not (not a || b)
      split true b = refl
      split false b = refl

  fits-each : {n : ℕ} → length es ≡ n → list_all (λ j. fits_entry h j (get_or es j empty)) (range_with_len 0 n) ≡ fits_store h es
  fits-each {n} e =
      ap (λ (n : ℕ). list_all (λ j. fits_entry h j (get_or es j empty)) (range_with_len 0 n)) (sym e)
      ∙ fits-from es 0 (λ j k z. ap (λ (j : ℕ). get_or es j empty) (z ∙ zero-add k))

-- an accepted copy has 32 entries
pub all_fit : (store copy : Bytes) → Accepted copy → list_all (λ i. fits_entry (store_history store) i (entry_in copy i)) (range_with_len 0 32) ≡ fits_store (store_history store) (entries_of copy)
unfolding HoldsCopy
all_fit store copy a = fits-each (store_history store) (entries_of copy) (held copy a).0
