-- A loop that visits the chosen sheets, the lowest first, and clears the bit of each: what is left to do from here gives the whole.
-- Of a loop that changes the row of each chosen sheet, and of one that looks for a row.
-- Assumes nothing.
use Prim.Native.Nat.{◌+◌, ◌-◌, ◌<◌, ◌^◌, ◌≤◌, suc, zero, ℕ}
use mathlib.Core.Bool.{Bool, ◌&&◌, ◌||◌, cond, false, true}
use mathlib.Core.List.{List, [], ◌∷◌}
use mathlib.Core.Path.{◌≡◌, ap, ap₂, refl, sym}
use native.Mathlib.Nat.{zero-add}
use native.Mathlib.Omega.{arith}
use lib.ListN.{get_or, length, set}
use Rattle.model.specs.Machine.{chosen}
use Rattle.model.specs.Rows.{rows, some-row}
use Rattle.laws.proofs.Rows.{and-nothing, chosen_none, some-row_at}
use Rattle.masks.proofs.Bits.{chosen_cleared, chosen_lowest, chosen-other}
use Rattle.masks.specs.Chosen.{Lowest}
use Rattle.masks.specs.Mask.{at_chosen}

-- ---- f done at each chosen sheet: `rows (at_chosen f m) 0 es` stays the same, from the first mask and the first rows to no mask and the last rows
module _ {A : Type 0} (f : ℕ → A → A) where
  abbrev by_test : (ℕ → Bool) → ℕ → A → A
  by_test b i e = cond (b i) (f i e) e

  rows_alike : (b c : ℕ → Bool) (k : ℕ) (es : List A) → ((i : ℕ) → k ≤ i → b i ≡ c i) → rows (by_test b) k es ≡ rows (by_test c) k es
  rows_alike b c k [] h = refl
  rows_alike b c k (e ∷ es) h =
      ap₂ (λ (x : Bool) (l : List A). cond x (f k e) e ∷ l) (h k (omega arith)) (rows_alike b c (suc k) es (λ i g. h i (omega arith)))

  -- one row done, and its test off
  rows-one : (b c : ℕ → Bool) (d : A) (es : List A) (k t s : ℕ) → s ≡ k + t → c s ≡ true → b s ≡ false → ((i : ℕ) → (i ≡ s → ⊥) → b i ≡ c i) → t < length es
      → rows (by_test b) k (set es t (f s (get_or es t d))) ≡ rows (by_test c) k es
  rows-one b c d [] k t s e on off others h = absurd (omega arith)
  rows-one b c d (x ∷ es) k zero s e on off others h =
      let q : k ≡ s = omega arith in
      ap₂ (λ (y : A) (l : List A). y ∷ l) (rw (q, on, off)) (rows_alike b c (suc k) es (λ i g. others i (λ r. omega arith)))
  rows-one b c d (x ∷ es) k (suc t) s e on off others h =
      ap₂ (λ (y : Bool) (l : List A). cond y (f k x) x ∷ l) (others k (λ r. omega arith)) (rows-one b c d es (suc k) t s (omega arith) on off others (omega arith))

  pub rows_visit : {m t : ℕ} → Lowest m t → (d : A) (es : List A) → t < length es
      → rows (at_chosen f (m - 2 ^ t)) 0 (set es t (f t (get_or es t d))) ≡ rows (at_chosen f m) 0 es
  rows_visit {m} {t} L d es h =
      rows-one (chosen (m - 2 ^ t)) (chosen m) d es 0 t t (sym (zero-add t)) (chosen_lowest L) (chosen_cleared L) (chosen-other L) h

  pub rows_still : (es : List A) → rows (at_chosen f 0) 0 es ≡ es
  rows_still es = still 0 es
    where
      still : (k : ℕ) (es : List A) → rows (at_chosen f 0) k es ≡ es
      still k [] = refl
      still k (e ∷ es) = ap₂ (λ (x : A) (l : List A). x ∷ l) (ap (λ (b : Bool). cond b (f k e) e) (chosen_none k)) (still (suc k) es)

-- ---- a row looked for among the chosen: `any_chosen p m es` stays the same until one is found
module _ {A : Type 0} (p : ℕ → A → Bool) where
  any_alike : (b c : ℕ → Bool) (k : ℕ) (es : List A) → ((i : ℕ) → k ≤ i → b i ≡ c i) → some-row (λ i e. b i && p i e) k es ≡ some-row (λ i e. c i && p i e) k es
  any_alike b c k [] h = refl
  any_alike b c k (e ∷ es) h =
      ap₂ (λ (x y : Bool). (x && p k e) || y) (h k (omega arith)) (any_alike b c (suc k) es (λ i g. h i (omega arith)))

  -- one row passed over, and its test off
  any-one : (b c : ℕ → Bool) (d : A) (es : List A) (k t s : ℕ) → s ≡ k + t → b s ≡ false → p s (get_or es t d) ≡ false → ((i : ℕ) → (i ≡ s → ⊥) → b i ≡ c i) → t < length es
      → some-row (λ i e. b i && p i e) k es ≡ some-row (λ i e. c i && p i e) k es
  any-one b c d [] k t s e off q others h = absurd (omega arith)
  any-one b c d (x ∷ es) k zero s e off q others h =
      let z : k ≡ s = omega arith in
      let w : (b k && p k x) ≡ (c k && p k x) = rw (z, off, q) (sym (and-nothing (c s))) in
      ap₂ (λ (y w : Bool). y || w) w (any_alike b c (suc k) es (λ i g. others i (λ r. omega arith)))
  any-one b c d (x ∷ es) k (suc t) s e off q others h =
      ap₂ (λ (y w : Bool). (y && p k x) || w) (others k (λ r. omega arith)) (any-one b c d es (suc k) t s (omega arith) off q others (omega arith))

  any_off : (k : ℕ) (es : List A) → some-row (λ i e. chosen 0 i && p i e) k es ≡ false
  any_off k [] = refl
  any_off k (e ∷ es) = rw (chosen_none k) (any_off (suc k) es)

  -- does some chosen row pass?
  abbrev pub any_chosen : ℕ → List A → Bool
  any_chosen m es = some-row (λ i e. chosen m i && p i e) 0 es

  pub any_next : {m t : ℕ} → Lowest m t → (d : A) (es : List A) → t < length es → p t (get_or es t d) ≡ false → any_chosen (m - 2 ^ t) es ≡ any_chosen m es
  any_next {m} {t} L d es h q = any-one (chosen (m - 2 ^ t)) (chosen m) d es 0 t t (sym (zero-add t)) (chosen_cleared L) q (chosen-other L) h

  pub any_here : {m t : ℕ} → Lowest m t → (d : A) (es : List A) → t < length es → p t (get_or es t d) ≡ true → any_chosen m es ≡ true
  any_here {m} {t} L d es h q = some-row_at (λ i e. chosen m i && p i e) d es t h (ap₂ ◌&&◌ (chosen_lowest L) q)

  pub any_none : (es : List A) → any_chosen 0 es ≡ false
  any_none es = any_off 0 es
