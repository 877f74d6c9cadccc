-- The chosen sheets in order: the first is the lowest set bit, and the rest are those of the mask with that bit cleared.
-- Assumes nothing.
use Prim.Native.Nat.{◌+◌, ◌-◌, ◌/◌, ◌<◌, ◌^◌, ◌≤◌, suc, zero, ℕ}
use mathlib.Core.Bool.{Bool, cond, false, true}
use mathlib.Core.List.{List, [], ◌∷◌}
use mathlib.Core.Logic.{⊎_elim}
use mathlib.Core.Path.{◌∙◌, ◌≡◌, ap, ap₂, refl, sym}
use native.Mathlib.Nat.{add-zero, eq-or-lt_of_le, mod-lt, zero-add, zero-lt-suc}
use native.Mathlib.Omega.{arith}
use lib.Dec.{eqb}
use lib.ListN.{length}
use Rattle.model.specs.Machine.{chosen}
use Rattle.laws.proofs.Rows.{chosen_none}
use Rattle.masks.proofs.Bits.{chosen_below, chosen_cleared, chosen_lowest, chosen-other, lowest}
use Rattle.masks.specs.Chosen.{Lowest}
use Rattle.masks.specs.Mask.{bit, count_to, sheets_from}

-- two masks that choose alike from i on have the same sheets there
same : (d i m n : ℕ) → ((j : ℕ) → i ≤ j → chosen m j ≡ chosen n j) → sheets_from d i m ≡ sheets_from d i n
unfolding sheets_from
same zero i m n h = refl
same (suc d) i m n h =
    ap₂ (λ (b : Bool) (ks : List ℕ). cond b (i ∷ ks) ks) (h i (omega arith)) (same d (suc i) m n (λ j k. h j (omega arith)))

pub sheets-first : {m t : ℕ} → Lowest m t → (d i : ℕ) → i ≤ t → t < i + d → sheets_from d i m ≡ t ∷ sheets_from d i (m - 2 ^ t)
unfolding sheets_from
sheets-first L zero i h k = absurd (omega arith)
sheets-first {m} {t} L (suc d) i h k = ⊎_elim here (λ l. later l (sheets-first L d (suc i) l (omega arith))) (eq-or-lt_of_le h)
  where
    here : i ≡ t → cond (chosen m i) (i ∷ sheets_from d (suc i) m) (sheets_from d (suc i) m)
        ≡ t ∷ cond (chosen (m - 2 ^ t) i) (i ∷ sheets_from d (suc i) (m - 2 ^ t)) (sheets_from d (suc i) (m - 2 ^ t))
    here e =
        let a : chosen m i ≡ true = ap (chosen m) e ∙ chosen_lowest L in
        let b : chosen (m - 2 ^ t) i ≡ false = ap (chosen (m - 2 ^ t)) e ∙ chosen_cleared L in
        let c : sheets_from d (suc i) m ≡ sheets_from d (suc i) (m - 2 ^ t) = same d (suc i) m (m - 2 ^ t) (λ j k. sym (chosen-other L j (λ q. omega arith))) in
        rw (a, b) (ap₂ (λ (x : ℕ) (ks : List ℕ). x ∷ ks) e c)

    later : i < t → sheets_from d (suc i) m ≡ t ∷ sheets_from d (suc i) (m - 2 ^ t)
        → cond (chosen m i) (i ∷ sheets_from d (suc i) m) (sheets_from d (suc i) m)
        ≡ t ∷ cond (chosen (m - 2 ^ t) i) (i ∷ sheets_from d (suc i) (m - 2 ^ t)) (sheets_from d (suc i) (m - 2 ^ t))
    later l rest =
        let a : chosen m i ≡ false = chosen_below L i l in
        let b : chosen (m - 2 ^ t) i ≡ false = chosen-other L i (λ q. omega arith) ∙ a in
        rw (a, b) rest

pub sheets-none : (d i : ℕ) → sheets_from d i 0 ≡ []
unfolding sheets_from
sheets-none zero i = refl
sheets-none (suc d) i = rw (chosen_none i) (sheets-none d (suc i))

-- ---- how many there are
one_more : (b k : ℕ) (ks : List ℕ) → b < 2 → length (cond (eqb b 1) (k ∷ ks) ks) ≡ b + length ks
one_more zero k ks h = omega arith
one_more (suc zero) k ks h = omega arith
one_more (suc (suc b)) k ks h = absurd (omega arith)

counted : (d i m : ℕ) → length (sheets_from d i m) + count_to i m ≡ count_to (i + d) m
unfolding sheets_from count_to
counted zero i m = zero-add (count_to i m) ∙ ap (λ (j : ℕ). count_to j m) (sym (add-zero i))
counted (suc d) i m =
    let p = one_more (bit m i) i (sheets_from d (suc i) m) (mod-lt (m / 2 ^ i) (zero-lt-suc 1)) in
    let q = counted d (suc i) m in
    let e : suc i + d ≡ i + suc d = omega arith in
    omega (arith, p, q, ap (λ (j : ℕ). count_to j m) e)

pub sheets-count : (d m : ℕ) → length (sheets_from d 0 m) ≡ count_to d m
unfolding count_to
sheets-count d m = sym (add-zero (length (sheets_from d 0 m))) ∙ counted d 0 m ∙ ap (λ (j : ℕ). count_to j m) (zero-add d)

pub count-le : (d m : ℕ) → count_to d m ≤ d
unfolding count_to
count-le zero m = omega arith
count-le (suc d) m = omega (arith, count-le d m, mod-lt (m / 2 ^ d) (zero-lt-suc 1))

-- one less once the lowest is cleared
pub count-first : {m t : ℕ} → Lowest m t → (d : ℕ) → t < d → count_to d m ≡ count_to d (m - 2 ^ t) + 1
count-first {m} {t} L d h =
    omega (arith, sheets-count d m, sheets-count d (m - 2 ^ t), ap length (sheets-first L d 0 (omega arith) (omega arith)))

-- a mask that chooses nothing is 0
count_none : (d : ℕ) → count_to d 0 ≡ 0
count_none d = sym (sheets-count d 0) ∙ ap length (sheets-none d 0)

pub count-some : (m : ℕ) → (count_to 32 m ≡ 0 → ⊥) → 0 < m
count-some zero ne = absurd (ne (count_none 32))
count-some (suc m) ne = omega arith

pub count-all : (m : ℕ) → m < 2 ^ 32 → count_to 32 m ≡ 0 → m ≡ 0
count-all zero h e = refl
count-all (suc m) h e = let l = lowest 32 (suc m) (omega arith) h in absurd (omega (arith, count-first l.1 32 l.0))
