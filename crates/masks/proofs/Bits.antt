-- The bits of a number, its lowest set bit, and the number with that bit cleared; and which sheets a mask then chooses.
-- Assumes nothing.
use Prim.Native.Nat.{◌%◌, ◌*◌, ◌+◌, ◌-◌, ◌/◌, ◌<◌, ◌^◌, ◌≤◌, suc, suc-le-suc, zero, ℕ}
use mathlib.Core.Bool.{false, true}
use mathlib.Core.Logic.{⊎_elim}
use mathlib.Core.Path.{◌∙◌, ◌≡◌, ap, ap₂, refl, subst, sym}
use native.Mathlib.Nat.{add_comm, add-mul, add-zero, mod-eq_of_lt, mod-lt, mod-one, mod_self, mul_assoc, mul_left_comm, one-mul, pow-succ', zero-lt-suc}
use native.Mathlib.Numerals.{add-one, one-add}
use native.Mathlib.Omega.{arith}
use lib.Arith.{lt_of_le-ne}
use lib.Bits.{and_block, and_mask, and_self, bit_and, shifted_even}
use lib.Count.{ones, ones_cat, count_trailing_zeros, under}
use lib.Dec.{eqb}
use lib.Pow.{high, mod-pow-add, pow-add, pow-lt, pow_pos, shl-shr, shr_lt, shr-shr}
use Rattle.block.proofs.Says.{lt_or_ge}
use Rattle.model.specs.Machine.{chosen}
use Rattle.masks.specs.Chosen.{Lowest}
use Rattle.masks.specs.Mask.{bit, count_to}

-- ---- the bits of a block a above k digits r
bit_high : (a k : ℕ) {r : ℕ} → r < 2 ^ k → (i : ℕ) → bit (a * 2 ^ k + r) (k + i) ≡ bit a i
bit_high a k {r} h i = ap (λ (x : ℕ). x % 2) (sym (shr-shr (a * 2 ^ k + r) k i) ∙ ap (λ (x : ℕ). x / 2 ^ i) (high a k h))

bit_under : (a e i : ℕ) → bit (a * 2 ^ (suc e + i)) i ≡ 0
bit_under a e i =
    ap (λ (x : ℕ). a * x / 2 ^ i % 2) (pow-add 2 (suc e) i)
    ∙ ap (λ (x : ℕ). x / 2 ^ i % 2) (sym (mul_assoc a (2 ^ suc e) (2 ^ i)))
    ∙ ap (λ (x : ℕ). x % 2) (shl-shr (a * 2 ^ suc e) i)
    ∙ shifted_even a e

bit-low : (a k i : ℕ) → i < k → bit (a * 2 ^ k) i ≡ 0
bit-low a k i h = let e : k ≡ suc (k - suc i) + i = omega arith in ap (λ (x : ℕ). bit (a * 2 ^ x) i) e ∙ bit_under a (k - suc i) i

half_lt : {n : ℕ} (k : ℕ) → n < 2 ^ suc k → n / 2 < 2 ^ k
half_lt {n} k h = shr_lt k 1 (subst (λ (x : ℕ). n < 2 ^ x) (sym (add-one k)) h)

-- the digit d of n, and the lowest set bit of n / 2 where d is 0
step : (k n d : ℕ) → n % 2 ≡ d → (d ≡ 0 → (count_trailing_zeros k (n / 2) < k) × Lowest (n / 2) (count_trailing_zeros k (n / 2)))
    → (under d (count_trailing_zeros k (n / 2)) < suc k) × Lowest n (under d (count_trailing_zeros k (n / 2)))
step k n zero e rest =
    let ih = rest refl in
    let t = count_trailing_zeros k (n / 2) in
    let q = ih.1.rest in
    let twice : n ≡ 2 * (n / 2) = omega arith in (
      suc-le-suc ih.0,
      record {
        rest = q;
        is = twice ∙ ap (λ (x : ℕ). 2 * x) ih.1.is ∙ mul_left_comm 2 (q * 2 + 1) (2 ^ t) ∙ ap (λ (x : ℕ). (q * 2 + 1) * x) (sym (pow-succ' 2 t));
      },
    )
step k n (suc d) e rest = (zero-lt-suc k, record { rest = n / 2; is = omega arith })

pub lowest : (k n : ℕ) → 0 < n → n < 2 ^ k → (count_trailing_zeros k n < k) × Lowest n (count_trailing_zeros k n)
unfolding count_trailing_zeros
lowest zero n p h = absurd (omega arith)
lowest (suc k) n p h = step k n (n % 2) refl (λ e. lowest k (n / 2) (omega arith) (half_lt k h))

-- ---- n with that bit cleared
module _ {n t : ℕ} (L : Lowest n t) where
  -- the digits above t, then the one at t
  above : n ≡ L.rest * 2 ^ suc t + 2 ^ t
  above =
      L.is ∙ add-mul (L.rest * 2) 1 (2 ^ t)
      ∙ ap₂ (λ (x y : ℕ). x + y) (mul_assoc L.rest 2 (2 ^ t) ∙ ap (λ (x : ℕ). L.rest * x) (sym (pow-succ' 2 t))) (one-mul (2 ^ t))

  pub cleared_lt : n - 2 ^ t < n
  cleared_lt = omega (arith, above, pow_pos t)

  cleared : n - 2 ^ t ≡ L.rest * 2 ^ suc t
  cleared = omega (arith, above)

  bit_lowest : bit n t ≡ 1
  bit_lowest = ap (λ (x : ℕ). bit x t) L.is ∙ ap (λ (x : ℕ). x % 2) (shl-shr (L.rest * 2 + 1) t) ∙ odd L.rest
    where
      odd : (q : ℕ) → (q * 2 + 1) % 2 ≡ 1
      odd q = omega arith

  bit_cleared : bit (n - 2 ^ t) t ≡ 0
  bit_cleared = ap (λ (x : ℕ). bit x t) cleared ∙ bit-low L.rest (suc t) t (omega arith)

  bit_below : (i : ℕ) → i < t → bit n i ≡ 0
  bit_below i h = ap (λ (x : ℕ). bit x i) L.is ∙ bit-low (L.rest * 2 + 1) t i h

  bit-other : (i : ℕ) → (i ≡ t → ⊥) → bit (n - 2 ^ t) i ≡ bit n i
  bit-other i ne = ⊎_elim over_t under_t (lt_or_ge t i)
    where
      under_t : i ≤ t → bit (n - 2 ^ t) i ≡ bit n i
      under_t h =
          let k : i < t = lt_of_le-ne h ne in
          ap (λ (x : ℕ). bit x i) cleared ∙ bit-low L.rest (suc t) i (omega arith)
          ∙ sym (bit_below i k)

      over_t : t < i → bit (n - 2 ^ t) i ≡ bit n i
      over_t h =
          let e : i ≡ suc t + (i - suc t) = omega arith in
          ap₂ (λ (x y : ℕ). bit x y) (cleared ∙ sym (add-zero (L.rest * 2 ^ suc t))) e
          ∙ bit_high L.rest (suc t) (pow_pos (suc t)) (i - suc t)
          ∙ sym (ap₂ (λ (x y : ℕ). bit x y) above e ∙ bit_high L.rest (suc t) (pow-lt (omega arith)) (i - suc t))

  -- the same by a mask
  pub and_cleared : bit_and n (n - 1) ≡ n - 2 ^ t
  and_cleared =
      let pred : n - 1 ≡ L.rest * 2 ^ suc t + (2 ^ t - 1) = omega (arith, above, pow_pos t) in
      ap₂ (λ (x y : ℕ). bit_and x y) above pred
      ∙ and_block (suc t) L.rest L.rest (2 ^ t) (2 ^ t - 1) (pow-lt (omega arith)) (omega (arith, pow-succ' 2 t, pow_pos t))
      ∙ ap₂ (λ (x y : ℕ). x * 2 ^ suc t + y) (and_self L.rest) (and_mask (2 ^ t) t ∙ mod_self (2 ^ t))
      ∙ add-zero (L.rest * 2 ^ suc t)
      ∙ sym cleared

  -- the sheets that are chosen: t is the first, and the others stay
  pub chosen_lowest : chosen n t ≡ true
  chosen_lowest = ap (λ (b : ℕ). eqb b 1) bit_lowest

  pub chosen_cleared : chosen (n - 2 ^ t) t ≡ false
  chosen_cleared = ap (λ (b : ℕ). eqb b 1) bit_cleared

  pub chosen_below : (i : ℕ) → i < t → chosen n i ≡ false
  chosen_below i h = ap (λ (b : ℕ). eqb b 1) (bit_below i h)

  pub chosen-other : (i : ℕ) → (i ≡ t → ⊥) → chosen (n - 2 ^ t) i ≡ chosen n i
  chosen-other i ne = ap (λ (b : ℕ). eqb b 1) (bit-other i ne)

-- ---- the count of the set bits
bit_ones : (b : ℕ) → b < 2 → ones b ≡ b
unfolding ones
bit_ones zero h = refl
bit_ones (suc zero) h = refl
bit_ones (suc (suc b)) h = absurd (omega arith)

counted : (d n : ℕ) → ones (n % 2 ^ d) ≡ count_to d n
unfolding count_to ones
counted zero n = ap ones (mod-one n)
counted (suc d) n =
    ap (λ (x : ℕ). ones (n % 2 ^ x)) (sym (one-add d)) ∙ ap ones (mod-pow-add n 1 d)
    ∙ ones_cat d (bit n d) (n % 2 ^ d) (mod-lt n (pow_pos d))
    ∙ ap₂ (λ (x y : ℕ). x + y) (bit_ones (bit n d) (mod-lt (n / 2 ^ d) (zero-lt-suc 1))) (counted d n)
    ∙ add_comm (bit n d) (count_to d n)

pub ones_count : (d n : ℕ) → n < 2 ^ d → ones n ≡ count_to d n
ones_count d n h = ap ones (sym (mod-eq_of_lt h)) ∙ counted d n
