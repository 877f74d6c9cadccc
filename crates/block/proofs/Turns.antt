-- A byte more in the two sums, and the bits of every byte gathered.
-- Assumes nothing.
use Prim.Native.Nat.{ℕ, suc, ◌+◌, ◌%◌, ◌<◌}
use mathlib.Core.Path.{◌≡◌, sym, ap, ap₂, ◌∙◌}
use mathlib.Core.Bool.{◌&&◌, and_assoc, and-true}
use mathlib.Core.List.{List, [], ◌∷◌}
use native.Mathlib.Nat.{mod-add-mod, add-mod-mod}
use native.Mathlib.Numerals.{add-one}
use native.Mathlib.Omega.{arith}
use lib.Bits.{and_le_l, and_le_r, bit_or, or_add_and}
use lib.Dec.{eqb}
use lib.ListN.{length, get_or, drop}
use lib.Seq.{drop-cons}
use Rattle.std.specs.List.{fold}
use Rattle.block.specs.Check.{sums, is_zero}
use Rattle.block.proofs.Says.{says_alike, says-and, says_eq}

-- no bits in either
pub or_zero_lem : (a b : ℕ) → eqb (bit_or a b) 0 ≡ (eqb a 0 && eqb b 0)
or_zero_lem a b =
    says_alike (says_eq (bit_or a b) 0) (says-and (says_eq a 0) (says_eq b 0))
    (λ e. (omega (arith, or_add_and a b, and_le_r a b, e), omega (arith, or_add_and a b, and_le_l a b, e)))
    (λ p. omega (arith, or_add_and a b, p.0, p.1))

-- one byte more in the two sums, which are not reduced
pub sums_byte : (a b x : ℕ) (l : List ℕ) → sums (a % 65_521) (b % 65_521) (x ∷ l) ≡ sums ((a + x) % 65_521) ((b + (a + x)) % 65_521) l
sums_byte a b x l =
    let p : (a % 65_521 + x) % 65_521 ≡ (a + x) % 65_521 = mod-add-mod a 65_521 x in
    let q : (b % 65_521 + (a % 65_521 + x) % 65_521) % 65_521 ≡ (b + (a + x)) % 65_521 =
    rw p (mod-add-mod b 65_521 ((a + x) % 65_521) ∙ add-mod-mod b (a + x) 65_521) in
    ap₂ (λ (u v : ℕ). sums u v l) p q

module _ (l : List ℕ) (i : ℕ) where
  pub sums-step : (a b x : ℕ) → i < length l → x ≡ get_or l i 0
      → sums (a % 65_521) (b % 65_521) (drop i l) ≡ sums ((a + x) % 65_521) ((b + (a + x)) % 65_521) (drop (i + 1) l)
  sums-step a b x h e =
      ap (sums (a % 65_521) (b % 65_521)) (drop-cons l i 0 h ∙ ap (λ (y : ℕ). y ∷ drop (suc i) l) (sym e))
      ∙ sums_byte a b x (drop (suc i) l)
      ∙ rw (add-one i)

-- the bits of every byte gathered: none is set where every byte is zero
pub gathered : (any : ℕ) (l : List ℕ) → eqb (fold bit_or any l) 0 ≡ (eqb any 0 && is_zero l)
gathered any [] = sym (and-true (eqb any 0))
gathered any (x ∷ l) = gathered (bit_or any x) l ∙ rw (or_zero_lem any x) (and_assoc (eqb any 0) (eqb x 0) (is_zero l))
