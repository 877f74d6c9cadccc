-- The first sum tells two lists apart that differ in one byte.
-- Assumes nothing.
use Prim.Native.Nat.{ℕ, zero, suc, ◌+◌, ◌/◌, ◌%◌, ◌<◌}
use mathlib.Core.Path.{◌≡◌, refl, sym, ◌∙◌}
use mathlib.Core.List.{List, [], ◌∷◌}
use native.Mathlib.Nat.{mod-add-mod, add_assoc, zero-add}
use native.Mathlib.Omega.{arith}
use lib.ListN.{length, get_or, set}
use Rattle.block.specs.Check.{sums, checks_of}

abbrev total : List ℕ → ℕ
total [] = 0
total (x ∷ l) = x + total l

-- the first sum is the sum of the bytes, reduced
first : (l : List ℕ) (a r b : ℕ) → r ≡ a % 65_521 → (sums r b l).0 ≡ (a + total l) % 65_521
first [] a r b e = let z : a + 0 ≡ a = omega arith in rw z e
first (x ∷ l) a r b e =
    first l (a + x) ((r + x) % 65_521) ((b + (r + x) % 65_521) % 65_521) (rw e (mod-add-mod a 65_521 x)) ∙ rw add_assoc

sums-total : (l : List ℕ) → (sums 0 0 l).0 ≡ total l % 65_521
sums-total l = first l 0 0 0 refl ∙ rw zero-add

total-set : (l : List ℕ) (k v : ℕ) → k < length l → total (set l k v) + get_or l k 0 ≡ total l + v
total-set [] k v h = absurd (omega arith)
total-set (x ∷ l) zero v h = omega arith
total-set (x ∷ l) (suc k) v h = omega (arith, total-set l k v (omega arith))

apart : (t u x v : ℕ) → u + x ≡ t + v → x < 256 → v < 256 → u % 65_521 ≡ t % 65_521 → v ≡ x
apart t u x v e hx hv h = omega arith

same_first : (l m : List ℕ) → checks_of l ≡ checks_of m → (sums 0 0 l).0 ≡ (sums 0 0 m).0
unfolding checks_of
same_first l m e =
    let a = (sums 0 0 l).0 in
    let b = (sums 0 0 m).0 in
    let low : a % 256 ≡ b % 256 = cc in
    let high : a / 256 ≡ b / 256 = cc in
    omega arith

-- a byte whose change leaves the check was not changed
pub same_checks : (l : List ℕ) (k v : ℕ) → k < length l → get_or l k 0 < 256 → v < 256 → checks_of (set l k v) ≡ checks_of l → v ≡ get_or l k 0
same_checks l k v h hx hv e =
    apart (total l) (total (set l k v)) (get_or l k 0) v (total-set l k v h) hx hv (sym (sums-total (set l k v)) ∙ same_first (set l k v) l e ∙ sums-total l)
