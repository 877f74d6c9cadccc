-- The check of a block. "Every block has 512 bytes. .. Bytes 508–509 hold a, 510–511 hold b: over bytes 0 to 507, both from 0, a is a plus the byte and then b is
-- b plus a, modulo 65,521."
-- Assumes nothing.
use Rattle.std.specs.Prelude.{ℕ, ◌+◌, ◌%◌, Bool, cond, List, [], ◌∷◌, ◌++◌, length, take, drop, eqb}
use Rattle.block.specs.Lists.{same, all}
use Rattle.block.specs.Field.{two}

-- the two sums, from a and b on
abbrev pub sums : ℕ → ℕ → List ℕ → ℕ × ℕ
sums a b [] = (a, b)
sums a b (x ∷ l) = sums ((a + x) % 65_521) ((b + (a + x) % 65_521) % 65_521) l

-- the four check bytes for these bytes
unfoldable pub checks_of : List ℕ → List ℕ
checks_of body = two (sums 0 0 body).0 (two (sums 0 0 body).1 [])

-- these are 512 bytes and their check is right
unfoldable pub sealed : List ℕ → Bool
sealed l = same (checks_of (take 508 l)) (drop 508 l)

-- 512 bytes with their check written; any other list stays
unfoldable pub seal_of : List ℕ → List ℕ
seal_of l = cond (eqb (length l) 512) (take 508 l ++ checks_of (take 508 l)) l

abbrev pub is_zero : List ℕ → Bool
is_zero l = all (λ (x : ℕ). eqb x 0) l
