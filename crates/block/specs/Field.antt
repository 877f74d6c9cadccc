-- "Fields of two or four bytes have the low byte first."
-- Assumes nothing.
use Rattle.std.specs.Prelude.{ℕ, suc, ◌+◌, ◌*◌, ◌/◌, ◌%◌, List, ◌∷◌, get_or, set}

-- the bytes of a field, before those of the list
abbrev pub two : ℕ → List ℕ → List ℕ
two n l = n % 256 ∷ n / 256 ∷ l

abbrev pub four : ℕ → List ℕ → List ℕ
four n l = n % 256 ∷ n / 256 % 256 ∷ n / 256 / 256 % 256 ∷ n / 256 / 256 / 256 ∷ l

-- the number in the field at byte k; a byte past the end counts as 0
abbrev pub two_at : List ℕ → ℕ → ℕ
two_at l k = get_or l k 0 + 256 * get_or l (suc k) 0

abbrev pub four_at : List ℕ → ℕ → ℕ
four_at l k = get_or l k 0 + 256 * (get_or l (suc k) 0 + 256 * (get_or l (suc (suc k)) 0 + 256 * get_or l (suc (suc (suc k))) 0))

-- the list with n in the field at byte k; a byte past the end is not written
abbrev pub with_two : List ℕ → ℕ → ℕ → List ℕ
with_two l k n = set (set l k (n % 256)) (suc k) (n / 256)

abbrev pub with_four : List ℕ → ℕ → ℕ → List ℕ
with_four l k n = set (set (set (set l k (n % 256)) (suc k) (n / 256 % 256)) (suc (suc k)) (n / 256 / 256 % 256)) (suc (suc (suc k))) (n / 256 / 256 / 256)
