-- A mask of sheets as code goes through it: the next chosen sheet by trailing zeros, the number chosen by count of ones. Which sheets a mask chooses is the
-- machine's `chosen`.
-- Assumes nothing.
use Rattle.std.specs.Prelude.{◌%◌, ◌+◌, ◌/◌, ◌^◌, suc, zero, ℕ, cond, List, [], ◌∷◌}
use Rattle.model.specs.Machine.{chosen}

-- 1 where bit i of m is set, else 0
abbrev pub bit : ℕ → ℕ → ℕ
bit m i = m / 2 ^ i % 2

-- how many of the first d sheets the mask chooses
unfoldable pub count_to : ℕ → ℕ → ℕ
count_to zero m = 0
count_to (suc d) m = count_to d m + bit m d

-- the chosen sheets among the d from i on, by rising number
unfoldable pub sheets_from : ℕ → ℕ → ℕ → List ℕ
sheets_from zero i m = []
sheets_from (suc d) i m = cond (chosen m i) (i ∷ sheets_from d (suc i) m) (sheets_from d (suc i) m)

abbrev pub sheets : ℕ → List ℕ
sheets m = sheets_from 32 0 m

-- a row with f done where the mask chooses its sheet
abbrev pub at_chosen : {A : Type 0} → (ℕ → A → A) → ℕ → ℕ → A → A
at_chosen f mask i e = cond (chosen mask i) (f i e) e
