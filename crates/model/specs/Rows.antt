-- Rows, one for each of the 32 sheets, counted from sheet i on.
-- Assumes nothing.
use Rattle.std.specs.Prelude.{◌+◌, suc, ℕ, Bool, ◌||◌, false, List, [], ◌∷◌}

module _ {A B : Type 0} where
  -- f at each row, with the row's sheet number, counted from i
  abbrev pub rows : (ℕ → A → B) → ℕ → List A → List B
  rows f i [] = []
  rows f i (a ∷ l) = f i a ∷ rows f (suc i) l

module _ {A : Type 0} where
  -- does some row pass the test?
  abbrev pub some-row : (ℕ → A → Bool) → ℕ → List A → Bool
  some-row f i [] = false
  some-row f i (a ∷ l) = f i a || some-row f (suc i) l

  -- the sum of a number for each row
  abbrev pub total : (A → ℕ) → List A → ℕ
  total f [] = 0
  total f (a ∷ l) = f a + total f l
