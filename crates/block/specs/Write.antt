-- A run of elements written into a list, from a place on.
-- Assumes nothing.
use Rattle.std.specs.Prelude.{ℕ, suc, List, [], ◌∷◌, set}

-- the list with these elements from `at` on, one after the other; an element past the end is not written
unfoldable pub written : {A : Type 0} → ℕ → List A → List A → List A
written at [] l = l
written at (v ∷ vs) l = written (suc at) vs (set l at v)
