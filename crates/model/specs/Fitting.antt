-- When a working copy fits a store: "It fits a store if every base and source revision is at most the last, and its tree has that sheet."
-- Assumes nothing.
use Rattle.std.specs.Prelude.{◌≤◌, ℕ, Bool, ◌&&◌, not, true, List, ◌≡◌, leb, get_or, length}
use Rattle.std.proofs.Math.Option.{none}
use Rattle.model.specs.Entry.{Entry, added, copied, deleted, empty, normal}
use Rattle.model.specs.History.{History, last, present, sheet, tree}
use Rattle.model.specs.Rows.{some-row}

-- the test, for refusal 6: the revision is at most the last, and its tree has the sheet
abbrev pub has : History → ℕ → ℕ → Bool
has h b i = leb b (last h) && present (sheet h b i)

abbrev pub fits_entry : History → ℕ → Entry → Bool
fits_entry h i empty = true
fits_entry h i (normal b x) = has h b i
fits_entry h i (added x) = true
fits_entry h i (deleted b) = has h b i
fits_entry h i (copied s r x) = has h r s

abbrev pub fits_store : History → List Entry → Bool
fits_store h es = not (some-row (λ i e. not (fits_entry h i e)) 0 es)

-- the statement
abbrev pub Has : History → ℕ → ℕ → Type 0
Has h r i = (r ≤ length h) × (get_or (tree h r) i none ≡ none → ⊥)

abbrev pub FitsEntry : History → ℕ → Entry → Type 0
FitsEntry h i empty = Unit {0}
FitsEntry h i (normal r b) = Has h r i
FitsEntry h i (added b) = Unit {0}
FitsEntry h i (deleted r) = Has h r i
FitsEntry h i (copied s v b) = Has h v s

-- of each entry
abbrev pub FitsRows : History → List Entry → Type 0
FitsRows h es = (i : ℕ) → FitsEntry h i (get_or es i empty)
