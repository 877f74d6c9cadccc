-- The revisions that the mark blocks of a store name, read off block by block.
-- Assumes nothing.
use Rattle.std.specs.Prelude.{ℕ, Bool, cond, false, true, List, [], ◌∷◌, eqb, Option, None, Some}
use Rattle.model.specs.Blocks.{Block, blank, commit, content, label, mark}
use Rattle.model.specs.Log.{Mark, released}

abbrev pub released_by : Mark → ℕ
released_by (released R seat stamp) = R

-- the revision that a release block names, 0 for any other block
abbrev pub revision_of : Block → ℕ
revision_of label = 0
revision_of (content r b) = 0
revision_of (commit r seat stamp ls) = 0
revision_of (mark m) = released_by m
revision_of blank = 0

-- x, where it is not 0
abbrev pub nonzero : ℕ → Option ℕ
nonzero x = cond (eqb x 0) None (Some x)

-- one revision more; there is no revision 0
abbrev pub onto : ℕ → List ℕ → List ℕ
onto x xs = cond (eqb x 0) xs (x ∷ xs)

-- those of all blocks in order
abbrev pub revisions_in : List Block → List ℕ
revisions_in [] = []
revisions_in (b ∷ bs) = onto (revision_of b) (revisions_in bs)

-- a mark block
abbrev pub is_mark : Block → Bool
is_mark label = false
is_mark (content r b) = false
is_mark (commit r seat stamp ls) = false
is_mark (mark m) = true
is_mark blank = false
