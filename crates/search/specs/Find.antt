-- Where a sheet of any revision stands in an accepted store: the search back through the blocks, and where it starts.
-- Assumes nothing.
use Rattle.std.specs.Prelude.{◌*◌, ◌+◌, ◌<◌, ◌≤◌, suc, zero, ℕ, cond, List, [], ◌∷◌, ◌≡◌, eqb, ltb, get_or, length, take}
use Rattle.std.proofs.Math.Option.{none}
use Rattle.model.specs.Blocks.{Block, Line, blank, bytes_at, commit, content, label, mark}
use Rattle.model.specs.Calls.{store_conditions}
use Rattle.model.specs.History.{Bytes, namer}
use Rattle.model.specs.Refusals.{first_of}
use Rattle.model.specs.Store.{block_count, block_used, blocks_of, store_history, used_of}
use Rattle.model.specs.declared.Span.{Span}
use Rattle.search.specs.declared.Found.{Found}

-- a store of n blocks that no line 1 to 3 refuses, with U of them used
pub record Accepted (store : Bytes) (n used : ℕ) : Type 0 where
  pub clear : first_of (store_conditions store) ≡ none
  pub count : n ≡ block_count store
  pub in_use : used ≡ used_of store

-- how many of the blocks are commit blocks
abbrev pub count : List Block → ℕ
count [] = 0
count (label ∷ bs) = count bs
count (content r b ∷ bs) = count bs
count (commit r s t ls ∷ bs) = suc (count bs)
count (mark m ∷ bs) = count bs
count (blank ∷ bs) = count bs

-- one more than the commits before block p: what a content or a commit block there states, and a mark doesn't
abbrev pub era_at : List Block → ℕ → ℕ
era_at bs p = 1 + count (take p bs)

-- of the used blocks after the label, those before block b belong to eras up to r, and the others to later ones
pub record Bound (bs : List Block) (used r b : ℕ) : Type 0 where
  pub low : 1 ≤ b
  pub high : b ≤ used
  pub before : (p : ℕ) → 1 ≤ p → p < b → era_at bs p ≤ r
  pub after : (p : ℕ) → b ≤ p → p < used → r < era_at bs p

-- no commit names the sheet
abbrev pub nowhere : Found
nowhere = record { block = 0; revision = 0 }

-- "change by change": the first change of a commit of revision r that names the sheet, or else what an older commit has
abbrev pub hit_in : ℕ → ℕ → List Line → Found → Found
hit_in i r [] older = older
hit_in i r (l ∷ ls) older = cond (eqb l.sheet i) (record { block = l.block; revision = r }) (hit_in i r ls older)

-- a commit up to R
abbrev pub in_block : ℕ → ℕ → Block → Found → Found
in_block R i label older = older
in_block R i (content r b) older = older
in_block R i (commit r seat stamp ls) older = cond (ltb R r) older (hit_in i r ls older)
in_block R i (mark m) older = older
in_block R i blank older = older

-- "goes back commit by commit .. and stops at the first hit", from the block before block b, over the commits up to R
unfoldable pub back : ℕ → List Block → ℕ → ℕ → Found
back R bs i zero = nowhere
back R bs i (suc b) = in_block R i (get_or bs b blank) (back R bs i b)

-- the block that sheet i of tree R uses, 0 where the tree lacks it; and the last commit up to R that names the sheet
abbrev pub found_in : Bytes → ℕ → ℕ → Found
found_in store R i = record { block = block_used store R i; revision = namer (store_history store) R i }

-- the bytes that block p holds: from its byte 16
abbrev pub span_of : Bytes → ℕ → Span
span_of store p = record { start = 512 * p + 16; len = length (bytes_at (blocks_of (block_count store) store) p) }

-- .. and they stand in the store
pub record Spanned (store : Bytes) (p : ℕ) (x : Span) : Type 0 where
  pub is : x ≡ span_of store p
  pub inside : x.start + x.len ≤ length store
