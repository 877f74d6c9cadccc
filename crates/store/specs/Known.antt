-- What the pass knows when it comes to a block.
-- Assumes nothing.
use Rattle.std.specs.Prelude.{◌*◌, ◌+◌, ◌≤◌, ℕ, List, [], ◌∷◌, ◌≡◌, length, replicate}
use Rattle.model.specs.Blocks.{Block, blank, commit, content, label, mark}
use Rattle.model.specs.Log.{Mark, released}
use Rattle.shape.specs.Rows.{rows_of}
use Rattle.store.specs.declared.Spot.{Spot}

-- at a commit block: the table has a row for each of the trees 0 to `last`
pub record Known (s tab : List ℕ) (w : Spot) : Type 0 where
  pub whole : w.n * 512 ≤ length s
  pub within : w.at + w.k ≤ w.n
  pub few : w.n ≤ 4_096
  pub room : 32 * w.last + 32 ≤ length tab

-- where the pass starts: n blocks, and a table with n rows whose row 0 is tree 0's
pub record Fresh (s : List ℕ) (n : ℕ) (tab : List ℕ) : Type 0 where
  pub whole : n * 512 ≤ length s
  pub some : 1 ≤ n
  pub few : n ≤ 4_096
  pub room : 32 * n ≤ length tab
  pub first : rows_of 1 tab ≡ replicate 32 0 ∷ []

-- the mark in a mark block; no other block is asked for one
abbrev pub mark_in : Block → Mark
mark_in label = released 0 0 0
mark_in (content r b) = released 0 0 0
mark_in (commit r s t ls) = released 0 0 0
mark_in (mark m) = m
mark_in blank = released 0 0 0
