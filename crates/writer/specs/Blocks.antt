-- What the code that writes a commit works with: a block's first 16 bytes, the lines as the code has them, and the contents in a working copy.
-- Assumes nothing.
use Rattle.std.specs.Prelude.{◌*◌, ◌+◌, ◌<◌, ◌≤◌, suc, ℕ, cond, List, [], ◌++◌, ◌∷◌, map, ◌≡◌, eqb, drop, length, All}
use Rattle.block.specs.Field.{four, two, two_at}
use Rattle.block.specs.Write.{written}
use Rattle.model.specs.Blocks.{Action, Block, Line, adds, changes, code_of, commit, content, copies, deletes, fields_of}
use Rattle.model.specs.Codec.{joined}
use Rattle.model.specs.WorkCopy.{body_at}
use Rattle.writer.specs.declared.Action.{Action as TheAction}
use Rattle.writer.specs.declared.Action.TheVariants.{Add, Change, Copy, Delete}
use Rattle.writer.specs.declared.Line.{Line as TheLine}

-- the first 16 bytes of a content block, of a commit block and of a release block
unfoldable pub head_of : ℕ → ℕ → ℕ → ℕ → ℕ → List ℕ
head_of kind n r seat stamp = kind ∷ 0 ∷ two n (two r (seat ∷ 0 ∷ four stamp (0 ∷ 0 ∷ 0 ∷ 0 ∷ [])))

-- the action and the line of the meanings; all lines
abbrev pub action_in : TheAction → Action
action_in Add = adds
action_in Change = changes
action_in Delete = deletes
action_in Copy = copies

abbrev pub line_in : TheLine → Line
line_in l = record { sheet = l.sheet; action = action_in l.action; block = l.block; source = l.source; revision = l.revision }

abbrev pub lines_in : List TheLine → List Line
lines_in ls = map line_in ls

-- the 8 bytes of a line
unfoldable pub line_bytes : TheLine → List ℕ
line_bytes l = l.sheet ∷ code_of (action_in l.action) ∷ two l.block (l.source ∷ 0 ∷ two l.revision [])

-- the bytes of sheet i's entry in a working copy: "bytes from 16", as many as its length says
unfoldable pub sheet_in : List ℕ → ℕ → List ℕ
sheet_in copy i = body_at (drop (512 * (i + 1)) copy)

-- the length that an entry of a working copy states
unfoldable pub size_in : List ℕ → ℕ → ℕ
size_in copy i = two_at copy (512 * (i + 1) + 2)

-- the content blocks' bytes: a line has a block of its own where it points to the next block
unfoldable pub contents_by : (ℕ → List ℕ) → ℕ → List Line → List (List ℕ)
contents_by bytes p [] = []
contents_by bytes p (l ∷ ls) = cond (eqb l.block p) (bytes l.sheet ∷ contents_by bytes (suc p) ls) (contents_by bytes p ls)

-- the blocks of a commit, from block `used` on: its content blocks, and then its commit block
unfoldable pub commit_blocks : (ℕ → List ℕ) → ℕ → ℕ → ℕ → ℕ → List Line → List Block
commit_blocks bytes used r seat stamp ls = map (content r) (contents_by bytes used ls) ++ (commit r seat stamp ls ∷ [])

-- what a content block is taken from: a working copy whose entries have lengths that are allowed, and the sheets that the lines name
pub record Sourced (copy : List ℕ) (ls : List TheLine) : Type 0 where
  pub whole : length copy ≡ 16_896
  pub sized : (i : ℕ) → i < 32 → size_in copy i ≤ 480
  pub named : All (λ l. l.sheet < 32) ls

-- what the writing of a commit asks: lines and contents, and room for its blocks
pub record Writable (store : List ℕ) (used revision : ℕ) (ls : List TheLine) (copy : List ℕ) : Type 0 where
  pub small : revision < 65_536
  pub few : length ls ≤ 32
  pub sourced : Sourced copy ls
  pub room : 512 * (used + length (contents_by (sheet_in copy) used (lines_in ls)) + 1) ≤ length store

-- these blocks were written from block `used` on, and nothing else; r blocks are used then
pub record Wrote (before after : List ℕ) (used r : ℕ) (bs : List Block) : Type 0 where
  pub bytes : after ≡ written (512 * used) (joined fields_of bs) before
  pub count : r ≡ used + length bs

-- these contents were written as content blocks from block `used` on, and nothing else; `next` is the block after them, and `left` of n writes are left
pub record PutContents (before after : List ℕ) (n used r : ℕ) (cs : List (List ℕ)) (next left : ℕ) : Type 0 where
  pub bytes : after ≡ written (512 * used) (joined fields_of (map (content r) cs)) before
  pub place : next ≡ used + length cs
  pub spare : left + length cs ≡ n
