-- W1 of document 02, "Changes in sheet order": the order within a commit as a rule on its lines; the blocks of a history in that order, from the history alone; and the bytes
-- of a store that holds it. Which stores are accepted is no matter of this page: Layout leaves the order free.
-- A comment in quotes is the document's own sentence.
-- Assumes nothing.
use Rattle.std.specs.Prelude.{◌*◌, ◌+◌, ◌-◌, ◌≤◌, suc, zero, ℕ, cond, List, [], ◌++◌, ◌∷◌, map, ◌≡◌, leb, get_or, length, replicate, take}
use Rattle.model.specs.Blocks.{Block, Line, adds, blank, changes, commit, content, copies, deletes, fields_of, label, mark}
use Rattle.model.specs.Codec.{joined}
use Rattle.model.specs.History.{Bytes, Change, Commit, History, add, change, copy, delete, is_bytes, last, nothing, sheet}
use Rattle.model.specs.Layout.{Table}
use Rattle.model.specs.Log.{Log, a_commit, a_mark}
use Rattle.model.specs.Machine.{blocks_for}
use Rattle.model.specs.Pass.{grown, tables_of}
use Rattle.model.specs.Store.{block_count, store_blocks, store_history, used_of}
use Rattle.model.specs.Writing.{Plan, contents_for, fresh, lines_for, shared, skip}

-- ---- the order, as a rule on the lines of a commit block

-- "its changes by rising sheet number": the first sheet is i or above, and each other one is above the one before it
abbrev pub RisingFrom : ℕ → List Line → Type 0
RisingFrom i [] = Unit {0}
RisingFrom i (l ∷ ls) = (i ≤ l.sheet) × RisingFrom (suc l.sheet) ls

-- the commit's own content blocks, which are those from block `at` on, in the order of the lines that point to them. A copy that shares an old block takes no place
abbrev pub own_blocks : ℕ → List Line → List ℕ
own_blocks at [] = []
own_blocks at (l ∷ ls) = let more = l.block ∷ own_blocks at ls in cond (leb at l.block) more (own_blocks at ls)

-- the n numbers from a on
abbrev pub up_from : ℕ → ℕ → List ℕ
up_from a zero = []
up_from a (suc n) = a ∷ up_from (suc a) n

-- of a commit block with these lines, and the k content blocks before it, of which block `at` is the first
pub record InOrder (at k : ℕ) (ls : List Line) : Type 0 where
  -- "From now on a commit writes its changes by rising sheet number"
  pub rising : RisingFrom 0 ls
  -- "and its content blocks in the order of the changes that point to them"
  pub contents : own_blocks at ls ≡ up_from at k

-- ---- the blocks of a history in that order

-- the commit that follows the history h, where the tables have for each tree up to its last the blocks that its sheets use
module _ (h : History) (tables : List Table) where
  -- how a change is written: a copy "points to a block of its own commit if its bytes differ from that source's, else to the block that source uses"
  abbrev pub plan_after : Change → Plan
  plan_after nothing = skip
  plan_after (add x) = fresh adds 0 0
  plan_after (change x) = fresh changes 0 0
  plan_after delete = shared deletes 0 0 0
  plan_after (copy s v x) = cond (is_bytes x (sheet h v s)) (shared copies (get_or (get_or tables v []) s 0) s v) (fresh copies s v)

  -- the bytes of its content blocks
  abbrev pub contents_after : Commit → List Bytes
  contents_after c = contents_for c.changes (map plan_after c.changes)

  -- its lines, where block `at` is the first of its blocks
  abbrev pub lines_after : ℕ → Commit → List Line
  lines_after at c = lines_for 0 at (map plan_after c.changes)

  -- its content blocks, then its commit block
  abbrev pub commit_blocks : ℕ → Commit → List Block
  commit_blocks at c = map (content (suc (last h))) (contents_after c) ++ (commit (suc (last h)) c.seat c.stamp (lines_after at c) ∷ [])

-- the blocks of the commits and marks g that follow the commits h, from block `at` on. A mark is one block and moves no tree
abbrev pub log_blocks : History → List Table → ℕ → Log → List Block
log_blocks h tables at [] = []
log_blocks h tables at (a_commit c ∷ g) =
    let new = commit_blocks h tables at c in
    new ++ log_blocks (h ++ (c ∷ [])) (grown tables (lines_after h tables at c)) (at + length new) g
log_blocks h tables at (a_mark m ∷ g) = mark m ∷ log_blocks h tables (suc at) g

-- the blocks that they take: k + 1 for a commit, one for a mark
abbrev pub takes : History → Log → ℕ
takes h [] = 0
takes h (a_commit c ∷ g) = blocks_for h c.changes + takes (h ++ (c ∷ [])) g
takes h (a_mark m ∷ g) = suc (takes h g)

-- U: the label's block and those
abbrev pub used_by : Log → ℕ
used_by g = 1 + takes [] g

-- ---- the bytes

-- n blocks: these, then all-zero ones
abbrev pub filled : ℕ → List Block → List Block
filled n bs = bs ++ replicate (n - length bs) blank

-- THE BYTES OF A STORE of N blocks that holds g as commit and release write it: the label, each commit's content blocks and commit block, each release's block, all-zero blocks
unfoldable pub store_bytes : ℕ → Log → Bytes
store_bytes N g = joined fields_of (label ∷ filled (N - 1) (log_blocks [] (replicate 32 0 ∷ []) 1 g))

-- a store, in whatever order it is written, with the commits and marks g added: its used blocks as they are, the blocks of g, all-zero blocks, none of a tail
unfoldable pub continued : Bytes → Log → Bytes
continued store g =
    take (512 * used_of store) store
    ++ joined fields_of (filled (block_count store - used_of store) (log_blocks (store_history store) (tables_of (store_blocks store)) (used_of store) g))
