-- How a commit is written: its content blocks after the used blocks, then its commit block, then the blank blocks that are left. Document 01 leaves the order of changes and of
-- content blocks free; W1 of document 02 fixes it for what commit writes: the changes by rising sheet number, and the content blocks in the order of the changes that point to them.
-- Assumes nothing.
use Rattle.std.specs.Prelude.{suc, ℕ, Bool, false, true, List, [], ◌++◌, ◌∷◌, map, drop, length}
use Rattle.block.specs.Lists.{same}
use Rattle.model.specs.Blocks.{Action, Block, Line, adds, bytes_at, changes, commit, content, copies, deletes, mark}
use Rattle.model.specs.History.{Change, Commit, add, change, copy, delete, nothing}
use Rattle.model.specs.Layout.{Table, user}
use Rattle.model.specs.Log.{Mark}
use Rattle.model.specs.Pass.{tables_of}
use Rattle.model.specs.Store.{blanks, front}

-- how one change is written: not at all; with a content block of its own; or with a block that is there (or none, 0)
pub data Plan : Type 0 where
  skip : Plan
  fresh : Action → ℕ → ℕ → Plan
  shared : Action → ℕ → ℕ → ℕ → Plan

abbrev pub line_of : ℕ → Action → ℕ → ℕ → ℕ → Line
line_of i a p s v = record { sheet = i; action = a; block = p; source = s; revision = v }

-- the lines, where sheet i is next and p is the next block
abbrev pub lines_for : ℕ → ℕ → List Plan → List Line
lines_for i p [] = []
lines_for i p (skip ∷ ps) = lines_for (suc i) p ps
lines_for i p (fresh a s v ∷ ps) = line_of i a p s v ∷ lines_for (suc i) (suc p) ps
lines_for i p (shared a q s v ∷ ps) = line_of i a q s v ∷ lines_for (suc i) p ps

abbrev pub bytes_in : Change → List ℕ
bytes_in nothing = []
bytes_in (add b) = b
bytes_in (change b) = b
bytes_in delete = []
bytes_in (copy s v b) = b

-- the content blocks' bytes
abbrev pub contents_for : List Change → List Plan → List (List ℕ)
contents_for [] ps = []
contents_for (c ∷ cs) [] = []
contents_for (c ∷ cs) (skip ∷ ps) = contents_for cs ps
contents_for (c ∷ cs) (fresh a s v ∷ ps) = bytes_in c ∷ contents_for cs ps
contents_for (c ∷ cs) (shared a q s v ∷ ps) = contents_for cs ps

module _ (look : ℕ → List ℕ) (at k : ℕ) (tables : List Table) where
  abbrev pub plan_copy : Bool → ℕ → ℕ → Plan
  plan_copy true s v = shared copies (user look at k tables v s) s v
  plan_copy false s v = fresh copies s v

  abbrev pub plan_of : Change → Plan
  plan_of nothing = skip
  plan_of (add b) = fresh adds 0 0
  plan_of (change b) = fresh changes 0 0
  plan_of delete = shared deletes 0 0 0
  plan_of (copy s v b) = plan_copy (same b (look (user look at k tables v s))) s v

-- what is written for a commit: its plan by the bytes that are there, its lines, its contents, its blocks
module _ (front bl : List Block) (c : Commit) where
  abbrev pub plans : List Plan
  plans = map (plan_of (bytes_at (front ++ bl)) (length front) 0 (tables_of front)) c.changes

  abbrev pub new_lines : List Line
  new_lines = lines_for 0 (length front) plans

  abbrev pub new_contents : List (List ℕ)
  new_contents = contents_for c.changes plans

  abbrev pub new_blocks : List Block → List Block
  new_blocks bl' = map (content (length (tables_of front))) new_contents ++ (commit (length (tables_of front)) c.seat c.stamp new_lines ∷ bl')

-- the blocks with a commit added: its content blocks in the order of its changes, its commit block with the changes by rising sheet, then the blank blocks that are left
abbrev pub with_commit : List Block → Commit → List Block
with_commit bs c = front bs ++ new_blocks (front bs) (blanks bs) c (drop (suc (length (new_contents (front bs) (blanks bs) c))) (blanks bs))

-- the blocks with a mark added: its block in the place of the first blank one
abbrev pub with_mark : List Block → Mark → List Block
with_mark bs m = front bs ++ (mark m ∷ drop 1 (blanks bs))
