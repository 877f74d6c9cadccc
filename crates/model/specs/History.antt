-- Commits, histories and trees: the document's words, with no blocks and no buffers in them.
-- A comment in quotes is the document's own sentence.
-- Assumes nothing.
use Rattle.std.specs.Prelude.{◌-◌, suc, ℕ, Bool, cond, false, true, List, [], ◌∷◌, ltb, get_or, length, replicate, take}
use Rattle.std.proofs.Math.Option.{Option, none, some}
use Rattle.block.specs.Lists.{same}

-- a sheet's bytes, or a buffer's
abbrev pub Bytes : Type 0
Bytes = List ℕ

-- what a commit does to one sheet: "an action, bytes unless it is a delete, a source for a copy" (source sheet, source revision)
pub data Change : Type 0 where
  nothing : Change
  add : List ℕ → Change
  change : List ℕ → Change
  delete : Change
  copy : ℕ → ℕ → List ℕ → Change

-- "A commit is a seat, a stamp .. and for each of 1 to 32 sheets one change": 32 rows, one for each sheet, so that a commit has one form
pub record Commit : Type 0 where
  pub seat : ℕ
  pub stamp : ℕ
  pub changes : List Change

-- "the history, a list of commits": the first commit first
abbrev pub History : Type 0
History = List Commit

-- 32 rows: a sheet's bytes, or nothing where the tree lacks the sheet
abbrev pub Tree : Type 0
Tree = List (Option (List ℕ))

-- "Tree 0 has no sheet."
abbrev pub tree₀ : Tree
tree₀ = replicate 32 none

-- one change made on what a tree has for its sheet
abbrev pub made : Change → Option (List ℕ) → Option (List ℕ)
made nothing old = old
made (add b) old = some b
made (change b) old = some b
made delete old = none
made (copy s v b) old = some b

abbrev pub applied : List Change → Tree → Tree
applied [] t = []
applied (c ∷ cs) [] = []
applied (c ∷ cs) (o ∷ t) = made c o ∷ applied cs t

-- "Tree R is tree R−1 with commit R's changes made.": all of these commits, made on a tree
abbrev pub tree_from : Tree → History → Tree
tree_from t [] = t
tree_from t (c ∷ h) = tree_from (applied c.changes t) h

-- tree R: the first R commits made on an empty tree
unfoldable pub tree : History → ℕ → Tree
tree h r = tree_from tree₀ (take r h)

-- "The last revision is the history's length"
abbrev pub last : History → ℕ
last = length

-- what a commit does to sheet i
abbrev pub change_of : Commit → ℕ → Change
change_of c i = get_or c.changes i nothing

-- sheet i of tree R
abbrev pub sheet : History → ℕ → ℕ → Option Bytes
sheet h R i = get_or (tree h R) i none

-- sheet i of the last tree
abbrev pub newest : History → ℕ → Option Bytes
newest h i = sheet h (last h) i

-- a commit names the sheets that it has changes for; the source of a copy is not named by it
abbrev pub names : Change → Bool
names nothing = false
names (add x) = true
names (change x) = true
names delete = true
names (copy s r x) = true

-- the last of these commits that names the sheet, where n commits stand before them and f is the last of those that does; 0 for none
abbrev pub namer_from : ℕ → ℕ → History → ℕ → ℕ
namer_from n f [] i = f
namer_from n f (c ∷ h) i = namer_from (suc n) (cond (names (change_of c i)) (suc n) f) h i

-- "the last commit naming the sheet up to R": its number, or 0. W3: "Finding a sheet in tree R now also gives the number of the last commit up to R that named it, or 0 if none did."
abbrev pub namer : History → ℕ → ℕ → ℕ
namer h R i = namer_from 0 0 (take R h) i

-- "a commit after b names the sheet"
abbrev pub named_after : History → ℕ → ℕ → Bool
named_after h b i = ltb b (namer h (last h) i)

-- a tree has the sheet
abbrev pub present : Option Bytes → Bool
present none = false
present (some x) = true

-- a tree has the sheet, with these bytes
abbrev pub is_bytes : Bytes → Option Bytes → Bool
is_bytes x none = false
is_bytes x (some y) = same x y

abbrev pub no_commit : Commit
no_commit = record { seat = 0; stamp = 0; changes = [] }

-- commit R, where R is 1 to last
abbrev pub commit_at : History → ℕ → Commit
commit_at h R = get_or h (R - 1) no_commit
