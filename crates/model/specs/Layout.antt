-- Which blocks are the layout of a history: the rules of the section "Blocks".
-- Assumes nothing.
use Rattle.std.specs.Prelude.{◌+◌, ◌<◌, ◌≤◌, suc, ℕ, Bool, false, true, List, [], ◌++◌, ◌∷◌, map, ◌⊎◌, ◌≡◌, eqb, get_or, length, replicate, set}
use Rattle.block.specs.Lists.{All}
use Rattle.model.specs.Blocks.{Action, Block, Line, adds, blank, bytes_at, changes, commit, content, copies, deletes, label, mark}
use Rattle.model.specs.History.{Change, Commit, History, add, change, copy, delete, nothing}
use Rattle.model.specs.Log.{Log, Mark, a_commit, a_mark, commits, released}

-- a table has for each of the 32 sheets the number of the block that it uses, or 0 where the tree lacks it
abbrev pub Table : Type 0
Table = List ℕ

-- how often a sheet stands in a commit block, and how often a block is pointed to
abbrev pub one_if : Bool → ℕ → ℕ
one_if true n = suc n
one_if false n = n

abbrev pub named : ℕ → List Line → ℕ
named i [] = 0
named i (l ∷ ls) = one_if (eqb l.sheet i) (named i ls)

abbrev pub pointed : ℕ → List Line → ℕ
pointed p [] = 0
pointed p (l ∷ ls) = one_if (eqb l.block p) (pointed p ls)

-- "No sheet stands twice."
abbrev pub NoneTwice : List Line → Type 0
NoneTwice [] = Unit {0}
NoneTwice (l ∷ ls) = (named l.sheet ls ≡ 0) × NoneTwice ls

-- a list with a value put at the sheet of each line; the first line wins
abbrev pub puts {ℓ} : {A : Type ℓ} → (Line → A) → List Line → List A → List A
puts f [] base = base
puts f (l ∷ ls) base = set (puts f ls base) l.sheet (f l)

-- the table of the next tree
unfoldable pub next : List Line → Table → Table
next ls t = puts (λ (l : Line). l.block) ls t

-- what a line means for its sheet, where `look p` are the bytes of block p
abbrev pub means_as : (ℕ → List ℕ) → Action → Line → Change
means_as look adds l = add (look l.block)
means_as look changes l = change (look l.block)
means_as look deletes l = delete
means_as look copies l = copy l.source l.revision (look l.block)

unfoldable pub means : (ℕ → List ℕ) → Line → Change
means look l = means_as look l.action l

-- the table of the newest tree, of those in the list
abbrev pub latest : List Table → Table
latest [] = []
latest (t ∷ []) = t
latest (t ∷ (u ∷ ts)) = latest (u ∷ ts)

module _ (look : ℕ → List ℕ) (at k : ℕ) (tables : List Table) where
  -- block `at` is the first of the commit, k content blocks stand before its commit block, and the tables of trees 0 to R−1 are known
  abbrev pub Own : ℕ → Type 0
  Own p = (at ≤ p) × (p < at + k)

  -- the block that sheet s of tree v uses
  abbrev pub user : ℕ → ℕ → ℕ
  user v s = get_or (get_or tables v []) s 0

  -- "Source fields are zero but for copy."
  abbrev pub Unsourced : Line → Type 0
  Unsourced l = (l.source ≡ 0) × (l.revision ≡ 0)

  abbrev pub Absent : ℕ → Type 0
  Absent i = get_or (latest tables) i 0 ≡ 0

  abbrev pub Present : ℕ → Type 0
  Present i = get_or (latest tables) i 0 ≡ 0 → ⊥

  -- the rules for one change: "Add and copy need the sheet absent in tree R−1, change and delete need it present. Add and change point to a content block of their own
  -- commit. Copy has a source revision 1 to R−1 whose tree has the source sheet, and points to a block of its own commit if its bytes differ from that source's, else to
  -- the block that source uses."
  abbrev pub RuleAs : Action → Line → Type 0
  RuleAs adds l = Absent l.sheet × Own l.block × Unsourced l
  RuleAs changes l = Present l.sheet × Own l.block × Unsourced l
  RuleAs deletes l = Present l.sheet × (l.block ≡ 0) × Unsourced l
  RuleAs copies l =
      Absent l.sheet
      × ((1 ≤ l.revision) × (l.revision < length tables))
      × (user l.revision l.source ≡ 0 → ⊥)
      × ((Own l.block × (look l.block ≡ look (user l.revision l.source) → ⊥)) ⊎ (l.block ≡ user l.revision l.source))

  abbrev pub Rule : Line → Type 0
  Rule l = (l.sheet < 32) × RuleAs l.action l

  -- a commit block with these changes, and the k content blocks before it, are the layout of commit c: seats are 1 to 4, "number of changes m, 1 to 32"
  pub record Laid (ls : List Line) (c : Commit) : Type 0 where
    pub seat-low : 1 ≤ c.seat
    pub seat-high : c.seat ≤ 4
    pub some-line : 1 ≤ length ls
    pub few-lines : length ls ≤ 32
    pub rules : All Rule ls
    pub none_twice_holds : NoneTwice ls
    -- "Each content block of a commit is pointed to by just one of its changes."
    pub one_each : (p : ℕ) → at ≤ p → p < at + k → pointed p ls ≡ 1
    -- the commit that they mean: "The order of changes and of content blocks within a commit is free; the decoded commit isn't."
    pub size : length c.changes ≡ 32
    pub meant : All (λ (l : Line). get_or c.changes l.sheet nothing ≡ means look l) ls
    pub others : (i : ℕ) → named i ls ≡ 0 → get_or c.changes i nothing ≡ nothing

-- a mark may stand where these trees are known: "It names a revision from 1 to the last before it"; seats are 1 to 4
abbrev pub Stands : List Table → Mark → Type 0
Stands tables (released R seat stamp) = ((1 ≤ R) × (R < length tables)) × ((1 ≤ seat) × (seat ≤ 4))

-- "Then come the commits in order, then all-zero blocks to the end. Commit R is its content blocks followed by one commit block." A mark is one block, "may follow any
-- commit or release", and moves no tree
unfoldable pub LaysFrom : (ℕ → List ℕ) → ℕ → List Table → Log → List Block → Type 0
LaysFrom look at tables [] bs = All (λ (b : Block). b ≡ blank) bs
LaysFrom look at tables (a_mark m ∷ g) bs = (rest : List Block) × (bs ≡ mark m ∷ rest) × Stands tables m × LaysFrom look (suc at) tables g rest
LaysFrom look at tables (a_commit c ∷ g) bs =
    (contents : List (List ℕ)) × (ls : List Line) × (rest : List Block)
    × (bs ≡ map (content (length tables)) contents ++ (commit (length tables) c.seat c.stamp ls ∷ rest))
    × Laid look at (length contents) tables ls c
    × LaysFrom look (suc (at + length contents)) (tables ++ (next ls (latest tables) ∷ [])) g rest

-- "Store block 0 is the label"
unfoldable pub LaysLog : List Block → Log → Type 0
LaysLog bs g = (rest : List Block) × (bs ≡ label ∷ rest) × LaysFrom (bytes_at bs) 1 (replicate 32 0 ∷ []) g rest

-- the blocks are the layout of the commits h, with any marks among them
unfoldable pub Lays : List Block → History → Type 0
Lays bs h = (g : Log) × (commits g ≡ h) × LaysLog bs g
