-- The rules of Layout as tests, and the history that is read off: one pass over the blocks, and no search. That the tests decide the rules is proved in laws/proofs/Acceptance.
-- The state of the pass: `at`, the first block of the commit that is being read; k, how many content blocks of it were passed; and the tables of the trees so far, 32
-- block numbers for each.
-- Assumes nothing.
use Rattle.std.specs.Prelude.{◌+◌, suc, ℕ, Bool, ◌&&◌, ◌||◌, cond, false, not, true, List, [], ◌++◌, ◌∷◌, eqb, leb, ltb, get_or, length, replicate}
use Rattle.std.proofs.Math.Option.{Option, none, some}
use Rattle.block.specs.Lists.{all, all_from, same}
use Rattle.model.specs.Blocks.{Action, Block, Line, adds, blank, bytes_at, changes, commit, content, copies, deletes, label, mark}
use Rattle.model.specs.History.{Change, Commit, History, nothing}
use Rattle.model.specs.Log.{Log, Mark, a_commit, a_mark, released}
use Rattle.model.specs.Layout.{Table, latest, means, named, next, pointed, puts, user}

abbrev pub none_twice : List Line → Bool
none_twice [] = true
none_twice (l ∷ ls) = eqb (named l.sheet ls) 0 && none_twice ls

abbrev pub is_blank : Block → Bool
is_blank label = false
is_blank (content r b) = false
is_blank (commit r s t ls) = false
is_blank (mark m) = false
is_blank blank = true

module _ (look : ℕ → List ℕ) (at k : ℕ) (tables : List Table) where
  abbrev pub own : ℕ → Bool
  own p = leb at p && ltb p (at + k)

  abbrev pub unsourced : Line → Bool
  unsourced l = eqb l.source 0 && eqb l.revision 0

  abbrev pub absent : ℕ → Bool
  absent i = eqb (get_or (latest tables) i 0) 0

  abbrev pub rule_as : Action → Line → Bool
  rule_as adds l = absent l.sheet && (own l.block && unsourced l)
  rule_as changes l = not (absent l.sheet) && (own l.block && unsourced l)
  rule_as deletes l = not (absent l.sheet) && (eqb l.block 0 && unsourced l)
  rule_as copies l =
      absent l.sheet
      && ((leb 1 l.revision && ltb l.revision (length tables))
      && (not (eqb (user look at k tables l.revision l.source) 0)
      && ((own l.block && not (same (look l.block) (look (user look at k tables l.revision l.source))))
      || eqb l.block (user look at k tables l.revision l.source))))

  unfoldable pub rule : Line → Bool
  rule l = ltb l.sheet 32 && rule_as l.action l

  unfoldable pub laid : ℕ → List Line → Bool
  laid seat ls =
      leb 1 seat && (leb seat 4 && (leb 1 (length ls) && (leb (length ls) 32
      && (all rule ls && (none_twice ls && all_from (λ p. eqb (pointed p ls) 1) at k)))))

-- 32 rows with no change
unfoldable pub no_changes : List Change
no_changes = replicate 32 nothing

-- the commit that a commit block states
unfoldable pub stated : (ℕ → List ℕ) → ℕ → ℕ → List Line → Commit
stated look seat stamp ls = record { seat = seat; stamp = stamp; changes = puts (means look) ls no_changes }

-- the tables with that of the next tree
abbrev pub grown : List Table → List Line → List Table
grown tables ls = tables ++ (next ls (latest tables) ∷ [])

-- may a mark stand where these trees are known?
abbrev pub stands : List Table → Mark → Bool
stands tables (released R seat stamp) = (leb 1 R && ltb R (length tables)) && (leb 1 seat && leb seat 4)

-- are the blocks that are left the rest of a layout?
unfoldable pub ok_from : (ℕ → List ℕ) → ℕ → ℕ → List Table → List Block → Bool
ok_from look at k tables [] = eqb k 0
ok_from look at k tables (label ∷ bs) = false
ok_from look at k tables (content r b ∷ bs) = eqb r (length tables) && ok_from look at (suc k) tables bs
ok_from look at k tables (commit r seat stamp ls ∷ bs) =
    eqb r (length tables) && (laid look at k tables seat ls && ok_from look (suc (at + k)) 0 (grown tables ls) bs)
ok_from look at k tables (mark m ∷ bs) = eqb k 0 && (stands tables m && ok_from look (suc at) 0 tables bs)
ok_from look at k tables (blank ∷ bs) = eqb k 0 && all is_blank bs

-- the commits that they state
unfoldable pub read_from : (ℕ → List ℕ) → List Block → History
read_from look [] = []
read_from look (label ∷ bs) = []
read_from look (content r b ∷ bs) = read_from look bs
read_from look (commit r seat stamp ls ∷ bs) = stated look seat stamp ls ∷ read_from look bs
read_from look (mark m ∷ bs) = read_from look bs
read_from look (blank ∷ bs) = []

-- the commits and the marks in their common order; its commits are those of read_from
unfoldable pub log_from : (ℕ → List ℕ) → List Block → Log
log_from look [] = []
log_from look (label ∷ bs) = []
log_from look (content r b ∷ bs) = log_from look bs
log_from look (commit r seat stamp ls ∷ bs) = a_commit (stated look seat stamp ls) ∷ log_from look bs
log_from look (mark m ∷ bs) = a_mark m ∷ log_from look bs
log_from look (blank ∷ bs) = []

-- are these blocks the layout of a history?
unfoldable pub ok : List Block → Bool
ok [] = false
ok (label ∷ bs) = ok_from (bytes_at (label ∷ bs)) 1 0 (replicate 32 0 ∷ []) bs
ok (content r b ∷ bs) = false
ok (commit r seat stamp ls ∷ bs) = false
ok (mark m ∷ bs) = false
ok (blank ∷ bs) = false

-- the history that they state
unfoldable pub read_all : List Block → History
read_all [] = []
read_all (b ∷ bs) = read_from (bytes_at (b ∷ bs)) bs

unfoldable pub log_all : List Block → Log
log_all [] = []
log_all (b ∷ bs) = log_from (bytes_at (b ∷ bs)) bs

-- the log that the blocks are the layout of, if they are one
unfoldable pub decode_store : List Block → Option Log
decode_store bs = cond (ok bs) (some (log_all bs)) none

-- the tables after a run of blocks
unfoldable pub tables_after : List Table → List Block → List Table
tables_after tables [] = tables
tables_after tables (label ∷ bs) = tables
tables_after tables (content r b ∷ bs) = tables_after tables bs
tables_after tables (commit r seat stamp ls ∷ bs) = tables_after (grown tables ls) bs
tables_after tables (mark m ∷ bs) = tables_after tables bs
tables_after tables (blank ∷ bs) = tables

-- the tables of all trees of a store, tree 0 first
unfoldable pub tables_of : List Block → List Table
tables_of [] = []
tables_of (b ∷ bs) = tables_after (replicate 32 0 ∷ []) bs
