-- Layouts of short histories, computed: blocks that keep the rules of "Blocks", and for each rule blocks that break it alone.
-- Assumes nothing.
use Prim.Native.Nat.{ℕ}
use mathlib.Core.Bool.{false, true}
use mathlib.Core.List.{List, [], ◌++◌, ◌∷◌, map}
use mathlib.Core.Path.{◌≡◌, refl}
use lib.ListN.{replicate}
use Rattle.block.specs.Check.{checks_of}
use Rattle.model.specs.Blocks.{Action, Block, Line, adds, blank, bytes_at, changes, commit, content, copies, deletes, fields_of, label}
use Rattle.model.specs.Codec.{encode, padded}
use Rattle.model.specs.Layout.{next}
use Rattle.model.specs.Pass.{laid, ok, ok_from, rule}

abbrev line : ℕ → Action → ℕ → ℕ → ℕ → Line
line i a p s v = record { sheet = i; action = a; block = p; source = s; revision = v }

-- revision 1 adds sheet 5 with byte 65 in block 1; the commit block is block 2
abbrev one : List Block
one = label ∷ content 1 (65 ∷ []) ∷ commit 1 2 7 (line 5 adds 1 0 0 ∷ []) ∷ []

-- revision 2 changes it to 66 in block 3; the commit block is block 4
abbrev two : List Block
two = one ++ (content 2 (66 ∷ []) ∷ commit 2 2 8 (line 5 changes 3 0 0 ∷ []) ∷ [])

-- a commit block of revision 2, or 3, after them
abbrev second : List Line → List Block
second ls = commit 2 2 8 ls ∷ []

abbrev third : List Line → List Block
third ls = commit 3 2 9 ls ∷ []

-- two contents of revision 2 in blocks 3 and 4
abbrev pair : List Block
pair = content 2 (1 ∷ []) ∷ content 2 (2 ∷ []) ∷ []

abbrev kept : List (List Block)
kept =
    (one ++ (blank ∷ []))
    ∷ (two)
    ∷ (one ++ second (line 6 copies 1 5 1 ∷ line 5 deletes 0 0 0 ∷ []))  -- an unmodified move shares its source's block
    ∷ (one ++ (content 2 (66 ∷ []) ∷ second (line 6 copies 3 5 1 ∷ [])))  -- a modified one has its own
    ∷ (two ++ third (line 6 copies 1 5 1 ∷ []))  -- a copy from revision 1 shares the block that revision 1 uses
    ∷ (one ++ (pair ++ second (line 7 adds 3 0 0 ∷ line 6 adds 4 0 0 ∷ [])))  -- the order of changes is free
    ∷ (one ++ (pair ++ second (line 6 adds 4 0 0 ∷ line 7 adds 3 0 0 ∷ [])))  -- and that of contents
    ∷ (one ++ (content 2 (66 ∷ []) ∷ second (line 5 changes 3 0 0 ∷ [])))
    ∷ []

abbrev broken : List (List Block)
broken =
    []
    ∷ (blank ∷ one)
    ∷ (one ++ (blank ∷ content 2 [] ∷ []))  -- a block after a blank one
    ∷ (one ++ (label ∷ []))
    ∷ (one ++ (content 2 (66 ∷ []) ∷ []))  -- contents without a commit
    ∷ (one ++ (content 1 (66 ∷ []) ∷ second (line 5 changes 3 0 0 ∷ [])))  -- a content of another revision
    ∷ (one ++ (content 2 (66 ∷ []) ∷ third (line 5 changes 3 0 0 ∷ [])))  -- a commit of another revision
    ∷ (label ∷ content 1 [] ∷ commit 1 0 7 (line 5 adds 1 0 0 ∷ []) ∷ [])  -- seat 0
    ∷ (label ∷ content 1 [] ∷ commit 1 5 7 (line 5 adds 1 0 0 ∷ []) ∷ [])  -- seat 5
    ∷ (one ++ second [])  -- m is 0
    ∷ (label ∷ content 1 [] ∷ commit 1 2 7 (line 32 adds 1 0 0 ∷ []) ∷ [])  -- sheet 32
    ∷ (one ++ (pair ++ second (line 6 adds 3 0 0 ∷ line 6 adds 4 0 0 ∷ [])))  -- a sheet stands twice
    ∷ (one ++ (content 2 [] ∷ second (line 5 adds 3 0 0 ∷ [])))  -- add of a present sheet
    ∷ (one ++ (content 2 [] ∷ second (line 6 changes 3 0 0 ∷ [])))  -- change of an absent one
    ∷ (one ++ second (line 6 deletes 0 0 0 ∷ []))  -- delete of an absent one
    ∷ (one ++ second (line 5 deletes 1 0 0 ∷ []))  -- a delete that points to a block
    ∷ (one ++ second (line 6 adds 1 0 0 ∷ []))  -- an add that points to another commit's block
    ∷ (one ++ (content 2 [] ∷ second (line 6 adds 3 5 1 ∷ [])))  -- source fields of an add
    ∷ (one ++ second (line 5 copies 1 5 1 ∷ []))  -- copy to a present sheet
    ∷ (one ++ second (line 6 copies 1 5 0 ∷ []))  -- from revision 0
    ∷ (one ++ second (line 6 copies 1 5 2 ∷ []))  -- from its own revision
    ∷ (one ++ second (line 6 copies 1 7 1 ∷ []))  -- of a sheet that the source's tree lacks
    ∷ (two ++ third (line 6 copies 3 5 1 ∷ []))  -- the source's newest block, for a copy from an older revision
    ∷ (one ++ (content 2 (65 ∷ []) ∷ second (line 6 copies 3 5 1 ∷ [])))  -- own content with the source's bytes
    ∷ (one ++ (content 2 [] ∷ second (line 5 deletes 0 0 0 ∷ [])))  -- a content that no change points to
    ∷ (one ++ (content 2 [] ∷ second (line 6 adds 3 0 0 ∷ line 7 adds 3 0 0 ∷ [])))  -- one that two point to
    ∷ []

-- one check over all
pub layouts : (map ok kept ≡ map (λ (bs : List Block). true) kept) × (map ok broken ≡ map (λ (bs : List Block). false) broken)
unfolding ok ok_from rule laid next bytes_at
layouts = (refl, refl)

-- an all-zero block is zeros
pub blank-zero : encode fields_of blank ≡ replicate 512 0
unfolding encode padded checks_of
blank-zero = refl
