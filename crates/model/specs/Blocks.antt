-- The blocks of a store, one by one: "Every block has 512 bytes. Fields of two or four bytes have the low byte first. .. Bytes not named, and those past a length, are
-- zero." What a block says, its named bytes (`fields_of`), and what bytes would say (`parse`).
-- Assumes nothing.
use Rattle.std.specs.Prelude.{◌<◌, ◌≤◌, suc, zero, ℕ, Bool, ◌&&◌, cond, true, List, [], ◌∷◌, eqb, leb, ltb, drop, get_or, length, take}
use Rattle.block.specs.Field.{four, four_at, two, two_at}
use Rattle.block.specs.Lists.{All, all}
use Rattle.model.specs.Log.{Mark, released}

-- "action 1 to 4": add, change, delete, copy
pub data Action : Type 0 where
  adds changes deletes copies : Action

-- one change of a commit block: "sheet, action 1 to 4, content block number (two bytes, 0 for delete), source sheet, zero, source revision (two bytes)"
pub record Line : Type 0 where
  pub sheet : ℕ
  pub action : Action
  pub block : ℕ
  pub source : ℕ
  pub revision : ℕ

-- the label; a content block with its revision and its bytes; a commit block with revision, seat, stamp and changes; a mark; an all-zero block
pub data Block : Type 0 where
  label : Block
  content : ℕ → List ℕ → Block
  commit : ℕ → ℕ → ℕ → List Line → Block
  mark : Mark → Block
  blank : Block

abbrev pub code_of : Action → ℕ
code_of adds = 1
code_of changes = 2
code_of deletes = 3
code_of copies = 4

-- "changes of 8 bytes": sheet, action, content block number, source sheet, zero, source revision
abbrev pub lines_of : List Line → List ℕ
lines_of [] = []
lines_of (l ∷ ls) = l.sheet ∷ code_of l.action ∷ two l.block (l.source ∷ 0 ∷ two l.revision (lines_of ls))

-- "A release block (byte 0 = 6, 4–5 revision, 6 seat, 8–11 stamp)"
abbrev pub mark_fields : Mark → List ℕ
mark_fields (released r seat stamp) = 6 ∷ 0 ∷ 0 ∷ 0 ∷ two r (seat ∷ 0 ∷ four stamp [])

-- the bytes that are named, from byte 0 on: "Store block 0 is the label: byte 0 is 1, byte 1 is 1."
-- "Content block: byte 0 is 2; 2–3 length, 0 to 480; 4–5 R; bytes from 16."
-- "Commit block: byte 0 is 3; 2–3 number of changes m, 1 to 32; 4–5 R; 6 seat; 8–11 stamp; changes of 8 bytes from byte 16"
abbrev pub fields_of : Block → List ℕ
fields_of label = 1 ∷ 1 ∷ []
fields_of (content r b) = 2 ∷ 0 ∷ two (length b) (two r (0 ∷ 0 ∷ 0 ∷ 0 ∷ 0 ∷ 0 ∷ 0 ∷ 0 ∷ 0 ∷ 0 ∷ b))
fields_of (commit r seat stamp ls) = 3 ∷ 0 ∷ two (length ls) (two r (seat ∷ 0 ∷ four stamp (0 ∷ 0 ∷ 0 ∷ 0 ∷ lines_of ls)))
fields_of (mark m) = mark_fields m
fields_of blank = 0 ∷ []

-- the numbers fit the bytes that are there for them
abbrev pub FitsLine : Line → Type 0
FitsLine l = (l.sheet < 256) × (l.block < 65_536) × (l.source < 256) × (l.revision < 65_536)

abbrev pub FitsMark : Mark → Type 0
FitsMark (released r seat stamp) = (r < 65_536) × (seat < 256) × (stamp < 4_294_967_296)

abbrev pub FitsBlock : Block → Type 0
FitsBlock label = Unit {0}
FitsBlock (content r b) = (r < 65_536) × (length b ≤ 480) × All (λ (x : ℕ). x < 256) b
FitsBlock (commit r seat stamp ls) = (r < 65_536) × (seat < 256) × (stamp < 4_294_967_296) × ((length ls ≤ 32) × All FitsLine ls)
FitsBlock (mark m) = FitsMark m
FitsBlock blank = Unit {0}

abbrev pub fits_line : Line → Bool
fits_line l = ltb l.sheet 256 && (ltb l.block 65_536 && (ltb l.source 256 && ltb l.revision 65_536))

abbrev pub fits_mark : Mark → Bool
fits_mark (released r seat stamp) = ltb r 65_536 && (ltb seat 256 && ltb stamp 4_294_967_296)

abbrev pub fits_block : Block → Bool
fits_block label = true
fits_block (content r b) = ltb r 65_536 && (leb (length b) 480 && all (λ (x : ℕ). ltb x 256) b)
fits_block (commit r seat stamp ls) = ltb r 65_536 && (ltb seat 256 && (ltb stamp 4_294_967_296 && (leb (length ls) 32 && all fits_line ls)))
fits_block (mark m) = fits_mark m
fits_block blank = true

-- what the bytes would be, if they were a block: the fields are read and nothing is checked
abbrev pub action_of : ℕ → Action
action_of n = cond (eqb n 1) adds (cond (eqb n 2) changes (cond (eqb n 3) deletes copies))

abbrev pub parse_line : List ℕ → Line
parse_line l = record { sheet = get_or l 0 0; action = action_of (get_or l 1 0); block = two_at l 2; source = get_or l 4 0; revision = two_at l 6 }

abbrev pub parse_lines : ℕ → List ℕ → List Line
parse_lines zero l = []
parse_lines (suc m) l = parse_line l ∷ parse_lines m (drop 8 l)

abbrev pub parse_as : ℕ → List ℕ → Block
parse_as kind l =
    cond (eqb kind 1) label
    (cond (eqb kind 2) (content (two_at l 4) (take (two_at l 2) (drop 16 l)))
    (cond (eqb kind 3) (commit (two_at l 4) (get_or l 6 0) (four_at l 8) (parse_lines (two_at l 2) (drop 16 l)))
    (cond (eqb kind 6) (mark (released (two_at l 4) (get_or l 6 0) (four_at l 8)))
    blank)))

unfoldable pub parse : List ℕ → Block
parse l = parse_as (get_or l 0 0) l

-- the bytes that a block holds
abbrev pub held : Block → List ℕ
held label = []
held (content r b) = b
held (commit r s t ls) = []
held (mark m) = []
held blank = []

-- the bytes that block p holds; past the end there are none
unfoldable pub bytes_at : List Block → ℕ → List ℕ
bytes_at bs p = held (get_or bs p blank)
