-- The bytes of a working copy: "Working copy, 33 blocks, 16,896 bytes: block 0 has byte 0 = 4, byte 1 = seat; block 1 + i has byte 0 = 5, 1 state 0 to 4, 2–3 length, 4–5
-- base (normal, deleted: at least 1), 6 source sheet and 8–9 source revision (copied; the revision at least 1), bytes from 16. Lengths are at most 480, source sheets 31,
-- seats 1 to 4; an empty or deleted entry has length 0, and fields that a state lacks are zero."
-- Assumes nothing.
use Rattle.std.specs.Prelude.{◌<◌, ◌≤◌, ℕ, Bool, ◌&&◌, cond, false, true, List, [], ◌∷◌, map, ◌≡◌, eqb, leb, ltb, drop, get_or, length, take}
use Rattle.block.specs.Check.{sealed}
use Rattle.block.specs.Field.{two, two_at}
use Rattle.block.specs.Lists.{All, all}
use Rattle.model.specs.Codec.{joined, parts, shaped}
use Rattle.model.specs.Entry.{Entry, added, copied, deleted, empty, normal}

-- block 0 with the seat, and the block of an entry
pub data CopyBlock : Type 0 where
  seat_block : ℕ → CopyBlock
  entry_block : Entry → CopyBlock

-- the named bytes of an entry's block: state, length, base, source sheet, source revision, bytes
abbrev pub entry_bytes : ℕ → ℕ → ℕ → ℕ → List ℕ → List ℕ
entry_bytes state base source revision b = 5 ∷ state ∷ two (length b) (two base (source ∷ 0 ∷ two revision (0 ∷ 0 ∷ 0 ∷ 0 ∷ 0 ∷ 0 ∷ b)))

abbrev pub entry_fields : Entry → List ℕ
entry_fields empty = entry_bytes 0 0 0 0 []
entry_fields (normal r b) = entry_bytes 1 r 0 0 b
entry_fields (added b) = entry_bytes 2 0 0 0 b
entry_fields (deleted r) = entry_bytes 3 r 0 0 []
entry_fields (copied s v b) = entry_bytes 4 0 s v b

abbrev pub copy_fields : CopyBlock → List ℕ
copy_fields (seat_block seat) = 4 ∷ seat ∷ []
copy_fields (entry_block e) = entry_fields e

-- "A sheet is 0 to 480 bytes"
abbrev pub SheetBytes : List ℕ → Type 0
SheetBytes b = (length b ≤ 480) × All (λ (x : ℕ). x < 256) b

abbrev pub Revision : ℕ → Type 0
Revision r = (1 ≤ r) × (r < 65_536)

-- the limits
abbrev pub FitsCopyBlock : CopyBlock → Type 0
FitsCopyBlock (seat_block seat) = (1 ≤ seat) × (seat ≤ 4)
FitsCopyBlock (entry_block empty) = Unit {0}
FitsCopyBlock (entry_block (normal r b)) = Revision r × SheetBytes b
FitsCopyBlock (entry_block (added b)) = SheetBytes b
FitsCopyBlock (entry_block (deleted r)) = Revision r
FitsCopyBlock (entry_block (copied s v b)) = (s ≤ 31) × Revision v × SheetBytes b

-- the same as tests
abbrev pub bytes_ok : List ℕ → Bool
bytes_ok b = leb (length b) 480 && all (λ (x : ℕ). ltb x 256) b

abbrev pub revision_ok : ℕ → Bool
revision_ok r = leb 1 r && ltb r 65_536

abbrev pub fits_copy_block : CopyBlock → Bool
fits_copy_block (seat_block seat) = leb 1 seat && leb seat 4
fits_copy_block (entry_block empty) = true
fits_copy_block (entry_block (normal r b)) = revision_ok r && bytes_ok b
fits_copy_block (entry_block (added b)) = bytes_ok b
fits_copy_block (entry_block (deleted r)) = revision_ok r
fits_copy_block (entry_block (copied s v b)) = leb s 31 && (revision_ok v && bytes_ok b)

-- what bytes would say, if they were a block: nothing is checked
abbrev pub body_at : List ℕ → List ℕ
body_at l = take (two_at l 2) (drop 16 l)

abbrev pub parse_entry : ℕ → List ℕ → Entry
parse_entry state l =
    cond (eqb state 0) empty (cond (eqb state 1) (normal (two_at l 4) (body_at l)) (cond (eqb state 2) (added (body_at l))
    (cond (eqb state 3) (deleted (two_at l 4)) (copied (get_or l 6 0) (two_at l 8) (body_at l)))))

unfoldable pub parse_copy_block : List ℕ → CopyBlock
parse_copy_block l = cond (eqb (get_or l 0 0) 4) (seat_block (get_or l 1 0)) (entry_block (parse_entry (get_or l 1 0) l))

-- these bytes are the layout of a seat's working copy with these 32 entries
unfoldable pub HoldsCopy : List ℕ → ℕ → List Entry → Type 0
HoldsCopy l seat es = (length es ≡ 32) × FitsCopyBlock (seat_block seat) × All FitsCopyBlock (map entry_block es) × (joined copy_fields (seat_block seat ∷ map entry_block es) ≡ l)

-- the 33 blocks of a seat with these entries
unfoldable pub copy_bytes : ℕ → List Entry → List ℕ
copy_bytes seat es = joined copy_fields (seat_block seat ∷ map entry_block es)

abbrev pub is_entry : CopyBlock → Bool
is_entry (seat_block seat) = false
is_entry (entry_block e) = true

-- the seat's block, and then entries
abbrev pub arranged : List CopyBlock → Bool
arranged [] = false
arranged (seat_block seat ∷ ps) = all is_entry ps
arranged (entry_block e ∷ ps) = false

abbrev pub seat_in : List CopyBlock → ℕ
seat_in [] = 0
seat_in (seat_block seat ∷ ps) = seat
seat_in (entry_block e ∷ ps) = 0

abbrev pub entry_in : CopyBlock → Entry
entry_in (seat_block seat) = empty
entry_in (entry_block e) = e

abbrev pub entries_in : List CopyBlock → List Entry
entries_in [] = []
entries_in (p ∷ ps) = map entry_in ps

unfoldable pub copy_blocks_of : List ℕ → List CopyBlock
copy_blocks_of l = map parse_copy_block (parts 33 l)

-- refusal 5 is that this fails, of 16,896 bytes: "a wrong check or a broken layout"
unfoldable pub copy_ok : List ℕ → Bool
copy_ok l = all sealed (parts 33 l) && (all (shaped copy_fields parse_copy_block fits_copy_block) (parts 33 l) && arranged (copy_blocks_of l))

-- the seat and the entries that the bytes state
unfoldable pub seat_of : List ℕ → ℕ
seat_of l = seat_in (copy_blocks_of l)

unfoldable pub entries_of : List ℕ → List Entry
entries_of l = entries_in (copy_blocks_of l)
