-- A script: a list of calls in bytes, a record of 512 bytes for each call. Byte 0 is the kind, 1 to 15, 20 or 21; byte 1 the seat; 2–3 the number of bytes that the call takes, at most 496;
-- 4–7, 8–11 and 12–15 the call's numbers in their order; the bytes stand from 16 on. Fields have the low byte first; what a call has no use for is not looked at.
-- Assumes nothing.
use Rattle.std.specs.Prelude.{◌%◌, ◌/◌, suc, zero, ℕ, Bool, ◌&&◌, ◌||◌, cond, List, [], ◌∷◌, eqb, leb, drop, get_or, length, take}
use Rattle.block.specs.Buffer.{block_at}
use Rattle.block.specs.Field.{four_at, two_at}
use Rattle.block.specs.Lists.{all_from}
use Rattle.inner.specs.Performs.{call_of}
use Rattle.inner.specs.declared.Call.{Call}
use Rattle.inner.specs.declared.Call.TheVariants.{Add, Clear, ClearCut, Commit, CommitCut, Copy, Delete, Edit, Log, Move, Panel, Read, Release, Revert, Show, Status, Update}
use Rattle.model.specs.History.{Bytes}
use Rattle.model.specs.Run.{Turn}

-- add 1, edit 2, delete 3, copy 4, move 5, commit 6, update 7, revert 8, read 9, show 10, status 11, log 12, with their numbers; clear 13. Of W6,
-- with the number of writes that it stops after: commit 14, clear 15. Of W9: release 20 (revision, stamp, seat), a panel's reading 21 (revision, sheet)
abbrev pub call_as : ℕ → ℕ → ℕ → ℕ → Call
call_as kind a b c =
    cond (eqb kind 1) (Add a)
    (cond (eqb kind 2) (Edit a)
    (cond (eqb kind 3) (Delete a)
    (cond (eqb kind 4) (Copy a b)
    (cond (eqb kind 5) (Move a b)
    (cond (eqb kind 6) (Commit a b)
    (cond (eqb kind 7) (Update a b)
    (cond (eqb kind 8) (Revert a)
    (cond (eqb kind 9) (Read a b)
    (cond (eqb kind 10) (Show a)
    (cond (eqb kind 11) (Status a)
    (cond (eqb kind 12) (Log a b)
    (cond (eqb kind 13) Clear
    (cond (eqb kind 14) (CommitCut a b c)
    (cond (eqb kind 15) (ClearCut a)
    (cond (eqb kind 20) (Release a c b)
    (Panel a b))))))))))))))))

-- the call of a record
unfoldable pub call_in : Bytes → Call
call_in r = call_as (get_or r 0 0) (four_at r 4) (four_at r 8) (four_at r 12)

-- the bytes that it takes
abbrev pub bytes_in : Bytes → Bytes
bytes_in r = take (two_at r 2) (drop 16 r)

abbrev pub turn_in : Bytes → Turn
turn_in r = record { by = get_or r 1 0; call = call_of (call_in r) (bytes_in r) }

-- the kinds of the calls. 16 to 19 are those of the turn record, which a script doesn't take
abbrev pub kind_ok : ℕ → Bool
kind_ok k = (leb 1 k && leb k 15) || (leb 20 k && leb k 21)

-- "seat, kind and arguments": the kind and the seat are there, and the bytes end within the record
unfoldable pub record_ok : Bytes → Bool
record_ok r = kind_ok (get_or r 0 0) && (leb 1 (get_or r 1 0) && (leb (get_or r 1 0) 4 && leb (two_at r 2) 496))

-- the calls of n records, from record i on
unfoldable pub turns_from : ℕ → ℕ → Bytes → List Turn
turns_from i zero s = []
turns_from i (suc n) s = turn_in (block_at s i) ∷ turns_from (suc i) n s

abbrev pub turns_of : Bytes → List Turn
turns_of s = turns_from 0 (length s / 512) s

-- whole records, each of them good
unfoldable pub script_ok : Bytes → Bool
script_ok s = eqb (length s % 512) 0 && all_from (λ i. record_ok (block_at s i)) 0 (length s / 512)
