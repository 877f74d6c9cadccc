-- The calls on buffers: for each call one total definition, from the bytes of the store and of the caller's working copy and the arguments to the answer and
-- the bytes afterwards. The code's contracts cite these and say nothing else.
-- A buffer is taken apart by its layout (Store, WorkCopy), the machine's own conditions and deeds rule what happens (Refusals, Machine), and the result is laid out again.
-- Refusals 1 to 6 are conditions on the buffers, the others the machine's, in the document's order: 14 stands right after 3.
-- Assumes nothing.
use Rattle.std.specs.Prelude.{◌%◌, ◌*◌, ◌+◌, ◌-◌, ℕ, ◌&&◌, ◌||◌, cond, not, List, [], ◌++◌, ◌∷◌, eqb, leb, ltb, drop, get_or, length, replicate, set, take}
use Rattle.std.proofs.Math.Option.{Option, none, some}
use Rattle.block.specs.Write.{written}
use Rattle.model.specs.Blocks.{Block, blank, bytes_at, fields_of, label}
use Rattle.model.specs.Codec.{joined}
use Rattle.model.specs.Entry.{empty, own_bytes}
use Rattle.model.specs.Fitting.{fits_store}
use Rattle.model.specs.History.{Bytes, Commit, last, namer}
use Rattle.model.specs.Log.{Mark, panel_revision}
use Rattle.model.specs.Machine.{Add, Answer, Call, Clears, ClearsCut, Commits, CommitsCut, Copy, Delete, Edit, Log, Move, Panel, Read, Release, Revert, Show, Side, Status, Update, bytes, doing, done, entry, new_commit, refused, stopped}
use Rattle.model.specs.Refusals.{Condition, ◌when◌, conditions, first_of, tail_conditions}
use Rattle.model.specs.Run.{Turn, asked, asked_mark}
use Rattle.model.specs.Store.{bare_of, blank_from, blanks, block_count, block_used, checked_but, front, lawful_but, store_blocks, store_history, store_marks, tail_of, used_of}
use Rattle.model.specs.WorkCopy.{copy_bytes, copy_ok, entries_of, seat_of}
use Rattle.model.specs.Writing.{new_blocks, with_commit, with_mark}

-- ---- what the machine sees of the buffers

abbrev pub side_in : Bytes → Bytes → Side
side_in store copy = record {
  seat = seat_of copy;
  blocks = block_count store;
  used = used_of store;
  tail = tail_of store;
  history = store_history store;
  marks = store_marks store;
  entries = entries_of copy;
}

-- "read and log take the store", and so do clearing, release and panel reading: no seat, no entries
abbrev pub store_side : Bytes → Side
store_side store = record { seat = 0; blocks = block_count store; used = used_of store; tail = tail_of store; history = store_history store; marks = store_marks store; entries = [] }

-- ---- refusals 1 to 6

-- "1. The store's length is no multiple of 512, or its blocks are fewer than 2 or more than 4,096."
abbrev pub size_condition : Bytes → Condition
size_condition store = 1 when (not (eqb (length store % 512) 0) || (ltb (block_count store) 2 || ltb 4_096 (block_count store)))

-- "2. Some store block's check is wrong .. 3. The store's blocks aren't the layout of a history."; "Refusal 2 skips the last block that isn't all zero, unless it is the
-- label, and 3 allows the tail."
abbrev pub store_conditions : Bytes → List Condition
store_conditions store = size_condition store ∷ 2 when not (checked_but (block_count store) store) ∷ 3 when not (lawful_but (block_count store) store) ∷ []

-- "4. The working copy's length isn't 16,896."
abbrev pub copy_size_condition : Bytes → Condition
copy_size_condition copy = 4 when not (eqb (length copy) 16_896)

-- "5. The working copy has a wrong check or a broken layout .. 6. The working copy doesn't fit the store."
abbrev pub copy_conditions : Bytes → Bytes → List Condition
copy_conditions store copy = copy_size_condition copy ∷ 5 when not (copy_ok copy) ∷ 6 when not (fits_store (store_history store) (entries_of copy)) ∷ []

-- "Create takes the buffer it makes, read and log take the store, every other call takes both; lines on a buffer not taken are skipped."
abbrev pub both_conditions : Bytes → Bytes → Call → List Condition
both_conditions store copy c = store_conditions store ++ (tail_conditions (side_in store copy) c ++ (copy_conditions store copy ++ conditions (side_in store copy) c))

abbrev pub store_only_conditions : Bytes → Call → List Condition
store_only_conditions store c = store_conditions store ++ (tail_conditions (store_side store) c ++ conditions (store_side store) c)

-- the number that refuses a call, if one does
unfoldable pub refusal_of : Bytes → Bytes → Call → Option ℕ
refusal_of store copy c = first_of (both_conditions store copy c)

unfoldable pub store_refusal : Bytes → Call → Option ℕ
store_refusal store c = first_of (store_only_conditions store c)

-- ---- the calls that change a buffer

-- the answer, and both buffers afterwards
pub record Out : Type 0 where
  pub says : Answer
  pub store : Bytes
  pub copy : Bytes

abbrev pub out : Answer → Bytes → Bytes → Out
out a s c = record { says = a; store = s; copy = c }

-- the store with the commit that a call asks for, if any
abbrev pub store_with : Bytes → List Commit → Bytes
store_with store [] = store
store_with store (c ∷ cs) = joined fields_of (with_commit (store_blocks store) c)

abbrev pub change_by : Option ℕ → Bytes → Bytes → Call → Out
change_by (some n) store copy c = out (refused n) store copy
change_by none store copy c =
    let r = doing (side_in store copy) c in
    out r.0 (store_with store (asked (side_in store copy) c)) (copy_bytes r.1.seat r.1.entries)

unfoldable pub change_call : Bytes → Bytes → Call → Out
change_call store copy c = change_by (refusal_of store copy c) store copy c

abbrev pub add_call : Bytes → Bytes → ℕ → Bytes → Out
add_call store copy i x = change_call store copy (Add i x)

abbrev pub edit_call : Bytes → Bytes → ℕ → Bytes → Out
edit_call store copy i x = change_call store copy (Edit i x)

abbrev pub delete_call : Bytes → Bytes → ℕ → Out
delete_call store copy i = change_call store copy (Delete i)

abbrev pub copy_call : Bytes → Bytes → ℕ → ℕ → Out
copy_call store copy s t = change_call store copy (Copy s t)

abbrev pub move_call : Bytes → Bytes → ℕ → ℕ → Out
move_call store copy s t = change_call store copy (Move s t)

abbrev pub commit_call : Bytes → Bytes → ℕ → ℕ → Out
commit_call store copy stamp mask = change_call store copy (Commits stamp mask)

abbrev pub update_call : Bytes → Bytes → ℕ → ℕ → Out
update_call store copy mask R = change_call store copy (Update mask R)

abbrev pub revert_call : Bytes → Bytes → ℕ → Out
revert_call store copy mask = change_call store copy (Revert mask)

-- ---- create

-- "A fresh store is the label and zero blocks, a fresh copy its seat and 32 empty entries"
abbrev pub fresh_store : ℕ → Bytes
fresh_store n = joined fields_of (label ∷ replicate (n - 1) blank)

abbrev pub fresh_copy : ℕ → Bytes
fresh_copy seat = copy_bytes seat (replicate 32 empty)

pub record Created : Type 0 where
  pub says : Answer
  pub buffer : Bytes

abbrev pub create_by : Option ℕ → Bytes → Bytes → Created
create_by (some n) old new = record { says = refused n; buffer = old }
create_by none old new = record { says = done; buffer = new }

-- "Create takes the buffer it makes": of a store, and of a working copy, where "a seat to create isn't 1 to 4" gives 7
abbrev pub create_copy_conditions : Bytes → ℕ → List Condition
create_copy_conditions copy seat = copy_size_condition copy ∷ 7 when not (leb 1 seat && leb seat 4) ∷ []

unfoldable pub create_store : Bytes → Created
create_store store = create_by (first_of (size_condition store ∷ [])) store (fresh_store (block_count store))

unfoldable pub create_copy : Bytes → ℕ → Created
create_copy copy seat = create_by (first_of (create_copy_conditions copy seat)) copy (fresh_copy seat)

-- ---- clearing, on the store alone

-- "A new call on the store alone clears the tail, writing zero blocks from its highest block down; without a tail it changes nothing."
unfoldable pub clear_call : Bytes → Created
clear_call store = create_by (store_refusal store Clears) store (bare_of store)

-- ---- commit and clearing, stopped after n block writes

-- "Commit writes its content blocks in rising order, then its commit block.": from block U on
abbrev pub commit_writes : Bytes → Bytes → ℕ → ℕ → List Block
commit_writes store copy stamp mask = new_blocks (front (store_blocks store)) (blanks (store_blocks store)) (new_commit (side_in store copy) stamp mask) []

-- the store with these blocks written
abbrev pub written_from : Bytes → List Block → Bytes
written_from store bs = written (512 * used_of store) (joined fields_of bs) store

-- "it stops after n block writes, the working copy untouched, and answers that it stopped; with n enough for all its writes it is the usual call"
abbrev pub stopped_by : Option ℕ → Bytes → Bytes → ℕ → ℕ → ℕ → Out
stopped_by (some r) store copy stamp mask n = out (refused r) store copy
stopped_by none store copy stamp mask n =
    let bs = commit_writes store copy stamp mask in
    cond (leb (length bs) n) (change_by none store copy (Commits stamp mask)) (out stopped (written_from store (take n bs)) copy)

unfoldable pub commit_cut_call : Bytes → Bytes → ℕ → ℕ → ℕ → Out
commit_cut_call store copy stamp mask n = stopped_by (refusal_of store copy (CommitsCut stamp mask n)) store copy stamp mask n

-- "writing zero blocks from its highest block down"
abbrev pub cleared_by : Option ℕ → Bytes → ℕ → Created
cleared_by (some r) store n = record { says = refused r; buffer = store }
cleared_by none store n =
    cond (leb (tail_of store) n) (record { says = done; buffer = bare_of store }) (record { says = stopped; buffer = blank_from (used_of store + tail_of store - n) store })

unfoldable pub clear_cut_call : Bytes → ℕ → Created
clear_cut_call store n = cleared_by (store_refusal store (ClearsCut n)) store n

-- ---- release, on the store alone: "its call takes all three and the store alone, as panel reading does"

-- the store with the mark that a call asks for, if any: in the place of the first zero block
abbrev pub store_marked : Bytes → List Mark → Bytes
store_marked store [] = store
store_marked store (m ∷ ms) = joined fields_of (with_mark (store_blocks store) m)

abbrev pub mark_by : Option ℕ → Bytes → Call → Created
mark_by (some n) store c = record { says = refused n; buffer = store }
mark_by none store c = record { says = (doing (store_side store) c).0; buffer = store_marked store (asked_mark (store_side store) c) }

unfoldable pub mark_call : Bytes → Call → Created
mark_call store c = mark_by (store_refusal store c) store c

abbrev pub release_call : Bytes → ℕ → ℕ → ℕ → Created
release_call store R seat stamp = mark_call store (Release R seat stamp)

-- ---- looking: no buffer changes

-- "answers the refusal, or buffer, place and length"; a place is a byte's number in that buffer. W3: of a part of the store also the last commit that names the sheet, up to the
-- revision that the part is of
pub data Place : Type 0 where
  no_place : ℕ → Place
  in_store : ℕ → ℕ → ℕ → Place
  in_copy : ℕ → ℕ → Place

-- W3's number at each: "the companions of read and of show from the store where they don't refuse"; else none, 0
abbrev pub number_at : Place → ℕ
number_at (no_place n) = 0
number_at (in_store p m n) = n
number_at (in_copy p m) = 0

abbrev pub place_by : Option ℕ → Place → Place
place_by (some n) p = no_place n
place_by none p = p

-- the bytes of a content block, from its byte 16, with W3's number n
abbrev pub block_place : Bytes → ℕ → ℕ → Place
block_place store p n = in_store (512 * p + 16) (length (bytes_at (store_blocks store) p)) n

-- "Finding a sheet in tree R": the block that it uses, and the last commit up to R that names it
abbrev pub found_place : Bytes → ℕ → ℕ → Place
found_place store R i = block_place store (block_used store R i) (namer (store_history store) R i)

-- "Read (R, i) hands back the sheet's bytes as a part of the store buffer .. an empty sheet shows the empty part at byte 16 of its block."
unfoldable pub read_place : Bytes → ℕ → ℕ → Place
read_place store R i = place_by (store_refusal store (Read R i)) (found_place store R i)

-- "A panel reading R gets what read, or its companion, gives at the greatest released revision up to R"
unfoldable pub panel_place : Bytes → ℕ → ℕ → Place
panel_place store R i = place_by (store_refusal store (Panel R i)) (found_place store (panel_revision (store_marks store) R) i)

-- "the seat's own bytes where the entry is normal, added or copied, otherwise the last revision's bytes from the store"
abbrev pub own_place : Option Bytes → ℕ → Place → Place
own_place none i p = p
own_place (some x) i p = in_copy (512 * (1 + i) + 16) (length x)

unfoldable pub show_place : Bytes → Bytes → ℕ → Place
show_place store copy i =
    place_by (refusal_of store copy (Show i))
    (own_place (own_bytes (entry (side_in store copy) i)) i (found_place store (last (store_history store)) i))

-- "A part carries no number: refused, either hands back the empty part at the store buffer's start": where the part starts, and its length
abbrev pub part_of : Place → ℕ × ℕ
part_of (no_place n) = (0, 0)
part_of (in_store p m n) = (p, m)
part_of (in_copy p m) = (p, m)

abbrev pub answer_by : Option ℕ → Answer → Answer
answer_by (some n) a = refused n
answer_by none a = a

unfoldable pub status_call : Bytes → Bytes → ℕ → Answer
status_call store copy i = answer_by (refusal_of store copy (Status i)) (doing (side_in store copy) (Status i)).0

unfoldable pub log_call : Bytes → ℕ → ℕ → Answer
log_call store R i = answer_by (store_refusal store (Log R i)) (doing (store_side store) (Log R i)).0

-- ---- any call, as the machine knows it: of read and show, the bytes that stand at the place, and W3's number

abbrev pub heard : Bytes → Bytes → Place → Answer
heard store copy (no_place n) = refused n
heard store copy (in_store p m n) = bytes (take m (drop p store)) (number_at (in_store p m n))
heard store copy (in_copy p m) = bytes (take m (drop p copy)) (number_at (in_copy p m))

-- read, heard: "takes the store"
abbrev pub read_call : Bytes → ℕ → ℕ → Answer
read_call store R i = heard store [] (read_place store R i)

abbrev pub panel_call : Bytes → ℕ → ℕ → Answer
panel_call store R i = heard store [] (panel_place store R i)

abbrev pub show_call : Bytes → Bytes → ℕ → Answer
show_call store copy i = heard store copy (show_place store copy i)

-- a call on the store alone leaves the copy
abbrev pub beside : Created → Bytes → Out
beside r copy = out r.says r.buffer copy

abbrev pub call : Bytes → Bytes → Call → Out
call store copy (Add i x) = add_call store copy i x
call store copy (Edit i x) = edit_call store copy i x
call store copy (Delete i) = delete_call store copy i
call store copy (Copy s t) = copy_call store copy s t
call store copy (Move s t) = move_call store copy s t
call store copy (Commits stamp mask) = commit_call store copy stamp mask
call store copy (Update mask R) = update_call store copy mask R
call store copy (Revert mask) = revert_call store copy mask
call store copy (Read R i) = out (read_call store R i) store copy
call store copy (Show i) = out (show_call store copy i) store copy
call store copy (Status i) = out (status_call store copy i) store copy
call store copy (Log R i) = out (log_call store R i) store copy
call store copy Clears = out (clear_call store).says (clear_call store).buffer copy
call store copy (CommitsCut stamp mask n) = commit_cut_call store copy stamp mask n
call store copy (ClearsCut n) = out (clear_cut_call store n).says (clear_cut_call store n).buffer copy
call store copy (Release R seat stamp) = beside (release_call store R seat stamp) copy
call store copy (Panel R i) = out (panel_call store R i) store copy

-- the conditions of a call in the document's order, on the buffers that it takes
abbrev pub conditions_in : Bytes → Bytes → Call → List Condition
conditions_in store copy (Add i x) = both_conditions store copy (Add i x)
conditions_in store copy (Edit i x) = both_conditions store copy (Edit i x)
conditions_in store copy (Delete i) = both_conditions store copy (Delete i)
conditions_in store copy (Copy s t) = both_conditions store copy (Copy s t)
conditions_in store copy (Move s t) = both_conditions store copy (Move s t)
conditions_in store copy (Commits stamp mask) = both_conditions store copy (Commits stamp mask)
conditions_in store copy (Update mask R) = both_conditions store copy (Update mask R)
conditions_in store copy (Revert mask) = both_conditions store copy (Revert mask)
conditions_in store copy (Read R i) = store_only_conditions store (Read R i)
conditions_in store copy (Show i) = both_conditions store copy (Show i)
conditions_in store copy (Status i) = both_conditions store copy (Status i)
conditions_in store copy (Log R i) = store_only_conditions store (Log R i)
conditions_in store copy Clears = store_only_conditions store Clears
conditions_in store copy (CommitsCut stamp mask n) = both_conditions store copy (CommitsCut stamp mask n)
conditions_in store copy (ClearsCut n) = store_only_conditions store (ClearsCut n)
conditions_in store copy (Release R seat stamp) = store_only_conditions store (Release R seat stamp)
conditions_in store copy (Panel R i) = store_only_conditions store (Panel R i)

-- ---- a list of calls on one store and four working copies, each on what the one before left

pub record Buffers : Type 0 where
  pub store : Bytes
  pub copies : List Bytes

-- the caller lends the store and the copy of the seat
abbrev pub turn_on : Buffers → Turn → Out
turn_on b t = call b.store (get_or b.copies (t.by - 1) []) t.call

abbrev pub after_turn : Buffers → Turn → Buffers
after_turn b t = record { store = (turn_on b t).store; copies = set b.copies (t.by - 1) (turn_on b t).copy }

abbrev pub run_on : Buffers → List Turn → Buffers
run_on b [] = b
run_on b (t ∷ ts) = run_on (after_turn b t) ts

abbrev pub answers_on : Buffers → List Turn → List Answer
answers_on b [] = []
answers_on b (t ∷ ts) = (turn_on b t).says ∷ answers_on (after_turn b t) ts

-- as create makes them
abbrev pub fresh_buffers : ℕ → Buffers
fresh_buffers n = record { store = fresh_store n; copies = fresh_copy 1 ∷ fresh_copy 2 ∷ fresh_copy 3 ∷ fresh_copy 4 ∷ [] }
