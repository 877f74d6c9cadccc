-- The machine of document 01: its state, its calls, and what each call does where it is not refused. Nothing here speaks of bytes in buffers.
-- When a call is refused is in Refusals, and a list of calls in Run. Every definition computes.
-- Assumes nothing.
use Rattle.std.specs.Prelude.{◌%◌, ◌+◌, ◌-◌, ◌/◌, ◌^◌, suc, ℕ, Bool, cond, List, [], ◌++◌, ◌∷◌, eqb, leb, get_or, replicate, set}
use Rattle.std.proofs.Math.Option.{Option, none, some}
use Rattle.model.specs.Entry.{Entry, added, change_for, copied, deleted, empty, modified, normal, own_bytes}
use Rattle.model.specs.History.{Bytes, Change, Commit, History, add, change, change_of, commit_at, copy, delete, is_bytes, last, named_after, namer, names, newest, nothing, present, sheet}
use Rattle.model.specs.Log.{Mark, Placed, panel_revision, released}
use Rattle.model.specs.Rows.{rows, total}

-- "the store's block count N; used blocks U, 1 when fresh; the history, a list of commits, empty when fresh; for each seat 32 entries"; and the number of blocks in the
-- store's tail, which are none of the U; and the marks, which follow the commits
pub record State : Type 0 where
  pub blocks : ℕ
  pub used : ℕ
  pub tail : ℕ
  pub history : History
  pub marks : List Placed
  pub seats : List (List Entry)

-- what a call of one seat sees and changes: the store, and that seat's own entries
pub record Side : Type 0 where
  pub seat : ℕ
  pub blocks : ℕ
  pub used : ℕ
  pub tail : ℕ
  pub history : History
  pub marks : List Placed
  pub entries : List Entry

-- the calls with their arguments: sheet and bytes; from and to; stamp and mask; mask and revision; revision and sheet. `Clears` clears the tail. `CommitsCut` (stamp, mask, n)
-- and `ClearsCut` (n) stop after n block writes. `Release` (revision, seat, stamp) releases, and `Panel` (revision, sheet) is a panel's reading
pub data Call : Type 0 where
  Add Edit : ℕ → Bytes → Call
  Delete : ℕ → Call
  Copy Move : ℕ → ℕ → Call
  Commits : ℕ → ℕ → Call
  Update : ℕ → ℕ → Call
  Revert : ℕ → Call
  Read : ℕ → ℕ → Call
  Show Status : ℕ → Call
  Log : ℕ → ℕ → Call
  Clears : Call
  CommitsCut : ℕ → ℕ → ℕ → Call
  ClearsCut : ℕ → Call
  Release : ℕ → ℕ → ℕ → Call
  Panel : ℕ → ℕ → Call

-- what a call answers: the number of a refusal; that it is done; that it stopped (W6); a commit's revision; a sheet's bytes, and a status, each with the last commit that names the
-- sheet (W3); seat, stamp, m, action, source sheet and source revision of a commit
pub data Answer : Type 0 where
  refused : ℕ → Answer
  done : Answer
  stopped : Answer
  revision : ℕ → Answer
  bytes : Bytes → ℕ → Answer
  status : ℕ → ℕ → Answer
  logged : ℕ → ℕ → ℕ → ℕ → ℕ → ℕ → Answer

-- the number, of an answer that is a refusal
abbrev pub refusal : Answer → Option ℕ
refusal (refused n) = some n
refusal done = none
refusal stopped = none
refusal (revision R) = none
refusal (bytes x n) = none
refusal (status s n) = none
refusal (logged seat stamp m a i R) = none

-- "used blocks U, 1 when fresh; the history .. empty when fresh; .. Fresh entries are empty."
abbrev pub fresh : ℕ → State
fresh n = record { blocks = n; used = 1; tail = 0; history = []; marks = []; seats = replicate 4 (replicate 32 empty) }

-- the side of seat k, and a state with the side of seat k put back
abbrev pub side_of : State → ℕ → Side
side_of s k = record { seat = k; blocks = s.blocks; used = s.used; tail = s.tail; history = s.history; marks = s.marks; entries = get_or s.seats (k - 1) [] }

abbrev pub put : State → ℕ → Side → State
put s k d = record { blocks = d.blocks; used = d.used; tail = d.tail; history = d.history; marks = d.marks; seats = set s.seats (k - 1) d.entries }

abbrev pub entry : Side → ℕ → Entry
entry d i = get_or d.entries i empty

abbrev pub with_entries : Side → List Entry → Side
with_entries d es = record { seat = d.seat; blocks = d.blocks; used = d.used; tail = d.tail; history = d.history; marks = d.marks; entries = es }

abbrev pub with_tail : Side → ℕ → Side
with_tail d t = record { seat = d.seat; blocks = d.blocks; used = d.used; tail = t; history = d.history; marks = d.marks; entries = d.entries }

abbrev pub with_entry : Side → ℕ → Entry → Side
with_entry d i e = with_entries d (set d.entries i e)

-- "bit i choosing sheet i"
abbrev pub chosen : ℕ → ℕ → Bool
chosen mask i = eqb (mask / 2 ^ i % 2) 1

-- "Edit: bytes replaced in normal, added or copied"
abbrev pub edited : Bytes → Entry → Entry
edited y empty = empty
edited y (normal b x) = normal b y
edited y (added x) = added y
edited y (deleted b) = deleted b
edited y (copied s r x) = copied s r y

-- "Delete: normal becomes deleted, added and copied become empty"
abbrev pub removed : Entry → Entry
removed empty = empty
removed (normal b x) = deleted b
removed (added x) = empty
removed (deleted b) = deleted b
removed (copied s r x) = empty

-- "Copy from s to t": what t becomes
abbrev pub copy_of : ℕ → Entry → Entry
copy_of s empty = empty
copy_of s (normal b x) = copied s b x
copy_of s (added x) = added x
copy_of s (deleted b) = empty
copy_of s (copied s' r x) = copied s' r x

-- "Its changes are the chosen pending entries"
abbrev pub commit_changes : History → ℕ → List Entry → List Change
commit_changes h mask es = rows (λ i e. cond (chosen mask i) (change_for h i e) nothing) 0 es

-- how many changes
abbrev pub count : Change → ℕ
count a = cond (names a) 1 0

-- "adds, changes, and copies whose bytes differ from the source's at the source revision"
abbrev pub content_of : History → Change → ℕ
content_of h nothing = 0
content_of h (add x) = 1
content_of h (change x) = 1
content_of h delete = 0
content_of h (copy s r x) = cond (is_bytes x (sheet h r s)) 0 1

-- k + 1, for the blocks of a commit with these changes
abbrev pub blocks_for : History → List Change → ℕ
blocks_for h cs = total (content_of h) cs + 1

-- "Named entries become normal with the new revision as base, deleted ones empty. Others stay."
abbrev pub settled : ℕ → Change → Entry → Entry
settled R nothing e = e
settled R (add x) e = normal R x
settled R (change x) e = normal R x
settled R delete e = empty
settled R (copy s r x) e = normal R x

abbrev pub committed : History → ℕ → List Entry → List Entry
committed h mask es = rows (λ i e. cond (chosen mask i) (settled (suc (last h)) (change_for h i e) e) e) 0 es

abbrev pub new_commit : Side → ℕ → ℕ → Commit
new_commit d stamp mask = record { seat = d.seat; stamp = stamp; changes = commit_changes d.history mask d.entries }

-- "U grows by k + 1"; the commit "joins the end of the history"
abbrev pub committing : Side → ℕ → ℕ → Side
committing d stamp mask = record {
  seat = d.seat;
  blocks = d.blocks;
  used = d.used + blocks_for d.history (commit_changes d.history mask d.entries);
  tail = d.tail;
  history = d.history ++ (new_commit d stamp mask ∷ []);
  marks = d.marks;
  entries = committed d.history mask d.entries;
}

-- "normal with base R and tree R's bytes, or empty if tree R lacks the sheet"
abbrev pub as_in : ℕ → Option Bytes → Entry
as_in R none = empty
as_in R (some x) = normal R x

-- "the last commit naming the sheet up to R is the one up to b"
abbrev pub same_namer : History → ℕ → ℕ → ℕ → Bool
same_namer h i R b = eqb (namer h R i) (namer h b i)

-- W2: "An update to R takes a chosen modified, added or copied entry whose bytes equal tree R's as normal with base R." Here x are the entry's bytes, and t is what tree R has of its
-- own sheet. "Every other chosen entry is a conflict."
abbrev pub agreed : ℕ → Bytes → Option Bytes → Option Entry
agreed R x t = cond (is_bytes x t) (some (normal R x)) none

-- what update makes of a chosen entry, or nothing where it is a conflict
abbrev pub updated_to : History → ℕ → ℕ → Entry → Option Entry
updated_to h R i empty = some (as_in R (sheet h R i))
updated_to h R i (normal b x) =
    cond (modified h i b x)
    (cond (same_namer h i R b) (some (normal R x)) (agreed R x (sheet h R i)))
    (some (as_in R (sheet h R i)))
updated_to h R i (added x) = cond (present (sheet h R i)) (agreed R x (sheet h R i)) (some (added x))
updated_to h R i (deleted b) = cond (same_namer h i R b) (some (deleted R)) none
updated_to h R i (copied s r x) = cond (present (sheet h R i)) (agreed R x (sheet h R i)) (some (copied s r x))

abbrev pub or_else : Option Entry → Entry → Entry
or_else none e = e
or_else (some e') e = e'

abbrev pub updated : History → ℕ → ℕ → List Entry → List Entry
updated h mask R es = rows (λ i e. cond (chosen mask i) (or_else (updated_to h R i e) e) e) 0 es

-- "normal and deleted become normal with base b and tree b's bytes; added and copied become empty"
abbrev pub reverted_of : History → ℕ → Entry → Entry
reverted_of h i empty = empty
reverted_of h i (normal b x) = as_in b (sheet h b i)
reverted_of h i (added x) = empty
reverted_of h i (deleted b) = as_in b (sheet h b i)
reverted_of h i (copied s r x) = empty

abbrev pub reverted : History → ℕ → List Entry → List Entry
reverted h mask es = rows (λ i e. cond (chosen mask i) (reverted_of h i e) e) 0 es

-- "empty gives 0, or 8 if the last tree has the sheet; normal gives 1 up to date, 2 modified, 3 needs patch, 4 needs merge ..; added 5, deleted 6, copied 7"
abbrev pub status_of : History → ℕ → Entry → ℕ
status_of h i empty = cond (present (newest h i)) 8 0
status_of h i (normal b x) =
    cond (named_after h b i)
    (cond (modified h i b x) 4 3)
    (cond (modified h i b x) 2 1)
status_of h i (added x) = 5
status_of h i (deleted b) = 6
status_of h i (copied s r x) = 7

-- the bytes shown: the seat's own, "otherwise the last revision's"
abbrev pub shown : Option Bytes → Option Bytes → Option Bytes
shown none x = x
shown (some y) x = some y

-- W3's number beside them: "the companions of read and of show from the store"; the seat's own bytes have none, 0
abbrev pub shown_namer : Option Bytes → ℕ → ℕ
shown_namer none n = n
shown_namer (some y) n = 0

-- what was found, with W3's number: "where they don't refuse"
abbrev pub as_bytes : ℕ → Option Bytes → Answer
as_bytes n none = refused 8
as_bytes n (some x) = bytes x n

-- "add (1), change (2), delete (3), copy (4)", 0 for nothing
abbrev pub number : Change → ℕ
number nothing = 0
number (add x) = 1
number (change x) = 2
number delete = 3
number (copy s r x) = 4

-- the source sheet and the source revision of a copy, else zeros
abbrev pub source : Change → ℕ × ℕ
source nothing = (0, 0)
source (add x) = (0, 0)
source (change x) = (0, 0)
source delete = (0, 0)
source (copy s r x) = (s, r)

-- "seat, stamp and m of R, and what R did to sheet i (action, source, or nothing)"
abbrev pub log_of : Commit → ℕ → Answer
log_of c i = logged c.seat c.stamp (total count c.changes) (number (change_of c i)) (source (change_of c i)).0 (source (change_of c i)).1

-- a mark "isn't a revision itself"; "its one block, by which U grows"
abbrev pub marking : Side → Mark → Side
marking d m = record {
  seat = d.seat;
  blocks = d.blocks;
  used = d.used + 1;
  tail = d.tail;
  history = d.history;
  marks = d.marks ++ (record { after = last d.history; mark = m } ∷ []);
  entries = d.entries;
}

-- "A panel reading R gets what read .. gives at the greatest released revision up to R"; 0 where there is none, and tree 0 has no sheet
abbrev pub panel_sheet : Side → ℕ → ℕ → Option Bytes
panel_sheet d R i = sheet d.history (panel_revision d.marks R) i

-- W3: read gives the number at its R, a panel's reading at the revision that it reads, show from the store and status that of the last tree.
-- W6: "it stops after n block writes, the working copy untouched, and answers that it stopped; with n enough for all its writes it is the usual call": a commit has k + 1 writes,
-- clearing one for each block of the tail
abbrev pub doing : Side → Call → Answer × Side
doing d (Add i x) = (done, with_entry d i (added x))
doing d (Edit i x) = (done, with_entry d i (edited x (entry d i)))
doing d (Delete i) = (done, with_entry d i (removed (entry d i)))
doing d (Copy i j) = (done, with_entry d j (copy_of i (entry d i)))
doing d (Move i j) = (done, with_entries d (set (set d.entries j (copy_of i (entry d i))) i (removed (entry d i))))
doing d (Commits stamp mask) = (revision (suc (last d.history)), committing d stamp mask)
doing d (Update mask R) = (done, with_entries d (updated d.history mask R d.entries))
doing d (Revert mask) = (done, with_entries d (reverted d.history mask d.entries))
doing d (Read R i) = (as_bytes (namer d.history R i) (sheet d.history R i), d)
doing d (Show i) =
    (as_bytes (shown_namer (own_bytes (entry d i)) (namer d.history (last d.history) i)) (shown (own_bytes (entry d i)) (newest d.history i)), d)
doing d (Status i) = (status (status_of d.history i (entry d i)) (namer d.history (last d.history) i), d)
doing d (Log R i) = (log_of (commit_at d.history R) i, d)
doing d Clears = (done, with_tail d 0)
doing d (CommitsCut stamp mask n) =
    cond (leb (blocks_for d.history (commit_changes d.history mask d.entries)) n) (revision (suc (last d.history)), committing d stamp mask) (stopped, with_tail d n)
doing d (ClearsCut n) = cond (leb d.tail n) (done, with_tail d 0) (stopped, with_tail d (d.tail - n))
doing d (Release R seat stamp) = (done, marking d (released R seat stamp))
doing d (Panel R i) = (as_bytes (namer d.history (panel_revision d.marks R) i) (panel_sheet d R i), d)
