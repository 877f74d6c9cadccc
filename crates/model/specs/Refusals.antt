-- "When the engine says no", the lines numbered 7 to 14 and 16: for each call its conditions, in the document's order, and the first that holds.
-- Assumes nothing.
use Rattle.std.specs.Prelude.{◌+◌, ℕ, Bool, ◌&&◌, ◌||◌, cond, false, not, true, List, [], ◌∷◌, ◌⊎◌, ◌≡◌, eqb, leb, ltb, length}
use Rattle.std.proofs.Math.Option.{Option, none, some}
use Rattle.model.specs.Entry.{Entry, added, copied, deleted, empty, is_empty, modified, normal, own_bytes, pending}
use Rattle.model.specs.History.{History, last, named_after, newest, present, sheet}
use Rattle.model.specs.Log.{among, releases}
use Rattle.model.specs.Machine.{Add, Call, Clears, ClearsCut, Commits, CommitsCut, Copy, Delete, Edit, Log, Move, Panel, Read, Release, Revert, Show, Side, Status, Update, blocks_for, chosen, commit_changes, entry, panel_sheet, shown, updated_to}
use Rattle.model.specs.Rows.{some-row}

infix 70 ◌when◌
-- a line of the list: its number, and whether its condition holds
pub record Condition : Type 0 where
  pub number : ℕ
  pub holds : Bool

abbrev pub ◌when◌ : ℕ → Bool → Condition
n when b = record { number = n; holds = b }

-- "a revision exceeds the last"
abbrev pub too_late : History → ℕ → Bool
too_late h R = ltb (last h) R

-- "a sheet number exceeds 31"
abbrev pub no_sheet : ℕ → Bool
no_sheet i = ltb 31 i

-- "edit, delete, copy or move from an empty or deleted entry"
abbrev pub nothing_in : Entry → Bool
nothing_in e = not (present (own_bytes e))

-- "a modified or deleted entry whose sheet a commit after b names, or an added or copied one that the last tree has"
abbrev pub out_of_date : History → ℕ → Entry → Bool
out_of_date h i empty = false
out_of_date h i (normal b x) = modified h i b x && named_after h b i
out_of_date h i (added x) = present (newest h i)
out_of_date h i (deleted b) = named_after h b i
out_of_date h i (copied s r x) = present (newest h i)

-- "Every other chosen entry is a conflict.": one that update makes nothing of
abbrev pub lacking : Option Entry → Bool
lacking none = true
lacking (some e) = false

abbrev pub conflict : History → ℕ → ℕ → Entry → Bool
conflict h R i e = lacking (updated_to h R i e)

-- "No chosen entry is pending at commit."
abbrev pub nothing_chosen : Side → ℕ → Bool
nothing_chosen d mask = not (some-row (λ i e. chosen mask i && pending d.history i e) 0 d.entries)

-- "Out of date: a chosen modified or deleted entry whose sheet a commit after b names, or a chosen added or copied one that the last tree has."
abbrev pub some_stale : Side → ℕ → Bool
some_stale d mask = some-row (λ i e. chosen mask i && out_of_date d.history i e) 0 d.entries

-- "Update meets a conflict."
abbrev pub some_conflict : Side → ℕ → ℕ → Bool
some_conflict d mask R = some-row (λ i e. chosen mask i && conflict d.history R i e) 0 d.entries

-- "U + k + 1 exceeds N."
abbrev pub no_room : Side → ℕ → Bool
no_room d mask = ltb d.blocks (d.used + blocks_for d.history (commit_changes d.history mask d.entries))

-- of a commit, whether it stops after n writes or not (W6)
abbrev pub commit_conditions : Side → ℕ → List Condition
commit_conditions d mask = 7 when eqb mask 0 ∷ 10 when nothing_chosen d mask ∷ 11 when some_stale d mask ∷ 13 when no_room d mask ∷ []

-- "7 covers 0 and a seat outside 1 to 4"
abbrev pub no_seat : ℕ → Bool
no_seat k = not (leb 1 k && leb k 4)

-- "Refusal 13 covers its one block": U + 1 exceeds N
abbrev pub full : Side → Bool
full d = ltb d.blocks (d.used + 1)

-- the lines that speak of a call, in the document's order: "a sheet number exceeds 31, bytes exceed 480, a mask is zero, or a revision exceeds the last (for log: or is 0)" (7);
-- "edit, delete, copy or move from an empty or deleted entry; read of a sheet that tree R lacks; show of an empty or deleted entry whose sheet the last tree lacks" (8);
-- "The entry to add, or the target of copy or move, isn't empty" (9); "16, a release of a revision already released, checked after 7"; panel reading gives "refusal 8 if
-- there is none"
abbrev pub conditions : Side → Call → List Condition
conditions d (Add i x) = 7 when (no_sheet i || ltb 480 (length x)) ∷ 9 when not (is_empty (entry d i)) ∷ []
conditions d (Edit i x) = 7 when (no_sheet i || ltb 480 (length x)) ∷ 8 when nothing_in (entry d i) ∷ []
conditions d (Delete i) = 7 when no_sheet i ∷ 8 when nothing_in (entry d i) ∷ []
conditions d (Copy i j) = 7 when (no_sheet i || no_sheet j) ∷ 8 when nothing_in (entry d i) ∷ 9 when not (is_empty (entry d j)) ∷ []
conditions d (Move i j) = 7 when (no_sheet i || no_sheet j) ∷ 8 when nothing_in (entry d i) ∷ 9 when not (is_empty (entry d j)) ∷ []
conditions d (Commits stamp mask) = commit_conditions d mask
conditions d (Update mask R) = 7 when (eqb mask 0 || too_late d.history R) ∷ 12 when some_conflict d mask R ∷ []
conditions d (Revert mask) = 7 when eqb mask 0 ∷ []
conditions d (Read R i) = 7 when (no_sheet i || too_late d.history R) ∷ 8 when not (present (sheet d.history R i)) ∷ []
conditions d (Show i) = 7 when no_sheet i ∷ 8 when not (present (shown (own_bytes (entry d i)) (newest d.history i))) ∷ []
conditions d (Status i) = 7 when no_sheet i ∷ []
conditions d (Log R i) = 7 when (no_sheet i || (eqb R 0 || too_late d.history R)) ∷ []
conditions d Clears = []
conditions d (CommitsCut stamp mask n) = commit_conditions d mask
conditions d (ClearsCut n) = []
conditions d (Release R seat stamp) =
    7 when (no_seat seat || (eqb R 0 || too_late d.history R)) ∷ 16 when among R (releases d.marks) ∷ 13 when full d ∷ []
conditions d (Panel R i) = 7 when (no_sheet i || too_late d.history R) ∷ 8 when not (present (panel_sheet d R i)) ∷ []

-- "14, commit on a store that has a tail, checked right after 3", and a release: "14 a store with a tail"
abbrev pub tail_conditions : Side → Call → List Condition
tail_conditions d (Add i x) = []
tail_conditions d (Edit i x) = []
tail_conditions d (Delete i) = []
tail_conditions d (Copy i j) = []
tail_conditions d (Move i j) = []
tail_conditions d (Commits stamp mask) = 14 when not (eqb d.tail 0) ∷ []
tail_conditions d (Update mask R) = []
tail_conditions d (Revert mask) = []
tail_conditions d (Read R i) = []
tail_conditions d (Show i) = []
tail_conditions d (Status i) = []
tail_conditions d (Log R i) = []
tail_conditions d Clears = []
tail_conditions d (CommitsCut stamp mask n) = 14 when not (eqb d.tail 0) ∷ []
tail_conditions d (ClearsCut n) = []
tail_conditions d (Release R seat stamp) = 14 when not (eqb d.tail 0) ∷ []
tail_conditions d (Panel R i) = []

-- the number of the first line that holds
abbrev pub first_of : List Condition → Option ℕ
first_of [] = none
first_of (l ∷ ls) = let later = first_of ls in cond l.holds (some l.number) later

-- "its condition is the first in the order that holds": of number n
abbrev pub First : List Condition → ℕ → Type 0
First [] n = ⊥
First (c ∷ cs) n = ((c.holds ≡ true) × (c.number ≡ n)) ⊎ ((c.holds ≡ false) × First cs n)

-- no condition holds
abbrev pub Clear : List Condition → Type 0
Clear [] = Unit {0}
Clear (c ∷ cs) = (c.holds ≡ false) × Clear cs
