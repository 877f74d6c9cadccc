-- What holds of the machine whatever calls were made: the history is sound, every entry of every seat fits, and U is more than the last revision and never passes N.
-- Assumes nothing.
use Rattle.std.specs.Prelude.{◌<◌, ◌^◌, ◌≤◌, ℕ, false, true, [], ◌≡◌, get_or, length, take}
use Rattle.block.specs.Lists.{All}
use Rattle.model.specs.Entry.{Entry, added, copied, deleted, empty, normal}
use Rattle.model.specs.History.{Bytes, Change, Commit, History, add, change, change_of, copy, delete, last, newest, no_commit, nothing, present, sheet}
use Rattle.model.specs.Log.{Log, Mark, Marked, Placed, commits, marks, released}
use Rattle.model.specs.Machine.{State, count}
use Rattle.model.specs.Rows.{total}

-- ---- entries that fit, with the limits of the layout

pub record Base (h : History) (b i : ℕ) : Type 0 where
  pub low : 1 ≤ b
  pub high : b ≤ last h
  pub there : present (sheet h b i) ≡ true

-- "A sheet is 0 to 480 bytes"
pub record Short (x : Bytes) : Type 0 where
  pub size : length x ≤ 480
  pub bytes : All (λ (y : ℕ). y < 256) x

abbrev pub FitsAt : History → ℕ → Entry → Type 0
FitsAt h i empty = Unit {0}
FitsAt h i (normal b x) = Base h b i × Short x
FitsAt h i (added x) = Short x
FitsAt h i (deleted b) = Base h b i
FitsAt h i (copied s r x) = (s ≤ 31) × Base h r s × Short x

-- ---- sound histories

-- "Add and copy need the sheet absent in tree R−1, change and delete need it present. .. Copy has a source revision 1 to R−1 whose tree has the source sheet":
-- of a change to sheet i, made on the history h
abbrev pub Right : History → ℕ → Change → Type 0
Right h i nothing = Unit {0}
Right h i (add x) = (present (newest h i) ≡ false) × Short x
Right h i (change x) = (present (newest h i) ≡ true) × Short x
Right h i delete = present (newest h i) ≡ true
Right h i (copy s r x) = (present (newest h i) ≡ false) × (s ≤ 31) × Base h r s × Short x

-- a commit on a history: "for each of 1 to 32 sheets one change"
pub record Made (h : History) (c : Commit) : Type 0 where
  pub low : 1 ≤ c.seat
  pub high : c.seat ≤ 4
  pub stamp : c.stamp < 2 ^ 32
  pub wide : length c.changes ≡ 32
  pub some : 1 ≤ total count c.changes
  pub right : (i : ℕ) → Right h i (change_of c i)

-- every commit is right on the commits before it
abbrev pub Sound : History → Type 0
Sound h = (r : ℕ) → r < length h → Made (take r h) (get_or h r no_commit)

-- a mark that is right after revision n: "It names a revision from 1 to the last before it"; seats are 1 to 4, and a stamp has 32 bits
abbrev pub MadeMark : ℕ → Mark → Type 0
MadeMark n (released R seat stamp) = (1 ≤ R) × (R ≤ n) × (1 ≤ seat) × (seat ≤ 4) × (stamp < 2 ^ 32)

-- a log whose commits are sound, each of whose marks is right at its place, and whose marks go together
pub record SoundLog (g : Log) : Type 0 where
  pub sound : Sound (commits g)
  pub each : All (λ (p : Placed). MadeMark p.after p.mark) (marks g)
  pub together : Marked (marks g)

-- ---- what every step keeps

pub record Kept (s : State) : Type 0 where
  pub sound : Sound s.history
  pub fits : (k i : ℕ) → FitsAt s.history i (get_or (get_or s.seats k []) i empty)
  pub four : length s.seats ≡ 4
  pub wide : (k : ℕ) → k < 4 → length (get_or s.seats k []) ≡ 32
  -- all that is wanted of U: revisions fit two bytes
  pub used : last s.history < s.used
  pub room : s.used ≤ s.blocks
