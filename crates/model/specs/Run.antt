-- A step of the machine, a list of calls, and the commits that were accepted.
-- Assumes nothing.
use Rattle.std.specs.Prelude.{◌<◌, ◌^◌, ◌≤◌, ℕ, Bool, cond, false, true, List, [], ◌++◌, ◌∷◌, map}
use Rattle.std.proofs.Math.Option.{Option, none, some}
use Rattle.block.specs.Lists.{All}
use Rattle.model.specs.History.{Commit, last}
use Rattle.model.specs.Log.{Log as TheLog, Mark, Placed, a_commit, a_mark, released}
use Rattle.model.specs.Machine.{Add, Answer, Call, Clears, ClearsCut, Commits, CommitsCut, Copy, Delete, Edit, Log, Move, Panel, Read, Release, Revert, Show, Side, State, Status, Update, bytes, doing, done, logged, new_commit, put, refused, revision, side_of, status, stopped}
use Rattle.model.specs.Refusals.{Condition, conditions, first_of, tail_conditions}

-- the lines that are the machine's own, in the document's order
abbrev pub own_conditions : Side → Call → List Condition
own_conditions d c = tail_conditions d c ++ conditions d c

-- one seat's side of a step
abbrev pub side_by : Option ℕ → Side → Call → Answer × Side
side_by (some n) d c = (refused n, d)
side_by none d c = doing d c

abbrev pub side_step : Side → Call → Answer × Side
side_step d c = side_by (first_of (own_conditions d c)) d c

-- "A call that a refusal numbered 7 or higher names answers that number and leaves the state; every other call is done, and a commit answers its revision"
abbrev pub step_by : Option ℕ → State → ℕ → Call → Answer × State
step_by (some n) s k c = (refused n, s)
step_by none s k c = let r = doing (side_of s k) c in (r.0, put s k r.1)

abbrev pub step : State → ℕ → Call → Answer × State
step s k c = step_by (first_of (own_conditions (side_of s k) c)) s k c

-- a call with its seat
pub record Turn : Type 0 where
  pub by : ℕ
  pub call : Call

-- "given the list's calls in order: seat, kind and arguments"
abbrev pub run : State → List Turn → State
run s [] = s
run s (t ∷ ts) = run (step s t.by t.call).1 ts

abbrev pub answers : State → List Turn → List Answer
answers s [] = []
answers s (t ∷ ts) = (step s t.by t.call).0 ∷ answers (step s t.by t.call).1 ts

-- the commit that a call asks for
abbrev pub asked : Side → Call → List Commit
asked d (Add i x) = []
asked d (Edit i x) = []
asked d (Delete i) = []
asked d (Copy i j) = []
asked d (Move i j) = []
asked d (Commits stamp mask) = new_commit d stamp mask ∷ []
asked d (Update mask R) = []
asked d (Revert mask) = []
asked d (Read R i) = []
asked d (Show i) = []
asked d (Status i) = []
asked d (Log R i) = []
asked d Clears = []
asked d (CommitsCut stamp mask n) = new_commit d stamp mask ∷ []
asked d (ClearsCut n) = []
asked d (Release R seat stamp) = []
asked d (Panel R i) = []

-- the mark that a call asks for
abbrev pub asked_mark : Side → Call → List Mark
asked_mark d (Add i x) = []
asked_mark d (Edit i x) = []
asked_mark d (Delete i) = []
asked_mark d (Copy i j) = []
asked_mark d (Move i j) = []
asked_mark d (Commits stamp mask) = []
asked_mark d (Update mask R) = []
asked_mark d (Revert mask) = []
asked_mark d (Read R i) = []
asked_mark d (Show i) = []
asked_mark d (Status i) = []
asked_mark d (Log R i) = []
asked_mark d Clears = []
asked_mark d (CommitsCut stamp mask n) = []
asked_mark d (ClearsCut n) = []
asked_mark d (Release R seat stamp) = released R seat stamp ∷ []
asked_mark d (Panel R i) = []

abbrev pub is_revision : Answer → Bool
is_revision (refused n) = false
is_revision done = false
is_revision stopped = false
is_revision (revision R) = true
is_revision (bytes x n) = false
is_revision (status s n) = false
is_revision (logged seat stamp m a i R) = false

abbrev pub is_refused : Answer → Bool
is_refused (refused n) = true
is_refused done = false
is_refused stopped = false
is_refused (revision R) = false
is_refused (bytes x n) = false
is_refused (status s n) = false
is_refused (logged seat stamp m a i R) = false

-- "An accepted commit is one that the machine answers with a revision": those of a list of calls, the first one first
abbrev pub accepted : State → List Turn → List Commit
accepted s [] = []
accepted s (t ∷ ts) =
    cond (is_revision (step s t.by t.call).0) (asked (side_of s t.by) t.call) []
    ++ accepted (step s t.by t.call).1 ts

abbrev pub placed_at : ℕ → List Mark → List Placed
placed_at n [] = []
placed_at n (m ∷ ms) = record { after = n; mark = m } ∷ placed_at n ms

-- the marks of a list of calls that were made, each after the last revision then
abbrev pub accepted_marks : State → List Turn → List Placed
accepted_marks s [] = []
accepted_marks s (t ∷ ts) =
    cond (is_refused (step s t.by t.call).0) [] (placed_at (last s.history) (asked_mark (side_of s t.by) t.call))
    ++ accepted_marks (step s t.by t.call).1 ts

-- what a call adds to the log, where it asked for these and was answered so: a commit that is answered with a revision, a mark that is not refused
abbrev pub items_by : Answer → List Commit → List Mark → TheLog
items_by a cs ms = cond (is_revision a) (map a_commit cs) [] ++ cond (is_refused a) [] (map a_mark ms)

-- "a history includes its releases and their places": the accepted commits and the releases of a list of calls in their common order. Its commits are `accepted`, its marks
-- `accepted_marks`: laws/proofs/Lasting
abbrev pub accepted_log : State → List Turn → TheLog
accepted_log s [] = []
accepted_log s (t ∷ ts) =
    items_by (step s t.by t.call).0 (asked (side_of s t.by) t.call) (asked_mark (side_of s t.by) t.call) ++ accepted_log (step s t.by t.call).1 ts

-- ---- the lists that a caller can give: bytes are below 256, a stamp has 32 bits, and the seat is one of four

abbrev pub Typed : Call → Type 0
Typed (Add i x) = All (λ (y : ℕ). y < 256) x
Typed (Edit i x) = All (λ (y : ℕ). y < 256) x
Typed (Delete i) = Unit {0}
Typed (Copy i j) = Unit {0}
Typed (Move i j) = Unit {0}
Typed (Commits stamp mask) = stamp < 2 ^ 32
Typed (Update mask R) = Unit {0}
Typed (Revert mask) = Unit {0}
Typed (Read R i) = Unit {0}
Typed (Show i) = Unit {0}
Typed (Status i) = Unit {0}
Typed (Log R i) = Unit {0}
Typed Clears = Unit {0}
Typed (CommitsCut stamp mask n) = stamp < 2 ^ 32
Typed (ClearsCut n) = Unit {0}
Typed (Release R seat stamp) = stamp < 2 ^ 32
Typed (Panel R i) = Unit {0}

pub record Valid (t : Turn) : Type 0 where
  pub low : 1 ≤ t.by
  pub high : t.by ≤ 4
  pub typed : Typed t.call

abbrev pub AllValid : List Turn → Type 0
AllValid [] = Unit {0}
AllValid (t ∷ ts) = Valid t × AllValid ts
