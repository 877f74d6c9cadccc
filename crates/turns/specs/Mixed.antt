-- Lists in which ordinary calls, calls on the turn record and commits through it are mixed (W7): what becomes of demand 3.
-- Assumes nothing.
use Rattle.std.specs.Prelude.{◌-◌, ◌<◌, ◌^◌, ◌≤◌, ℕ, ◌&&◌, cond, List, [], ◌++◌, ◌∷◌, ◌≡◌, eqb, get_or, length, set, take}
use Rattle.model.specs.Calls.{Buffers, Out, after_turn, fresh_buffers, run_on, turn_on}
use Rattle.model.specs.Demand3.{Finds, PanelFinds, WholeList}
use Rattle.model.specs.History.{History}
use Rattle.model.specs.Log.{Placed}
use Rattle.model.specs.Machine.{Answer, Commits, State, fresh, side_of}
use Rattle.model.specs.Refusals.{first_of}
use Rattle.model.specs.Run.{Turn, Valid, accepted, accepted_marks, step, step_by}
use Rattle.model.specs.Shows.{Shows}
use Rattle.turns.specs.InTurn.{in_turn_call, own_in_turn}
use Rattle.turns.specs.Turns.{TurnAnswer, TurnCall, free, holder, in_form, queue_of, turn_after, turn_call}

-- ---- a list of calls of every kind

-- an ordinary call; a call on the record; a commit through the record (seat, stamp, mask)
pub data Move : Type 0 where
  plain : Turn → Move
  turns : TurnCall → Move
  commits : ℕ → ℕ → ℕ → Move

pub data Said : Type 0 where
  said : Answer → Said
  held : TurnAnswer → Said

-- on buffers and a record
pub record Bench : Type 0 where
  pub buffers : Buffers
  pub turn : List ℕ

abbrev pub bench : Buffers → List ℕ → Bench
bench b r = record { buffers = b; turn = r }

abbrev pub committed_on : Bench → ℕ → Out → Said × Bench
committed_on b k o = (said o.says, bench (record { store = o.store; copies = set b.buffers.copies (k - 1) o.copy }) b.turn)

abbrev pub move_on : Bench → Move → Said × Bench
move_on b (plain t) = (said (turn_on b.buffers t).says, bench (after_turn b.buffers t) b.turn)
move_on b (turns c) = (held (turn_call b.turn c).says, bench b.buffers (turn_call b.turn c).left)
move_on b (commits k stamp mask) = committed_on b k (in_turn_call b.buffers.store (get_or b.buffers.copies (k - 1) []) b.turn stamp mask)

abbrev pub moved_on : Bench → List Move → Bench
moved_on b [] = b
moved_on b (m ∷ ms) = moved_on (move_on b m).1 ms

abbrev pub said_on : Bench → List Move → List Said
said_on b [] = []
said_on b (m ∷ ms) = (move_on b m).0 ∷ said_on (move_on b m).1 ms

-- of the machine, with a record beside it
pub record Table : Type 0 where
  pub machine : State
  pub turn : List ℕ

abbrev pub table : State → List ℕ → Table
table s r = record { machine = s; turn = r }

abbrev pub spoken : Answer × State → List ℕ → Said × Table
spoken x r = (said x.0, table x.1 r)

abbrev pub move_step : Table → Move → Said × Table
move_step w (plain t) = spoken (step w.machine t.by t.call) w.turn
move_step w (turns c) = (held (turn_call w.turn c).says, table w.machine (turn_call w.turn c).left)
move_step w (commits k stamp mask) =
    spoken (step_by (first_of (own_in_turn w.turn (side_of w.machine k) stamp mask)) w.machine k (Commits stamp mask)) w.turn

abbrev pub moved : Table → List Move → Table
moved w [] = w
moved w (m ∷ ms) = moved (move_step w m).1 ms

abbrev pub said_by : Table → List Move → List Said
said_by w [] = []
said_by w (m ∷ ms) = (move_step w m).0 ∷ said_by (move_step w m).1 ms

-- ---- "The history follows from the commits that got through."

-- the calls on the record, and what they leave: nothing else moves it
abbrev pub turns_in : List Move → List TurnCall
turns_in [] = []
turns_in (plain t ∷ ms) = turns_in ms
turns_in (turns c ∷ ms) = c ∷ turns_in ms
turns_in (commits k stamp mask ∷ ms) = turns_in ms

abbrev pub turn_of : ℕ → ℕ → ℕ → Turn
turn_of k stamp mask = record { by = k; call = Commits stamp mask }

-- the ordinary calls that a list comes to: a commit by the holder is a commit, one by another seat is none
abbrev pub through : List ℕ → List Move → List Turn
through r [] = []
through r (plain t ∷ ms) = t ∷ through r ms
through r (turns c ∷ ms) = through (turn_call r c).left ms
through r (commits k stamp mask ∷ ms) = cond (in_form r && eqb (holder (queue_of r)) k) (turn_of k stamp mask ∷ through r ms) (through r ms)

abbrev pub ValidMove : Move → Type 0
ValidMove (plain t) = Valid t
ValidMove (turns c) = Unit {0}
ValidMove (commits k stamp mask) = (1 ≤ k) × (k ≤ 4) × (stamp < 2 ^ 32)

abbrev pub ValidMoves : List Move → Type 0
ValidMoves [] = Unit {0}
ValidMoves (m ∷ ms) = ValidMove m × ValidMoves ms

-- of N blocks and the list ms, where b is what the calls leave, h the commits that were accepted among those that got through and ps the releases
pub record MixedList (N : ℕ) (ms : List Move) (b : Bench) (h : History) (ps : List Placed) : Type 0 where
  -- every answer is the machine's
  pub answer : said_on (bench (fresh_buffers N) free) ms ≡ said_by (table (fresh N) free) ms
  -- the record is the one beside the machine ..
  pub beside : b.turn ≡ (moved (table (fresh N) free) ms).turn
  -- .. and what the calls on it leave, whatever else was called
  pub turn : b.turn ≡ turn_after free (turns_in ms)
  -- store and copies are those that the ordinary calls leave which it comes to ..
  pub same : b.buffers ≡ run_on (fresh_buffers N) (through free ms)
  -- .. and of these demand 3 says all that it says: history, entries, what is found at each revision, by a panel too, what an update brings
  pub whole : WholeList N (through free ms) b.buffers h ps
  -- after each call the buffers show the machine's state
  pub shows : (n : ℕ) → Shows N (moved_on (bench (fresh_buffers N) free) (take n ms)).buffers (moved (table (fresh N) free) (take n ms)).machine
  -- "The history follows from the commits that got through."
  pub history : (moved (table (fresh N) free) ms).machine.history ≡ h
  -- beside it, the releases that were made
  pub marks : (moved (table (fresh N) free) ms).machine.marks ≡ ps
  -- and what is found at R stays so after every longer list of calls of every kind
  pub lasting : (us : List Move) → ValidMoves us → (R i : ℕ) → R ≤ length h → i ≤ 31 → Finds (moved_on (bench (fresh_buffers N) free) (ms ++ us)).buffers h R i
  -- for a panel as well, with the releases until then
  pub lasting-panel : (us : List Move) → ValidMoves us → (R i : ℕ) → R ≤ length h → i ≤ 31
      → PanelFinds (moved_on (bench (fresh_buffers N) free) (ms ++ us)).buffers h (accepted_marks (fresh N) (through free (ms ++ us))) R i

abbrev pub Demand3InTurn : Type 0
Demand3InTurn = (N : ℕ) (ms : List Move) → 2 ≤ N → N ≤ 4_096 → ValidMoves ms
    → MixedList N ms (moved_on (bench (fresh_buffers N) free) ms) (accepted (fresh N) (through free ms)) (accepted_marks (fresh N) (through free ms))
