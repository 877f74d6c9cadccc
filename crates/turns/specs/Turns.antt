-- The turn record (W7): four numbers, and the calls that change them. It stands above the engine: nothing here speaks of a store.
-- A record in form is a queue of seats, the holder first, with zeros behind it; every call is defined on the queue.
-- Assumes nothing.
use Rattle.std.specs.Prelude.{◌+◌, ◌≤◌, ℕ, Bool, ◌&&◌, ◌||◌, cond, false, not, true, List, [], ◌++◌, ◌∷◌, ◌≡◌, eqb, leb, take}
use Rattle.std.proofs.Math.Option.{Option, none, some}
use Rattle.model.specs.Codec.{pad_to}
use Rattle.model.specs.Refusals.{Condition, ◌when◌, first_of}
use Rattle.turns.specs.declared.TurnRecord.{TurnRecord}

-- ---- the record

-- "It is four numbers: the holder, then those waiting, longest first, 0 where none."
abbrev pub numbers_of : TurnRecord → List ℕ
numbers_of t = t.holder ∷ t.first ∷ t.second ∷ t.third ∷ []

-- a free record
abbrev pub free : List ℕ
free = 0 ∷ 0 ∷ 0 ∷ 0 ∷ []

-- the seats in line, the holder first: those before the first 0
abbrev pub Queue : Type 0
Queue = List ℕ

unfoldable pub queue_of : List ℕ → Queue
queue_of [] = []
queue_of (n ∷ l) = cond (eqb n 0) [] (n ∷ queue_of l)

-- one of these is s
abbrev pub is_in : ℕ → List ℕ → Bool
is_in s [] = false
is_in s (x ∷ q) = eqb x s || is_in s q

abbrev pub is_seat : ℕ → Bool
is_seat s = leb 1 s && leb s 4

abbrev pub holder : Queue → ℕ
holder [] = 0
holder (s ∷ q) = s

-- ---- refusal 7 of a record: "a record with a number above 4, a seat twice or a seat after a 0"

abbrev pub above4 : List ℕ → Bool
above4 [] = false
above4 (n ∷ l) = not (leb n 4) || above4 l

abbrev pub seat_twice : List ℕ → Bool
seat_twice [] = false
seat_twice (n ∷ l) = (not (eqb n 0) && is_in n l) || seat_twice l

abbrev pub some_seat : List ℕ → Bool
some_seat [] = false
some_seat (n ∷ l) = not (eqb n 0) || some_seat l

abbrev pub seat_after0 : List ℕ → Bool
seat_after0 [] = false
seat_after0 (n ∷ l) = (eqb n 0 && some_seat l) || seat_after0 l

unfoldable pub in_form : List ℕ → Bool
in_form r = not (above4 r || (seat_twice r || seat_after0 r))

-- ---- the calls

-- a seat asks; a seat gives back; the planner takes back
pub data TurnCall : Type 0 where
  Ask Give : ℕ → TurnCall
  TakeBack : TurnCall

-- "A seat asks; if nobody holds the turn it gets it, otherwise it joins the end. .. asking while waiting or holding change[s] nothing"
abbrev pub asked : ℕ → Queue → Queue
asked s q = cond (is_in s q) q (q ++ (s ∷ []))

-- "the longest waiting seat, if any, gets the turn"
abbrev pub passed_on : Queue → Queue
passed_on [] = []
passed_on (s ∷ q) = q

-- "The holder gives back .. Giving back by another seat .. change[s] nothing"
abbrev pub given_back : ℕ → Queue → Queue
given_back s q = cond (eqb (holder q) s) (passed_on q) q

abbrev pub queue_after : TurnCall → Queue → Queue
queue_after (Ask s) q = asked s q
queue_after (Give s) q = given_back s q
queue_after TakeBack q = passed_on q

-- "Refusal 7 covers a calling seat that isn't 1 to 4, and a record .."; taking back has no calling seat
abbrev pub strange_seat : TurnCall → Bool
strange_seat (Ask s) = not (is_seat s)
strange_seat (Give s) = not (is_seat s)
strange_seat TakeBack = false

abbrev pub turn_conditions : List ℕ → TurnCall → List Condition
turn_conditions r c = 7 when (strange_seat c || not (in_form r)) ∷ []

-- the refusal's number, or "the holder they leave, 0 for none"
pub data TurnAnswer : Type 0 where
  no_turn : ℕ → TurnAnswer
  held_by : ℕ → TurnAnswer

pub record TurnOut : Type 0 where
  pub says : TurnAnswer
  pub left : List ℕ

abbrev pub turn_out : TurnAnswer → List ℕ → TurnOut
turn_out a r = record { says = a; left = r }

abbrev pub turn_by : Option ℕ → List ℕ → TurnCall → TurnOut
turn_by (some n) r c = turn_out (no_turn n) r
turn_by none r c = turn_out (held_by (holder (queue_after c (queue_of r)))) (pad_to 4 (queue_after c (queue_of r)))

unfoldable pub turn_call : List ℕ → TurnCall → TurnOut
turn_call r c = turn_by (first_of (turn_conditions r c)) r c

-- ---- lists of calls

abbrev pub turn_after : List ℕ → List TurnCall → List ℕ
turn_after r [] = r
turn_after r (c ∷ cs) = turn_after (turn_call r c).left cs

abbrev pub turn_answers : List ℕ → List TurnCall → List TurnAnswer
turn_answers r [] = []
turn_answers r (c ∷ cs) = (turn_call r c).says ∷ turn_answers (turn_call r c).left cs

-- a giving or taking back that ends a turn: by the holder, or where somebody holds
abbrev pub ends_turn : List ℕ → TurnCall → Bool
ends_turn r (Ask s) = false
ends_turn r (Give s) = in_form r && (is_seat s && eqb (holder (queue_of r)) s)
ends_turn r TakeBack = in_form r && not (eqb (holder (queue_of r)) 0)

-- how many of these calls end a turn
abbrev pub endings : List ℕ → List TurnCall → ℕ
endings r [] = 0
endings r (c ∷ cs) = cond (ends_turn r c) 1 0 + endings (turn_call r c).left cs

-- after some of these calls, of which at most n ended a turn, the seat holds the turn
abbrev pub HoldsWithin : ℕ → ℕ → List ℕ → List TurnCall → Type 0
HoldsWithin n s r cs = (k : ℕ) × (endings r (take k cs) ≤ n) × (holder (queue_of (turn_after r (take k cs))) ≡ s)

-- THE STATEMENT: "For every list of these calls from a free record, a waiting seat holds the turn no later than the third giving or taking back that ended a turn after it asked."
-- Whatever was called before, a seat asks, and among the calls after that at least three end a turn: it holds the turn by then. (Of a shorter list nothing is due yet.)
abbrev pub BoundOfThree : Type 0
BoundOfThree = (before later : List TurnCall) (s : ℕ) → 1 ≤ s → s ≤ 4
    → 3 ≤ endings (turn_call (turn_after free before) (Ask s)).left later
    → HoldsWithin 3 s (turn_call (turn_after free before) (Ask s)).left later

-- every record that these calls leave is in form, so that 7 comes for a strange seat alone
abbrev pub AlwaysInForm : Type 0
AlwaysInForm = (cs : List TurnCall) → in_form (turn_after free cs) ≡ true
