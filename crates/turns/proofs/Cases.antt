-- Cases of the turn record and of lists with it, computed.
-- Assumes nothing.
use Prim.Native.Nat.{◌%◌, ◌+◌, ◌/◌, suc, zero, ℕ}
use mathlib.Core.Bool.{cond}
use mathlib.Core.List.{List, [], ◌∷◌}
use mathlib.Core.Option.{some}
use mathlib.Core.Path.{◌≡◌, refl}
use lib.ListN.{drop, take}
use Rattle.model.specs.History.{tree}
use Rattle.model.specs.Machine.{Add, Call, Clears, Commits, CommitsCut, Side, done, fresh, refused, revision, stopped}
use Rattle.model.specs.Refusals.{first_of}
use Rattle.model.specs.Run.{Turn}
use Rattle.turns.specs.InTurn.{in_turn_lines}
use Rattle.turns.specs.Mixed.{Move, commits, held, plain, said, said_by, table, through, turns}
use Rattle.turns.specs.Turns.{Ask, Give, TakeBack, TurnCall, endings, free, held_by, holder, in_form, no_turn, queue_of, turn_after, turn_answers, turn_call}

-- the n-th list of four numbers 0 to 5
abbrev four : ℕ → List ℕ
four n = n % 6 ∷ n / 6 % 6 ∷ n / 36 % 6 ∷ n / 216 % 6 ∷ []

abbrev right : ℕ → ℕ
right zero = 0
right (suc n) = cond (in_form (four n)) 1 0 + right n

-- of the 1,296 records of numbers 0 to 5, 65 are in form
in_form_lem : right 1_296 ≡ 65
unfolding in_form
in_form_lem = refl

abbrev day : List TurnCall
day = Ask 1 ∷ Ask 2 ∷ Ask 3 ∷ Ask 4 ∷ Ask 2 ∷ Give 2 ∷ Ask 5 ∷ Give 1 ∷ TakeBack ∷ Ask 1 ∷ Give 3 ∷ TakeBack ∷ TakeBack ∷ TakeBack ∷ []

answered : turn_answers free day
    ≡ held_by 1 ∷ held_by 1 ∷ held_by 1 ∷ held_by 1 ∷ held_by 1 ∷ held_by 1 ∷ no_turn 7 ∷ held_by 2 ∷ held_by 3 ∷ held_by 3 ∷ held_by 4 ∷ held_by 1 ∷ held_by 0 ∷ held_by 0 ∷ []
unfolding in_form queue_of turn_call
answered = refl

-- three is reached: seat 4 asked fourth, and holds after the third ending
three-reached : ◌≡◌ {A = ℕ × ℕ} (endings (turn_after free (take 4 day)) (take 7 (drop 4 day)), holder (queue_of (turn_after free (take 11 day)))) (3, 4)
unfolding in_form queue_of turn_call
three-reached = refl

-- ---- a commit through the record: 7 comes before 15, 15 before 10

abbrev seat_two : Side
seat_two = record { seat = 2; blocks = 4; used = 1; tail = 0; history = []; marks = []; entries = [] }

mask_first : first_of (in_turn_lines (1 ∷ 0 ∷ 0 ∷ 0 ∷ []) seat_two 0 0) ≡ some 7
unfolding in_form queue_of
mask_first = refl

form_first : first_of (in_turn_lines (1 ∷ 1 ∷ 0 ∷ 0 ∷ []) seat_two 0 1) ≡ some 7
unfolding in_form queue_of
form_first = refl

holder-next : first_of (in_turn_lines (1 ∷ 2 ∷ 0 ∷ 0 ∷ []) seat_two 0 1) ≡ some 15
unfolding in_form queue_of
holder-next = refl

then_commit : first_of (in_turn_lines (2 ∷ 1 ∷ 0 ∷ 0 ∷ []) seat_two 0 1) ≡ some 10
unfolding in_form queue_of
then_commit = refl

-- ---- a list of calls of every kind: seats 1 and 2 take turns on a store of 6 blocks, seat 2 commits before its turn, then on a tail, then in its turn, and seat 3 without asking

abbrev at : ℕ → Call → Turn
at k c = record { by = k; call = c }

abbrev mixed_day : List Move
mixed_day =
    turns (Ask 1)
    ∷ turns (Ask 2)
    ∷ plain (at 1 (Add 0 (1 ∷ [])))
    ∷ plain (at 2 (Add 1 (2 ∷ [])))
    ∷ commits 2 7 3
    ∷ commits 1 7 0
    ∷ commits 1 7 2
    ∷ plain (at 1 (CommitsCut 7 3 1))
    ∷ commits 2 7 3
    ∷ plain (at 1 Clears)
    ∷ commits 1 7 3
    ∷ turns (Give 2)
    ∷ turns (Give 1)
    ∷ commits 2 8 3
    ∷ turns TakeBack
    ∷ commits 2 9 3
    ∷ plain (at 3 (Add 2 []))
    ∷ plain (at 3 (Commits 9 4))
    ∷ []

mixed_answers : said_by (table (fresh 6) free) mixed_day
    ≡ held (held_by 1)
    ∷ held (held_by 1)
    ∷ said done
    ∷ said done
    ∷ said (refused 15)
    ∷ said (refused 7)
    ∷ said (refused 10)
    ∷ said stopped
    ∷ said (refused 14)
    ∷ said done
    ∷ said (revision 1)
    ∷ held (held_by 1)
    ∷ held (held_by 2)
    ∷ said (revision 2)
    ∷ held (held_by 0)
    ∷ said (refused 15)
    ∷ said done
    ∷ said (refused 13)
    ∷ []
unfolding in_form queue_of turn_call tree
mixed_answers = refl

-- the ordinary calls that it comes to: those of seat 2 out of its turn are left out
mixed_through : through free mixed_day
    ≡ at 1 (Add 0 (1 ∷ []))
    ∷ at 2 (Add 1 (2 ∷ []))
    ∷ at 1 (Commits 7 0)
    ∷ at 1 (Commits 7 2)
    ∷ at 1 (CommitsCut 7 3 1)
    ∷ at 1 Clears
    ∷ at 1 (Commits 7 3)
    ∷ at 2 (Commits 8 3)
    ∷ at 3 (Add 2 [])
    ∷ at 3 (Commits 9 4)
    ∷ []
unfolding in_form queue_of turn_call
mixed_through = refl
