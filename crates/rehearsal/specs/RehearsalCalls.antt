-- The rehearsal by the real calls (W8): a store of 121 blocks, four working copies and a turn record, each step's calls made on what the calls before left, and every number taken from what they
-- answered. The code's functions cite these; `Real` says that it comes to the same as Rehearsal.
-- Assumes nothing.
use Rattle.std.specs.Prelude.{◌%◌, ◌+◌, ◌-◌, ◌^◌, ◌≤◌, suc, zero, ℕ, Bool, ◌&&◌, cond, false, not, true, List, [], ◌++◌, ◌∷◌, map, ◌≡◌, eqb, leb, ltb, get_or, length, replicate, set}
use Rattle.std.proofs.Math.Option.{Option, none, some}
use Rattle.block.specs.Field.{two}
use Rattle.block.specs.Lists.{All, all}
use Rattle.model.specs.Calls.{fresh_buffers}
use Rattle.model.specs.Codec.{pad_to}
use Rattle.model.specs.Machine.{Add, Edit, fresh, refusal}
use Rattle.model.specs.Run.{Turn, accepted, accepted_marks, is_revision}
use Rattle.rehearsal.specs.Rehearsal.{Day, Row, Sensible, asking, day_of, finishing, fresh_day, greatest, holds, row_of, setting_of, step_of, wants}
use Rattle.rehearsal.specs.declared.Setting.{Setting}
use Rattle.rehearsal.specs.declared.Tally.{Tally}
use Rattle.turns.specs.Mixed.{Bench, MixedList, Move, Said, bench, commits, held, move_on, moved_on, plain, said, said_on, through, turns}
use Rattle.turns.specs.Turns.{Ask, Give, Queue, free, held_by, holder, is_in, no_turn, queue_of}

-- what the program keeps of a seat's row: of its completed waits the longest
abbrev pub tally_of : Row → Tally
tally_of r = record { commits = r.commits; asks = r.asks; asked = r.asked; longest = greatest r.waits }

abbrev pub no_tally : Tally
no_tally = record { commits = 0; asks = 0; asked = 0; longest = 0 }

-- the tally of a seat that commits; that asks at step t; whose wait ends at step t
abbrev pub one_commit : Tally → Tally
one_commit r = record { commits = suc r.commits; asks = r.asks; asked = r.asked; longest = r.longest }

abbrev pub one_ask : ℕ → Tally → Tally
one_ask t r = record { commits = r.commits; asks = suc r.asks; asked = t; longest = r.longest }

abbrev pub one_wait : ℕ → Tally → Tally
one_wait t r = record { commits = r.commits; asks = r.asks; asked = r.asked; longest = cond (ltb r.longest (t - r.asked)) (t - r.asked) r.longest }

-- "commits its own sheet, numbered as its seat, with the step's number as two bytes": the first time it adds the sheet, later it edits it
abbrev pub writing : ℕ → ℕ → Tally → Turn
writing t s r = record { by = s; call = cond (eqb r.commits 0) (Add s (two t [])) (Edit s (two t [])) }

-- the buffers and the record, the step of the grant, and the four tallies
pub record Hall : Type 0 where
  pub bench : Bench
  pub since : ℕ
  pub rows : List Tally

abbrev pub hall : Bench → ℕ → List Tally → Hall
hall b g l = record { bench = b; since = g; rows = l }

abbrev pub fresh_hall : Hall
fresh_hall = hall (bench (fresh_buffers 121) free) 0 (replicate 4 no_tally)

abbrev pub row_in : List Tally → ℕ → Tally
row_in l s = get_or l (s - 1) no_tally

abbrev pub got_through : Said → Bool
got_through (said a) = is_revision a
got_through (held a) = false

-- the number of the holder that a call on the record leaves
abbrev pub leaves : Said → ℕ
leaves (said a) = 0
leaves (held (no_turn n)) = 0
leaves (held (held_by s)) = s

-- the holder s, if it is one, got the turn at step t
abbrev pub grant_on : ℕ → ℕ → Hall → Hall
grant_on t s w = cond (eqb s 0) w (hall w.bench t (set w.rows (s - 1) (one_wait t (row_in w.rows s))))

-- the three calls of a holder whose time is over
abbrev pub closing_on : ℕ → ℕ → Hall → Hall
closing_on t s w =
    let r = row_in w.rows s in
    let one = move_on w.bench (plain (writing t s r)) in
    let two = move_on one.1 (commits s t (2 ^ s)) in
    let three = move_on two.1 (turns (Give s)) in
    grant_on t (leaves three.0) (hall three.1 w.since (set w.rows (s - 1) (cond (got_through two.0) (one_commit r) r)))

abbrev pub seat_asks : ℕ → ℕ → Hall → Hall
seat_asks t s w =
    let one = move_on w.bench (turns (Ask s)) in
    let w' = hall one.1 w.since (set w.rows (s - 1) (one_ask t (row_in w.rows s))) in
    cond (eqb (leaves one.0) s) (grant_on t s w') w'

-- by the holding time of the holder s, and by the period of the seat s
abbrev pub finishing_by : ℕ → ℕ → ℕ → Hall → Hall
finishing_by holding t s w = cond (not (eqb s 0) && leb (w.since + holding) t) (closing_on t s w) w

abbrev pub asking_by : ℕ → ℕ → ℕ → Hall → Hall
asking_by period t s w = cond (eqb (t % period) 0 && not (is_in s (queue_of w.bench.turn))) (seat_asks t s w) w

module _ (settings : List Setting) where
  abbrev pub finishing_on : ℕ → ℕ → Hall → Hall
  finishing_on t s w = finishing_by (holds settings s) t s w

  abbrev pub asking_on : ℕ → ℕ → Hall → Hall
  asking_on t s w = asking_by (setting_of settings s).period t s w

  unfoldable pub step_on : ℕ → Hall → Hall
  step_on t w = asking_on t 4 (asking_on t 3 (asking_on t 2 (asking_on t 1 (finishing_on t (holder (queue_of w.bench.turn)) w))))

  unfoldable pub steps_on : ℕ → ℕ → Hall → Hall
  steps_on t zero w = w
  steps_on t (suc n) w = steps_on (suc t) n (step_on t w)

  abbrev pub hall_of : ℕ → Hall
  hall_of n = steps_on 1 n fresh_hall

  -- the calls that a day makes, in order
  abbrev pub finish_moves : ℕ → Queue → Day → List Move
  finish_moves t [] d = []
  finish_moves t (s ∷ q) d = cond (leb (d.since + holds settings s) t) (plain (writing t s (tally_of (row_of d s))) ∷ commits s t (2 ^ s) ∷ turns (Give s) ∷ []) []

  abbrev pub ask_moves : ℕ → ℕ → Day → List Move
  ask_moves t s d = cond (wants settings t s d) (turns (Ask s) ∷ []) []

  abbrev pub step_moves : ℕ → Day → List Move
  step_moves t d =
      let d₀ = finishing settings t d.queue d in
      let d₁ = asking settings t 1 d₀ in
      let d₂ = asking settings t 2 d₁ in
      let d₃ = asking settings t 3 d₂ in
      finish_moves t d.queue d ++ (ask_moves t 1 d₀ ++ (ask_moves t 2 d₁ ++ (ask_moves t 3 d₂ ++ ask_moves t 4 d₃)))

  unfoldable pub moves_from : ℕ → ℕ → Day → List Move
  moves_from t zero d = []
  moves_from t (suc n) d = step_moves t d ++ moves_from (suc t) n (step_of settings t d)

-- no call is refused
abbrev pub no_number : Option ℕ → Bool
no_number none = true
no_number (some n) = false

abbrev pub not_refused : Said → Bool
not_refused (said a) = no_number (refusal a)
not_refused (held (no_turn n)) = false
not_refused (held (held_by s)) = true

-- THE STATEMENT: "The real calls on a store of 121 blocks are used."
pub record Real (settings : List Setting) (n : ℕ) (w : Hall) : Type 0 where
  -- the numbers that the real calls give are those of the day
  pub rows : w.rows ≡ map tally_of (day_of settings n).rows
  pub turn : w.bench.turn ≡ pad_to 4 (day_of settings n).queue
  -- the buffers are those that the day's calls leave, from a fresh store, fresh copies and a free record on; and none was refused
  pub calls : w.bench ≡ moved_on (bench (fresh_buffers 121) free) (moves_from settings 1 n fresh_day)
  pub taken : all not_refused (said_on (bench (fresh_buffers 121) free) (moves_from settings 1 n fresh_day)) ≡ true
  -- demand 3 speaks of this list of calls, as of every other
  pub whole : MixedList 121 (moves_from settings 1 n fresh_day) w.bench (accepted (fresh 121) (through free (moves_from settings 1 n fresh_day)))
      (accepted_marks (fresh 121) (through free (moves_from settings 1 n fresh_day)))

abbrev pub RealDay : Type 0
RealDay = (settings : List Setting) (n : ℕ) → length settings ≡ 4 → All Sensible settings → n ≤ 60 → Real settings n (hall_of settings n)
