-- The laws of a seat's ask: not due, in line already, granted at once, or joining the line.
-- Assumes nothing.
use Prim.Native.Nat.{◌%◌, ◌-◌, ℕ}
use mathlib.Core.Bool.{Bool, ◌&&◌, cond, false, not, true}
use mathlib.Core.List.{List}
use mathlib.Core.Path.{◌∙◌, ◌≡◌, ap, ap₂, refl, sym}
use borrow.Author.Tests.{eq-eqb, ne_eqb}
use lib.Dec.{eqb}
use lib.ListN.{set}
use Rattle.model.specs.Calls.{Buffers}
use Rattle.rehearsal.specs.Desk.{hall_in}
use Rattle.rehearsal.specs.RehearsalCalls.{Hall, asking_by, grant_on, hall, leaves, one_ask, row_in, seat_asks}
use Rattle.rehearsal.specs.declared.Day.{Day}
use Rattle.rehearsal.specs.declared.Tally.{Tally}
use Rattle.turns.proofs.Traces.{left-four}
use Rattle.turns.specs.Mixed.{bench, held}
use Rattle.turns.specs.Turned.{held_of, turned_of}
use Rattle.turns.specs.Turns.{Ask, TurnAnswer, TurnOut, held_by, is_in, no_turn, numbers_of, queue_of, turn_call}
use Rattle.turns.specs.declared.Turned.{Turned}

-- the holder that an answer names
pub holder-left : (a : TurnAnswer) → (held_of a).holder ≡ leaves (held a)
holder-left (no_turn n) = refl
holder-left (held_by s) = refl

module _ (b : Buffers) (d : Day) (p s t : ℕ) where
  abbrev before : Hall
  before = hall_in b d

  asks_by : (x y : Bool) → eqb (t % p) 0 ≡ x → is_in s (queue_of (numbers_of d.turn)) ≡ y → asking_by p t s before ≡ cond (x && not y) (seat_asks t s before) before
  asks_by x y e f = ap₂ (λ (x y : Bool). cond (x && not y) (seat_asks t s before) before) e f

  module _ (x : Turned) (r : Tally) (ex : x ≡ turned_of (turn_call (numbers_of d.turn) (Ask s))) (er : r ≡ one_ask t (row_in d.rows s)) (due : t % p ≡ 0)
      (out : false ≡ is_in s (queue_of (numbers_of d.turn))) where
    abbrev told : TurnOut
    told = turn_call (numbers_of d.turn) (Ask s)

    abbrev day-left : Day
    day-left = record { turn = x.turn; since = d.since; rows = set d.rows (s - 1) r }

    abbrev left : Hall
    left = hall (bench b told.left) d.since (set d.rows (s - 1) (one_ask t (row_in d.rows s)))

    left_so : hall_in b day-left ≡ left
    left_so =
        ap₂ (λ (n : List ℕ) (m : Tally). hall (bench b n) d.since (set d.rows (s - 1) m))
        (ap (λ (y : Turned). numbers_of y.turn) ex ∙ left-four d.turn (Ask s)) er

    holder_so : x.answer.holder ≡ leaves (held told.says)
    holder_so = ap (λ (y : Turned). y.answer.holder) ex ∙ holder-left told.says

    asks_so : asking_by p t s before ≡ cond (eqb (leaves (held told.says)) s) (grant_on t s left) left
    asks_so = asks_by true false (eq-eqb (t % p) 0 due) (sym out)

    pub ask_grants : x.answer.holder ≡ s → grant_on t s (hall_in b day-left) ≡ asking_by p t s before
    ask_grants e =
        ap (grant_on t s) left_so
        ∙ sym (asks_so ∙ ap (λ (z : Bool). cond z (grant_on t s left) left) (eq-eqb (leaves (held told.says)) s (sym holder_so ∙ e)))

    pub ask_joins : (x.answer.holder ≡ s → ⊥) → hall_in b day-left ≡ asking_by p t s before
    ask_joins n =
        left_so ∙ sym (asks_so ∙ ap (λ (z : Bool). cond z (grant_on t s left) left) (ne_eqb (leaves (held told.says)) s (λ e. n (holder_so ∙ e))))
