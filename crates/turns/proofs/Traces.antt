-- W7's record for the code: what whoever calls a function learns is taken from that function's own contract (`Learnt`), and of lists of such calls the sentences and the bound of three hold.
-- Assumes nothing.
use Prim.Native.Nat.{◌≤◌, ℕ}
use mathlib.Core.Bool.{true}
use mathlib.Core.List.{List, [], ◌++◌, ◌∷◌}
use mathlib.Core.Option.{Option, none, some}
use mathlib.Core.Path.{◌∙◌, ◌≡◌, ap, refl, sym}
use contract.Lifetimes.{Lfts}
use lib.ListN.{take}
use Rattle.model.specs.Refusals.{first_of}
use Rattle.turns.specs.TakingTurns.{TakingTurns}
use Rattle.turns.specs.Turned.{held_of, record_of, turned_of}
use Rattle.turns.specs.Turns.{Ask, Give, TakeBack, TurnCall, endings, free, holder, in_form, numbers_of, queue_after, queue_of, turn_after, turn_by, turn_call, turn_conditions}
use Rattle.turns.specs.declared.TurnRecord.{TurnRecord}
use Rattle.turns.specs.declared.Turned.{Turned}
use Rattle.turns.proofs.asked.Met as asked-met
use Rattle.turns.proofs.asked.Reads as asked-reads
use Rattle.turns.proofs.asked.Statement as asked-statement
use Rattle.turns.proofs.given_back.Met as given-met
use Rattle.turns.proofs.given_back.Reads as given-reads
use Rattle.turns.proofs.given_back.Statement as given-statement
use Rattle.turns.proofs.taken_back.Met as taken-met
use Rattle.turns.proofs.taken_back.Reads as taken-reads
use Rattle.turns.proofs.taken_back.Statement as taken-statement
use Rattle.turns.proofs.Calls.{holder_is}
use Rattle.turns.proofs.Form.{four_of_lem}
use Rattle.turns.proofs.TakingTurns.{taking_turns}
use Rattle.turns.proofs.Turning.{always_in_form, bound_of_three}

-- THE STATEMENT

-- a call on the record as code makes it: on this record it leaves and answers r
pub data TurnMade : TurnRecord → TurnCall → Turned → Type 0 where
  asks : {t : TurnRecord} {seat : ℕ} {r : Turned} (κs : Lfts 0) → asked-reads.Learnt κs (t, (seat, tt)) r (t, (seat, tt)) → TurnMade t (Ask seat) r
  gives : {t : TurnRecord} {seat : ℕ} {r : Turned} (κs : Lfts 0) → given-reads.Learnt κs (t, (seat, tt)) r (t, (seat, tt)) → TurnMade t (Give seat) r
  takes : {t : TurnRecord} {r : Turned} (κs : Lfts 0) → taken-reads.Learnt κs (t, tt) r (t, tt) → TurnMade t TakeBack r

-- a list of calls, and the record afterwards
pub data TurnTrace : TurnRecord → List TurnCall → TurnRecord → Type 0 where
  over : {t : TurnRecord} → TurnTrace t [] t
  next : {t t' : TurnRecord} {c : TurnCall} {cs : List TurnCall} {r : Turned} → TurnMade t c r → TurnTrace r.turn cs t' → TurnTrace t (c ∷ cs) t'

pub record CodeTurns : Type 2 where
  pub asked_meets : (M : Type 1) → asked-statement.statement M
  pub given_meets : (M : Type 1) → given-statement.statement M
  pub taken_meets : (M : Type 1) → taken-statement.statement M
  -- what a call leaves and answers is what W7's sentences say
  pub leaves : {t : TurnRecord} {c : TurnCall} {r : Turned} → TurnMade t c r
      → (numbers_of r.turn ≡ (turn_call (numbers_of t) c).left) × (r.answer ≡ held_of (turn_call (numbers_of t) c).says)
  pub sentences : TakingTurns
  -- every record reached is in form
  pub formed : {cs : List TurnCall} {t : TurnRecord} → TurnTrace (record_of free) cs t → in_form (numbers_of t) ≡ true
  -- "For every list of these calls from a free record, a waiting seat holds the turn no later than the third giving or taking back that ended a turn after it asked."
  pub bound : (before later : List TurnCall) (s : ℕ) → 1 ≤ s → s ≤ 4 → 3 ≤ endings (turn_call (turn_after free before) (Ask s)).left later
      → (k : ℕ) × (endings (turn_call (turn_after free before) (Ask s)).left (take k later) ≤ 3)
      × ((t : TurnRecord) → TurnTrace (record_of free) (before ++ (Ask s ∷ take k later)) t → t.holder ≡ s)

-- THE PROOF

-- what a caller learns is the call on the record
pub turn-made_is : {t : TurnRecord} {c : TurnCall} {r : Turned} → TurnMade t c r → r ≡ turned_of (turn_call (numbers_of t) c)
turn-made_is (asks κs e) = e
turn-made_is (gives κs e) = e
turn-made_is (takes κs e) = e

-- the record that a call leaves has four numbers
pub left-four : (t : TurnRecord) (c : TurnCall) → numbers_of (record_of (turn_call (numbers_of t) c).left) ≡ (turn_call (numbers_of t) c).left
unfolding turn_call
left-four t c = go (first_of (turn_conditions (numbers_of t) c))
  where
    go : (o : Option ℕ) → numbers_of (record_of (turn_by o (numbers_of t) c).left) ≡ (turn_by o (numbers_of t) c).left
    go (some n) = refl
    go none = four_of_lem (λ (l : List ℕ). numbers_of (record_of l) ≡ l) (λ h a b c. refl) (queue_after c (queue_of (numbers_of t)))

pub left-made : {t : TurnRecord} {c : TurnCall} {r : Turned} → TurnMade t c r → numbers_of r.turn ≡ (turn_call (numbers_of t) c).left
left-made {t} {c} m = ap (λ (r : Turned). numbers_of r.turn) (turn-made_is m) ∙ left-four t c

traced : {t t' : TurnRecord} {cs : List TurnCall} → TurnTrace t cs t' → numbers_of t' ≡ turn_after (numbers_of t) cs
traced over = refl
traced (next {cs = cs} m more) = traced more ∙ ap (λ (r : List ℕ). turn_after r cs) (left-made m)

after-append : (r : List ℕ) (cs ds : List TurnCall) → turn_after r (cs ++ ds) ≡ turn_after (turn_after r cs) ds
after-append r [] ds = refl
after-append r (c ∷ cs) ds = after-append (turn_call r c).left cs ds

pub code_turns : CodeTurns
code_turns = record {
  asked_meets = λ M. asked-met.met;
  given_meets = λ M. given-met.met;
  taken_meets = λ M. taken-met.met;
  leaves = λ m. (left-made m, ap (λ (r : Turned). r.answer) (turn-made_is m));
  sentences = taking_turns;
  formed = λ {cs} T. ap in_form (traced T) ∙ always_in_form cs;
  bound = λ before later s lo hi e.
      let w = bound_of_three before later s lo hi e in (
        w.0,
        w.1,
        λ t T.
            sym (holder_is t.holder (t.first ∷ t.second ∷ t.third ∷ []))
            ∙ ap (λ (r : List ℕ). holder (queue_of r)) (traced T ∙ after-append free before (Ask s ∷ take w.0 later)) ∙ w.2,
      );
}
