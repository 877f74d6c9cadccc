-- Demand 1 for the calls of the turn record, for the code: what whoever calls a function learns (`TurnMade`, `Through`) is what demand 1 asks for.
-- Assumes nothing.
use Rattle.std.specs.Prelude.{Result}
use Prim.Native.Nat.{ℕ}
use mathlib.Core.Path.{◌≡◌, subst, sym}
use Rattle.model.specs.Calls.{out}
use Rattle.model.specs.History.{Bytes}
use Rattle.model.specs.Types.{answer_of}
use Rattle.model.specs.declared.Answer.{Answer as TheAnswer}
use Rattle.turns.specs.Refusing.{RefusesInTurn, RefusesTurn}
use Rattle.turns.specs.Turned.{turned_of}
use Rattle.turns.specs.Turns.{TurnCall, TurnOut, numbers_of, turn_call}
use Rattle.turns.specs.declared.TurnRecord.{TurnRecord}
use Rattle.turns.specs.declared.Turned.{Turned}
use Rattle.turns.proofs.Refusing.{refuses_in_turn, refuses-turn}
use Rattle.turns.proofs.Traces.{TurnMade, turn-made_is}
use Rattle.engine.proofs.Demand3InTurn.{Through, through_is}
use Rattle.model.specs.declared.Refusal.{Refusal}

-- THE STATEMENT

pub record CodeDemand1InTurn : Type 0 where
  -- asking, giving back, taking back
  pub turns : {t : TurnRecord} {c : TurnCall} {r : Turned} → TurnMade t c r → (o : TurnOut) × (r ≡ turned_of o) × RefusesTurn (numbers_of t) c o
  -- a commit through the record
  pub commits : {store copy store' copy' : Bytes} {t : TurnRecord} {stamp mask : ℕ} {r : Result TheAnswer Refusal} → Through store copy t stamp mask r store' copy'
      → RefusesInTurn store copy (numbers_of t) stamp mask (out (answer_of r) store' copy')

-- THE PROOF

pub code_demand_one_in_turn : CodeDemand1InTurn
code_demand_one_in_turn = record {
  turns = λ {t} {c} {r} m. (turn_call (numbers_of t) c, turn-made_is m, refuses-turn (numbers_of t) c);
  commits = λ {store} {copy} {store'} {copy'} {t} {stamp} {mask} m. subst (RefusesInTurn store copy (numbers_of t) stamp mask) (sym (through_is m)) (refuses_in_turn store copy (numbers_of t) stamp mask);
}
