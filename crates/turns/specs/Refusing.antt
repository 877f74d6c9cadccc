-- Demand 1 for the calls of the turn record, the statement: on any numbers and any bytes whatever a number comes if and only if its condition is the first that holds, and then nothing changes.
-- Its proof is in turns/proofs/Refusing, for the code in engine/proofs/Demand1InTurn.
-- Assumes nothing.
use Rattle.std.specs.Prelude.{ℕ, List, ◌↔◌, ◌≡◌}
use Rattle.model.specs.Calls.{Out, out}
use Rattle.model.specs.Demand1.{DoneOn}
use Rattle.model.specs.History.{Bytes}
use Rattle.model.specs.Machine.{Commits, refused}
use Rattle.model.specs.Refusals.{Clear, First}
use Rattle.model.specs.Run.{Typed}
use Rattle.turns.specs.InTurn.{in_turn_conditions}
use Rattle.turns.specs.Turns.{TurnCall, TurnOut, no_turn, turn_conditions, turn_out}

-- of a call on the record
pub record RefusesTurn (r : List ℕ) (c : TurnCall) (o : TurnOut) : Type 0 where
  pub numbered : (n : ℕ) → (o.says ≡ no_turn n) ↔ First (turn_conditions r c) n
  pub stays : (n : ℕ) → o.says ≡ no_turn n → o ≡ turn_out (no_turn n) r

-- of a commit through it
pub record RefusesInTurn (store copy : Bytes) (r : List ℕ) (stamp mask : ℕ) (o : Out) : Type 0 where
  pub numbered : (n : ℕ) → (o.says ≡ refused n) ↔ First (in_turn_conditions store copy r stamp mask) n
  pub stays : (n : ℕ) → o.says ≡ refused n → o ≡ out (refused n) store copy
  -- "either does the call": as the machine commits
  pub does : Typed (Commits stamp mask) → Clear (in_turn_conditions store copy r stamp mask) → DoneOn store copy (Commits stamp mask) o
