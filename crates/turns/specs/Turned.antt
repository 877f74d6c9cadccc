-- What a call on the record leaves and answers, as the types of src/lib.rt have it.
-- Assumes nothing.
use Rattle.std.specs.Prelude.{ℕ, List, get_or}
use Rattle.turns.specs.Turns.{TurnAnswer, TurnOut, held_by, no_turn}
use Rattle.turns.specs.declared.Held.{Held}
use Rattle.turns.specs.declared.TurnRecord.{TurnRecord}
use Rattle.turns.specs.declared.Turned.{Turned}

-- the record of these numbers
abbrev pub record_of : List ℕ → TurnRecord
record_of l = record { holder = get_or l 0 0; first = get_or l 1 0; second = get_or l 2 0; third = get_or l 3 0 }

-- "A refusal is its number", else 0 and the holder
abbrev pub held_of : TurnAnswer → Held
held_of (no_turn n) = record { refusal = n; holder = 0 }
held_of (held_by s) = record { refusal = 0; holder = s }

abbrev pub turned : TurnRecord → Held → Turned
turned t a = record { turn = t; answer = a }

abbrev pub turned_of : TurnOut → Turned
turned_of o = turned (record_of o.left) (held_of o.says)
