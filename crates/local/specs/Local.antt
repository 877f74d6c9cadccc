-- The calls that look at nothing of a store, on an accepted working copy: add, edit, delete, copy, move.
-- The machine's own conditions and deeds rule what happens. Refusals 1 to 6 are the caller's.
-- Assumes nothing.
use Rattle.std.specs.Prelude.{ℕ, [], Result}
use Rattle.std.proofs.Math.Option.{Option, none, some}
use Rattle.model.specs.History.{Bytes}
use Rattle.model.specs.Machine.{Answer, Call, Side, doing, refused}
use Rattle.model.specs.Refusals.{conditions, first_of}
use Rattle.model.specs.Types.{answer_of}
use Rattle.model.specs.WorkCopy.{copy_bytes, entries_of, seat_of}
use Rattle.model.specs.declared.Answer.{Answer as TheAnswer}
use Rattle.model.specs.declared.Refusal.{Refusal}

-- the copy's side, beside an empty store
abbrev pub copy_side : Bytes → Side
copy_side copy = record { seat = seat_of copy; blocks = 0; used = 0; tail = 0; history = []; marks = []; entries = entries_of copy }

-- the answer, and the copy afterwards
pub record LocalOut : Type 0 where
  pub says : Answer
  pub copy : Bytes

abbrev pub local_by : Option ℕ → Bytes → Call → LocalOut
local_by (some n) copy c = record { says = refused n; copy = copy }
local_by none copy c = let r = doing (copy_side copy) c in record { says = r.0; copy = copy_bytes r.1.seat r.1.entries }

-- one definition for all five calls
unfoldable pub local_out : Bytes → Call → LocalOut
local_out copy c = local_by (first_of (conditions (copy_side copy) c)) copy c

-- what the code answers, and the copy that it leaves
abbrev pub out : Result TheAnswer Refusal → Bytes → LocalOut
out a copy = record { says = answer_of a; copy = copy }
