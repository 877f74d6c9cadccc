-- What `sheets_replay` answers and leaves: as `replay` does, the answer in numbers.
-- Assumes nothing.
use Rattle.std.proofs.Math.Option.{none}
use Rattle.std.specs.Prelude.{◌≡◌}
use Rattle.model.specs.History.{Bytes}
use Rattle.replay.specs.Desk.{Desk, buffers_in, desk}
use Rattle.replay.specs.Replay.{MachineRan, Replayed, replay_by, replay_refusal}
use Rattle.replay.specs.Script.{turns_of}
use Rattle.sheetstore.specs.Numbers.{answer_numbers}
use Rattle.sheetstore.specs.declared.SheetsAnswer.{SheetsAnswer}

-- an answer beside the store, the copies and the answers' records
pub record All : Type 0 where
  pub numbers : SheetsAnswer
  pub left : Desk

abbrev pub all_numbers : Replayed → All
all_numbers x = record { numbers = answer_numbers x.says; left = x.left }

pub record ReplayNumbers (script store copies old : Bytes) (r : SheetsAnswer) (store' copies' answers' : Bytes) : Type 0 where
  pub is : record { numbers = r; left = desk store' copies' answers' } ≡ all_numbers (replay_by (replay_refusal script store copies old) (turns_of script) (desk store copies old))
  pub machine : replay_refusal script store copies old ≡ none → MachineRan (buffers_in store copies) (turns_of script) old store' copies' answers'
