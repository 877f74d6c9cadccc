-- The answer of `replay`, as numbers, and the buffers that it leaves.
-- Assumes nothing.
use Rattle.std.proofs.Common.{◌∙◌, ap}
use Rattle.replay.specs.Desk.{desk}
use Rattle.sheetstore.specs.Replay.{all_numbers}
use Rattle.sheetstore.specs.declared.SheetsAnswer.{SheetsAnswer}
use Rattle.sheetstore.proofs.sheets_replay.Goals as goal

pub returns : goal.returns
returns c =
    let r = c.replay in
    record {
      is =
          ap (λ (x : SheetsAnswer). record { numbers = x; left = desk r.new.store r.new.copies r.new.answers }) c.from.ensures
          ∙ ap all_numbers r.ensures.is;
      machine = r.ensures.machine;
    }
