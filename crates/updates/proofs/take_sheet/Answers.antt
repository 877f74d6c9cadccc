-- Assumes nothing.
use Rattle.updates.proofs.Entering.{sheet_takable, sheet-taken}
use Rattle.updates.proofs.take_sheet.Goals as goal

pub take_block-requires : goal.take_block-requires
take_block-requires c = sheet_takable c.requires.0 c.requires.2 c.look_up-f.ensures c.requires.1

pub returns : goal.returns
returns c = sheet-taken c.requires.0 c.requires.2 c.look_up-f.ensures c.take_block.ensures
