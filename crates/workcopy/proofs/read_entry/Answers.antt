-- The entry that a block states, from its fields.
-- Assumes nothing.
use Rattle.workcopy.specs.Copy.{read_entry}
use Rattle.workcopy.proofs.read_entry.Goals as goal

pub returns : goal.returns
unfolding read_entry
returns c = cc
