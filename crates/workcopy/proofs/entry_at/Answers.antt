-- The entry of a sheet, from its block.
-- Assumes nothing.
use Rattle.std.proofs.Common.{◌∙◌, ◌*◌, ◌+◌, ◌-◌, arith}
use Rattle.workcopy.proofs.Blocks.{lent}
use Rattle.workcopy.proofs.Entries.{reading}
use Rattle.workcopy.specs.Copy.{read_entry}
use Rattle.workcopy.proofs.entry_at.Goals as goal

pub returns : goal.returns
returns c =
    let at = 512 * (c.args.i + 1) in
    reading c.args.copy.now c.args.i c.requires.0 c.requires.1 (c.read_entry.ensures ∙ lent read_entry c.args.copy.now at (at + 512 - at) (omega arith))
