-- Assumes nothing.
use Rattle.entries.proofs.Looking.{holding_unnamed}
use Rattle.entries.proofs.block_at.Goals as goal

pub returns-else-b-f : goal.returns-else-b-f
returns-else-b-f c =
    holding_unnamed c.args.store.now c.args.v c.requires.0 c.args.b c.args.i c.requires.1 c.requires.2 c.if-b-f.false
