-- An entry's block with its bytes: these first, and then `set_block`.
-- Assumes nothing.
use Rattle.workcopy.proofs.Blocks.{put-block_is, put-fits}
use Rattle.workcopy.proofs.put_block.Goals as goal

pub set_block-requires : goal.set_block-requires
set_block-requires c = put-fits c.args.e c.args.s.now c.args.bytes.now c.requires.0 c.requires.1 c.put_bytes.ensures

pub returns : goal.returns
returns c = put-block_is c.args.e c.args.s.now c.args.bytes.now c.requires.0 c.requires.1 c.put_bytes.ensures c.set_block.ensures
