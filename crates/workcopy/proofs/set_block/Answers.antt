-- An entry's block, from the head and the bytes that stand there: `set_is`.
-- Assumes nothing.
use Rattle.workcopy.proofs.Blocks.{set_is}
use Rattle.workcopy.proofs.set_block.Goals as goal

pub returns : goal.returns
returns c =
    set_is c.args.e c.args.s.now c.head_of-head.result c.requires.0 c.requires.1 c.head_of-head.ensures c.put_bytes.ensures c.clear.ensures c.seal.ensures
