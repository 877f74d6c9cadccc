-- The part that is lent comes back as the block.
use Rattle.model.specs.Blocks.{mark}
use Rattle.model.specs.Log.{released}
use Rattle.writer.proofs.Filling.{block_lent}
use Rattle.writer.proofs.put_release.Goals as goal

pub returns : goal.returns
returns c = block_lent c.args.store.now c.fill_release.new.d c.args.block (mark (released c.args.revision c.args.seat c.args.stamp)) c.fill_release.ensures c.requires.0
