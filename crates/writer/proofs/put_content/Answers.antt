-- The part that is lent comes back as the block.
use Rattle.model.specs.Blocks.{content}
use Rattle.writer.proofs.Filling.{block_lent}
use Rattle.writer.proofs.put_content.Goals as goal

pub returns : goal.returns
returns c = block_lent c.args.store.now c.fill_content.new.d c.args.block (content c.args.revision c.args.bytes.now) c.fill_content.ensures c.requires.0
