-- The part that is lent comes back as the block.
use Rattle.model.specs.Blocks.{commit}
use Rattle.writer.specs.Blocks.{lines_in}
use Rattle.writer.proofs.Filling.{block_lent}
use Rattle.writer.proofs.put_commit_block.Goals as goal

pub returns : goal.returns
returns c = block_lent c.args.store.now c.fill_commit.new.d c.args.block (commit c.args.revision c.args.seat c.args.stamp (lines_in c.args.lines.now)) c.fill_commit.ensures c.requires.0
