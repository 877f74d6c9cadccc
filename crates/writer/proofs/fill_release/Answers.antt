-- The head, the zeros and the check are the block.
use Rattle.writer.proofs.Filling.{release_filled}
use Rattle.writer.proofs.fill_release.Goals as goal

pub returns : goal.returns
returns c =
    release_filled c.args.revision c.args.seat c.args.stamp c.args.d.now c.put_head.new.d c.clear.new.s c.seal.new.s
    c.requires.0 c.put_head.ensures c.clear.ensures c.seal.ensures
