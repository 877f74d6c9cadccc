-- The head, the bytes, the zeros and the check are the block.
use Rattle.writer.proofs.Filling.{content-filled}
use Rattle.writer.proofs.fill_content.Goals as goal

pub returns : goal.returns
returns c =
    content-filled c.args.revision c.args.bytes.now c.args.d.now c.put_head.new.d c.put_bytes.new.s c.clear.new.s c.seal.new.s
    c.requires.0 c.requires.1.1 c.put_head.ensures c.put_bytes.ensures c.clear.ensures c.seal.ensures
