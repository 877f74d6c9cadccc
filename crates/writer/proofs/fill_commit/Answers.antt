-- The head, the lines, the zeros and the check are the block.
use Rattle.std.proofs.Common.{length}
use Rattle.std.proofs.Math.ListN.{length-map}
use Rattle.writer.proofs.Filling.{commit-filled}
use Rattle.writer.specs.Blocks.{line_in, lines_in}
use Rattle.writer.proofs.fill_commit.Goals as goal

pub returns : goal.returns
returns c =
    let ls = c.args.lines.now in
    commit-filled c.args.revision c.args.seat c.args.stamp (length ls) (lines_in ls) c.args.d.now
    c.put_head.new.d c.put_lines.new.d c.clear.new.s c.seal.new.s
    c.requires.0 (length-map ls line_in) c.requires.1.1 c.put_head.ensures c.put_lines.ensures c.clear.ensures c.seal.ensures
