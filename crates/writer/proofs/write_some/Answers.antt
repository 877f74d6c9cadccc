-- Content blocks while writes are left, and then the commit block.
use Rattle.writer.proofs.Contents.{cut_none, cut_short}
use Rattle.writer.specs.Blocks.{lines_in, sheet_in}
use Rattle.writer.proofs.write_some.Goals as goal

pub returns-then-left-eq0 : goal.returns-then-left-eq0
returns-then-left-eq0 c =
    cut_short (sheet_in c.args.copy.now) c.args.n c.args.used c.put_contents-next.result.next c.put_contents-next.result.left c.args.revision c.args.seat c.args.stamp (lines_in c.args.lines.now)
    c.args.store.now c.put_contents-next.new.store c.put_contents-next.ensures c.if-left-eq0.true

pub returns : goal.returns
returns c =
    cut_none (sheet_in c.args.copy.now) c.args.n c.args.used c.put_contents-next.result.next c.put_contents-next.result.left c.args.revision c.args.seat c.args.stamp (lines_in c.args.lines.now)
    c.args.store.now c.put_contents-next.new.store c.put_commit_block.new.store c.put_contents-next.ensures c.if-left-eq0.false c.put_commit_block.ensures
