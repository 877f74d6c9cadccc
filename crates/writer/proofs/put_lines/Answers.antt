-- Each turn writes one line more.
use Rattle.std.proofs.Common.{sym}
use Rattle.block.proofs.Writing.{written_none}
use Rattle.writer.proofs.Lines.{line_more}
use Rattle.writer.proofs.put_lines.Goals as goal

pub loop-i-init : goal.loop-i-init
loop-i-init c = sym (written_none 16 c.args.d.now)

pub loop-i-preserved : goal.loop-i-preserved
loop-i-preserved c = line_more _ _ _ _ _ _ c.loop-i-test.true c.loop-i.invariant c.put_line.ensures
