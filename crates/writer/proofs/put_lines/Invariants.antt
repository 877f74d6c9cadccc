-- The first lines are written.
use Rattle.std.proofs.Common.{◌≡◌, take}
use Rattle.block.specs.Write.{written}
use Rattle.model.specs.Blocks.{lines_of}
use Rattle.writer.specs.Blocks.{lines_in}
use Rattle.writer.proofs.put_lines.Given as goal

abbrev pub invariant-loop-i : goal.invariant-loop-i
invariant-loop-i l = l.d ≡ written 16 (lines_of (lines_in (take l.i l.lines))) l.initial.d
