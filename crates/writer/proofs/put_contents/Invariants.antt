-- The contents of the first lines are written.
use Rattle.std.proofs.Common.{take}
use Rattle.writer.specs.Blocks.{PutContents, contents_by, lines_in, sheet_in}
use Rattle.writer.proofs.put_contents.Given as goal

abbrev pub invariant-loop-l : goal.invariant-loop-l
invariant-loop-l l = PutContents l.initial.store l.store l.n l.used l.revision (contents_by (sheet_in l.copy) l.used (lines_in (take l.l-index l.lines))) l.next l.left
