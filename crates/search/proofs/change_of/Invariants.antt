-- None of the changes before the j-th names the sheet.
-- Assumes nothing.
use Rattle.std.proofs.Common.{◌≡◌, drop}
use Rattle.model.specs.Blocks.{parse_lines}
use Rattle.search.specs.Change.{first_named}
use Rattle.shape.specs.Lines.{left}
use Rattle.search.proofs.change_of.Given as goal

abbrev pub invariant-loop-j : goal.invariant-loop-j
invariant-loop-j l = first_named l.i (left l.b 16 l.m l.j) ≡ first_named l.i (parse_lines l.m (drop 16 l.b))
