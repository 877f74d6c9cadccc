-- What is left to write from byte i on gives the whole.
-- Assumes nothing.
use Rattle.std.proofs.Common.{◌*◌, ◌+◌, ◌≡◌, drop}
use Rattle.block.specs.Write.{written}
use Rattle.text.specs.Text.{hex_pairs}
use Rattle.text.proofs.put_pairs.Given as goal

abbrev pub invariant-loop-i : goal.invariant-loop-i
invariant-loop-i l = written (l.at + 2 * l.i) (hex_pairs (drop l.i l.s)) l.out ≡ written l.at (hex_pairs l.s) l.initial.out
