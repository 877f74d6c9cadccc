-- The changes that are left give the whole.
use Rattle.std.proofs.Common.{◌≡◌}
use Rattle.shape.proofs.Turns.{lines_left}
use Rattle.shape.proofs.lines_shape.Given as goal

abbrev pub invariant-loop-j : goal.invariant-loop-j
invariant-loop-j l = lines_left l.s l.m l.j ≡ lines_left l.s l.m 0
