-- The rows before stay, and the lines that are left, put into the row as it is now, give the whole.
use Rattle.std.proofs.Common.{◌*◌, ◌≡◌}
use Rattle.shape.proofs.RowLaws.{Alike, Putting}
use Rattle.shape.proofs.grow.Given as goal

abbrev pub invariant-loop-j : goal.invariant-loop-j
invariant-loop-j l =
    Alike (32 * l.r) l.tab l.initial.tab × (Putting l.s l.base l.m l.j l.r l.tab ≡ Putting l.s l.base l.m 0 l.r l.initial.tab)
