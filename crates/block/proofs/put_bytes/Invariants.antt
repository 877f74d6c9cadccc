-- What is left to write from byte j on gives the whole.
use Rattle.std.proofs.Common.{◌≡◌, ◌+◌, drop, length}
use Rattle.block.specs.Write.{written}
use Rattle.block.proofs.put_bytes.Given as goal

abbrev pub invariant-loop-j : goal.invariant-loop-j
invariant-loop-j l =
    record {
      long : length l.s ≡ length l.initial.s;
      left : written (l.at + l.j) (drop l.j l.b) l.s ≡ written l.at l.b l.initial.s;
    }
