-- After i steps: what each of the four sums and w may have come to, and that the steps that are left give the whole.
use Rattle.std.proofs.Common.{◌≡◌, ◌-◌, ◌*◌, ◌/◌, ◌%◌, ◌≤◌, drop}
use Rattle.block.specs.Fours.{fours}
use Rattle.block.proofs.Fours.{Pair}
use Rattle.block.proofs.in_fours.Given as goal

abbrev pub invariant-loop-i : goal.invariant-loop-i
invariant-loop-i l =
    record {
      evens : Pair l.even l.i;
      odds : Pair l.odd l.i;
      counted : l.w ≤ 128_520 * l.i;
      left : fours (l.even % 65_536) (l.odd % 65_536) (l.even / 65_536) (l.odd / 65_536) l.w (l.n - l.i) (drop (4 * l.i) l.s) ≡ fours 0 0 0 0 0 l.n l.s;
    }
