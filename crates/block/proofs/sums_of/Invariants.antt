-- After k of the bytes that fill no step: what the sums may have come to, and that the bytes that are left give the whole.
use Rattle.std.proofs.Common.{◌≡◌, ◌+◌, ◌*◌, ◌%◌, ◌≤◌, drop, take}
use Rattle.block.specs.Check.{sums}
use Rattle.block.proofs.sums_of.Given as goal

abbrev pub invariant-loop-x : goal.invariant-loop-x
invariant-loop-x l =
    record {
      first : l.a ≤ 255 * (l.stepped + l.x-index);
      second : l.b ≤ 130_560 * (l.stepped + l.x-index);
      left : sums (l.a % 65_521) (l.b % 65_521) (drop l.x-index l.x-items) ≡ sums 0 0 (take 508 l.s);
    }
