-- The numbers so far are in range, and what is left of the line gives the whole. The measure is what is left of the line.
-- Assumes nothing.
use Rattle.std.proofs.Common.{◌≡◌, ◌+◌, ◌-◌, ◌≤◌, length, take, true}
use Rattle.block.specs.Lists.{all}
use Rattle.rehearsal.specs.Nine.{left_at}
use Rattle.rehearsal.specs.Output.{numbered, ranged}
use Rattle.rehearsal.specs.Rehearsal.{in_range}
use Rattle.text.specs.Text.{words}
use Rattle.rehearsal.proofs.nine.Given as goal

abbrev pub invariant-loop-at : goal.invariant-loop-at
invariant-loop-at l =
    (l.k ≤ 9) × (length l.n ≡ 9) × (l.at ≤ length l.line + 1) × (all in_range (take l.k l.n) ≡ true)
    × (left_at l.line (take l.k l.n) l.at ≡ ranged (numbered (words l.line)))

abbrev pub decreases-loop-at : goal.decreases-loop-at
decreases-loop-at l = length l.line + 1 - l.at
