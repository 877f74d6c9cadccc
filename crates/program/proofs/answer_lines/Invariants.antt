-- The lines: what is left to print, from the line at `at` on, gives the whole. The measure is what is left of the input.
-- Assumes nothing.
use Rattle.std.proofs.Common.{◌≡◌, ◌+◌, ◌-◌, ◌*◌, ◌≤◌, drop, length}
use Rattle.block.specs.Write.{written}
use Rattle.text.specs.Text.{lines}
use Rattle.program.specs.Buffers.{pool, transcript_on}
use Rattle.program.proofs.answer_lines.Given as goal

abbrev pub invariant-loop-at : goal.invariant-loop-at
invariant-loop-at l =
    (l.at ≤ length l.input + 1) × (l.to ≤ 32_800 * l.at)
    × ((l.to + length (transcript_on (pool l.store l.one l.two) (lines (drop l.at l.input))) ≡ length (transcript_on (pool l.fn.store l.fn.one l.fn.two) (lines l.input)))
    × (written l.to (transcript_on (pool l.store l.one l.two) (lines (drop l.at l.input))) l.out ≡ written 0 (transcript_on (pool l.fn.store l.fn.one l.fn.two) (lines l.input)) l.fn.out))

abbrev pub decreases-loop-at : goal.decreases-loop-at
decreases-loop-at l = length l.input - l.at
