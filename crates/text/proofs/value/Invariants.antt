-- The number so far, and what is left of the word.
-- Assumes nothing.
use Rattle.std.proofs.Common.{◌≡◌, drop}
use Rattle.text.specs.Text.{value_of}
use Rattle.text.proofs.value.Given as goal

abbrev pub invariant-loop-x : goal.invariant-loop-x
invariant-loop-x l = value_of l.n (drop l.x-index l.w) ≡ value_of 0 l.w
