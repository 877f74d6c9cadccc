-- What is left to do from here gives the whole.
-- Assumes nothing.
use Rattle.filing.proofs.Settling.{Doing}
use Rattle.filing.proofs.settle.Given as goal

abbrev pub invariant-loop-k : goal.invariant-loop-k
invariant-loop-k l = Doing l.revision l.changed l.mask l.initial.copy l.copy l.k-iterator.0
