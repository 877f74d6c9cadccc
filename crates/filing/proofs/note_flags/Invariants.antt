-- The flags of the chosen sheets that are not left are right.
-- Assumes nothing.
use Rattle.filing.proofs.Noting.{Noting}
use Rattle.filing.proofs.note_flags.Given as goal

abbrev pub invariant-loop-k : goal.invariant-loop-k
invariant-loop-k l = Noting l.store l.copy l.mask l.changed l.places l.k-iterator.0
