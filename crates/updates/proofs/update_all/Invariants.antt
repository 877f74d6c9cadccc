-- What is left to do from here gives the whole, and the copy still fits.
-- Assumes nothing.
use Rattle.model.specs.Store.{store_history}
use Rattle.updates.proofs.Rounds.{Doing}
use Rattle.updates.specs.Inner.{updated_of}
use Rattle.updates.proofs.update_all.Given as goal

abbrev pub invariant-loop-k : goal.invariant-loop-k
invariant-loop-k l = Doing l.store l.v (updated_of (store_history l.store) l.r) l.mask l.initial.copy l.copy l.k-iterator.0
