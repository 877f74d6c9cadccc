-- What is left to look at from here gives the whole.
-- Assumes nothing.
use Rattle.std.proofs.Common.{◌≡◌}
use Rattle.model.specs.Calls.{side_in}
use Rattle.model.specs.Refusals.{conflict, some_conflict}
use Rattle.model.specs.Store.{store_history}
use Rattle.model.specs.WorkCopy.{entries_of}
use Rattle.masks.proofs.Visits.{any_chosen}
use Rattle.updates.proofs.any_conflict.Given as goal

abbrev pub invariant-loop-k : goal.invariant-loop-k
invariant-loop-k l =
    any_chosen (conflict (store_history l.store) l.r) l.k-iterator.0 (entries_of l.copy) ≡ some_conflict (side_in l.store l.copy) l.mask l.r
