-- What is left to look at from here gives the whole.
-- Assumes nothing.
use Rattle.std.proofs.Common.{◌≡◌}
use Rattle.masks.proofs.Visits.{any_chosen}
use Rattle.model.specs.Calls.{side_in}
use Rattle.model.specs.Refusals.{out_of_date, some_stale}
use Rattle.model.specs.Store.{store_history}
use Rattle.model.specs.WorkCopy.{entries_of}
use Rattle.filing.proofs.any_stale.Given as goal

abbrev pub invariant-loop-k : goal.invariant-loop-k
invariant-loop-k l = any_chosen (out_of_date (store_history l.store)) l.k-iterator.0 (entries_of l.copy) ≡ some_stale (side_in l.store l.copy) l.mask
