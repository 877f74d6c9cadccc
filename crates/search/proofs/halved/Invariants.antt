-- From `hi` on the blocks are of later eras. The used blocks stand in the store.
-- Assumes nothing.
use Rattle.std.proofs.Common.{◌-◌, ◌*◌, ◌<◌, ◌≤◌, length}
use Rattle.model.specs.Store.{blocks_of}
use Rattle.search.specs.Find.{era_at}
use Rattle.search.proofs.halved.Given as goal

abbrev pub invariant-loop-lo : goal.invariant-loop-lo
invariant-loop-lo l = record {
  low : 1 ≤ l.lo;
  mid : l.lo ≤ l.hi;
  high : l.hi ≤ l.used;
  few : l.used ≤ 4_096;
  room : l.used * 512 ≤ length l.store;
  later : l.r < era_at (blocks_of l.used l.store) l.hi;
}

abbrev pub decreases-loop-lo : goal.decreases-loop-lo
decreases-loop-lo l = l.hi - l.lo
