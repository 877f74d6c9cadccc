-- From block p on the blocks are of later eras. The used blocks stand in the store.
-- Assumes nothing.
use Rattle.std.proofs.Common.{◌*◌, ◌<◌, ◌≤◌, length}
use Rattle.model.specs.Store.{blocks_of}
use Rattle.search.specs.Find.{era_at}
use Rattle.search.proofs.bound.Given as goal

abbrev pub invariant-loop-p : goal.invariant-loop-p
invariant-loop-p l = record {
  low : 1 ≤ l.p;
  high : l.p ≤ l.used;
  few : l.used ≤ 4_096;
  room : l.used * 512 ≤ length l.store;
  later : l.r < era_at (blocks_of l.used l.store) l.p;
}
