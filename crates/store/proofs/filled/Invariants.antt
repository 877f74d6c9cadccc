-- The blocks that are left have the same last block that is not all zero.
use Rattle.std.proofs.Common.{◌≡◌}
use Rattle.model.specs.Store.{filled_in}
use Rattle.store.proofs.filled.Given as goal

abbrev pub invariant-loop-p : goal.invariant-loop-p
invariant-loop-p l = filled_in l.p l.store ≡ filled_in l.n l.store
