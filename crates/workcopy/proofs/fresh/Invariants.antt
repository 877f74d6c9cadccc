-- What stands before the next block, with empty entries for the rest, is the whole.
-- Assumes nothing.
use Rattle.std.proofs.Common.{◌≡◌}
use Rattle.model.specs.Calls.{fresh_copy}
use Rattle.workcopy.proofs.Creating.{so_far}
use Rattle.workcopy.proofs.fresh.Given as goal

abbrev pub invariant-loop-next : goal.invariant-loop-next
invariant-loop-next l = so_far l.copy l.next ≡ fresh_copy l.seat
