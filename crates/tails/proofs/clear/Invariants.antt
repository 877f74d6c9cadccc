-- From block p on there are zeros, and before it what was there.
use Rattle.std.proofs.Common.{◌≡◌, ◌≤◌}
use Rattle.model.specs.Store.{blank_from}
use Rattle.tails.proofs.clear.Given as goal

abbrev pub invariant-loop-p : goal.invariant-loop-p
invariant-loop-p l = (l.p-start ≤ l.p) × (l.store ≡ blank_from l.p l.initial.store)
