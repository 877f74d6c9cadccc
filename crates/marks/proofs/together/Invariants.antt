-- The revisions that are marked and those that are left give the whole.
use Rattle.std.proofs.Common.{◌≡◌, drop, length}
use Rattle.model.specs.Log.{once}
use Rattle.marks.proofs.Turns.{apart}
use Rattle.marks.proofs.Walk.{released_in}
use Rattle.marks.proofs.together.Given as goal

abbrev pub invariant-loop-x : goal.invariant-loop-x
invariant-loop-x l =
    (goal.iterator-loop-x).can_next l.x-iterator × (goal.iterator-loop-x).is_finite l.x-iterator
    × (length l.seen ≡ 4096) × (apart l.seen (drop (length l.yielded) (released_in l.store l.n)) ≡ once (released_in l.store l.n))
