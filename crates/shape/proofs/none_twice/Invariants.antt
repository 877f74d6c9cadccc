-- The sheets that are marked and the changes that are left give the whole.
use Rattle.std.proofs.Common.{◌≡◌, drop, length}
use Rattle.model.specs.Blocks.{parse_lines}
use Rattle.model.specs.Pass.{none_twice}
use Rattle.shape.proofs.Changes.{apart}
use Rattle.shape.proofs.none_twice.Given as goal
use Rattle.shape.specs.Lines.{left}

abbrev pub invariant-loop-j : goal.invariant-loop-j
invariant-loop-j l =
    (length l.seen ≡ 256) × (apart l.seen (left l.s l.base l.m l.j) ≡ none_twice (parse_lines l.m (drop l.base l.s)))
