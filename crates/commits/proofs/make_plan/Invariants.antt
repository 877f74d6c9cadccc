-- The lines so far, and those of the sheets that are left, are the whole; there are as many turns left as sheets.
-- Assumes nothing.
use Rattle.std.proofs.Common.{◌+◌, ◌≡◌}
use Rattle.commits.proofs.Making.{Making}
use Rattle.commits.specs.Plan.{row_of}
use Rattle.masks.specs.Mask.{count_to}
use Rattle.commits.proofs.make_plan.Given as goal

abbrev pub invariant-chosen : goal.invariant-chosen
invariant-chosen l = record {
  making : Making (row_of l.copy l.changed l.places) l.mask l.used l.lines l.m l.count l.next;
  turns : count_to 32 l.m + l.counter ≡ l.end;
}
