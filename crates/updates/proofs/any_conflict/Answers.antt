-- Assumes nothing.
use Rattle.std.proofs.Common.{◌∙◌}
use Rattle.updates.proofs.Rounds.{conflict_here, conflict-next, conflict-none}
use Rattle.updates.proofs.any_conflict.Goals as goal

pub returns-then-conflicts : goal.returns-then-conflicts
returns-then-conflicts c =
    conflict_here c.requires.0 c.args.r c.in-Some.ensures.steps c.conflicts.ensures c.if-conflicts.true ∙ c.loop-k.invariant

pub loop-k-preserved : goal.loop-k-preserved
loop-k-preserved c =
    conflict-next c.requires.0 c.args.r c.in-Some.ensures.steps c.conflicts.ensures c.if-conflicts.false ∙ c.loop-k.invariant

pub returns : goal.returns
returns c = conflict-none c.requires.0 c.args.r c.in-None.ensures.steps ∙ c.loop-k.invariant
