-- Assumes nothing.
use Rattle.updates.proofs.Entering.{revert_keeps}
use Rattle.updates.proofs.Rounds.{doing_end, doing-next}
use Rattle.updates.proofs.revert_all.Goals as goal

pub loop-k-preserved : goal.loop-k-preserved
loop-k-preserved c =
    let d = c.loop-k.invariant in
    doing-next d c.in-Some.ensures.steps (revert_keeps d.fitting c.in-Some.k) c.revert_one.ensures

pub returns : goal.returns
returns c = doing_end c.loop-k.invariant c.requires c.in-None.ensures.steps
