-- `filing::settle` meets its contract: a turn settles the lowest chosen entry that is left.
-- Assumes nothing.
use Rattle.filing.proofs.Settling.{doing_end, doing-next}
use Rattle.filing.proofs.settle.Goals as goal

pub loop-k-preserved : goal.loop-k-preserved
loop-k-preserved c = let s = c.in-Some.ensures.steps in rw s.cleared (doing-next c.loop-k.invariant s.lowest s.inside c.settle_one.ensures)

pub returns : goal.returns
returns c = doing_end c.loop-k.invariant c.in-None.ensures.steps
