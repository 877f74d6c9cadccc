-- Assumes nothing.
use Rattle.updates.proofs.Answers.{revert_done, revert_none}
use Rattle.updates.proofs.revert.Goals as goal

pub returns-then-mask-eq0 : goal.returns-then-mask-eq0
returns-then-mask-eq0 c = let a = c.args in revert_none a.store.now a.copy.now a.mask c.if-mask-eq0.true

pub returns : goal.returns
returns c = let a = c.args in revert_done a.store.now a.copy.now a.mask c.if-mask-eq0.false c.revert_all.ensures
