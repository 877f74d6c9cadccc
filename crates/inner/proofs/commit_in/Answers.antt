-- `inner::commit_in` meets its contract: refused where there is a tail, or what filing answers.
-- Assumes nothing.
use Rattle.inner.proofs.Performing.{filed, tailed, untailed}
use Rattle.inner.proofs.commit_in.Goals as goal

pub returns-then-has : goal.returns-then-has
returns-then-has c = tailed c.args.store.now c.args.copy.now c.args.v c.requires c.args.stamp c.args.mask c.args.n c.has.ensures c.if-has.true

pub commit-requires : goal.commit-requires
commit-requires c = (c.requires, untailed c.args.store.now c.args.copy.now c.args.v c.requires c.has.ensures c.if-has.false)

pub returns : goal.returns
returns c = filed c.args.store.now c.args.copy.now c.args.v c.requires c.args.stamp c.args.mask c.args.n c.has.ensures c.if-has.false c.commit.ensures
