-- Create: the refusals in their order, or the fresh copy.
-- Assumes nothing.
use Rattle.std.proofs.Common.{arith}
use Rattle.std.proofs.lemmas.Bool.Decides.{nat_tests}
use Rattle.workcopy.proofs.Creating.{create_done, create_length, create_range}
use Rattle.workcopy.proofs.create_copy.Goals as goal

pub returns-then-copy-ne16896 : goal.returns-then-copy-ne16896
returns-then-copy-ne16896 c = create_length c.args.copy.now c.args.seat c.if-copy-ne16896.true

pub returns-then-not-contains : goal.returns-then-not-contains
returns-then-not-contains c = create_range c.args.copy.now c.args.seat c.if-copy-ne16896.false (grind (arith, nat_tests, c.if-not-contains.ensures.cases))

pub returns : goal.returns
returns c =
    create_done c.args.copy.now c.args.seat c.if-copy-ne16896.false (grind (arith, nat_tests, c.if-not-contains.ensures.cases))
    (grind (arith, nat_tests, c.if-not-contains.ensures.cases)) c.fresh.ensures
