-- Assumes nothing.
use Rattle.std.proofs.Common.{arith}
use Rattle.entries.proofs.Looking.{has_far, has_found, has_late}
use Rattle.entries.proofs.has.Goals as goal

pub returns-then-i-lt32 : goal.returns-then-i-lt32
returns-then-i-lt32 c =
    grind (arith, has_found c.args.store.now c.args.v c.requires c.args.r c.args.i)

pub returns-else-i-lt32 : goal.returns-else-i-lt32
returns-else-i-lt32 c =
    grind (arith, has_late c.args.store.now c.args.v c.requires c.args.r c.args.i, has_far c.args.store.now c.args.v c.requires c.args.r c.args.i)
