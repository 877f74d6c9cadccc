-- The zeros that fit are written, and nothing past the end.
use Rattle.std.proofs.Common.{arith, rules}
use Rattle.block.proofs.Writing.{cleared, clear_none}
use Rattle.block.proofs.clear.Goals as goal

pub returns-then-from-end : goal.returns-then-from-end
returns-then-from-end c =
    cleared c.args.from c.args.to c.args.s.now c.min-end.result (omega arith) c.if-from-end.true (search rules)

pub returns-else-from-end : goal.returns-else-from-end
returns-else-from-end c = clear_none c.args.from c.args.to c.args.s.now (omega arith)
