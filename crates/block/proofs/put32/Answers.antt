-- The four bytes of the number.
use Rattle.std.proofs.Common.{◌∙◌, arith}
use Rattle.block.proofs.Writing.{four_written}
use Rattle.block.proofs.put32.Goals as goal

pub returns : goal.returns
returns c = c.put_bytes.ensures ∙ rw c.to_le_bytes.ensures (four_written c.args.k c.args.v c.args.s.now (omega arith))
