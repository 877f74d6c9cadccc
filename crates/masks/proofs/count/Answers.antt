-- The set bits of a 32-bit number are those below 32.
use Rattle.std.proofs.Common.{arith}
use Rattle.masks.proofs.Bits.{ones_count}
use Rattle.masks.proofs.count.Goals as goal

pub returns : goal.returns
returns c = ones_count 32 c.args.mask (omega arith)
