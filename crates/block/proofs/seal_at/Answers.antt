-- The block with its check, in its place.
use Rattle.std.proofs.Common.{◌+◌, ◌-◌, ◌*◌, arith}
use Rattle.block.proofs.Parts.{seal_at-not, seal_at_by}
use Rattle.block.proofs.seal_at.Goals as goal

pub returns-then-j-s : goal.returns-then-j-s
returns-then-j-s c =
    let j = c.args.j in
    seal_at_by c.args.s.now j (512 * j + 512 - 512 * j) (omega arith) c.if-j-s.true c.seal.ensures

pub returns-else-j-s : goal.returns-else-j-s
returns-else-j-s c = seal_at-not c.args.s.now c.args.j c.if-j-s.false
