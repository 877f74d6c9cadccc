-- No check is right where there is no block.
use Rattle.std.proofs.Common.{◌/◌, length, sym, ◌∙◌}
use borrow.Author.Tests.{le-ltb}
use Rattle.block.specs.Buffer.{block_at}
use Rattle.block.proofs.Sealing.{not-sealed}
use Rattle.block.proofs.Parts.{no_block}
use Rattle.block.proofs.check_at.Goals as goal

pub returns-else-j-s : goal.returns-else-j-s
returns-else-j-s c =
    let s = c.args.s.now in
    let j = c.args.j in
    le-ltb j (length s / 512) c.if-j-s.false ∙ sym (not-sealed (block_at s j) (no_block s j c.if-j-s.false))
