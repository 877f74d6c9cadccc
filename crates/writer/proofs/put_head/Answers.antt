-- The part that is lent comes back as the head.
use Rattle.std.proofs.Common.{◌++◌, ◌∙◌, ap, sym, arith, drop}
use Rattle.block.proofs.Writing.{written_mid}
use Rattle.writer.specs.Blocks.{head_of}
use Rattle.writer.proofs.put_head.Goals as goal

pub returns : goal.returns
unfolding head_of
returns c =
    let d = c.args.d.now in
    ap (λ x. x ++ drop 16 d) (c.copy_from_slice.ensures.after ∙ c.head_bytes-head.ensures)
    ∙ sym (written_mid 0 (head_of c.args.kind c.args.n c.args.r c.args.seat c.args.stamp) d (omega arith))
