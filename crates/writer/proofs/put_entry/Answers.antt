-- The part of the working copy is the sheet's bytes.
use Rattle.std.proofs.Common.{◌*◌, ◌+◌, ◌-◌, ◌∙◌, ap, arith, length-take}
use Rattle.std.proofs.Math.ListN.{drop}
use Rattle.block.specs.Write.{written}
use Rattle.model.specs.Blocks.{content, fields_of}
use Rattle.model.specs.Codec.{encode}
use Rattle.writer.proofs.Contents.{part_sheet}
use Rattle.writer.specs.Blocks.{size_in}
use Rattle.writer.proofs.put_entry.Goals as goal

pub slice_bounds-put_content-end : goal.slice_bounds-put_content-end
unfolding size_in
slice_bounds-put_content-end c = omega (arith, c.get16.ensures, c.from-n.ensures)

pub put_content-requires : goal.put_content-requires
unfolding size_in
put_content-requires c =
    let at = 512 * (c.args.sheet + 1) + 16 in
    (omega arith, (omega arith, omega (arith, length-take (at + c.from-n.result - at) (drop at c.args.copy.now))))

pub returns : goal.returns
returns c =
    let at = 512 * (c.args.sheet + 1) + 16 in
    c.put_content.ensures
    ∙ ap (λ b. written (512 * c.args.block) (encode fields_of (content c.args.revision b)) c.args.store.now)
    (part_sheet c.args.copy.now c.args.sheet c.from-n.result (at + c.from-n.result - at) (c.from-n.ensures ∙ c.get16.ensures) (omega arith))
