-- The bytes of one sheet copied to another, and then that block: `copy_is`.
-- Assumes nothing.
use Rattle.std.proofs.Common.{◌∙◌, ◌≡◌, ◌*◌, ◌+◌, ◌-◌, ap, arith, drop}
use Rattle.std.proofs.Math.Seq.{paste}
use Rattle.workcopy.proofs.Blocks.{copy-fits, copy_is}
use Rattle.workcopy.proofs.copy_entry.Goals as goal

pub set_block-requires : goal.set_block-requires
set_block-requires c =
    let l = c.args.copy.now in
    let a = 512 * (c.args.from + 1) + 16 in
    let b = 512 * (c.args.to + 1) in
    let n : a + c.args.e.len - a ≡ c.args.e.len = omega arith in
    let p = c.copy_within.ensures.after ∙ ap (paste l (b + 16) (drop a l)) n in
    copy-fits l c.args.from c.args.to c.args.e c.requires p (b + 512 - b) (omega arith) c.copy_within.ensures.len

pub returns : goal.returns
returns c =
    let l = c.args.copy.now in
    let a = 512 * (c.args.from + 1) + 16 in
    let b = 512 * (c.args.to + 1) in
    let n : a + c.args.e.len - a ≡ c.args.e.len = omega arith in
    let p = c.copy_within.ensures.after ∙ ap (paste l (b + 16) (drop a l)) n in
    copy_is l c.args.from c.args.to c.args.e c.requires p (b + 512 - b) (omega arith) c.set_block.ensures
