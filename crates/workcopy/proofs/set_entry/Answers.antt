-- One block put into the copy, with the bytes that stand there: `put_back`.
-- Assumes nothing.
use Rattle.std.proofs.Common.{◌∙◌, ◌*◌, ◌+◌, ◌-◌, List, arith, subst, sym, ℕ}
use Rattle.block.specs.Buffer.{block_at}
use Rattle.model.specs.Codec.{encode}
use Rattle.model.specs.Types.{entry_of}
use Rattle.model.specs.WorkCopy.{copy_fields, entry_block}
use Rattle.workcopy.proofs.Blocks.{lent, lent_length, put_back}
use Rattle.workcopy.specs.Copy.{Fit, bytes_in}
use Rattle.workcopy.proofs.set_entry.Goals as goal

pub set_block-requires : goal.set_block-requires
set_block-requires c =
    let l = c.args.copy.now in
    let at = 512 * (c.args.i + 1) in
    (lent_length l at (at + 512 - at) (omega arith) (omega (arith, c.requires.inside, c.requires.copy.size)), subst (Fit c.args.e) (sym (lent (bytes_in c.args.e) l at (at + 512 - at) (omega arith))) c.requires.fit)

pub returns : goal.returns
returns c =
    let e = c.args.e in
    let l = c.args.copy.now in
    let at = 512 * (c.args.i + 1) in
    put_back l c.args.i (at + 512 - at) e (bytes_in e (block_at l (c.args.i + 1))) c.requires (omega arith)
    (c.set_block.ensures ∙ lent (λ (p : List ℕ). encode copy_fields (entry_block (entry_of e (bytes_in e p)))) l at (at + 512 - at) (omega arith))
