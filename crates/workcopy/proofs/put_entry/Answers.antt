-- One block put into the copy: `put_back`.
-- Assumes nothing.
use Rattle.std.proofs.Common.{◌*◌, ◌+◌, ◌-◌, arith}
use Rattle.workcopy.proofs.Blocks.{put_back}
use Rattle.workcopy.proofs.put_entry.Goals as goal

pub returns : goal.returns
returns c =
    let at = 512 * (c.args.i + 1) in
    put_back c.args.copy.now c.args.i (at + 512 - at) c.args.e c.args.bytes.now c.requires (omega arith) c.put_block.ensures
