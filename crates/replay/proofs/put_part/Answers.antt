-- The number of the last commit, the number of bytes, and the bytes.
-- Assumes nothing.
use Rattle.replay.proofs.Writing.{bytes_record}
use Rattle.replay.proofs.put_part.Goals as goal

pub returns : goal.returns
returns c = bytes_record c.requires.0 c.args.bytes.now c.args.revision c.put32.ensures c.put32-2.ensures c.put_bytes.ensures
