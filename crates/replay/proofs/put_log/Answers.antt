-- One field of a log's record after the other.
-- Assumes nothing.
use Rattle.replay.proofs.Writing.{log_record}
use Rattle.replay.proofs.put_log.Goals as goal

pub returns : goal.returns
returns c =
    let s = c.source-source.ensures in
    log_record c.requires c.args.«entry» c.from.ensures s.sheet s.revision c.put32.ensures c.put32-2.ensures c.put32-3.ensures c.put32-4.ensures c.put32-5.ensures c.put32-6.ensures
