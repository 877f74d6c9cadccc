-- The two fields of a status.
-- Assumes nothing.
use Rattle.replay.proofs.Writing.{status_record}
use Rattle.replay.proofs.put_standing.Goals as goal

pub returns : goal.returns
returns c = status_record c.requires c.args.standing.status c.args.standing.revision c.put32.ensures c.put32-2.ensures
