-- The seat's block: `seat_is`.
-- Assumes nothing.
use Rattle.workcopy.proofs.Creating.{seat_is}
use Rattle.workcopy.proofs.put_seat.Goals as goal

pub returns : goal.returns
returns c = seat_is c.args.s.now c.args.seat c.requires c.clear.ensures c.seal.ensures
