-- Zeros, and then the answer or the place.
-- Assumes nothing.
use Rattle.replay.proofs.Placing.{still_within}
use Rattle.replay.proofs.Writing.{cleared}
use Rattle.replay.proofs.put_reply.Goals as goal

pub put_answer-requires : goal.put_answer-requires
put_answer-requires c = cleared c.args.rec.now c.requires.0 c.clear.ensures

pub put_place-requires : goal.put_place-requires
put_place-requires c = (cleared c.args.rec.now c.requires.0 c.clear.ensures, still_within c.in-At.is c.requires.1)
