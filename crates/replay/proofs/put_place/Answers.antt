-- The refusal's number; the check finds the records of the places.
-- Assumes nothing.
use Rattle.replay.proofs.Placing.{none_record}
use Rattle.replay.proofs.put_place.Goals as goal

pub returns-in-Err : goal.returns-in-Err
returns-in-Err c = let a = c.args in none_record a.store.now a.copy.now c.in-Err.is c.requires.0 c.from.ensures c.put32.ensures
