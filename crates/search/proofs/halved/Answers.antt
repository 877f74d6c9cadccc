-- A block that states more than r is of a later era.
-- Assumes nothing.
use Rattle.std.proofs.Common.{◌+◌, ◌/◌, arith}
use Rattle.search.proofs.Halving.{behind_end, behind_later, halved_room}
use Rattle.search.proofs.halved.Goals as goal

pub loop-lo-init : goal.loop-lo-init
loop-lo-init c =
    let a = c.args in
    let w = halved_room a.store.now a.n a.used c.requires.0 a.r in
    record { low = omega arith; mid = w.0; high = omega arith; few = w.1; room = w.2; later = behind_end a.store.now a.n a.used c.requires.0 a.r c.requires.1 }

pub loop-lo-preserved : goal.loop-lo-preserved
loop-lo-preserved c =
    let a = c.args in
    let l = c.loop-lo in
    record {
      low = omega arith;
      mid = omega arith;
      high = omega arith;
      few = omega arith;
      room = omega arith;
      later = behind_later a.store.now a.n a.used c.requires.0 a.r ((l.lo + l.hi) / 2) c.two_at.result (omega arith) (omega arith) c.two_at.ensures.0 (omega arith);
    }
