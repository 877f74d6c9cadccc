-- The bytes of a good record end within it.
-- Assumes nothing.
use Rattle.std.proofs.Common.{arith}
use Rattle.replay.proofs.Stepping.{good_limits, reachable, step-done}
use Rattle.replay.proofs.step.Goals as goal

pub slice_bounds-perform-end : goal.slice_bounds-perform-end
slice_bounds-perform-end c = omega (arith, (good_limits c.args.rec.now c.requires.good).2, c.requires.size, c.get16.ensures)

pub put_reply-requires : goal.put_reply-requires
put_reply-requires c = (c.requires.room, reachable c.perform-done.new.store c.perform-done.new.copy _ c.perform-done.ensures.fits c.perform-done.ensures.within)

pub returns : goal.returns
returns c =
    let a = c.args in
    step-done a.rec.now a.store.now a.copy.now a.v c.decode-call.ensures c.get16.ensures c.perform-done.ensures c.put_reply.ensures
