-- The copy of the record's seat is one of the four, and goes back to its place.
-- Assumes nothing.
use Rattle.std.proofs.Common.{◌*◌, ◌+◌, ◌-◌, arith, refl}
use Rattle.replay.proofs.Stepping.{good_limits, turn-steps, turn_by_lem}
use Rattle.replay.proofs.turn.Goals as goal

pub overflow_sub-a : goal.overflow_sub-a
overflow_sub-a c = omega (arith, (good_limits c.args.rec.now c.requires.good).0, c.byte-seat.ensures)

pub slice_bounds-step-end : goal.slice_bounds-step-end
slice_bounds-step-end c = let g = good_limits c.args.rec.now c.requires.good in omega (arith, g.0, g.1, c.byte-seat.ensures, c.requires.ready.size)

pub step-requires : goal.step-requires
step-requires c =
    let a = c.args in
    let P = c.requires in
    let k = c.byte-seat.result - 1 in
    let g = good_limits a.rec.now P.good in
    turn-steps a.store.now a.copies.now a.h P.ready k (omega (arith, g.0, g.1, c.byte-seat.ensures)) a.rec.now (16_896 * k + 16_896 - 16_896 * k) (omega arith) P.good P.size P.room _ _ refl
    (omega (arith, g.0, c.byte-seat.ensures))

pub returns : goal.returns
returns c =
    let a = c.args in
    let P = c.requires in
    let k = c.byte-seat.result - 1 in
    let g = good_limits a.rec.now P.good in
    turn_by_lem a.store.now a.copies.now a.h P.ready k (omega (arith, g.0, g.1, c.byte-seat.ensures)) a.rec.now (16_896 * k + 16_896 - 16_896 * k) (omega arith) (λ j. omega (arith, c.type_inv.rec j))
    (omega (arith, g.0, c.byte-seat.ensures)) c.step.ensures (omega (arith, c.byte-seat.ensures)) refl
