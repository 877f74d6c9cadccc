-- A fresh copy, block by block.
-- Assumes nothing.
use Rattle.std.proofs.Common.{◌∙◌, ◌≡◌, ◌*◌, ◌+◌, ◌-◌, arith, length, length-append, length-drop, refl, sym, ℕ}
use Rattle.std.proofs.lemmas.List.{length-take-le}
use Rattle.workcopy.proofs.Creating.{fresh-done, fresh-first, fresh_step}
use Rattle.workcopy.proofs.fresh.Goals as goal

pub slice_bounds-put_seat-end-2 : goal.slice_bounds-put_seat-end-2
slice_bounds-put_seat-end-2 c = sym (length-take-le 512 c.args.copy.now (omega arith))

pub loop-next-init : goal.loop-next-init
loop-next-init c = fresh-first c.args.copy.now 512 c.args.seat refl c.put_seat.ensures

pub loop-next-preserved : goal.loop-next-preserved
loop-next-preserved c =
    let l = c.loop-next in
    let at = 512 * l.next in
    let n : length l.copy ≡ 16896 = omega (arith, l.auto.copy, c.put_seat.auto.s, length-append {A = ℕ}, length-drop {A = ℕ}, length-take-le 512 c.args.copy.now (omega arith)) in
    fresh_step l.copy (at + 512 - at) l.next (omega arith) (omega arith) n c.put_empty.ensures ∙ l.invariant

pub returns : goal.returns
returns c =
    let l = c.loop-next in
    let n : length l.copy ≡ 16896 = omega (arith, l.auto.copy, c.put_seat.auto.s, length-append {A = ℕ}, length-drop {A = ℕ}, length-take-le 512 c.args.copy.now (omega arith)) in
    sym (fresh-done l.copy l.next (omega arith) n) ∙ l.invariant
