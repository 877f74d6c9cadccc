-- Acceptance: the length, the seat's block, the entries' blocks, as `ok_is` has them.
-- Assumes nothing.
use Rattle.std.proofs.Common.{◌∙◌, arith, sym}
use Rattle.std.proofs.lemmas.List.{length-take-le}
use Rattle.workcopy.proofs.Accepting.{all_right, wrong-entry, wrong-length, wrong-seat}
use Rattle.workcopy.proofs.accept.Goals as goal
use Rattle.workcopy.proofs.accept.Goals.{then-not-seat_ok-via-then-not-seat_ok, then-not-seat_ok-via-else-not-seat_ok+then-not-entries_ok}

pub returns-then-copy-ne16896 : goal.returns-then-copy-ne16896
returns-then-copy-ne16896 c = wrong-length c.args.copy.now c.if-copy-ne16896.true

pub slice_bounds-seat_ok-end : goal.slice_bounds-seat_ok-end
slice_bounds-seat_ok-end c = sym (length-take-le 512 c.args.copy.now (omega arith))

pub seat_ok-requires : goal.seat_ok-requires
seat_ok-requires c = length-take-le 512 c.args.copy.now (omega arith)

pub returns-then-not-seat_ok : goal.returns-then-not-seat_ok
returns-then-not-seat_ok c =
    let l = c.args.copy.now in
    let e = c.if-copy-ne16896.false in
    elim c.then-not-seat_ok.branch [
      | then-not-seat_ok-via-then-not-seat_ok w ↦ wrong-seat l e (sym c.seat_ok.ensures ∙ w.if-not-seat_ok.true)
      | then-not-seat_ok-via-else-not-seat_ok+then-not-entries_ok w ↦ wrong-entry l e (sym c.seat_ok.ensures ∙ w.if-not-seat_ok.false) (sym w.entries_ok.ensures ∙ w.if-not-entries_ok.true)
    ]

pub returns : goal.returns
returns c =
    all_right c.args.copy.now c.if-copy-ne16896.false (sym c.seat_ok.ensures ∙ c.if-not-seat_ok.false) (sym c.entries_ok.ensures ∙ c.if-not-entries_ok.false) (omega arith)
