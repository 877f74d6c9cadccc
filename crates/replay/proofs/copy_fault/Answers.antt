-- The copy's refusal, then its seat.
-- Assumes nothing.
use Rattle.std.proofs.Common.{◌∙◌, sym}
use Rattle.std.proofs.lemmas.Result.{err_from_is_err_and}
use Rattle.replay.proofs.Faults.{fault_free, fault_refused, fault_seat}
use Rattle.replay.proofs.copy_fault.Goals as goal

pub returns-in_err-v : goal.returns-in_err-v
returns-in_err-v c =
    let a = c.args in
    let p = err_from_is_err_and c.from_residual.result c.from_residual.ensures.1 in
    rw (p.1, p.2) (fault_refused a.store.now a.copy.now a.h c.requires a.seat c.in_err-v.field-0.0 (sym c.check_copy.ensures ∙ c.in_err-v.was))

pub returns-then-v-seat : goal.returns-then-v-seat
returns-then-v-seat c = let a = c.args in fault_seat a.store.now a.copy.now a.h c.requires a.seat c.in_ok-v.v (sym c.check_copy.ensures ∙ c.in_ok-v.was) c.if-v-seat.true

pub returns : goal.returns
returns c = let a = c.args in fault_free a.store.now a.copy.now a.h c.requires a.seat c.in_ok-v.v (sym c.check_copy.ensures ∙ c.in_ok-v.was) c.if-v-seat.false
