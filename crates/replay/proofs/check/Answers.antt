-- One line after the other.
-- Assumes nothing.
use Rattle.std.proofs.Common.{◌∙◌, ap, sym}
use mathlib.Core.Bool.{not}
use Rattle.std.proofs.lemmas.Result.{err_from_is_err_and}
use Rattle.model.specs.Types.{number_of}
use Rattle.replay.proofs.Faults.{check_all, check_copy_lem, check_length, check_room, check_script, check_store}
use Rattle.replay.specs.Faults.{fault_of}
use Rattle.replay.proofs.check.Goals as goal
use Rattle.replay.proofs.check.Goals.{then-not-script_ok-via-then-not-script_ok, then-not-script_ok-via-else-not-script_ok+then-answers-script}

pub returns-in_err-h : goal.returns-in_err-h
returns-in_err-h c =
    let a = c.args in
    let p = err_from_is_err_and c.from_residual.result c.from_residual.ensures.1 in
    rw (p.1, p.2) (check_store a.script.now a.store.now a.copies.now a.answers.now c.in_err-h.field-0.0 (sym c.«open».ensures ∙ c.in_err-h.was))

pub returns-then-copies-ne67584 : goal.returns-then-copies-ne67584
returns-then-copies-ne67584 c = let a = c.args in check_length a.script.now a.store.now a.copies.now a.answers.now c.in_ok-h.h (sym c.«open».ensures ∙ c.in_ok-h.was) c.if-copies-ne67584.true

pub copies_fault-requires : goal.copies_fault-requires
copies_fault-requires c = (sym c.«open».ensures ∙ c.in_ok-h.was, c.if-copies-ne67584.false)

pub returns-in_err-copies_fault : goal.returns-in_err-copies_fault
returns-in_err-copies_fault c =
    let a = c.args in
    let p = err_from_is_err_and c.from_residual-in_err-copies_fault.result c.from_residual-in_err-copies_fault.ensures.1 in
    rw (p.1, p.2)
    (check_copy_lem a.script.now a.store.now a.copies.now a.answers.now c.in_ok-h.h (sym c.«open».ensures ∙ c.in_ok-h.was) c.if-copies-ne67584.false (number_of c.in_err-copies_fault.field-0.0)
    (ap fault_of (sym c.in_err-copies_fault.was) ∙ c.copies_fault.ensures))

pub returns-then-not-script_ok : goal.returns-then-not-script_ok
returns-then-not-script_ok c =
    let a = c.args in
    let o = sym c.«open».ensures ∙ c.in_ok-h.was in
    let f = ap fault_of (sym c.in_ok-copies_fault.was) ∙ c.copies_fault.ensures in
    elim c.then-not-script_ok.branch [
      | then-not-script_ok-via-then-not-script_ok w ↦
          check_script a.script.now a.store.now a.copies.now a.answers.now c.in_ok-h.h o c.if-copies-ne67584.false f c.script_ok.ensures (ap not w.if-not-script_ok.true)
      | then-not-script_ok-via-else-not-script_ok+then-answers-script w ↦
          check_room a.script.now a.store.now a.copies.now a.answers.now c.in_ok-h.h o c.if-copies-ne67584.false f c.script_ok.ensures (ap not w.if-not-script_ok.false) w.if-answers-script.true
    ]

pub returns : goal.returns
returns c =
    let a = c.args in
    let o = sym c.«open».ensures ∙ c.in_ok-h.was in
    let f = ap fault_of (sym c.in_ok-copies_fault.was) ∙ c.copies_fault.ensures in
    (check_all a.script.now a.store.now a.copies.now a.answers.now c.in_ok-h.h o c.if-copies-ne67584.false f c.script_ok.ensures (ap not c.if-not-script_ok.false) c.if-answers-script.false, o)
