-- Refused as the check says, or the machine's run.
-- Assumes nothing.
use Rattle.std.proofs.Common.{arith}
use Rattle.std.proofs.lemmas.Result.{err_from_is_err_and}
use Rattle.replay.proofs.Machine.{replay_done, replay_refused, run-asks}
use Rattle.replay.proofs.replay.Goals as goal

pub returns-in_err-h : goal.returns-in_err-h
returns-in_err-h c =
    let a = c.args in
    let p = err_from_is_err_and c.from_residual.result c.from_residual.ensures.1 in
    rw (p.1, p.2) (replay_refused a.script.now a.store.now a.copies.now a.answers.now c.in_err-h.field-0.0 c.in_err-h.ensures)

pub run_all-requires : goal.run_all-requires
run_all-requires c =
    let a = c.args in
    run-asks a.script.now a.store.now a.copies.now a.answers.now (λ j. omega (arith, c.type_inv.script j)) c.in_ok-h.ensures.0 c.in_ok-h.h c.in_ok-h.ensures.1

pub returns : goal.returns
returns c =
    let a = c.args in
    replay_done a.script.now a.store.now a.copies.now a.answers.now (λ j. omega (arith, c.type_inv.script j)) c.in_ok-h.ensures.0 c.run_all.ensures
