-- `engine::commit_in_turn` meets its contract: refused as the check or the record says, or what filing answers.
-- Assumes nothing.
use Rattle.std.proofs.Common.{◌∙◌, arith, subst, sym}
use Rattle.std.proofs.lemmas.Result.{err_from_is_err_and}
use Rattle.engine.specs.MayCommit.{MayCommit}
use Rattle.engine.proofs.Committing.{turn-checked, turn-done, turn_formless, turn-held, turn_maskless}
use Rattle.engine.proofs.commit_in_turn.Goals as goal
use Rattle.engine.proofs.commit_in_turn.Goals.{then-mask-eq0-via-else-mask-eq0+then-not-in_form, then-mask-eq0-via-then-mask-eq0}

pub returns-in_err-v : goal.returns-in_err-v
returns-in_err-v c =
    let a = c.args in
    let p = err_from_is_err_and c.from_residual.result c.from_residual.ensures.1 in
    rw (p.1, p.2) (turn-checked a.store.now a.copy.now a.turn a.stamp a.mask c.in_err-v.field-0.0 (subst (MayCommit a.store.now a.copy.now) c.in_err-v.was c.check_to_commit.ensures))

pub returns-then-mask-eq0 : goal.returns-then-mask-eq0
returns-then-mask-eq0 c =
    let a = c.args in
    let m = subst (MayCommit a.store.now a.copy.now) c.in_ok-v.was c.check_to_commit.ensures in
    elim c.then-mask-eq0.branch [
      | then-mask-eq0-via-then-mask-eq0 w ↦ turn_maskless a.store.now a.copy.now a.turn a.stamp a.mask c.in_ok-v.v m w.if-mask-eq0.true
      | then-mask-eq0-via-else-mask-eq0+then-not-in_form w ↦
          turn_formless a.store.now a.copy.now a.turn a.stamp a.mask c.in_ok-v.v m (sym w.in_form.ensures ∙ w.if-not-in_form.true)
    ]

pub returns-then-turn-v : goal.returns-then-turn-v
returns-then-turn-v c =
    let a = c.args in
    turn-held a.store.now a.copy.now a.turn a.stamp a.mask c.in_ok-v.v (subst (MayCommit a.store.now a.copy.now) c.in_ok-v.was c.check_to_commit.ensures)
    (sym c.in_form.ensures ∙ c.if-not-in_form.false) c.if-mask-eq0.false c.if-turn-v.true

pub returns : goal.returns
returns c =
    let a = c.args in
    turn-done a.store.now a.copy.now a.turn a.stamp a.mask c.in_ok-v.v (subst (MayCommit a.store.now a.copy.now) c.in_ok-v.was c.check_to_commit.ensures)
    (sym c.in_form.ensures ∙ c.if-not-in_form.false) (omega (arith, c.ranges.stamp)) c.if-turn-v.false c.commit.ensures.is
