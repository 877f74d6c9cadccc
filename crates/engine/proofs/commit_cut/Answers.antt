-- `engine::commit_cut` meets its contract: refused as the check says, or what filing answers.
-- Assumes nothing.
use Rattle.std.proofs.Common.{◌∙◌, subst}
use Rattle.std.proofs.lemmas.Result.{err_from_is_err_and}
use Rattle.engine.specs.MayCommit.{MayCommit}
use Rattle.engine.proofs.Committing.{cut_checked, cut_done}
use Rattle.engine.proofs.commit_cut.Goals as goal

pub returns-in_err-v : goal.returns-in_err-v
returns-in_err-v c =
    let a = c.args in
    let p = err_from_is_err_and c.from_residual.result c.from_residual.ensures.1 in
    rw (p.1, p.2) (cut_checked a.store.now a.copy.now a.stamp a.mask a.n c.in_err-v.field-0.0 (subst (MayCommit a.store.now a.copy.now) c.in_err-v.was c.check_to_commit.ensures))

pub returns : goal.returns
returns c = let a = c.args in c.commit.ensures.is ∙ cut_done a.store.now a.copy.now a.stamp a.mask a.n c.in_ok-v.v (subst (MayCommit a.store.now a.copy.now) c.in_ok-v.was c.check_to_commit.ensures)
