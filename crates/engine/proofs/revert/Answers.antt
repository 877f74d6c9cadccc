-- `engine::revert` meets its contract: refused as the check says, or done as the inner call does it.
-- Assumes nothing.
use Rattle.std.proofs.Common.{sym, ◌∙◌}
use Rattle.std.proofs.lemmas.Result.{err_from_is_err_and}
use Rattle.entries.proofs.Checking.{check_ready}
use Rattle.inner.proofs.Changing.{inner_done, refused-call}
use Rattle.model.specs.Machine.{Revert}
use Rattle.engine.proofs.revert.Goals as goal

pub returns-in_err-v : goal.returns-in_err-v
returns-in_err-v c =
    let a = c.args in
    let p = err_from_is_err_and c.from_residual.result c.from_residual.ensures.1 in
    rw (p.1, p.2) (refused-call a.store.now a.copy.now c.in_err-v.field-0.0 (Revert a.mask) tt (sym c.check.ensures ∙ c.in_err-v.was))

pub revert-requires : goal.revert-requires
revert-requires c = let a = c.args in check_ready a.store.now a.copy.now c.in_ok-v.v (sym c.check.ensures ∙ c.in_ok-v.was)

pub returns : goal.returns
returns c = let a = c.args in inner_done a.store.now a.copy.now c.in_ok-v.v (Revert a.mask) tt (sym c.check.ensures ∙ c.in_ok-v.was) c.revert.ensures
