-- `engine::release` meets its contract: refused as opening says, or the inner call's answer.
-- Assumes nothing.
use Rattle.std.proofs.Common.{sym, ◌∙◌}
use Rattle.std.proofs.lemmas.Result.{err_from_is_err_and}
use Rattle.inner.proofs.Releasing.{release_refused}
use Rattle.engine.proofs.release.Goals as goal

pub returns-in_err-h : goal.returns-in_err-h
returns-in_err-h c =
    let a = c.args in
    let p = err_from_is_err_and c.from_residual.result c.from_residual.ensures.1 in
    rw (p.1, p.2) (release_refused a.store.now a.revision a.seat a.stamp c.in_err-h.field-0.0 (sym c.open.ensures ∙ c.in_err-h.was))
