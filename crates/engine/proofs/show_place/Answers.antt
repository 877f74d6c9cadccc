-- `engine::show_place` meets its contract: refused as the check says, or the place on buffers that fit.
-- Assumes nothing.
use Rattle.std.proofs.Common.{sym, ◌∙◌}
use Rattle.std.proofs.lemmas.Result.{err_from_is_err_and}
use Rattle.entries.proofs.Checking.{check_ready}
use Rattle.inner.proofs.Showing.{show_refused}
use Rattle.engine.proofs.show_place.Goals as goal

pub returns-in_err-v : goal.returns-in_err-v
returns-in_err-v c =
    let a = c.args in
    let p = err_from_is_err_and c.from_residual.result c.from_residual.ensures.1 in
    rw (p.1, p.2) (record { is = show_refused a.store.now a.copy.now c.in_err-v.field-0.0 a.sheet (sym c.check.ensures ∙ c.in_err-v.was); inside = tt })

pub shown_in-requires : goal.shown_in-requires
shown_in-requires c = let a = c.args in check_ready a.store.now a.copy.now c.in_ok-v.v (sym c.check.ensures ∙ c.in_ok-v.was)
