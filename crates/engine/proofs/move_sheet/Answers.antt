-- `engine::move_sheet` meets its contract: refused as the check says, or done as the inner call does it.
-- Assumes nothing.
use Rattle.std.proofs.Common.{sym, ◌∙◌}
use Rattle.std.proofs.lemmas.Result.{err_from_is_err_and}
use Rattle.entries.proofs.Checking.{check_ready}
use Rattle.inner.proofs.Changing.{local_done, refused-call}
use Rattle.model.specs.Machine.{Move}
use Rattle.engine.proofs.move_sheet.Goals as goal

pub returns-in_err-v : goal.returns-in_err-v
returns-in_err-v c =
    let a = c.args in
    let p = err_from_is_err_and c.from_residual.result c.from_residual.ensures.1 in
    rw (p.1, p.2) (refused-call a.store.now a.copy.now c.in_err-v.field-0.0 (Move a.from a.to) tt (sym c.check.ensures ∙ c.in_err-v.was))

pub move_sheet-requires : goal.move_sheet-requires
move_sheet-requires c = let a = c.args in (check_ready a.store.now a.copy.now c.in_ok-v.v (sym c.check.ensures ∙ c.in_ok-v.was)).viewed.accepted

pub returns : goal.returns
returns c =
    let a = c.args in
    local_done a.store.now a.copy.now c.in_ok-v.v (Move a.from a.to) c.move_sheet.result c.move_sheet.new.copy (sym c.check.ensures ∙ c.in_ok-v.was) tt c.move_sheet.ensures
