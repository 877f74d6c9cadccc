-- `engine::check_to_commit` meets its contract: the first line that holds, or a store without a tail and a copy that fits it.
-- Assumes nothing.
use Rattle.std.proofs.Common.{sym, ◌∙◌}
use Rattle.std.proofs.lemmas.Result.{err_from_is_err_and}
use Rattle.inner.proofs.Clearing.{open_taken}
use Rattle.inner.proofs.Refusing.{tail-first}
use Rattle.model.specs.Calls.{copy_conditions}
use Rattle.engine.proofs.Committing.{checked_so, not_open}
use Rattle.engine.proofs.check_to_commit.Goals as goal

pub returns-in_err-h : goal.returns-in_err-h
returns-in_err-h c =
    let a = c.args in
    let p = err_from_is_err_and c.from_residual.result c.from_residual.ensures.1 in
    rw (p.1, p.2) (not_open a.store.now a.copy.now c.in_err-h.field-0.0 (sym c.open.ensures ∙ c.in_err-h.was))

pub has-requires : goal.has-requires
has-requires c = open_taken c.args.store.now c.in_ok-h.h (sym c.open.ensures ∙ c.in_ok-h.was)

pub returns-then-has : goal.returns-then-has
returns-then-has c =
    let a = c.args in
    tail-first a.store.now (copy_conditions a.store.now a.copy.now) (open_taken a.store.now c.in_ok-h.h (sym c.open.ensures ∙ c.in_ok-h.was)).clear (sym c.has.ensures ∙ c.if-has.true)

pub returns : goal.returns
returns c = let a = c.args in checked_so a.store.now a.copy.now c.check_copy.result (sym c.has.ensures ∙ c.if-has.false) (sym c.check_copy.ensures)
