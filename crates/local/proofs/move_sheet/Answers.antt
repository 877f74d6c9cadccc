-- Move: a copy that is refused refuses it, and one that is done is followed by a delete.
-- Assumes nothing.
use Rattle.std.proofs.lemmas.Result.{err_from_is_err_and}
use Rattle.local.proofs.Tests.{copied-accepted, move_is, move_refused}
use Rattle.local.proofs.move_sheet.Goals as goal

pub returns-in_err-copy_sheet : goal.returns-in_err-copy_sheet
returns-in_err-copy_sheet c =
    let p = err_from_is_err_and c.from_residual.result c.from_residual.ensures.1 in
    rw (p.1, p.2) (move_refused c.args.copy.now c.args.from c.args.to c.in_err-copy_sheet.field-0.0 c.in_err-copy_sheet.ensures)

pub delete-requires : goal.delete-requires
delete-requires c = copied-accepted c.args.copy.now c.args.from c.args.to c.requires c.in_ok-copy_sheet.field-0 c.in_ok-copy_sheet.ensures

pub returns : goal.returns
returns c =
    move_is c.args.copy.now c.args.from c.args.to c.requires c.in_ok-copy_sheet.field-0 c.in_ok-copy_sheet.ensures c.delete.result c.delete.ensures
