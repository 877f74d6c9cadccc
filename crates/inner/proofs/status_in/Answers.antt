-- `inner::status_in` meets its contract: refused, or the status that the entry has.
-- Assumes nothing.
use Rattle.inner.proofs.Showing.{status_beyond, status-there}
use Rattle.inner.proofs.status_in.Goals as goal

pub returns-then-sheet-gt31 : goal.returns-then-sheet-gt31
returns-then-sheet-gt31 c =
    let a = c.args in
    status_beyond a.store.now a.copy.now a.v c.requires a.sheet c.if-sheet-gt31.true

pub returns : goal.returns
returns c =
    let a = c.args in
    status-there a.store.now a.copy.now a.v c.requires a.sheet c.if-sheet-gt31.false c.status_at.result c.status_at.ensures
