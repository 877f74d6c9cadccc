-- What the search back from the end of the halving finds is what the table and the history have.
-- Assumes nothing.
use Rattle.std.proofs.Common.{◌∙◌}
use Rattle.search.proofs.Finding.{found_back}
use Rattle.search.proofs.look_up.Goals as goal

pub returns : goal.returns
returns c =
    let a = c.args in
    let h = c.halved-end in
    c.find.ensures ∙ found_back a.store.now a.n a.used c.requires.0 a.r h.result a.i h.ensures.0 h.ensures.1 h.ensures.2 c.requires.1 c.requires.2
