-- What two blocks hold; past the end a block holds nothing.
use Rattle.std.proofs.Common.{◌∙◌, ap, ap₂, arith, eqb, sym}
use Rattle.block.specs.Lists.{same}
use Rattle.store.proofs.Blocks.{bytes_in_lem, bytes_past, same-nil}
use Rattle.store.proofs.same_bytes.Goals as goal

pub returns-then-n-q : goal.returns-then-n-q
returns-then-n-q c =
    let a = c.args in
    ap (λ x. eqb x 0) c.size.ensures.0 ∙ sym (ap₂ same (bytes_in_lem a.n a.p a.store.now c.requires.1) (bytes_past a.n a.q a.store.now c.if-n-q.true) ∙ same-nil _)

pub returns : goal.returns
returns c =
    let a = c.args in
    c.same_held.ensures ∙ sym (ap₂ same (bytes_in_lem a.n a.p a.store.now c.requires.1) (bytes_in_lem a.n a.q a.store.now (omega arith)))
