-- The last test, where the others held.
use Rattle.std.proofs.Common.{◌+◌, ◌∙◌, arith, get_or, le-leb, lt-ltb, sym}
use Rattle.block.specs.Field.{two_at}
use Rattle.store.proofs.PassLaws.{stands_is}
use Rattle.store.proofs.mark_stands.Goals as goal

pub returns-then-b-ge1 : goal.returns-then-b-ge1
returns-then-b-ge1 c =
    let a = c.args in
    let e = c.two_at-r.ensures.0 in
    sym (stands_is a.b.now a.tab.now a.w.last c.requires.1
    ∙ rw (le-leb 1 (two_at a.b.now 4) (omega (arith, e)), lt-ltb (two_at a.b.now 4) (a.w.last + 1) (omega (arith, e)), le-leb 1 (get_or a.b.now 6 0) (omega arith)))
