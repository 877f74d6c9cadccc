-- The changes that are left name the sheet first where all of them do.
-- Assumes nothing.
use Rattle.std.proofs.Common.{◌∙◌, arith, sym}
use Rattle.search.proofs.Named.{named_here, named_next}
use Rattle.search.proofs.change_of.Goals as goal

pub returns-then-b-o : goal.returns-then-b-o
returns-then-b-o c =
    let a = c.args in
    (omega arith, sym c.loop-j.invariant ∙ named_here a.i a.b.now a.m c.loop-j.j c.loop-j-test.true c.if-b-o.true)

pub loop-j-preserved : goal.loop-j-preserved
loop-j-preserved c = let a = c.args in sym (named_next a.i a.b.now a.m c.loop-j.j c.loop-j-test.true c.if-b-o.false) ∙ c.loop-j.invariant
