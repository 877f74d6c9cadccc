-- `rehearsal::finish` meets its contract: nobody holds, the time is not over, or it is.
-- Assumes nothing.
use Rattle.std.proofs.Common.{◌∙◌}
use Rattle.rehearsal.specs.Desk.{pool}
use Rattle.rehearsal.proofs.Closing.{nobody, not_yet, over}
use Rattle.rehearsal.proofs.finish.Goals as goal
use Rattle.rehearsal.proofs.finish.Goals.{then-seat-eq0-via-then-seat-eq0, then-seat-eq0-via-else-seat-eq0+then-step-d}

pub returns-then-seat-eq0 : goal.returns-then-seat-eq0
returns-then-seat-eq0 c =
    let a = c.args in
    let b = pool a.store.now a.one.now a.two.now a.three.now a.four.now in
    elim c.then-seat-eq0.branch [
      | then-seat-eq0-via-then-seat-eq0 w ↦ nobody b a.d a.settings a.step w.if-seat-eq0.true
      | then-seat-eq0-via-else-seat-eq0+then-step-d w ↦ not_yet b a.d a.settings a.step w.if-seat-eq0.false w.if-step-d.true
    ]

pub returns : goal.returns
returns c = let a = c.args in c.close.ensures ∙ over (pool a.store.now a.one.now a.two.now a.three.now a.four.now) a.d a.settings a.step c.if-seat-eq0.false c.if-step-d.false
