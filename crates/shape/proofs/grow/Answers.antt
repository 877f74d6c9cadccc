-- One line put leaves the rows before. With all lines put, the row is the next tree's.
use Rattle.std.proofs.Common.{◌*◌, ◌+◌, ◌-◌, ◌<◌, ◌≡◌, ◌∙◌, arith, get_or, get_or-set_other, ap}
use Rattle.shape.proofs.RowLaws.{grow_done, put_step}
use Rattle.shape.proofs.grow.Goals as goal

pub loop-j-preserved : goal.loop-j-preserved
loop-j-preserved c =
    let a = c.args in
    let l = c.loop-j in
    let sheet = c.from.result in
    let small : sheet < 32 = omega (arith, c.requires.sheets l.j (omega arith), c.from.ensures) in (
      (λ i h. get_or-set_other l.tab (32 * a.r + sheet) i c.get16.result 0 (λ e. omega arith) ∙ l.invariant.0 i h),
      put_step l.tab a.s.now a.r a.base a.m l.j sheet c.get16.result (omega arith) small c.from.ensures c.get16.ensures ∙ l.invariant.1,
    )

pub returns : goal.returns
returns c =
    let a = c.args in
    let l = c.loop-j in
    let by = c.copy_within.ensures.by_index in
    grow_done a.tab.now c.copy_within.new.self l.tab a.s.now a.r a.base a.m l.j c.requires c.copy_within.ensures.len (omega arith)
    (λ i h. by.1 i 0 h)
    (λ i h. by.0 (32 * a.r + i) 0 (omega arith) (omega (arith, c.requires.some))
    ∙ (let e : 32 * a.r - 32 + (32 * a.r + i - 32 * a.r) ≡ 32 * (a.r - 1) + i = omega (arith, c.requires.some) in ap (λ k. get_or a.tab.now k 0) e))
    l.invariant.0 (omega arith) l.invariant.1
