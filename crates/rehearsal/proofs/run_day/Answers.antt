-- `rehearsal::run_day` meets its contract.
-- Assumes nothing.
use Rattle.std.proofs.Common.{◌*◌, ◌+◌, ◌-◌, ◌∙◌, ap, arith, subst, sym}
use Rattle.rehearsal.specs.Desk.{Sane, hall_in, pool}
use Rattle.rehearsal.specs.RehearsalCalls.{steps_on}
use Rattle.rehearsal.specs.declared.Day.{Day}
use Rattle.rehearsal.specs.Desk.{fresh_day}
use Rattle.rehearsal.proofs.Closing.{sane_more}
use Rattle.rehearsal.proofs.Stepping.{sane_fresh, sane_turn, steps_all, steps_end, steps-step}
use Rattle.rehearsal.proofs.run_day.Goals as goal

pub loop-step-init : goal.loop-step-init
loop-step-init c =
    let a = c.args in
    let e = sym c.fresh_day-d.ensures in
    let b = pool a.store.now a.one.now a.two.now a.three.now a.four.now in (
      omega arith,
      omega arith,
      subst (λ (d : Day). Sane 0 (hall_in b d)) e (sane_fresh b),
      ap (λ (d : Day). steps_on a.settings 1 (a.steps + 1 - 1) (hall_in b d)) c.fresh_day-d.ensures ∙ steps_all a.settings a.steps (hall_in b fresh_day),
    )

pub step_once-d-requires : goal.step_once-d-requires
step_once-d-requires c =
    let l = c.loop-step in
    let p = c.requires in
    let t = c.loop-step-test.true in
    let m = p.1 in
    (sane_more (5 * (l.step - 1)) 3_000 (hall_in (pool l.store l.one l.two l.three l.four) l.d) (omega (arith, t, m)) l.invariant.2, p.0, omega (arith, t, m))

pub loop-step-preserved : goal.loop-step-preserved
loop-step-preserved c =
    let a = c.args in
    let l = c.loop-step in
    let t = c.loop-step-test.true in
    let m = c.requires.1 in
    let x = c.step_once-d in
    let w = hall_in (pool l.store l.one l.two l.three l.four) l.d in
    let b = pool x.new.store x.new.one x.new.two x.new.three x.new.four in (
      omega arith,
      omega (arith, t),
      sane_turn a.settings l.step w (hall_in b x.result) l.invariant.0 (omega (arith, t, m)) x.ensures l.invariant.2,
      steps-step a.settings l.step a.steps w (hall_in b x.result) t x.ensures ∙ l.invariant.3,
    )

pub returns : goal.returns
returns c = let a = c.args in let l = c.loop-step in steps_end a.settings l.step a.steps (hall_in (pool l.store l.one l.two l.three l.four) l.d) c.loop-step-test.false ∙ l.invariant.3

pub returns-2 : goal.returns-2
returns-2 c =
    let a = c.args in
    let l = c.loop-step in
    let x = c.step_once-d in
    let w = hall_in (pool l.store l.one l.two l.three l.four) l.d in
    let w' = hall_in (pool x.new.store x.new.one x.new.two x.new.three x.new.four) x.result in
    steps_end a.settings (l.step + 1) a.steps w' (omega arith) ∙ steps-step a.settings l.step a.steps w w' c.loop-step-test.true x.ensures ∙ l.invariant.3
