-- `rehearsal::step_once` meets its contract.
-- Assumes nothing.
use native.Mathlib.Omega.{arith}
use Rattle.rehearsal.specs.Desk.{hall_in, pool}
use Rattle.rehearsal.proofs.Stepping.{few-asks, sane_first, sane_next, step_is}
use Rattle.rehearsal.proofs.step_once.Goals as goal

pub ask-d1-requires : goal.ask-d1-requires
ask-d1-requires c =
    let a = c.args in
    let p = c.requires in
    let l = a.settings in
    let f = c.finish-d0 in
    let b = pool f.new.store f.new.one f.new.two f.new.three f.new.four in
    let S₀ = sane_first l a.step 3_000 (hall_in (pool a.store.now a.one.now a.two.now a.three.now a.four.now) a.d) (hall_in b f.result) p.2 p.0 f.ensures in
    (p.1.asks 1 (omega arith) (omega arith), omega arith, omega arith, few-asks 3001 (hall_in b f.result) 1 (omega arith) S₀)

pub ask-d2-requires : goal.ask-d2-requires
ask-d2-requires c =
    let a = c.args in
    let p = c.requires in
    let l = a.settings in
    let f = c.finish-d0 in
    let b = pool f.new.store f.new.one f.new.two f.new.three f.new.four in
    let S₀ = sane_first l a.step 3_000 (hall_in (pool a.store.now a.one.now a.two.now a.three.now a.four.now) a.d) (hall_in b f.result) p.2 p.0 f.ensures in
    let x1 = c.ask-d1 in
    let S₁ = sane_next l a.step 3001 (hall_in b f.result) (hall_in b x1.result) 1 p.2 S₀ (x1.ensures b) in
    (p.1.asks 2 (omega arith) (omega arith), omega arith, omega arith, few-asks 3002 (hall_in b x1.result) 2 (omega arith) S₁)

pub ask-d3-requires : goal.ask-d3-requires
ask-d3-requires c =
    let a = c.args in
    let p = c.requires in
    let l = a.settings in
    let f = c.finish-d0 in
    let b = pool f.new.store f.new.one f.new.two f.new.three f.new.four in
    let S₀ = sane_first l a.step 3_000 (hall_in (pool a.store.now a.one.now a.two.now a.three.now a.four.now) a.d) (hall_in b f.result) p.2 p.0 f.ensures in
    let x1 = c.ask-d1 in
    let S₁ = sane_next l a.step 3001 (hall_in b f.result) (hall_in b x1.result) 1 p.2 S₀ (x1.ensures b) in
    let x2 = c.ask-d2 in
    let S₂ = sane_next l a.step 3002 (hall_in b x1.result) (hall_in b x2.result) 2 p.2 S₁ (x2.ensures b) in
    (p.1.asks 3 (omega arith) (omega arith), omega arith, omega arith, few-asks 3003 (hall_in b x2.result) 3 (omega arith) S₂)

pub ask-requires : goal.ask-requires
ask-requires c =
    let a = c.args in
    let p = c.requires in
    let l = a.settings in
    let f = c.finish-d0 in
    let b = pool f.new.store f.new.one f.new.two f.new.three f.new.four in
    let S₀ = sane_first l a.step 3_000 (hall_in (pool a.store.now a.one.now a.two.now a.three.now a.four.now) a.d) (hall_in b f.result) p.2 p.0 f.ensures in
    let x1 = c.ask-d1 in
    let S₁ = sane_next l a.step 3001 (hall_in b f.result) (hall_in b x1.result) 1 p.2 S₀ (x1.ensures b) in
    let x2 = c.ask-d2 in
    let S₂ = sane_next l a.step 3002 (hall_in b x1.result) (hall_in b x2.result) 2 p.2 S₁ (x2.ensures b) in
    let x3 = c.ask-d3 in
    let S₃ = sane_next l a.step 3003 (hall_in b x2.result) (hall_in b x3.result) 3 p.2 S₂ (x3.ensures b) in
    (p.1.asks 4 (omega arith) (omega arith), omega arith, omega arith, few-asks 3004 (hall_in b x3.result) 4 (omega arith) S₃)

pub returns : goal.returns
returns c =
    let a = c.args in
    let f = c.finish-d0 in
    let b = pool f.new.store f.new.one f.new.two f.new.three f.new.four in
    let w = c.ask-d1 in
    let x = c.ask-d2 in
    let y = c.ask-d3 in
    let z = c.ask in
    step_is a.settings a.step (hall_in (pool a.store.now a.one.now a.two.now a.three.now a.four.now) a.d) (hall_in b f.result) (hall_in b w.result) (hall_in b x.result) (hall_in b y.result) (hall_in b z.result) f.ensures (w.ensures b) (x.ensures b) (y.ensures b) (z.ensures b)
