-- Each turn takes the lowest sheet that is left.
-- Assumes nothing.
use Rattle.std.proofs.Common.{◌+◌, ◌<◌, ◌∙◌, ◌≡◌, ℕ, add-zero, arith, refl, sym}
use Rattle.commits.proofs.Making.{fewer, low, making_begins, making_ends, making_put, making_skip, place}
use Rattle.masks.proofs.Sheets.{count-all, count-some}
use Rattle.masks.specs.Mask.{count_to}
use Rattle.commits.proofs.make_plan.Goals as goal
use Rattle.commits.proofs.make_plan.Goals.{in-Some, in_default}

-- in a turn there is a sheet left
some : (m k e : ℕ) → count_to 32 m + k ≡ e → k < e → m ≡ 0 → ⊥
some m k e t h z = omega (arith, count-some m (λ y. omega arith))

pub chosen-init : goal.chosen-init
chosen-init c = record { making = making_begins _ _ _ _ refl; turns = add-zero (count_to 32 c.args.mask) ∙ sym c.count-end.ensures }

pub overflow_sub-m : goal.overflow_sub-m
overflow_sub-m c = let l = c.chosen in let s = some l.m l.counter c.count-end.result l.invariant.turns c.chosen-test.true in omega arith

pub row_of-requires : goal.row_of-requires
row_of-requires c =
    let l = c.chosen in
    let k = l.invariant.making in
    let s = some l.m l.counter c.count-end.result l.invariant.turns c.chosen-test.true in
    (c.requires.0, (c.requires.1.0, (c.requires.1.1.0, (low s (omega arith) k, omega (arith, k.low, k.count)))))

pub offset_bounds-lines-count : goal.offset_bounds-lines-count
offset_bounds-lines-count c =
    let l = c.chosen in omega (arith, place (some l.m l.counter c.count-end.result l.invariant.turns c.chosen-test.true) (omega arith) l.invariant.making)

pub bounds-lines-count : goal.bounds-lines-count
bounds-lines-count c =
    let l = c.chosen in omega (arith, place (some l.m l.counter c.count-end.result l.invariant.turns c.chosen-test.true) (omega arith) l.invariant.making)

pub overflow_add-count : goal.overflow_add-count
overflow_add-count c =
    let l = c.chosen in omega (arith, place (some l.m l.counter c.count-end.result l.invariant.turns c.chosen-test.true) (omega arith) l.invariant.making)

pub chosen-preserved : goal.chosen-preserved
chosen-preserved c =
    let l = c.chosen in
    let k = l.invariant.making in
    let t = l.invariant.turns in
    let s = some l.m l.counter c.count-end.result t c.chosen-test.true in
    let f = fewer s (omega arith) k in
    elim c.match-row_of.branch [
      | in-Some w ↦ rw (w.lines-is, w.count-is, w.next-is) (record { making = making_put s (omega arith) k w.in-Some.row (sym w.in-Some.is ∙ c.row_of.ensures); turns = omega arith })
      | in_default w ↦ rw (w.lines-is, w.count-is, w.next-is) (record { making = making_skip s (omega arith) k (sym w.in_default.is ∙ c.row_of.ensures); turns = omega arith })
    ]

pub returns : goal.returns
returns c = making_ends _ _ _ _ _ _ _ (count-all c.chosen.m (omega arith) (omega (arith, c.chosen.invariant.turns))) c.chosen.invariant.making
