-- Each refusal in its order, then the pass, and then all marks together.
use Rattle.std.proofs.Common.{◌∙◌, ap, arith, rules, sym}
use Rattle.store.specs.Opened.{marked_of}
use Rattle.store.proofs.Blocks.{part_size}
use Rattle.store.proofs.OpenLaws.{counted_is, laid_open, marked_open, open_none, open_short, open_unchecked, sealed, unlabelled_open, unshaped_open}
use Rattle.store.proofs.open.Goals as goal
use Rattle.store.proofs.open.Goals.{then-not-all_shaped-via-then-not-all_shaped, then-not-all_shaped-via-else-not-all_shaped+then-ne}

pub returns-then-store-ne0 : goal.returns-then-store-ne0
returns-then-store-ne0 c = sym (open_short c.args.store.now c.then-store-ne0.either)

pub returns-then-f-eq0 : goal.returns-then-f-eq0
returns-then-f-eq0 c = sym (open_none c.args.store.now c.if-store-ne0.false (omega arith) (omega arith) (sym c.filled-f.ensures.0 ∙ c.if-f-eq0.true))

pub returns-then-not-all_sealed : goal.returns-then-not-all_sealed
returns-then-not-all_sealed c =
    sym (open_unchecked c.args.store.now c.if-store-ne0.false (omega arith) (omega arith)
    (sym (counted_is _ _ _ _ c.filled-f.ensures.0 c.counted.ensures.0) ∙ sym c.all_sealed.ensures ∙ c.if-not-all_sealed.true))

pub slice_bounds-kind-end : goal.slice_bounds-kind-end
slice_bounds-kind-end c = sym (part_size c.args.store.now 1 0 (omega arith) (omega arith))

pub kind-requires : goal.kind-requires
kind-requires c = part_size c.args.store.now 1 0 (omega arith) (omega arith)

pub returns-then-not-all_shaped : goal.returns-then-not-all_shaped
returns-then-not-all_shaped c =
    let S = sealed c.args.store.now c.if-store-ne0.false (omega arith) (omega arith) c.filled-f.ensures c.counted.ensures (sym c.all_sealed.ensures ∙ c.if-not-all_sealed.false) c.whole-m.ensures in
    elim c.then-not-all_shaped.branch [
      | then-not-all_shaped-via-then-not-all_shaped w ↦ sym (unshaped_open S (sym c.all_shaped.ensures ∙ w.if-not-all_shaped.true))
      | then-not-all_shaped-via-else-not-all_shaped+then-ne w ↦ sym (unlabelled_open S (sym c.all_shaped.ensures ∙ w.if-not-all_shaped.false) (λ k. let q = w.kind.ensures ∙ k in search rules))
    ]

pub marked-requires : goal.marked-requires
marked-requires c =
    let S = sealed c.args.store.now c.if-store-ne0.false (omega arith) (omega arith) c.filled-f.ensures c.counted.ensures (sym c.all_sealed.ensures ∙ c.if-not-all_sealed.false) c.whole-m.ensures in
    (λ h e. laid_open S (sym c.all_shaped.ensures ∙ c.if-not-all_shaped.false) (sym c.kind.ensures ∙ search rules) h (sym c.pass_over.ensures.is ∙ e), c.pass_over.ensures.markless)

pub returns : goal.returns
returns c =
    let S = sealed c.args.store.now c.if-store-ne0.false (omega arith) (omega arith) c.filled-f.ensures c.counted.ensures (sym c.all_sealed.ensures ∙ c.if-not-all_sealed.false) c.whole-m.ensures in
    c.marked.ensures ∙ ap (marked_of c.args.store.now) c.pass_over.ensures.is ∙ marked_open S (sym c.all_shaped.ensures ∙ c.if-not-all_shaped.false) (sym c.kind.ensures ∙ search rules)
