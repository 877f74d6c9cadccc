-- Each way through a turn, by its law.
use Rattle.std.proofs.Common.{◌∙◌, arith, rules, sym}
use Rattle.store.proofs.Blocks.{part_size}
use Rattle.store.proofs.Commits.{laid_grows}
use Rattle.store.proofs.PassLaws.{plain-all, plain-commit, plain-content, plain-next, refused, renamed, start, turn_astray, turn-commit, turn-content, turn_elsewhere, turn_end, turn_inside, turn-mark, turn_many, turn_neither, turn_other, turn_unlaid}
use Rattle.store.proofs.pass.Goals as goal
use Rattle.store.proofs.pass.Goals.{in-Content, in-Commit, in-Mark}

pub loop-pos-init : goal.loop-pos-init
loop-pos-init c = start c.args.n c.args.store.now c.args.tab.now c.requires.first

pub grow-requires : goal.grow-requires
grow-requires c =
    laid_grows _ _ _ _ _ _ _ _ _ (omega arith) (omega (arith, c.requires.room, c.loop-pos.invariant.below, c.loop-pos.invariant.here))
    (part_size c.args.store.now c.args.n c.loop-pos.pos c.requires.whole (omega arith)) c.two_at-in-Commit.ensures.0 (sym c.laid_at.ensures ∙ c.if-laid_at.true)

pub loop-pos-preserved : goal.loop-pos-preserved
loop-pos-preserved c =
    let l = c.loop-pos in
    let r = l.invariant in
    elim c.match-kind.branch [
      | in-Content w ↦ (
          let e = sym c.kind.ensures ∙ w.in-Content.is in
          renamed w.at-is w.k-is w.last-is w.tab-is w.met-is (record {
            below = r.below;
            here = omega (arith, r.here);
            left = sym (turn-content _ _ _ _ _ _ _ (omega arith) e (sym c.two_at.ensures.0 ∙ w.if-next.true)) ∙ r.left;
            plain = λ z. plain-next _ _ (r.plain z) (plain-content _ e);
          }))
      | in-Commit w ↦ (
          let e = sym c.kind.ensures ∙ w.in-Commit.is in
          renamed w.at-is w.k-is w.last-is w.tab-is w.met-is (record {
            below = omega (arith, r.below, r.here);
            here = omega arith;
            left =
                sym (turn-commit _ _ _ _ _ _ _ (omega arith) e (sym c.two_at.ensures.0 ∙ w.if-next-2.true) _ _ r.here w.two_at-in-Commit.ensures.0 (sym w.laid_at.ensures ∙ w.if-laid_at.true)
                w.grow.ensures)
                ∙ r.left;
            plain = λ z. plain-next _ _ (r.plain z) (plain-commit _ e);
          }))
      | in-Mark w ↦ (
          let e = sym c.kind.ensures ∙ w.in-Mark.is in
          renamed w.at-is w.k-is w.last-is w.tab-is w.met-is (record {
            below = omega (arith, r.below, r.here);
            here = omega arith;
            left = sym (turn-mark _ _ _ _ _ _ _ (omega arith) e r.here (omega arith) (sym w.mark_stands.ensures ∙ w.if-mark_stands.true)) ∙ r.left;
            plain = λ z. cc;
          }))
    ]

pub returns-in_default : goal.returns-in_default
returns-in_default c =
    refused c.loop-pos.invariant.left
    (turn_elsewhere _ _ _ _ _ _ _ (omega arith) (sym c.kind.ensures ∙ c.in-Content.is) (λ q. c.if-next.false (c.two_at.ensures.0 ∙ q)))

pub returns-in_default-2 : goal.returns-in_default-2
returns-in_default-2 c =
    refused c.loop-pos.invariant.left
    (turn_unlaid _ _ _ _ _ _ _ (omega arith) (sym c.kind.ensures ∙ c.in-Commit.is) (sym c.two_at.ensures.0 ∙ c.if-next-2.true) (sym c.laid_at.ensures ∙ c.if-laid_at.false))

pub returns-in_default-3 : goal.returns-in_default-3
returns-in_default-3 c =
    refused c.loop-pos.invariant.left
    (turn_other _ _ _ _ _ _ _ (omega arith) (sym c.kind.ensures ∙ c.in-Commit.is) (λ q. c.if-next-2.false (c.two_at.ensures.0 ∙ q)))

pub returns-in_default-4 : goal.returns-in_default-4
returns-in_default-4 c =
    refused c.loop-pos.invariant.left
    (turn_astray _ _ _ _ _ _ _ (omega arith) (sym c.kind.ensures ∙ c.in-Mark.is) (omega arith) (sym c.mark_stands.ensures ∙ c.if-mark_stands.false))

pub returns-in_default-5 : goal.returns-in_default-5
returns-in_default-5 c =
    refused c.loop-pos.invariant.left (turn_inside _ _ _ _ _ _ _ (omega arith) (sym c.kind.ensures ∙ c.in-Mark.is) (λ z. omega arith))

pub returns-in_default-6 : goal.returns-in_default-6
returns-in_default-6 c =
    refused c.loop-pos.invariant.left
    (turn_neither _ _ _ _ _ _ _ (omega arith) (λ e. let q = c.kind.ensures ∙ e in search rules) (λ e. let q = c.kind.ensures ∙ e in search rules)
    (λ e. let q = c.kind.ensures ∙ e in search rules))

pub returns-then-k-gt32 : goal.returns-then-k-gt32
returns-then-k-gt32 c = refused c.loop-pos.invariant.left (turn_many _ _ _ _ _ _ _ _ (omega arith) (omega arith))

pub returns-then-met : goal.returns-then-met
returns-then-met c = record { is = sym (turn_end _ _ _ _ _ _ _ _ (omega arith) (omega arith)) ∙ c.loop-pos.invariant.left; markless = tt }

pub returns-else-met : goal.returns-else-met
returns-else-met c =
    let l = c.loop-pos in
    let r = l.invariant in
    record {
      is = sym (turn_end _ _ _ _ _ _ _ _ (omega arith) (omega arith)) ∙ r.left;
      markless = plain-all c.args.store.now l.pos l.at (omega (arith, r.here)) (r.plain c.if-met.false);
    }
