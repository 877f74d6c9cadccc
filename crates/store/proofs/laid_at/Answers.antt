-- The tests of a commit block in their order.
use Rattle.std.proofs.Common.{◌∙◌, arith, sym}
use Rattle.store.proofs.Commits.{laid_out, laid_rest}
use Rattle.store.proofs.laid_at.Goals as goal
use Rattle.store.proofs.laid_at.Goals.{then-rules, else-rules}

pub returns-then-seat-lt1 : goal.returns-then-seat-lt1
returns-then-seat-lt1 c = sym (laid_out _ _ _ _ _ _ c.args.b.now c.two_at-m.ensures.0 c.then-seat-lt1.either)

pub returns-then-none_twice : goal.returns-then-none_twice
returns-then-none_twice c =
    c.one_each.ensures
    ∙ sym (laid_rest _ _ _ _ _ _ c.args.b.now c.two_at-m.ensures.0 c.if-rules.value
    (elim c.if-rules.branch [
      | then-rules w ↦ w.value-is ∙ w.none_twice.ensures ∙ sym (rw (sym c.rules.ensures ∙ w.if-rules.true))
      | else-rules w ↦ w.value-is ∙ w.if-rules.false ∙ sym (rw (sym c.rules.ensures ∙ w.if-rules.false))
    ]) (omega arith) (omega arith) (omega arith) (omega arith)
    ∙ rw c.if-none_twice.true)

pub returns-else-none_twice : goal.returns-else-none_twice
returns-else-none_twice c =
    c.if-none_twice.false
    ∙ sym (laid_rest _ _ _ _ _ _ c.args.b.now c.two_at-m.ensures.0 c.if-rules.value
    (elim c.if-rules.branch [
      | then-rules w ↦ w.value-is ∙ w.none_twice.ensures ∙ sym (rw (sym c.rules.ensures ∙ w.if-rules.true))
      | else-rules w ↦ w.value-is ∙ w.if-rules.false ∙ sym (rw (sym c.rules.ensures ∙ w.if-rules.false))
    ]) (omega arith) (omega arith) (omega arith) (omega arith)
    ∙ rw c.if-none_twice.false)
