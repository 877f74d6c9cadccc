-- The rule over the numbers that were read.
use Rattle.std.proofs.Common.{◌≡◌, ◌+◌, ◌*◌, ◌∙◌, ap, arith, get_or, ℕ}
use Rattle.store.proofs.RuleLaws.{copy-answer, plain-answer}
use Rattle.store.proofs.rule_of.Goals as goal
use Rattle.store.proofs.rule_of.Goals.{in_default-via-then-c-lt1, in_default-via-else-c-lt1+else-c-lt4}

pub returns-in-1-to-3 : goal.returns-in-1-to-3
returns-in-1-to-3 c =
    let a = c.args in
    c.plain_rule.ensures
    ∙ plain-answer _ a.w a.tab.now a.change.now _ _ _ _ (c.from.ensures ∙ ap (λ (x : ℕ). get_or a.tab.now (32 * a.w.last + x) 0) c.from-sheet.ensures) c.two_at.ensures.0
    c.from-2.ensures c.two_at-2.ensures.0 (omega (arith, c.from-sheet.ensures)) (omega arith) (omega arith)

pub returns-in_default : goal.returns-in_default
returns-in_default c =
    let a = c.args in
    let n : (get_or a.change.now 1 0 ≡ 1 → ⊥) × (get_or a.change.now 1 0 ≡ 2 → ⊥) × (get_or a.change.now 1 0 ≡ 3 → ⊥) =
    elim c.in_default.branch [
      | in_default-via-then-c-lt1 w ↦ ((λ e. omega arith), (λ e. omega arith), (λ e. omega arith))
      | in_default-via-else-c-lt1+else-c-lt4 w ↦ ((λ e. omega arith), (λ e. omega arith), (λ e. omega arith))
    ] in
    c.copy_rule.ensures
    ∙ copy-answer _ a.w a.tab.now a.change.now _ _ _ _ (c.from.ensures ∙ ap (λ (x : ℕ). get_or a.tab.now (32 * a.w.last + x) 0) c.from-sheet.ensures) c.two_at.ensures.0
    c.from-2.ensures c.two_at-2.ensures.0 (omega (arith, c.from-sheet.ensures)) n.0 n.1 n.2
