-- One test after the other, where `used` is read off the flat table.
use Rattle.std.proofs.Common.{◌∙◌, ap, arith, eq-eqb, eqb, not, sym}
use Rattle.store.proofs.RuleLaws.{copy-lacking, copy-none, copy-own, copy_shared, from_row}
use Rattle.store.proofs.copy_rule.Goals as goal

pub returns-then-c-ne0 : goal.returns-then-c-ne0
returns-then-c-ne0 c = sym (copy-none _ c.args.w c.args.c c.args.tab.now c.then-c-ne0.either)

pub returns-else-used-ne0 : goal.returns-else-used-ne0
returns-else-used-ne0 c =
    ap (λ x. not (eqb x 0)) c.if-used-ne0.false
    ∙ sym (from_row _ c.args.w c.args.c c.args.tab.now _ c.from-used.ensures (omega arith) (omega arith)
    ∙ copy-lacking _ c.args.w c.args.c c.if-c-ne0.false (omega arith) (omega arith) _ c.if-used-ne0.false)

pub returns-then-c-used : goal.returns-then-c-used
returns-then-c-used c =
    eq-eqb _ _ c.if-c-used.true
    ∙ sym (from_row _ c.args.w c.args.c c.args.tab.now _ c.from-used.ensures (omega arith) (omega arith)
    ∙ copy_shared _ c.args.w c.args.c c.if-c-ne0.false (omega arith) (omega arith) _ c.if-used-ne0.true c.if-c-used.true)

pub returns-then-is_own : goal.returns-then-is_own
returns-then-is_own c =
    ap not c.same_bytes.ensures
    ∙ sym (from_row _ c.args.w c.args.c c.args.tab.now _ c.from-used.ensures (omega arith) (omega arith)
    ∙ copy-own _ c.args.w c.args.c c.if-c-ne0.false (omega arith) (omega arith) _ c.if-used-ne0.true c.if-c-used.false
    ∙ rw (sym c.is_own.ensures ∙ c.if-is_own.true))

pub returns-else-is_own : goal.returns-else-is_own
returns-else-is_own c =
    c.if-is_own.false
    ∙ sym (from_row _ c.args.w c.args.c c.args.tab.now _ c.from-used.ensures (omega arith) (omega arith)
    ∙ copy-own _ c.args.w c.args.c c.if-c-ne0.false (omega arith) (omega arith) _ c.if-used-ne0.true c.if-c-used.false
    ∙ rw (sym c.is_own.ensures ∙ c.if-is_own.false))
