-- The first index at which the byte is b, or the length, is how many bytes stand before the first b.
-- Assumes nothing.
use Rattle.std.proofs.Common.{◌≡◌, ◌∙◌, sym, refl, ℕ, ◌≤◌, ◌+◌, Bool, true, false, cond, eqb, suc, List, [], ◌∷◌, length, rules, arith, tests, eq-eqb, ne_eqb}
use Rattle.std.proofs.lemmas.Iterator.{IsFirst-from_position, YieldsList-from_slice, index_from_first}
use Rattle.text.specs.Text.{span_of}
use Rattle.text.proofs.span.Goals as goal

span-le : (b : ℕ) (s : List ℕ) → span_of b s ≤ length s
unfolding span_of
span-le b [] = omega arith
span-le b (x ∷ s) = go (eqb x b) (span-le b s)
  where
    go : (t : Bool) → span_of b s ≤ length s → cond t 0 (span_of b s + 1) ≤ suc (length s)
    go true h = omega arith
    go false h = omega arith

pub returns : goal.returns
unfolding span_of
returns c =
    let s = c.args.s.now in
    let b = c.args.b in
    let first = IsFirst-from_position _ _ c.position.result (λ x. x ≡ b) (λ x. x ≡ b → ⊥) c.position.ensures.ran (YieldsList-from_slice s cc) (λ x q k. search (rules, tests)) (λ x q k. search (rules, tests)) in
    let e : c.unwrap_or.result ≡ span_of b s = c.unwrap_or.ensures ∙ sym (index_from_first (span_of b) (λ x. x ≡ b) (λ x. x ≡ b → ⊥) refl (λ x xs h. simp (eq-eqb _ _ h)) (λ x xs h. simp (ne_eqb _ _ h)) s _ first) in
    (e, omega (arith, span-le b s))
