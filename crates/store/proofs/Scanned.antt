-- The last block that isn't all zero, from the end: what is left gives the whole.
-- Assumes nothing.
use Prim.Native.Nat.{◌-◌, ◌<◌, ◌≤◌, suc, ℕ}
use mathlib.Core.Bool.{Bool, cond, false, true}
use mathlib.Core.List.{List}
use mathlib.Core.Path.{◌∙◌, ◌≡◌, ap, ap₂, sym}
use native.Mathlib.Omega.{arith}
use Rattle.block.specs.Check.{is_zero}
use Rattle.model.specs.Store.{filled_in}
use Rattle.laws.proofs.Parts.{lent_block}
use Rattle.store.proofs.Blocks.{lent}

pub filled_none : (l : List ℕ) (f w : ℕ) → filled_in f l ≡ w → f ≤ 0 → 0 ≡ w
unfolding filled_in
filled_none l f w inv h = let e : f ≡ 0 = omega arith in sym (ap (λ (x : ℕ). filled_in x l) e) ∙ inv

module _ (l : List ℕ) (f w : ℕ) (inv : filled_in f l ≡ w) (h : 0 < f) (t : Bool) (et : t ≡ is_zero (lent l (f - 1))) where
  step : filled_in f l ≡ cond t (filled_in (f - 1) l) f
  unfolding filled_in
  step =
      let e : f ≡ suc (f - 1) = omega arith in
      ap (λ (x : ℕ). filled_in x l) e
      ∙ ap₂ (λ (b : Bool) (x : ℕ). cond b (filled_in (f - 1) l) x) (sym (et ∙ ap is_zero (lent_block l (f - 1)))) (sym e)

  pub filled_here : t ≡ false → f ≡ w
  filled_here e = sym (ap (λ (b : Bool). cond b (filled_in (f - 1) l) f) e) ∙ sym step ∙ inv

  pub filled_on : t ≡ true → filled_in (f - 1) l ≡ w
  filled_on e = sym (ap (λ (b : Bool). cond b (filled_in (f - 1) l) f) e) ∙ sym step ∙ inv
