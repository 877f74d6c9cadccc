-- The bytes that a block holds.
-- Assumes nothing.
use Prim.Native.Nat.{◌+◌, ◌-◌, ◌<◌, ◌≤◌, min, ℕ}
use mathlib.Core.Bool.{Bool, cond, false, true}
use mathlib.Core.List.{List, []}
use mathlib.Core.Logic.{inl, inr}
use mathlib.Core.Path.{◌∙◌, ◌≡◌, ap, refl, sym}
use native.Mathlib.Omega.{arith}
use borrow.Author.Tests.{eq-eqb, ne_eqb}
use lib.Dec.{eqb}
use lib.ListN.{drop, get_or, length, length-drop, length-take, take}
use lib.Seq.{ext_get_or, get_or-drop, get_or-take, length-take-le}
use Rattle.block.proofs.Says.{eq_or, says_false, says_same}
use Rattle.block.specs.Field.{four_at, two_at}
use Rattle.block.specs.Lists.{same}
use Rattle.model.specs.Blocks.{blank, commit, held, mark, parse, parse_lines}
use Rattle.model.specs.Log.{released}

pub held_none : (l : List ℕ) → (get_or l 0 0 ≡ 2 → ⊥) → held (parse l) ≡ []
unfolding parse
held_none l n =
    elim (eq_or (get_or l 0 0) 1) [
      | inl e ↦ rw (eq-eqb (get_or l 0 0) 1 e)
      | inr o ↦ rw (ne_eqb (get_or l 0 0) 1 o, ne_eqb (get_or l 0 0) 2 n) (last (eqb (get_or l 0 0) 3) (eqb (get_or l 0 0) 6))
    ]
  where
    last : (t u : Bool)
        → held (cond t (commit (two_at l 4) (get_or l 6 0) (four_at l 8) (parse_lines (two_at l 2) (drop 16 l))) (cond u (mark (released (two_at l 4) (get_or l 6 0) (four_at l 8))) blank)) ≡ []
    last true u = refl
    last false true = refl
    last false false = refl

pub held_is : (l : List ℕ) → get_or l 0 0 ≡ 2 → held (parse l) ≡ take (two_at l 2) (drop 16 l)
unfolding parse
held_is l e = rw e

module _ (l : List ℕ) (size : length l ≡ 512) where
  pub size_none : (get_or l 0 0 ≡ 2 → ⊥) → 0 ≡ length (held (parse l))
  size_none n = sym (ap length (held_none l n))

  size-min : get_or l 0 0 ≡ 2 → length (held (parse l)) ≡ length (take (two_at l 2) (drop 16 l))
  size-min e = ap length (held_is l e)

  pub size_stated : get_or l 0 0 ≡ 2 → min (two_at l 2) 496 ≡ length (held (parse l))
  size_stated e = let d = length-drop 16 l in let t = length-take (two_at l 2) (drop 16 l) in omega (arith, size-min e)

  held_at : (i : ℕ) → i < length (held (parse l)) → get_or (held (parse l)) i 0 ≡ get_or l (16 + i) 0
  held_at i h =
      elim (eq_or (get_or l 0 0) 2) [
        | inl e ↦ (
            let d = length-take (two_at l 2) (drop 16 l) in
            ap (λ (x : List ℕ). get_or x i 0) (held_is l e) ∙ get_or-take (two_at l 2) (drop 16 l) i 0 (omega (arith, size-min e)) ∙ get_or-drop 16 l i 0)
        | inr n ↦ absurd (omega (arith, size_none n))
      ]

  -- the part of the block that has them
  pub held_part : (n : ℕ) → n ≡ length (held (parse l)) → n ≤ 496 → take (16 + n - 16) (drop 16 l) ≡ held (parse l)
  held_part n e h =
      let w : 16 + n - 16 ≡ n = omega arith in
      let d : length (take n (drop 16 l)) ≡ n = length-take-le n (drop 16 l) (simp length-drop (omega arith)) in
      ap (λ (k : ℕ). take k (drop 16 l)) w
      ∙ ext_get_or 0 (take n (drop 16 l)) (held (parse l)) (d ∙ e)
      (λ i b. get_or-take n (drop 16 l) i 0 (omega arith) ∙ get_or-drop 16 l i 0 ∙ sym (held_at i (omega arith)))

pub ruleset size_laws = (size_none, size_stated)

pub same_size : (a b : List ℕ) → (length b ≡ length a → ⊥) → same a b ≡ false
same_size a b n = says_false (says_same a b) (λ e. n (sym (ap length e)))
