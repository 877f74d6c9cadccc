-- What `puts` leaves at a place: the value of the line that names it, and otherwise what was there.
-- Assumes nothing.
use Prim.Native.Nat.{◌<◌, suc, ℕ}
use mathlib.Core.List.{List, [], ◌∷◌}
use mathlib.Core.Logic.{inl, inr}
use mathlib.Core.Path.{◌∙◌, ◌≡◌, refl, subst, sym}
use native.Mathlib.Omega.{arith}
use borrow.Author.Tests.{eq-eqb, ne_eqb}
use lib.ListN.{get_or, length, length-set, set}
use lib.Seq.{get_or-set_other, get_or-set_same}
use Rattle.block.proofs.Says.{eq_or}
use Rattle.block.specs.Lists.{All}
use Rattle.model.specs.Blocks.{Line}
use Rattle.model.specs.Layout.{NoneTwice, named, puts}

pub named_other : (i : ℕ) (l : Line) (ls : List Line) → (l.sheet ≡ i → ⊥) → named i (l ∷ ls) ≡ named i ls
named_other i l ls ne = rw (ne_eqb l.sheet i ne)

pub unnamed : (i : ℕ) (l : Line) (ls : List Line) → named i (l ∷ ls) ≡ 0 → (l.sheet ≡ i → ⊥) × (named i ls ≡ 0)
unnamed i l ls z =
    elim (eq_or l.sheet i) [
      | inl e ↦ let s : named i (l ∷ ls) ≡ suc (named i ls) = rw (eq-eqb l.sheet i e) in absurd (omega arith)
      | inr ne ↦ (ne, sym (named_other i l ls ne) ∙ z)
    ]

module _ {A : Type 0} (f : Line → A) where
  pub length-puts : (ls : List Line) (base : List A) → length (puts f ls base) ≡ length base
  length-puts [] base = refl
  length-puts (l ∷ ls) base = length-set (puts f ls base) l.sheet (f l) ∙ length-puts ls base

  -- a place that no line names
  pub puts-other : (ls : List Line) (base : List A) (i : ℕ) (d : A) → named i ls ≡ 0 → get_or (puts f ls base) i d ≡ get_or base i d
  puts-other [] base i d z = refl
  puts-other (l ∷ ls) base i d z =
      let u = unnamed i l ls z in
      get_or-set_other (puts f ls base) l.sheet i (f l) d (λ e. u.0 (sym e)) ∙ puts-other ls base i d u.1

  -- a place that a line names, where every line puts what g has at its sheet
  pub puts-named : (ls : List Line) (base : List A) (g : ℕ → A) (i : ℕ) (d : A) → i < length base
      → All (λ (l : Line). g l.sheet ≡ f l) ls → (named i ls ≡ 0 → ⊥) → get_or (puts f ls base) i d ≡ g i
  puts-named [] base g i d h a n = absurd (n refl)
  puts-named (l ∷ ls) base g i d h a n =
      elim (eq_or l.sheet i) [
        | inl e ↦
            let inside : l.sheet < length (puts f ls base) = rw (length-puts, e) h in
            subst (λ (j : ℕ). get_or (puts f (l ∷ ls) base) j d ≡ g j) e (get_or-set_same (puts f ls base) l.sheet (f l) d inside ∙ sym a.0)
        | inr ne ↦
            get_or-set_other (puts f ls base) l.sheet i (f l) d (λ e. ne (sym e))
            ∙ puts-named ls base g i d h a.1 (λ z. n (named_other i l ls ne ∙ z))
      ]

  -- where no sheet stands twice, each line's value is at its sheet
  keep : (l : Line) (v : A) (m : List A) (ls : List Line) (d : A) → named l.sheet ls ≡ 0
      → All (λ (x : Line). get_or m x.sheet d ≡ f x) ls → All (λ (x : Line). get_or (set m l.sheet v) x.sheet d ≡ f x) ls
  keep l v m [] d z a = tt
  keep l v m (x ∷ xs) d z a =
      let u = unnamed l.sheet x xs z in
      (get_or-set_other m l.sheet x.sheet v d u.0 ∙ a.0, keep l v m xs d u.1 a.1)

  pub puts-each : (ls : List Line) (base : List A) (d : A) → NoneTwice ls → All (λ (l : Line). l.sheet < length base) ls
      → All (λ (l : Line). get_or (puts f ls base) l.sheet d ≡ f l) ls
  puts-each [] base d nt a = tt
  puts-each (l ∷ ls) base d nt a =
      let inside : l.sheet < length (puts f ls base) = rw length-puts a.0 in
      (get_or-set_same (puts f ls base) l.sheet (f l) d inside, keep l (f l) (puts f ls base) ls d nt.0 (puts-each ls base d nt.1 a.1))
