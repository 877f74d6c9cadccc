-- Who stands in line, by the four numbers of a record.
-- Assumes nothing.
use Prim.Native.Nat.{ℕ}
use mathlib.Core.Bool.{Bool, ◌&&◌, ◌||◌, cond, false, not, true}
use mathlib.Core.List.{[], ◌∷◌}
use mathlib.Core.Path.{◌∙◌, ◌≡◌, ap, refl, sym}
use lib.Dec.{eqb}
use Rattle.turns.proofs.Queues.{or_none_lem}
use Rattle.turns.specs.Turns.{Queue, is_in, queue_of}

stands : (n s : ℕ) (q : Queue) (x : Bool) → x ≡ is_in s q → (not (eqb n 0) && (eqb n s || x)) ≡ is_in s (cond (eqb n 0) [] (n ∷ q))
stands n s q x e = go (eqb n 0)
  where
    go : (t : Bool) → (not t && (eqb n s || x)) ≡ is_in s (cond t [] (n ∷ q))
    go true = refl
    go false = ap (λ (y : Bool). eqb n s || y) e

pub in_line_is : (h a b c s : ℕ)
    → (not (eqb h 0) && (eqb h s || (not (eqb a 0) && (eqb a s || (not (eqb b 0) && (eqb b s || (not (eqb c 0) && eqb c s))))))) ≡ is_in s (queue_of (h ∷ a ∷ b ∷ c ∷ []))
unfolding queue_of
in_line_is h a b c s =
    let last : (not (eqb c 0) && eqb c s) ≡ is_in s (cond (eqb c 0) [] (c ∷ [])) = ap (λ (y : Bool). not (eqb c 0) && y) (sym (or_none_lem (eqb c s))) ∙ stands c s [] false refl in
    stands h s (cond (eqb a 0) [] (a ∷ cond (eqb b 0) [] (b ∷ cond (eqb c 0) [] (c ∷ [])))) _
    (stands a s (cond (eqb b 0) [] (b ∷ cond (eqb c 0) [] (c ∷ []))) _ (stands b s (cond (eqb c 0) [] (c ∷ [])) _ last))
