-- The first change that names a sheet says what the search back and log have of the commit.
-- Assumes nothing.
use Prim.Native.Nat.{◌*◌, ◌+◌, ◌<◌, ℕ}
use mathlib.Core.Bool.{Bool, cond, false, true}
use mathlib.Core.List.{List, [], ◌∷◌}
use mathlib.Core.Path.{◌∙◌, ◌≡◌, ap, refl, sym}
use borrow.Author.Tests.{eq-eqb, ne_eqb}
use lib.Dec.{eqb}
use lib.ListN.{drop, get_or}
use Rattle.std.specs.Prelude.{None, Some}
use Rattle.model.specs.Blocks.{Line, parse_line}
use Rattle.model.specs.declared.Action.TheVariants.{Nothing}
use Rattle.search.specs.Change.{first_named}
use Rattle.search.specs.Deed.{deed_in, deed_of}
use Rattle.search.specs.Find.{hit_in}
use Rattle.search.specs.declared.Found.{Found}
use Rattle.shape.proofs.LineLaws.{left_step, sheet_of}
use Rattle.shape.specs.Lines.{left}

module _ (i : ℕ) where
  -- a commit that does not name the sheet
  module _ (r : ℕ) (older : Found) where
    pub hit_none : (ls : List Line) → first_named i ls ≡ None → hit_in i r ls older ≡ older
    hit_none [] e = refl
    hit_none (l ∷ ls) e = go (eqb l.sheet i) (hit_none ls) e
      where
        go : (t : Bool) → (first_named i ls ≡ None → hit_in i r ls older ≡ older)
            → cond t (Some l) (first_named i ls) ≡ None → cond t (record { block = l.block; revision = r }) (hit_in i r ls older) ≡ older
        go true f e = cc
        go false f e = f e

    pub hit_first : (ls : List Line) (x : Line) → first_named i ls ≡ Some x → hit_in i r ls older ≡ record { block = x.block; revision = r }
    hit_first [] x e = cc
    hit_first (l ∷ ls) x e = go (eqb l.sheet i) (hit_first ls x) e
      where
        go : (t : Bool) → (first_named i ls ≡ Some x → hit_in i r ls older ≡ record { block = x.block; revision = r })
            → cond t (Some l) (first_named i ls) ≡ Some x → cond t (record { block = l.block; revision = r }) (hit_in i r ls older) ≡ record { block = x.block; revision = r }
        go true f e = cc
        go false f e = f e

  pub deed_none : (ls : List Line) → first_named i ls ≡ None → deed_in i ls ≡ Nothing
  deed_none [] e = refl
  deed_none (l ∷ ls) e = go (eqb l.sheet i) (deed_none ls) e
    where
      go : (t : Bool) → (first_named i ls ≡ None → deed_in i ls ≡ Nothing) → cond t (Some l) (first_named i ls) ≡ None → cond t (deed_of l) (deed_in i ls) ≡ Nothing
      go true f e = cc
      go false f e = f e

  pub deed_first : (ls : List Line) (x : Line) → first_named i ls ≡ Some x → deed_in i ls ≡ deed_of x
  deed_first [] x e = cc
  deed_first (l ∷ ls) x e = go (eqb l.sheet i) (deed_first ls x) e
    where
      go : (t : Bool) → (first_named i ls ≡ Some x → deed_in i ls ≡ deed_of x) → cond t (Some l) (first_named i ls) ≡ Some x → cond t (deed_of l) (deed_in i ls) ≡ deed_of x
      go true f e = cc
      go false f e = f e

-- the j-th change
module _ (i : ℕ) (b : List ℕ) (m j : ℕ) where
  module _ (h : j < m) where
    pub named_here : get_or b (16 + 8 * j) 0 ≡ i → first_named i (left b 16 m j) ≡ Some (parse_line (drop (16 + 8 * j) b))
    named_here e = ap (first_named i) (left_step b 16 m j h) ∙ rw (eq-eqb (parse_line (drop (16 + 8 * j) b)).sheet i (sheet_of b (16 + 8 * j) ∙ e))

    pub named_next : (get_or b (16 + 8 * j) 0 ≡ i → ⊥) → first_named i (left b 16 m j) ≡ first_named i (left b 16 m (j + 1))
    named_next e = ap (first_named i) (left_step b 16 m j h) ∙ rw (ne_eqb (parse_line (drop (16 + 8 * j) b)).sheet i (λ q. e (sym (sheet_of b (16 + 8 * j)) ∙ q)))
