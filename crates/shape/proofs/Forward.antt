-- Lines put one after the other, the first first, as code puts them: where no sheet stands twice that is the definition's list.
-- Assumes nothing.
use Prim.Native.Nat.{ℕ}
use mathlib.Core.List.{List, [], ◌∷◌}
use mathlib.Core.Path.{◌∙◌, ◌≡◌, ap, refl, sym}
use lib.ListN.{set}
use lib.Seq.{set_comm}
use Rattle.model.specs.Blocks.{Line}
use Rattle.model.specs.Layout.{NoneTwice, named, puts}
use Rattle.laws.proofs.Puts.{unnamed}

abbrev pub forward {ℓ} : {A : Type ℓ} → (Line → A) → List Line → List A → List A
forward f [] base = base
forward f (l ∷ ls) base = forward f ls (set base l.sheet (f l))

set_past : {A : Type 0} (f : Line → A) (ls : List Line) (base : List A) (i : ℕ) (v : A) → named i ls ≡ 0
    → puts f ls (set base i v) ≡ set (puts f ls base) i v
set_past f [] base i v z = refl
set_past f (l ∷ ls) base i v z =
    let u = unnamed i l ls z in
    ap (λ x. set x l.sheet (f l)) (set_past f ls base i v u.1) ∙ set_comm (puts f ls base) i l.sheet v (f l) (λ e. u.0 (sym e))

pub forward_puts : {A : Type 0} (f : Line → A) (ls : List Line) (base : List A) → NoneTwice ls → forward f ls base ≡ puts f ls base
forward_puts f [] base n = refl
forward_puts f (l ∷ ls) base n = forward_puts f ls (set base l.sheet (f l)) n.1 ∙ set_past f ls base l.sheet (f l) n.0
