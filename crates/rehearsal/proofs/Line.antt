-- What the input plans: nothing where it is empty, too long or more than one line, and the plan of its nine numbers otherwise.
-- Assumes nothing.
use Prim.Native.Nat.{◌+◌, ◌<◌, ◌≤◌, suc, zero, ℕ}
use mathlib.Core.Bool.{Bool, ◌&&◌, cond, false, true}
use mathlib.Core.List.{List, [], ◌∷◌}
use mathlib.Core.Logic.{◌⊎◌, inl, inr}
use mathlib.Core.Option.{Option, none, some}
use mathlib.Core.Path.{◌∙◌, ◌≡◌, ap, ap₂, refl, subst, sym}
use native.Mathlib.Omega.{arith}
use borrow.Author.Tests.{eqb-true, le-leb, leb-false, leb-true, lt-leb}
use lib.Dec.{eqb, leb}
use lib.ListN.{drop, drop_of_length-le, get_or, length, length-drop, take}
use Rattle.block.specs.Lists.{all}
use Rattle.laws.proofs.Accepted.{both}
use Rattle.model.specs.History.{Bytes}
use Rattle.rehearsal.specs.Output.{Fits, Plan, no_plan, numbered, plan_at, plan_of, plan_text, ranged, rehearsal_output}
use Rattle.rehearsal.specs.Rehearsal.{in_range}
use Rattle.text.proofs.Splitting.{lines_step}
use Rattle.text.specs.Text.{lines, span_of, words}

-- ---- lines

pub no_line_lem : (s : Bytes) → length s ≡ 0 → plan_of (lines s) ≡ none
unfolding lines
no_line_lem [] e = refl
no_line_lem (x ∷ s) e = absurd (omega (arith, e))

pub one_line : (s : Bytes) (e : ℕ) → (length s ≡ 0 → ⊥) → e ≡ span_of 10 s → length s ≤ e + 1 → plan_of (lines s) ≡ ranged (numbered (words (take e s)))
unfolding lines
one_line s e n q le =
    let d : drop (e + 1) s ≡ [] = drop_of_length-le s le in
    ap plan_of (lines_step s (omega (arith, n)) ∙ ap (λ (k : ℕ). take k s ∷ lines (drop (k + 1) s)) (sym q) ∙ ap (λ (r : Bytes). take e s ∷ lines r) d)

pub more_lines : (s : Bytes) (e : ℕ) → e ≡ span_of 10 s → e + 1 < length s → plan_of (lines s) ≡ none
more_lines s e q lt =
    let r : Bytes = drop (e + 1) s in
    let left : 0 < length r = omega (arith, length-drop (e + 1) s) in
    ap plan_of (lines_step s (omega arith) ∙ ap (λ (k : ℕ). take k s ∷ lines (drop (k + 1) s)) (sym q) ∙ ap (λ (ls : List Bytes). take e s ∷ ls) (lines_step r left))

-- ---- the output

pub too_long : (input : Bytes) → 4_096 < length input → rehearsal_output input ≡ no_plan
unfolding rehearsal_output
too_long input h = ap (λ (b : Bool). cond b (plan_text (plan_of (lines input))) no_plan) (lt-leb (length input) 4_096 h)

pub output_is : (input : Bytes) (o : Option Plan) → length input ≤ 4_096 → plan_of (lines input) ≡ o → rehearsal_output input ≡ plan_text o
unfolding rehearsal_output
output_is input o h e = ap (λ (b : Bool). cond b (plan_text (plan_of (lines input))) no_plan) (le-leb (length input) 4_096 h) ∙ ap plan_text e

pub nothing_planned : (input : Bytes) → (4_096 < length input) ⊎ (plan_of (lines input) ≡ none) → rehearsal_output input ≡ no_plan
nothing_planned input (inl h) = too_long input h
nothing_planned input (inr e) = go (leb (length input) 4_096) refl
  where
    go : (b : Bool) → leb (length input) 4_096 ≡ b → rehearsal_output input ≡ no_plan
    go true l = output_is input none (leb-true (length input) 4_096 l) e
    go false l = too_long input (leb-false (length input) 4_096 l)

-- ---- the numbers of a plan are in range

each : (l : List ℕ) (k : ℕ) → all in_range l ≡ true → k < length l → in_range (get_or l k 0) ≡ true
each [] k a lt = absurd (omega arith)
each (x ∷ l) zero a lt = (both (in_range x) (all in_range l) a).0
each (x ∷ l) (suc k) a lt = each l k (both (in_range x) (all in_range l) a).1 (omega arith)

nine_fit : (l : List ℕ) → all in_range l ≡ true → length l ≡ 9 → Fits (plan_at l)
nine_fit l a n =
    let at : (k : ℕ) → k < 9 → in_range (get_or l k 0) ≡ true = λ k lt. each l k a (omega (arith, n, lt)) in
    let one = ap₂ ◌&&◌ (at 1 (omega arith)) (at 2 (omega arith)) in
    let two = ap₂ ◌&&◌ (at 3 (omega arith)) (at 4 (omega arith)) in
    let three = ap₂ ◌&&◌ (at 5 (omega arith)) (at 6 (omega arith)) in
    let four = ap₂ ◌&&◌ (at 7 (omega arith)) (at 8 (omega arith)) in
    ap₂ ◌&&◌ (at 0 (omega arith)) (ap₂ ◌&&◌ one (ap₂ ◌&&◌ two (ap₂ ◌&&◌ three (ap (λ (b : Bool). b && true) four))))

abbrev plan_or : Plan → Option Plan → Plan
plan_or p none = p
plan_or p (some q) = q

abbrev is_some : Option Plan → ℕ
is_some none = 0
is_some (some q) = 1

not_none : (p : Plan) → some p ≡ none → ⊥
not_none p e = let z : ◌≡◌ {A = ℕ} 1 0 = ap is_some e in omega (arith, z)

pub plan_fits : (o : Option (List ℕ)) (p : Plan) → some p ≡ ranged o → Fits p
plan_fits none p e = absurd (not_none p e)
plan_fits (some l) p e = go (all in_range l) (eqb (length l) 9) refl refl e
  where
    go : (a n : Bool) → all in_range l ≡ a → eqb (length l) 9 ≡ n → some p ≡ cond a (cond n (some (plan_at l)) none) none → Fits p
    go true true f g e = subst Fits (sym (ap (plan_or p) e)) (nine_fit l f (eqb-true (length l) 9 g))
    go true false f g e = absurd (not_none p e)
    go false n f g e = absurd (not_none p e)

-- what one line plans can be run
pub lines_fit : (ls : List Bytes) (p : Plan) → plan_of ls ≡ some p → Fits p
lines_fit [] p e = absurd (not_none p (sym e))
lines_fit (l ∷ []) p e = plan_fits (numbered (words l)) p (sym e)
lines_fit (l ∷ m ∷ ls) p e = absurd (not_none p (sym e))
