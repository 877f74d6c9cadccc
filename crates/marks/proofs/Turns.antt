-- One turn of each walk over the blocks.
-- Assumes nothing.
use Prim.Native.Nat.{◌+◌, ◌<◌, ◌≤◌, suc, zero, ℕ}
use mathlib.Core.Bool.{Bool, ◌&&◌, and_assoc, and-false, cond, false, not, true}
use mathlib.Core.List.{List, [], ◌∷◌}
use mathlib.Core.Logic.{inl, inr}
use mathlib.Core.Path.{◌∙◌, ◌≡◌, ap, refl, sym}
use native.Mathlib.Omega.{arith}
use borrow.Author.Tests.{eq-eqb, ltb-false, ltb-true, ne_eqb}
use lib.Dec.{eqb, leb, ltb}
use lib.ListN.{get_or, length, replicate, set}
use lib.Seq.{get_or-set_other, get_or-set_same}
use Rattle.std.proofs.lemmas.Bool.Decides.{nat_tests}
use Rattle.std.proofs.Common.{add-one, ap₂, drop, drop-cons, drop_of_length-le, max}
use Rattle.std.specs.List.{filter, fold, list_any}
use mathlib.Core.Bool.{◌||◌}
use Rattle.block.proofs.Says.{eq_or}
use Rattle.block.specs.Field.{two_at}
use Rattle.block.specs.Lists.{all}
use Rattle.model.specs.Blocks.{Block, blank, commit, content, label, mark, parse, parse_as}
use Rattle.model.specs.Log.{among, greater, greatest, marks, marks_ok, once}
use Rattle.model.specs.Pass.{log_all}
use Rattle.model.specs.Store.{blocks_of}
use Rattle.laws.proofs.Rows.{cond-any, replicate-any}
use Rattle.marks.specs.Revisions.{is_mark, revision_of, revisions_in}
use Rattle.marks.specs.Laid.{Laid}
use Rattle.marks.proofs.Accepted.{laid_revisions}

-- ---- one block

kind-mark : (l : List ℕ) → is_mark (parse l) ≡ eqb (get_or l 0 0) 6
unfolding parse
kind-mark l = go (get_or l 0 0)
  where
    go : (k : ℕ) → is_mark (parse_as k l) ≡ eqb k 6
    go zero = refl
    go (suc zero) = refl
    go (suc (suc zero)) = refl
    go (suc (suc (suc zero))) = refl
    go (suc (suc (suc (suc zero)))) = refl
    go (suc (suc (suc (suc (suc zero))))) = refl
    go (suc (suc (suc (suc (suc (suc zero)))))) = refl
    go (suc (suc (suc (suc (suc (suc (suc k))))))) =
        let no : (j : ℕ) → j ≤ 6 → eqb (suc (suc (suc (suc (suc (suc (suc k))))))) j ≡ false = λ j h. ne_eqb (suc (suc (suc (suc (suc (suc (suc k))))))) j (λ e. omega arith) in
        rw (no 1 (omega arith), no 2 (omega arith), no 3 (omega arith), no 6 (omega arith))

no_revision : (b : Block) → is_mark b ≡ false → revision_of b ≡ 0
no_revision label e = refl
no_revision (content r b) e = refl
no_revision (commit r seat stamp ls) e = refl
no_revision (mark m) e = let z : ◌≡◌ {A = ℕ} 0 1 = cc in absurd (omega arith)
no_revision blank e = refl

pub revision_none : (l : List ℕ) → (get_or l 0 0 ≡ 6 → ⊥) → revision_of (parse l) ≡ 0
revision_none l n = no_revision (parse l) (kind-mark l ∙ ne_eqb (get_or l 0 0) 6 n)

pub revision_is : (l : List ℕ) → get_or l 0 0 ≡ 6 → revision_of (parse l) ≡ two_at l 4
unfolding parse
revision_is l e = rw e

pub ruleset revision_laws = (revision_is, revision_none, nat_tests)

-- ---- no mark block

no_revisions : (bs : List Block) → ((p : ℕ) → p < length bs → is_mark (get_or bs p blank) ≡ false) → revisions_in bs ≡ []
no_revisions [] f = refl
no_revisions (b ∷ bs) f = rw (no_revision b (f 0 (omega arith))) (no_revisions bs (λ p h. f (suc p) (omega arith)))

-- then no revision is released twice
pub markless : (s : List ℕ) (n : ℕ) → Laid s n → ((p : ℕ) → p < length (blocks_of n s) → is_mark (get_or (blocks_of n s) p blank) ≡ false)
    → true ≡ marks_ok (marks (log_all (blocks_of n s)))
markless s n L f = sym (ap once (sym (laid_revisions s n L) ∙ no_revisions (blocks_of n s) f))

-- ---- is a revision one of them?

pub among-zero : (bs : List Block) → among 0 (revisions_in bs) ≡ false
among-zero [] = refl
among-zero (b ∷ bs) = cond-any (λ (xs : List ℕ). among 0 xs ≡ false) (eqb (revision_of b) 0) (λ t. among-zero bs) (λ t. rw t (among-zero bs))

pub among_any : (r : ℕ) (xs : List ℕ) → list_any (λ x. eqb x r) xs ≡ among r xs
among_any r [] = refl
among_any r (x ∷ xs) = rw (among_any r xs) (one (eqb x r) (among r xs))
  where
    one : (t u : Bool) → (t || u) ≡ cond t true u
    one true u = refl
    one false u = refl

-- ---- the greatest of them

greater_max : (x y : ℕ) → greater x y ≡ max x y
greater_max x y = cond-any (λ (z : ℕ). z ≡ max x y) (ltb x y) (λ t. let h : x < y = ltb-true x y t in omega arith) (λ t. let h : y ≤ x = ltb-false x y t in omega arith)

greatest_from : (r a : ℕ) (xs : List ℕ) → fold max a (filter (λ x. leb x r) xs) ≡ max a (greatest r xs)
greatest_from r a [] = omega arith
greatest_from r a (x ∷ xs) =
    let f = filter (λ y. leb y r) xs in
    let g = greatest r xs in
    elim (leb x r) as (λ t. fold max a (cond t (x ∷ f) f) ≡ max a (cond t (greater x g) g)) [
      | true ↦ greatest_from r (max a x) xs ∙ omega (arith, greater_max x g)
      | false ↦ greatest_from r a xs
    ]

pub greatest_is : (r : ℕ) (xs : List ℕ) → fold max 0 (filter (λ x. leb x r) xs) ≡ greatest r xs
greatest_is r xs = greatest_from r 0 xs ∙ omega arith

-- ---- none of them twice: none that is left is marked, and none of them stands twice

abbrev unmarked : List Bool → List ℕ → Bool
unmarked seen xs = all (λ (x : ℕ). not (get_or seen x false)) xs

abbrev pub apart : List Bool → List ℕ → Bool
apart seen xs = unmarked seen xs && once xs

marked : (seen : List Bool) (i : ℕ) (xs : List ℕ) → i < length seen → unmarked (set seen i true) xs ≡ (unmarked seen xs && not (among i xs))
marked seen i [] h = refl
marked seen i (x ∷ xs) h =
    elim (eq_or x i) [
      | inl e ↦
          let m : get_or (set seen i true) x false ≡ true = ap (λ (k : ℕ). get_or (set seen i true) k false) e ∙ get_or-set_same seen i true false h in
          rw (m, eq-eqb x i e) (sym (and-false (unmarked seen (x ∷ xs))))
      | inr n ↦
          rw (get_or-set_other seen i x true false n, ne_eqb x i n, marked seen i xs h)
          (sym (and_assoc (not (get_or seen x false)) (unmarked seen xs) (not (among i xs))))
    ]

once-next : (a b : Bool) → (not a && b) ≡ cond a false b
once-next true b = refl
once-next false b = refl

unmarked_all : (n : ℕ) (xs : List ℕ) → unmarked (replicate n false) xs ≡ true
unmarked_all n [] = refl
unmarked_all n (x ∷ xs) = rw (replicate-any (λ (b : Bool). b ≡ false) n x false false refl refl) (unmarked_all n xs)

pub apart_all : (n : ℕ) (xs : List ℕ) → apart (replicate n false) xs ≡ once xs
apart_all n xs = ap (λ (b : Bool). b && once xs) (unmarked_all n xs)

-- the k-th is the next
module _ (seen : List Bool) (xs : List ℕ) (k x : ℕ) (h : k < length xs) (e : x ≡ get_or xs k x) where
  next : drop k xs ≡ x ∷ drop (k + 1) xs
  next = drop-cons xs k x h ∙ ap₂ (λ (y : ℕ) (n : ℕ). y ∷ drop n xs) (sym e) (sym (add-one k))

  pub apart_step : x < length seen → get_or seen x false ≡ false → apart (set seen x true) (drop (k + 1) xs) ≡ apart seen (drop k xs)
  apart_step l z =
      let rest = drop (k + 1) xs in
      rw (marked seen x rest l, next, z)
      (and_assoc (unmarked seen rest) (not (among x rest)) (once rest) ∙ ap (λ (b : Bool). unmarked seen rest && b) (once-next (among x rest) (once rest)))

  pub apart_fails : get_or seen x false ≡ true → apart seen (drop k xs) ≡ false
  apart_fails t = rw (next, t)

pub apart_none : (seen : List Bool) (xs : List ℕ) (k : ℕ) → length xs ≤ k → apart seen (drop k xs) ≡ true
apart_none seen xs k h = rw (drop_of_length-le xs {i = k} h)
