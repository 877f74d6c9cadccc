-- One turn of each loop over the changes of a commit block.
-- Assumes nothing.
use Prim.Native.Nat.{◌*◌, ◌+◌, ◌<◌, ◌≤◌, suc, zero, ℕ}
use mathlib.Core.Bool.{Bool, ◌&&◌, and_assoc, and-false, false, not, true}
use mathlib.Core.List.{List, [], ◌∷◌}
use mathlib.Core.Logic.{inl, inr}
use mathlib.Core.Path.{◌∙◌, ◌≡◌, ap, refl, subst, sym}
use native.Mathlib.Omega.{arith}
use borrow.Author.Tests.{eq-eqb, ne_eqb}
use lib.Dec.{eqb}
use lib.ListN.{drop, get_or, length, length-set, replicate, set, take}
use lib.Seq.{get_or-set_other, get_or-set_same}
use Rattle.std.proofs.lemmas.Grind.{common_steps}
use Rattle.std.specs.List.{list_all}
use Rattle.block.proofs.Says.{eq_or, says-all_from, says_eq, says_false}
use Rattle.block.specs.Field.{two_at}
use Rattle.block.specs.Lists.{all, all_from}
use Rattle.model.specs.Blocks.{Line, parse_line, parse_lines}
use Rattle.model.specs.Layout.{named, pointed}
use Rattle.model.specs.Pass.{none_twice}
use Rattle.laws.proofs.Accepting.{pointed-few}
use Rattle.laws.proofs.Puts.{named_other}
use Rattle.laws.proofs.Rows.{replicate-any}
use Rattle.shape.proofs.LineLaws.{left-all, left-none, left_step, pointed_hit, pointed_miss, sheet_of}
use Rattle.shape.proofs.Shapes.{length-parse}
use Rattle.shape.specs.Lines.{left}

pub zeros_at : (n i : ℕ) → ◌≡◌ {A = ℕ} (get_or (replicate n 0) i 0) 0
zeros_at n i = replicate-any (λ (x : ℕ). x ≡ 0) n i 0 0 refl refl

-- ---- no sheet twice: none that is left is marked, and none of them stands twice
abbrev unmarked : List Bool → List Line → Bool
unmarked seen ls = all (λ (l : Line). not (get_or seen l.sheet false)) ls

abbrev pub apart : List Bool → List Line → Bool
apart seen ls = unmarked seen ls && none_twice ls

mark : (seen : List Bool) (i : ℕ) (ls : List Line) → i < length seen → unmarked (set seen i true) ls ≡ (unmarked seen ls && eqb (named i ls) 0)
mark seen i [] h = refl
mark seen i (l ∷ ls) h =
    elim (eq_or l.sheet i) [
      | inl e ↦
          let m : get_or (set seen i true) l.sheet false ≡ true = ap (λ (k : ℕ). get_or (set seen i true) k false) e ∙ get_or-set_same seen i true false h in
          rw (m, eq-eqb l.sheet i e, ne_eqb (suc (named i ls)) 0 (λ z. omega arith)) (sym (and-false (unmarked seen (l ∷ ls))))
      | inr n ↦
          rw (get_or-set_other seen i l.sheet true false n, named_other i l ls n, mark seen i ls h)
          (sym (and_assoc (not (get_or seen l.sheet false)) (unmarked seen ls) (eqb (named i ls) 0)))
    ]

apart_next : (seen : List Bool) (l : Line) (ls : List Line) → l.sheet < length seen → get_or seen l.sheet false ≡ false
    → apart (set seen l.sheet true) ls ≡ apart seen (l ∷ ls)
apart_next seen l ls h z =
    rw (mark seen l.sheet ls h, z) (and_assoc (unmarked seen ls) (eqb (named l.sheet ls) 0) (none_twice ls))

apart-not : (seen : List Bool) (l : Line) (ls : List Line) → get_or seen l.sheet false ≡ true → apart seen (l ∷ ls) ≡ false
apart-not seen l ls e = rw e

unmarked_all : (n : ℕ) (ls : List Line) → unmarked (replicate n false) ls ≡ true
unmarked_all n [] = refl
unmarked_all n (l ∷ ls) = rw (unmarked_at n l.sheet) (unmarked_all n ls)
  where
    unmarked_at : (n i : ℕ) → get_or (replicate n false) i false ≡ false
    unmarked_at n i = replicate-any (λ (x : Bool). x ≡ false) n i false false refl refl

module _ (s : List ℕ) (base m : ℕ) where
  pub apart_all : (n : ℕ) → apart (replicate n false) (left s base m 0) ≡ none_twice (parse_lines m (drop base s))
  apart_all n = ap (apart (replicate n false)) (left-all s base m) ∙ ap (λ (b : Bool). b && none_twice (parse_lines m (drop base s))) (unmarked_all n (parse_lines m (drop base s)))

  module _ (seen : List Bool) (j i : ℕ) where
    pub apart_step : j < m → i ≡ get_or s (base + 8 * j) 0 → i < length seen → get_or seen i false ≡ false
        → apart (set seen i true) (left s base m (j + 1)) ≡ apart seen (left s base m j)
    apart_step h e g z =
        let l = parse_line (drop (base + 8 * j) s) in
        let d : l.sheet ≡ i = sheet_of s (base + 8 * j) ∙ sym e in
        ap (λ (k : ℕ). apart (set seen k true) (left s base m (j + 1))) (sym d)
        ∙ apart_next seen l (left s base m (j + 1)) (subst (λ (k : ℕ). k < length seen) (sym d) g) (ap (λ (k : ℕ). get_or seen k false) d ∙ z)
        ∙ sym (ap (apart seen) (left_step s base m j h))

    pub apart_fails : j < m → i ≡ get_or s (base + 8 * j) 0 → get_or seen i false ≡ true → apart seen (left s base m j) ≡ false
    apart_fails h e t =
        ap (apart seen) (left_step s base m j h)
        ∙ apart-not seen (parse_line (drop (base + 8 * j) s)) (left s base m (j + 1)) (ap (λ (k : ℕ). get_or seen k false) (sheet_of s (base + 8 * j) ∙ sym e) ∙ t)

  pub apart_none : (seen : List Bool) (j : ℕ) → m ≤ j → apart seen (left s base m j) ≡ true
  apart_none seen j h = ap (apart seen) (left-none s base m j h)

pub ruleset apart_laws = (apart_step, apart_fails, apart_none, common_steps)

-- ---- the count of the changes that point to each block from `at` on: what is counted and what is left make the whole
pub record Tallied (s : List ℕ) (base m at n : ℕ) (counts : List ℕ) (j : ℕ) : Type 0 where
  pub upto : j ≤ m
  pub size : length counts ≡ n
  pub few : (q : ℕ) → get_or counts q 0 ≤ j
  pub whole : (q : ℕ) → q < n → get_or counts q 0 + pointed (at + q) (left s base m j) ≡ pointed (at + q) (left s base m 0)

module _ (s : List ℕ) (base m at n : ℕ) where
  pub tally_starts : (counts : List ℕ) → length counts ≡ n → ((q : ℕ) → get_or counts q 0 ≡ 0) → Tallied s base m at n counts 0
  tally_starts counts e z =
      record { upto = omega arith; size = e; few = λ q. omega (arith, z q); whole = λ q h. omega (arith, z q) }

  module _ {counts : List ℕ} {j : ℕ} (T : Tallied s base m at n counts j) (h : j < m) where
    pub tally_miss : ((q : ℕ) → q < n → two_at s (base + 8 * j + 2) ≡ at + q → ⊥) → Tallied s base m at n counts (j + 1)
    tally_miss off =
        record {
          upto = omega arith;
          size = T.size;
          few = λ q. omega (arith, T.few q);
          whole = λ q g. omega (arith, T.whole q g, pointed_miss s base m j (at + q) h (off q g));
        }

    pub tally_hit : (q : ℕ) → q < n → two_at s (base + 8 * j + 2) ≡ at + q → Tallied s base m at n (set counts q (get_or counts q 0 + 1)) (j + 1)
    tally_hit q g e =
        let v : ℕ = get_or counts q 0 + 1 in
        let here : get_or (set counts q v) q 0 ≡ v = get_or-set_same counts q v 0 (omega (arith, T.size)) in
        record {
          upto = omega arith;
          size = length-set counts q v ∙ T.size;
          few = λ k. elim (eq_or k q) [
            | inl d ↦ omega (arith, ap (λ (x : ℕ). get_or (set counts q v) x 0) d, here, T.few q)
            | inr o ↦ omega (arith, get_or-set_other counts q k v 0 o, T.few k)
          ];
          whole = λ k b. elim (eq_or k q) [
            | inl d ↦
                subst (λ (x : ℕ). get_or (set counts q v) x 0 + pointed (at + x) (left s base m (j + 1)) ≡ pointed (at + x) (left s base m 0)) (sym d)
                (omega (arith, here, T.whole q g, pointed_hit s base m j (at + q) h e))
            | inr o ↦ omega (arith, get_or-set_other counts q k v 0 o, T.whole k b, pointed_miss s base m j (at + k) h (λ w. o (omega (arith, e, w))))
          ];
        }

-- ---- each of the k blocks from `at` on just once
pub each-many : (m at k : ℕ) (t : List ℕ) → m < k → all_from (λ (p : ℕ). eqb (pointed p (parse_lines m t)) 1) at k ≡ false
each-many m at k t h =
    says_false (says-all_from (λ (p : ℕ). eqb (pointed p (parse_lines m t)) 1) (λ (p : ℕ). pointed p (parse_lines m t) ≡ 1) (λ p. says_eq (pointed p (parse_lines m t)) 1) at k)
    (λ f. omega (arith, pointed-few at k (parse_lines m t) f, length-parse m t))

pub each_counted : (k : ℕ) (counts : List ℕ) (ls : List Line) (at : ℕ) → k ≤ length counts → ((q : ℕ) → q < k → get_or counts q 0 ≡ pointed (at + q) ls)
    → list_all (λ (n : ℕ). eqb n 1) (take k counts) ≡ all_from (λ (p : ℕ). eqb (pointed p ls) 1) at k
each_counted zero counts ls at h c = refl
each_counted (suc k) [] ls at h c = absurd (omega arith)
each_counted (suc k) (n ∷ counts) ls at h c =
    let e : at + 0 ≡ at = omega arith in
    let rest = each_counted k counts ls (suc at) (omega arith)
    (λ q g. c (suc q) (omega arith) ∙ (let d : at + suc q ≡ suc at + q = omega arith in ap (λ (p : ℕ). pointed p ls) d)) in
    ap (λ (b : Bool). b && list_all (λ (x : ℕ). eqb x 1) (take k counts)) (ap (λ (x : ℕ). eqb x 1) (c 0 (omega arith) ∙ ap (λ (p : ℕ). pointed p ls) e))
    ∙ ap (λ (b : Bool). eqb (pointed at ls) 1 && b) rest
