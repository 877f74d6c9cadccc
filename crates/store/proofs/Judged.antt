-- The forward pass over the whole blocks is the test for refusal 3, and its numbers are the store's.
-- Assumes nothing.
use Rattle.std.specs.Prelude.{Err, Ok, Result}
use Prim.Native.Nat.{◌+◌, ◌-◌, ◌<◌, suc, zero, ℕ}
use mathlib.Core.Bool.{Bool, ◌&&◌, cond, false, not, true}
use mathlib.Core.List.{List, [], ◌++◌, ◌∷◌, append-nil}
use mathlib.Core.Path.{◌∙◌, ◌≡◌, ap, ap₂, refl, subst, sym}
use native.Mathlib.Omega.{arith}
use borrow.Author.Tests.{eq-eqb}
use lib.Dec.{T, eqb, eqb→eq, leb, lit≤}
use lib.ListN.{drop, length, length-append, length-drop, replicate}
use Rattle.block.proofs.Says.{and_true, bool_alike, is_true, true_and}
use Rattle.block.specs.Lists.{all}
use Rattle.model.specs.Blocks.{Block, blank, bytes_at, commit, content, label, mark}
use Rattle.model.specs.History.{last}
use Rattle.model.specs.Layout.{Table, latest, next}
use Rattle.model.specs.Pass.{grown, is_blank, log_all, log_from, ok, ok_from, read_all, read_from, tables_after}
use Rattle.model.specs.Store.{carries, front, stem}
use Rattle.model.specs.declared.Refusal.TheVariants.{StoreLayout}
use Rattle.laws.proofs.Append.{run, unmoved, zero_below}
use Rattle.laws.proofs.Tailing.{on_label}
use Rattle.laws.proofs.Untailing.{all-blanks, stem_split}
use Rattle.store.proofs.Loose.{blank_ok, ends, pass_bare, reached-tail, read_stem}
use Rattle.store.specs.Opened.{ok_tail, passed, reached}
use Rattle.store.specs.declared.Header.{Header}
use Rattle.model.specs.declared.Refusal.{Refusal}

-- ---- no blank block among some, and blank ones after them

front-all : (s : List Block) (z : ℕ) → T (all (λ b. not (is_blank b)) s) → length (front (s ++ replicate z blank)) ≡ length s
front-all [] zero t = refl
front-all [] (suc z) t = refl
front-all (label ∷ s) z t = ap suc (front-all s z t)
front-all (content r b ∷ s) z t = ap suc (front-all s z t)
front-all (commit r a u ls ∷ s) z t = ap suc (front-all s z t)
front-all (mark m ∷ s) z t = ap suc (front-all s z t)
front-all (blank ∷ s) z t = absurd t

all-front : (s : List Block) (z : ℕ) → length (front (s ++ replicate z blank)) ≡ length s → T (all (λ b. not (is_blank b)) s)
all-front [] z e = tt
all-front (label ∷ s) z e = all-front s z (omega arith)
all-front (content r b ∷ s) z e = all-front s z (omega arith)
all-front (commit r a u ls ∷ s) z e = all-front s z (omega arith)
all-front (mark m ∷ s) z e = all-front s z (omega arith)
all-front (blank ∷ s) z e = absurd (omega arith)

-- a table for each commit that is read
tables_read : (look : ℕ → List ℕ) (tables : List Table) (s : List Block) (z : ℕ) → length (tables_after tables s) ≡ length tables + length (read_from look (s ++ replicate z blank))
unfolding tables_after read_from
tables_read look tables [] zero = omega arith
tables_read look tables [] (suc z) = omega arith
tables_read look tables (label ∷ s) z = omega arith
tables_read look tables (content r b ∷ s) z = tables_read look tables s z
tables_read look tables (commit r a u ls ∷ s) z =
    tables_read look (grown tables ls) s z ∙ omega (arith, length-append tables (next ls (latest tables) ∷ []))
tables_read look tables (mark m ∷ s) z = tables_read look tables s z
tables_read look tables (blank ∷ s) z = omega arith

-- ---- the tests for refusal 3, where every block has its shape: W are the whole blocks, and z blank ones stand for the rest

abbrev pub bare_blocks : ℕ → List Block → List Block
bare_blocks z W = stem W ++ replicate z blank

-- B are the blocks as if the tail were zero blocks, u of the whole blocks stand before the tail
abbrev pub judged_by : List Block → List Block → ℕ → ℕ → Bool
judged_by W B u m = ok B && (eqb (length (front B)) u && (all (carries (suc (last (read_all B)))) (drop u W) && leb (m - u) 32))

abbrev pub judged : ℕ → List Block → Bool
judged z W = judged_by W (bare_blocks z W) (length (stem W)) (length W)

-- s, the first blocks of B before blank ones: laid by themselves, with the same commits and marks
pub record Alone (s B : List Block) : Type 0 where
  pub laid : ok s ≡ true
  pub log : log_all s ≡ log_all B
  pub used : length (front B) ≡ length s

abbrev header : ℕ → ℕ → Header
header x y = record { last = x; used = y }

abbrev pub head_of : List Block → Header
head_of B = record { last = last (read_all B); used = length (front B) }

module _ (z : ℕ) (R : List Block) where
  abbrev first : List Table
  first = replicate 32 0 ∷ []

  abbrev S : List Block
  S = stem R

  abbrev bl : List Block
  bl = replicate z blank

  abbrev here : ℕ → List ℕ
  here = bytes_at (label ∷ R)

  abbrev there : ℕ → List ℕ
  there = bytes_at (label ∷ (stem R ++ replicate z blank))

  agree : (p : ℕ) → p < suc (length S) → here p ≡ there p
  agree p h = ap (λ (x : List Block). bytes_at (label ∷ x) p) (sym (stem_split R)) ∙ unmoved (label ∷ S) (drop (length S) R) bl p h

  blanks-ok : (look : ℕ → List ℕ) (at : ℕ) (tables : List Table) → T (ok_from look at 0 tables bl)
  blanks-ok look at tables = subst T (sym (blank_ok look at tables z)) tt

  count : (look : ℕ → List ℕ) → length (tables_after first S) ≡ suc (length (read_from look (S ++ bl)))
  count look = tables_read look first S z ∙ omega arith

  rest-few : length (drop (length S) R) ≡ length R - length S
  rest-few = length-drop (length S) R

  -- the whole test, with the label first
  abbrev tested : Bool
  tested = judged_by (label ∷ R) (label ∷ (S ++ bl)) (suc (length S)) (suc (length R))

  passes : T (ok_tail here 1 0 first R) → T tested
  unfolding ok read_all
  passes t =
      let p = and_true (ok_from here 1 0 first (S ++ bl)) (ends first S R) (subst T (pass_bare here 1 first z R) t) in
      let c : Bool = all (carries (length (tables_after first S))) (drop (length S) R) in
      let q = and_true (all (λ b. not (is_blank b)) S) (c && leb (0 + length (drop (length S) R)) 32) p.1 in
      let w = and_true c (leb (0 + length (drop (length S) R)) 32) q.1 in
      let r = run here there (suc (length S)) agree 1 0 first S bl bl (lit≤ tt) (omega arith) (zero_below 32, tt) q.0 (all-blanks z) p.0 (blanks-ok there (1 + 0 + length S) (tables_after first S)) in
      let f : T (eqb (suc (length (front (S ++ bl)))) (suc (length S))) = subst T (sym (eq-eqb (suc (length (front (S ++ bl)))) (suc (length S)) (ap suc (front-all S z q.0)))) tt in
      let d : T (all (carries (suc (length (read_from there (S ++ bl))))) (drop (length S) R)) = subst (λ (k : ℕ). T (all (carries k) (drop (length S) R))) (count there) w.0 in
      let n : 0 + length (drop (length S) R) ≡ suc (length R) - suc (length S) = omega (arith, rest-few) in
      true_and (ok_from there 1 0 first (S ++ bl)) _ r.0
      (true_and (eqb (suc (length (front (S ++ bl)))) (suc (length S))) _ f
      (true_and (all (carries (suc (length (read_from there (S ++ bl))))) (drop (length S) R)) _ d (subst (λ (k : ℕ). T (leb k 32)) n w.1)))

  tested_passes : T tested → T (ok_tail here 1 0 first R)
  unfolding ok read_all
  tested_passes t =
      let c : Bool = all (carries (suc (length (read_from there (S ++ bl))))) (drop (length S) R) in
      let k : Bool = leb (suc (length R) - suc (length S)) 32 in
      let p = and_true (ok_from there 1 0 first (S ++ bl)) (eqb (suc (length (front (S ++ bl)))) (suc (length S)) && (c && k)) t in
      let q = and_true (eqb (suc (length (front (S ++ bl)))) (suc (length S))) (c && k) p.1 in
      let w = and_true c k q.1 in
      let g : suc (length (front (S ++ bl))) ≡ suc (length S) = eqb→eq (suc (length (front (S ++ bl)))) (suc (length S)) q.0 in
      let nb = all-front S z (omega (arith, g)) in
      let r = run there here (suc (length S)) (λ p h. sym (agree p h)) 1 0 first S bl bl (lit≤ tt) (omega arith) (zero_below 32, tt) nb (all-blanks z) p.0 (blanks-ok here (1 + 0 + length S) (tables_after first S)) in
      let d : T (all (carries (length (tables_after first S))) (drop (length S) R)) = subst (λ (k : ℕ). T (all (carries k) (drop (length S) R))) (sym (count there)) w.0 in
      let n : suc (length R) - suc (length S) ≡ 0 + length (drop (length S) R) = omega (arith, rest-few) in
      subst T (sym (pass_bare here 1 first z R))
      (true_and (ok_from here 1 0 first (S ++ bl)) (ends first S R) r.0
      (true_and (all (λ b. not (is_blank b)) S) _ nb (true_and (all (carries (length (tables_after first S))) (drop (length S) R)) _ d (subst (λ (k : ℕ). T (leb k 32)) n w.1))))

  tested_is : ok_tail here 1 0 first R ≡ tested
  tested_is = bool_alike (ok_tail here 1 0 first R) tested passes tested_passes

  -- the numbers
  numbers : T (ok_tail here 1 0 first R) → ◌≡◌ {A = Header} (record { last = 0 + length (read_from here R); used = reached 1 0 R }) (head_of (label ∷ (S ++ bl)))
  unfolding read_all
  numbers t =
      let p = and_true (ok_from here 1 0 first (S ++ bl)) (ends first S R) (subst T (pass_bare here 1 first z R) t) in
      let q = and_true (all (λ b. not (is_blank b)) S) _ p.1 in
      let r : 0 + length (read_from here R) ≡ length (read_from there (S ++ bl)) = omega (arith, ap length (read_stem here z R), count here, count there) in
      let u : reached 1 0 R ≡ suc (length (front (S ++ bl))) = reached-tail here 1 first R t ∙ omega (arith, front-all S z q.0) in
      ap₂ (λ (x y : ℕ). header x y) r u

  -- the blocks before the tail by themselves
  tested_alone : T tested → Alone (label ∷ S) (label ∷ (S ++ bl))
  unfolding ok log_all ok_from log_from
  tested_alone t =
      let p = and_true (ok (label ∷ (S ++ bl))) _ t in
      let q = and_true (eqb (suc (length (front (S ++ bl)))) (suc (length S))) _ p.1 in
      let g : suc (length (front (S ++ bl))) ≡ suc (length S) = eqb→eq (suc (length (front (S ++ bl)))) (suc (length S)) q.0 in
      let r = run there (bytes_at (label ∷ (S ++ []))) (suc (length S)) (unmoved (label ∷ S) bl []) 1 0 first S bl [] (lit≤ tt) (omega arith) (zero_below 32, tt)
      (all-front S z (omega (arith, g))) (all-blanks z) p.0 tt in
      record {
        laid = is_true (ok (label ∷ S)) (subst (λ (x : List Block). T (ok (label ∷ x))) (append-nil S) r.0);
        log = sym (ap (λ (x : List Block). log_all (label ∷ x)) (append-nil S)) ∙ r.1 ∙ append-nil (log_from there (S ++ bl));
        used = g;
      }

  pub judged_alone : T (judged z (label ∷ R)) → Alone (stem (label ∷ R)) (bare_blocks z (label ∷ R))
  judged_alone = subst (λ (s : List Block). T (judged_by (label ∷ R) (s ++ bl) (length s) (suc (length R))) → Alone s (s ++ bl)) (sym (on_label S)) tested_alone

  answered : (b c : Bool) (x y : Header) → b ≡ c → (T b → x ≡ y) → ◌≡◌ {A = Result Header Refusal} (cond b (Ok x) (Err StoreLayout)) (cond c (Ok y) (Err StoreLayout))
  answered true c x y e f = ap (λ (h : Header). Ok h) (f tt) ∙ ap (λ (t : Bool). cond t (Ok y) (Err StoreLayout)) e
  answered false c x y e f = ap (λ (t : Bool). cond t (Ok y) (Err StoreLayout)) e

  -- THE LAW
  pub judged_passed : passed (bytes_at (label ∷ R)) 1 0 (replicate 32 0 ∷ []) R ≡ cond (judged z (label ∷ R)) (Ok (head_of (bare_blocks z (label ∷ R)))) (Err StoreLayout)
  unfolding passed
  judged_passed =
      answered (ok_tail here 1 0 first R) tested (record { last = 0 + length (read_from here R); used = reached 1 0 R }) (head_of (label ∷ (S ++ bl))) tested_is numbers
      ∙ ap (λ (s : List Block). cond (judged_by (label ∷ R) (s ++ bl) (length s) (suc (length R))) (Ok (head_of (s ++ bl))) (Err StoreLayout)) (sym (on_label S))
