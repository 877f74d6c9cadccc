-- What a scan of a block's bytes has to look at, for code that does not build the canonical bytes: the content block.
-- Assumes nothing.
use Prim.Native.Nat.{◌%◌, ◌*◌, ◌+◌, ◌-◌, ◌/◌, ◌<◌, ◌≤◌, suc, zero, ℕ}
use mathlib.Core.List.{List, [], ◌∷◌}
use mathlib.Core.Path.{◌∙◌, ◌≡◌, ap, refl, subst, subst₂, sym}
use native.Mathlib.Decide.{dec_le}
use native.Mathlib.Omega.{arith}
use lib.ListN.{drop, get_or, length, length-drop, length-take, take}
use lib.Seq.{drop-cons, drop-drop, get_or-drop, length-take-le}
use Rattle.block.proofs.Says.{Says, and_true, says-and, says_eq, true_and}
use Rattle.block.specs.Field.{two_at}
use Rattle.block.specs.Lists.{All, same}
use Rattle.model.specs.Blocks.{FitsBlock, content, fields_of, fits_block, parse}
use Rattle.model.specs.Codec.{pad_to, padded, shaped}
use Rattle.laws.proofs.BlockCodes.{block_coded}

-- zeros at the places from n to k
abbrev Zero : ℕ → ℕ → List ℕ → Type 0
Zero n k t = (i : ℕ) → n ≤ i → i < k → get_or t i 0 ≡ 0

-- the padded first n of a list are the first k of it exactly where the places from n to k are zero
says-tail : (k n : ℕ) (t : List ℕ) → k ≤ length t → n ≤ k → Says (same (pad_to k (take n t)) (take k t)) (Zero n k t)
says-tail zero n t h g = record { true_so = λ u i a b. absurd (omega arith); so_true = λ z. tt }
says-tail (suc k) n [] h g = absurd (omega arith)
says-tail (suc k) zero (x ∷ t) h g =
    let s = says-and (says_eq 0 x) (says-tail k zero t (omega arith) (omega arith)) in
    record {
      true_so = λ u i a b. from (s.true_so u) i b;
      so_true = λ z. s.so_true (sym (z 0 (omega arith) (omega arith)), λ i a b. z (suc i) (omega arith) (omega arith));
    }
  where
    from : (0 ≡ x) × Zero 0 k t → (i : ℕ) → i < suc k → get_or (x ∷ t) i 0 ≡ 0
    from p zero b = sym p.0
    from p (suc i) b = p.1 i (omega arith) (omega arith)
says-tail (suc k) (suc n) (x ∷ t) h g =
    let s = says-and (says_eq x x) (says-tail k n t (omega arith) (omega arith)) in
    record {
      true_so = λ u i a b. from (s.true_so u).1 i a b;
      so_true = λ z. s.so_true (refl, λ i a b. z (suc i) (omega arith) (omega arith));
    }
  where
    from : Zero n k t → (i : ℕ) → suc n ≤ i → i < suc k → get_or (x ∷ t) i 0 ≡ 0
    from p zero a b = absurd (omega arith)
    from p (suc i) a b = p i (omega arith) (omega arith)

-- m zeros and then f
abbrev gap : ℕ → List ℕ → List ℕ
gap zero f = f
gap (suc m) f = 0 ∷ gap m f

abbrev pub up : ℕ → ℕ → ℕ
up zero k = k
up (suc m) k = suc (up m k)

says_gap : (m k : ℕ) (f u : List ℕ) (Q : Type 0) → m ≤ length u → Says (same (pad_to k f) (take k (drop m u))) Q
    → Says (same (pad_to (up m k) (gap m f)) (take (up m k) u)) (Zero 0 m u × Q)
says_gap zero k f u Q h s =
    record { true_so = λ t. ((λ i a b. absurd (omega arith)), s.true_so t); so_true = λ p. s.so_true p.1 }
says_gap (suc m) k f [] Q h s = absurd (omega arith)
says_gap (suc m) k f (x ∷ u) Q h s =
    let r = says-and (says_eq 0 x) (says_gap m k f u Q (omega arith) s) in
    record {
      true_so = λ t. let p = r.true_so t in ((λ i a b. from p.0 p.1.0 i b), p.1.1);
      so_true = λ p. r.so_true (sym (p.0 0 (omega arith) (omega arith)), ((λ i a b. p.0 (suc i) (omega arith) (omega arith)), p.1));
    }
  where
    from : 0 ≡ x → Zero 0 m u → (i : ℕ) → i < suc m → get_or (x ∷ u) i 0 ≡ 0
    from e z zero b = sym e
    from e z (suc i) b = z i (omega arith) (omega arith)

-- a content block's bytes, with the first six taken apart: what is left to look at
content_core : (k x₁ x₂ x₃ x₄ x₅ : ℕ) (u : List ℕ) → x₂ < 256 → x₃ < 256 → x₄ < 256 → x₅ < 256
    → up 10 k ≤ length u → x₂ + 256 * x₃ ≤ k
    → Says (same (pad_to (up 16 k) (fields_of (content (x₄ + 256 * x₅) (take (x₂ + 256 * x₃) (drop 10 u))))) (take (up 16 k) (2 ∷ x₁ ∷ x₂ ∷ x₃ ∷ x₄ ∷ x₅ ∷ u)))
    ((x₁ ≡ 0) × Zero 0 10 u × Zero (x₂ + 256 * x₃) k (drop 10 u))
content_core k x₁ x₂ x₃ x₄ x₅ u h₂ h₃ h₄ h₅ e n =
    let t = drop 10 u in
    let b = take (x₂ + 256 * x₃) t in
    let lt : k ≤ length t = simp length-drop (omega arith) in
    let lb : length b ≡ x₂ + 256 * x₃ = length-take-le (x₂ + 256 * x₃) t (omega arith) in
    let w = says_gap 10 k b u (Zero (x₂ + 256 * x₃) k t) (omega arith) (says-tail k (x₂ + 256 * x₃) t (omega arith) n) in
    let s = says-and (says_eq 2 2) (says-and (says_eq 0 x₁) (says-and (says_eq (length b % 256) x₂) (says-and (says_eq (length b / 256) x₃)
    (says-and (says_eq ((x₄ + 256 * x₅) % 256) x₄) (says-and (says_eq ((x₄ + 256 * x₅) / 256) x₅) w))))) in
    record {
      true_so = λ v. let p = s.true_so v in (sym p.1.0, p.1.1.1.1.1.1.0, p.1.1.1.1.1.1.1);
      so_true = λ p. s.so_true (refl, (sym p.0, (omega arith, (omega arith, (omega arith, (omega arith, (p.1, p.2)))))));
    }

first_six : (l : List ℕ) → 6 ≤ length l
    → l ≡ get_or l 0 0 ∷ get_or l 1 0 ∷ get_or l 2 0 ∷ get_or l 3 0 ∷ get_or l 4 0 ∷ get_or l 5 0 ∷ drop 6 l
first_six l h =
    drop-cons l 0 0 (omega arith)
    ∙ ap (λ x. get_or l 0 0 ∷ x) (drop-cons l 1 0 (omega arith)
    ∙ ap (λ x. get_or l 1 0 ∷ x) (drop-cons l 2 0 (omega arith)
    ∙ ap (λ x. get_or l 2 0 ∷ x) (drop-cons l 3 0 (omega arith)
    ∙ ap (λ x. get_or l 3 0 ∷ x) (drop-cons l 4 0 (omega arith)
    ∙ ap (λ x. get_or l 4 0 ∷ x) (drop-cons l 5 0 (omega arith))))))

content-any : (k x₁ x₂ x₃ x₄ x₅ : ℕ) (u d m : List ℕ) → x₂ < 256 → x₃ < 256 → x₄ < 256 → x₅ < 256
    → up 10 k ≤ length u → x₂ + 256 * x₃ ≤ k → drop 10 u ≡ d → 2 ∷ x₁ ∷ x₂ ∷ x₃ ∷ x₄ ∷ x₅ ∷ u ≡ m
    → Says (same (pad_to (up 16 k) (fields_of (content (x₄ + 256 * x₅) (take (x₂ + 256 * x₃) d)))) (take (up 16 k) m))
    ((x₁ ≡ 0) × Zero 0 10 u × Zero (x₂ + 256 * x₃) k d)
content-any k x₁ x₂ x₃ x₄ x₅ u d m h₂ h₃ h₄ h₅ e n p q =
    subst₂ (λ (y z : List ℕ). Says (same (pad_to (up 16 k) (fields_of (content (x₄ + 256 * x₅) (take (x₂ + 256 * x₃) y)))) (take (up 16 k) z))
    ((x₁ ≡ 0) × Zero 0 10 u × Zero (x₂ + 256 * x₃) k y)) p q (content_core k x₁ x₂ x₃ x₄ x₅ u h₂ h₃ h₄ h₅ e n)

all_take : (P : ℕ → Type 0) (n : ℕ) (t : List ℕ) → ((i : ℕ) → P (get_or t i 0)) → All P (take n t)
all_take P zero t f = tt
all_take P (suc n) [] f = tt
all_take P (suc n) (x ∷ t) f = (f 0, all_take P n t (λ i. f (suc i)))

-- what the scan of a content block looks at
pub record ContentScan (l : List ℕ) : Type 0 where
  pub one : get_or l 1 0 ≡ 0
  pub size : two_at l 2 ≤ 480
  pub gap : (i : ℕ) → 6 ≤ i → i < 16 → get_or l i 0 ≡ 0
  pub rest : (i : ℕ) → 16 + two_at l 2 ≤ i → i < 508 → get_or l i 0 ≡ 0

module _ (l : List ℕ) (size : length l ≡ 512) (bytes : (i : ℕ) → get_or l i 0 < 256) (kind : get_or l 0 0 ≡ 2) where
  parse-content : parse l ≡ content (two_at l 4) (take (two_at l 2) (drop 16 l))
  unfolding parse
  parse-content = rw kind

  body_length : two_at l 2 ≤ 480 → length (take (two_at l 2) (drop 16 l)) ≡ two_at l 2
  body_length h = length-take-le (two_at l 2) (drop 16 l) (simp length-drop (omega arith))

  says-same-content : two_at l 2 ≤ 480
      → Says (same (padded (fields_of (content (two_at l 4) (take (two_at l 2) (drop 16 l))))) (take 508 l))
      ((get_or l 1 0 ≡ 0) × Zero 0 10 (drop 6 l) × Zero (two_at l 2) 492 (drop 16 l))
  unfolding padded
  says-same-content h =
      content-any 492 (get_or l 1 0) (get_or l 2 0) (get_or l 3 0) (get_or l 4 0) (get_or l 5 0) (drop 6 l) (drop 16 l) l
      (bytes 2) (bytes 3) (bytes 4) (bytes 5) (simp length-drop (omega arith)) (omega arith) (drop-drop 10 6 l)
      (ap (λ (x : ℕ). x ∷ get_or l 1 0 ∷ get_or l 2 0 ∷ get_or l 3 0 ∷ get_or l 4 0 ∷ get_or l 5 0 ∷ drop 6 l) (sym kind) ∙ sym (first_six l (omega arith)))

  content-fits : two_at l 2 ≤ 480 → FitsBlock (content (two_at l 4) (take (two_at l 2) (drop 16 l)))
  content-fits h = (
    omega (arith, bytes 4, bytes 5),
    omega (arith, body_length h),
    all_take (λ (x : ℕ). x < 256) (two_at l 2) (drop 16 l) (λ i. subst (λ (x : ℕ). x < 256) (sym (get_or-drop 16 l i 0)) (bytes (16 + i))),
  )

  long : (480 < two_at l 2) → FitsBlock (content (two_at l 4) (take (two_at l 2) (drop 16 l))) → ⊥
  long h f =
      let e = length-take (two_at l 2) (drop 16 l) in
      let d = length-drop 16 l in
      omega (arith, f.1)

  -- THE STATEMENT: the scan's four tests are the shape of a content block
  pub says-content : Says (shaped fields_of parse fits_block l) (ContentScan l)
  unfolding shaped
  says-content =
      record {
        true_so = λ t.
            let p = and_true (fits_block (parse l)) (same (padded (fields_of (parse l))) (take 508 l)) t in
            let f : FitsBlock (content (two_at l 4) (take (two_at l 2) (drop 16 l))) = rw parse-content at ((block_coded.says (parse l)).true_so p.0) in
            let h : two_at l 2 ≤ 480 = elim (dec_le (two_at l 2) 480) [ yes y ↦ y | no n ↦ absurd (long (omega arith) f) ] in
            let q = (says-same-content h).true_so (rw parse-content at p.1) in
            record {
              one = q.0;
              size = h;
              gap = λ i a b. let j : (k : ℕ) × (6 + k ≡ i) = (i - 6, omega arith) in subst (λ (x : ℕ). get_or l x 0 ≡ 0) j.1
                  (sym (get_or-drop 6 l j.0 0) ∙ q.1 j.0 (omega arith) (omega (arith, j.1)));
              rest = λ i a b. let j : (k : ℕ) × (16 + k ≡ i) = (i - 16, omega arith) in subst (λ (x : ℕ). get_or l x 0 ≡ 0) j.1
                  (sym (get_or-drop 16 l j.0 0) ∙ q.2 j.0 (omega (arith, j.1)) (omega (arith, j.1)));
            };
        so_true = λ s.
            true_and (fits_block (parse l)) (same (padded (fields_of (parse l))) (take 508 l))
            ((block_coded.says (parse l)).so_true (rw parse-content (content-fits s.size)))
            (rw parse-content ((says-same-content s.size).so_true (
              s.one,
              (λ i a b. get_or-drop 6 l i 0 ∙ s.gap (6 + i) (omega arith) (omega arith)),
              (λ i a b. get_or-drop 16 l i 0 ∙ s.rest (16 + i) (omega arith) (omega arith)),
            )));
      }
