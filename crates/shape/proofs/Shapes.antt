-- The shape of a block of each kind as a chain of tests on its bytes.
-- Assumes nothing.
use Prim.Native.Nat.{◌%◌, ◌*◌, ◌+◌, ◌-◌, ◌/◌, ◌<◌, ◌≤◌, suc, zero, ℕ}
use mathlib.Core.Bool.{Bool, ◌&&◌, and-false, false}
use mathlib.Core.List.{List, [], ◌∷◌}
use mathlib.Core.Logic.{inl, inr}
use mathlib.Core.Path.{◌∙◌, ◌≡◌, ap, refl, subst, sym}
use native.Mathlib.Decide.{dec_le}
use native.Mathlib.Omega.{arith}
use borrow.Author.Tests.{lt-leb, ne_eqb}
use lib.Dec.{T, eqb, leb}
use lib.ListN.{get_or-eq_default, drop, get_or, length, length-drop, take}
use lib.Seq.{drop-drop, get_or-drop}
use Rattle.std.proofs.Common.{Fits, w8}
use Rattle.std.proofs.lemmas.Bool.Decides.{nat_tests}
use Rattle.block.proofs.Parts.{first_sixteen}
use Rattle.block.proofs.Says.{Says, and_true, bool_alike, eq_or, says_alike, says-and, says_eq, says_false, says-le, true_and}
use Rattle.block.specs.Field.{four_at, two_at}
use Rattle.block.specs.Check.{is_zero}
use Rattle.block.specs.Lists.{All, same}
use Rattle.model.specs.Blocks.{Block, FitsLine, commit, fields_of, fits_block, lines_of, mark, parse, parse_lines}
use Rattle.model.specs.Codec.{pad_to, padded, shaped}
use Rattle.model.specs.Log.{released}
use Rattle.laws.proofs.BlockCodes.{block_coded}
use Rattle.shape.proofs.Scan.{says-content, up}
use Rattle.shape.proofs.ScanLines.{LinesOk, eights, past, says-lines}
use Rattle.shape.proofs.ZeroLaws.{says-zeros}
use Rattle.shape.specs.Shape.{lines_ok}

-- the padded list is the start of another exactly where each place agrees
pub says-padded : (k : ℕ) (f l : List ℕ) → k ≤ length l → Says (same (pad_to k f) (take k l)) ((i : ℕ) → i < k → get_or f i 0 ≡ get_or l i 0)
says-padded zero f l h = record { true_so = λ t i b. absurd (omega arith); so_true = λ e. tt }
says-padded (suc k) f [] h = absurd (omega arith)
says-padded (suc k) [] (x ∷ l) h =
    let s = says-and (says_eq 0 x) (says-padded k [] l (omega arith)) in
    record {
      true_so = λ t. from (s.true_so t);
      so_true = λ e. s.so_true (e 0 (omega arith), λ i b. e (suc i) (omega arith));
    }
  where
    from : (0 ≡ x) × ((i : ℕ) → i < k → get_or [] i 0 ≡ get_or l i 0) → (i : ℕ) → i < suc k → get_or [] i 0 ≡ get_or (x ∷ l) i 0
    from p zero b = p.0
    from p (suc i) b = p.1 i (omega arith)
says-padded (suc k) (y ∷ f) (x ∷ l) h =
    let s = says-and (says_eq y x) (says-padded k f l (omega arith)) in
    record {
      true_so = λ t. from (s.true_so t);
      so_true = λ e. s.so_true (e 0 (omega arith), λ i b. e (suc i) (omega arith));
    }
  where
    from : (y ≡ x) × ((i : ℕ) → i < k → get_or f i 0 ≡ get_or l i 0) → (i : ℕ) → i < suc k → get_or (y ∷ f) i 0 ≡ get_or (x ∷ l) i 0
    from p zero b = p.0
    from p (suc i) b = p.1 i (omega arith)

says-lines_ok : (m : ℕ) (t : List ℕ) → Says (lines_ok m t) (LinesOk m t)
says-lines_ok zero t = record { true_so = λ u. tt; so_true = λ u. tt }
says-lines_ok (suc m) t =
    let s = says-and (says-le 1 (get_or t 1 0)) (says-and (says-le (get_or t 1 0) 4) (says-and (says_eq (get_or t 5 0) 0) (says-lines_ok m (drop 8 t)))) in
    record {
      true_so = λ u. let p = s.true_so u in ((p.0, p.1.0), p.1.1.0, p.1.1.1);
      so_true = λ p. s.so_true (p.0.0, (p.0.1, (p.1, p.2)));
    }

-- whether the bytes from a up to b are zeros
abbrev pub zeros : List ℕ → ℕ → ℕ → Bool
zeros l a b = is_zero (take (b - a) (drop a l))

pub length-parse : (m : ℕ) (t : List ℕ) → length (parse_lines m t) ≡ m
length-parse zero t = refl
length-parse (suc m) t = ap suc (length-parse m (drop 8 t))

past_drop : (m : ℕ) (t : List ℕ) → past m t ≡ drop (8 * m) t
past_drop zero t = refl
past_drop (suc m) t =
    let e : 8 + 8 * m ≡ 8 * suc m = omega arith in
    past_drop m (drop 8 t) ∙ drop-drop (8 * m) 8 t ∙ ap (λ (n : ℕ). drop n t) e

eights_is : (m k : ℕ) → eights m k ≡ k + 8 * m
eights_is zero k = omega arith
eights_is (suc m) k = omega (arith, eights_is m k)

all-lines-fit : (m : ℕ) (t : List ℕ) → ((i : ℕ) → get_or t i 0 < 256) → All FitsLine (parse_lines m t)
all-lines-fit zero t b = tt
all-lines-fit (suc m) t b =
    ((b 0, omega (arith, b 2, b 3), b 4, omega (arith, b 6, b 7)), all-lines-fit m (drop 8 t) (λ i. subst (λ (x : ℕ). x < 256) (sym (get_or-drop 8 t i 0)) (b (8 + i))))

-- a commit block's bytes, with the first sixteen taken apart
commit_core : (m k y x₁ x₂ x₃ x₄ x₅ x₆ x₇ x₈ x₉ x₁₀ x₁₁ x₁₂ x₁₃ x₁₄ x₁₅ : ℕ) (t : List ℕ) (Q : Type 0)
    → x₂ < 256 → x₃ < 256 → x₄ < 256 → x₅ < 256 → x₈ < 256 → x₉ < 256 → x₁₀ < 256 → x₁₁ < 256
    → m ≡ x₂ + 256 * x₃ → y ≡ x₈ + 256 * (x₉ + 256 * (x₁₀ + 256 * x₁₁))
    → Says (same (pad_to k (lines_of (parse_lines m t))) (take k t)) Q
    → Says (eqb 3 3 && (eqb 0 x₁ && (eqb (length (parse_lines m t) % 256) x₂ && (eqb (length (parse_lines m t) / 256) x₃
    && (eqb ((x₄ + 256 * x₅) % 256) x₄ && (eqb ((x₄ + 256 * x₅) / 256) x₅ && (eqb x₆ x₆ && (eqb 0 x₇
    && (eqb (y % 256) x₈ && (eqb (y / 256 % 256) x₉ && (eqb (y / 256 / 256 % 256) x₁₀ && (eqb (y / 256 / 256 / 256) x₁₁
    && (eqb 0 x₁₂ && (eqb 0 x₁₃ && (eqb 0 x₁₄ && (eqb 0 x₁₅ && same (pad_to k (lines_of (parse_lines m t))) (take k t)))))))))))))))))
    ((x₁ ≡ 0) × (x₇ ≡ 0) × ((x₁₂ ≡ 0) × (x₁₃ ≡ 0) × (x₁₄ ≡ 0) × (x₁₅ ≡ 0)) × Q)
commit_core m k y x₁ x₂ x₃ x₄ x₅ x₆ x₇ x₈ x₉ x₁₀ x₁₁ x₁₂ x₁₃ x₁₄ x₁₅ t Q h₂ h₃ h₄ h₅ h₈ h₉ h₁₀ h₁₁ em ey w =
    let n = length (parse_lines m t) in
    let en : n ≡ x₂ + 256 * x₃ = length-parse m t ∙ em in
    let d = says-and (says_eq 0 x₁₂) (says-and (says_eq 0 x₁₃) (says-and (says_eq 0 x₁₄) (says-and (says_eq 0 x₁₅) w))) in
    let c = says-and (says_eq (y % 256) x₈) (says-and (says_eq (y / 256 % 256) x₉) (says-and (says_eq (y / 256 / 256 % 256) x₁₀) (says-and (says_eq (y / 256 / 256 / 256) x₁₁) d))) in
    let b = says-and (says_eq ((x₄ + 256 * x₅) % 256) x₄) (says-and (says_eq ((x₄ + 256 * x₅) / 256) x₅) (says-and (says_eq x₆ x₆) (says-and (says_eq 0 x₇) c))) in
    let s = says-and (says_eq 0 x₁) (says-and (says_eq (n % 256) x₂) (says-and (says_eq (n / 256) x₃) b)) in
    record {
      true_so = λ v. let p = s.true_so v in let q = p.1.1.1 in let r = q.1.1.1.1 in let z = r.1.1.1.1 in
          (sym p.0, sym q.1.1.1.0, (sym z.0, sym z.1.0, sym z.1.1.0, sym z.1.1.1.0), z.1.1.1.1);
      so_true = λ p. s.so_true (
        sym p.0,
        (
          omega arith,
          (
            omega arith,
            (
              omega arith,
              (
                omega arith,
                (
                  refl,
                  (
                    sym p.1,
                    (
                      omega arith,
                      (
                        omega arith,
                        (
                          omega arith,
                          (
                            omega arith,
                            (sym p.2.0, (sym p.2.1, (sym p.2.2, (sym p.2.3, p.3)))),
                          ),
                        ),
                      ),
                    ),
                  ),
                ),
              ),
            ),
          ),
        ),
      );
    }

commit-any : (m k y : ℕ) (l n : List ℕ) (Q : Type 0) → ((i : ℕ) → get_or l i 0 < 256) → m ≡ two_at l 2 → y ≡ four_at l 8
    → 3 ∷ get_or l 1 0 ∷ get_or l 2 0 ∷ get_or l 3 0 ∷ get_or l 4 0 ∷ get_or l 5 0 ∷ get_or l 6 0 ∷ get_or l 7 0
    ∷ get_or l 8 0 ∷ get_or l 9 0 ∷ get_or l 10 0 ∷ get_or l 11 0 ∷ get_or l 12 0 ∷ get_or l 13 0 ∷ get_or l 14 0 ∷ get_or l 15 0 ∷ drop 16 l ≡ n
    → Says (same (pad_to k (lines_of (parse_lines m (drop 16 l)))) (take k (drop 16 l))) Q
    → Says (same (pad_to (up 16 k) (fields_of (commit (two_at l 4) (get_or l 6 0) y (parse_lines m (drop 16 l))))) (take (up 16 k) n))
    ((get_or l 1 0 ≡ 0) × (get_or l 7 0 ≡ 0) × ((get_or l 12 0 ≡ 0) × (get_or l 13 0 ≡ 0) × (get_or l 14 0 ≡ 0) × (get_or l 15 0 ≡ 0)) × Q)
commit-any m k y l n Q b em ey q w =
    subst (λ (z : List ℕ). Says (same (pad_to (up 16 k) (fields_of (commit (two_at l 4) (get_or l 6 0) y (parse_lines m (drop 16 l))))) (take (up 16 k) z))
    ((get_or l 1 0 ≡ 0) × (get_or l 7 0 ≡ 0) × ((get_or l 12 0 ≡ 0) × (get_or l 13 0 ≡ 0) × (get_or l 14 0 ≡ 0) × (get_or l 15 0 ≡ 0)) × Q)) q
    (commit_core m k y (get_or l 1 0) (get_or l 2 0) (get_or l 3 0) (get_or l 4 0) (get_or l 5 0) (get_or l 6 0) (get_or l 7 0) (get_or l 8 0) (get_or l 9 0) (get_or l 10 0) (get_or l 11 0)
    (get_or l 12 0) (get_or l 13 0) (get_or l 14 0) (get_or l 15 0) (drop 16 l) Q (b 2) (b 3) (b 4) (b 5) (b 8) (b 9) (b 10) (b 11) em ey w)

-- zeros past m changes, in the two ways to say it
says_past : (m k : ℕ) (l : List ℕ) → 16 + (k + 8 * m) ≤ length l
    → Says (same (pad_to k []) (take k (past m (drop 16 l)))) ((i : ℕ) → 16 + 8 * m ≤ i → i < 16 + 8 * m + k → get_or l i 0 ≡ 0)
says_past m k l h =
    let e : past m (drop 16 l) ≡ drop (16 + 8 * m) l = past_drop m (drop 16 l) ∙ drop-drop (8 * m) 16 l in
    let s = says-padded k [] (past m (drop 16 l)) (rw e (simp length-drop (omega arith))) in
    record {
      true_so = λ t i a b. let j : (x : ℕ) × (16 + 8 * m + x ≡ i) = (i - (16 + 8 * m), omega arith) in
          subst (λ (x : ℕ). get_or l x 0 ≡ 0) j.1
          (sym (get_or-drop (16 + 8 * m) l j.0 0) ∙ ap (λ (x : List ℕ). get_or x j.0 0) (sym e) ∙ sym (s.true_so t j.0 (omega (arith, j.1))) ∙ none j.0);
      so_true = λ f. s.so_true (λ i b. none i ∙ sym (ap (λ (x : List ℕ). get_or x i 0) e ∙ get_or-drop (16 + 8 * m) l i 0 ∙ f (16 + 8 * m + i) (omega arith) (omega arith)));
    }
  where
    none : (i : ℕ) → ◌≡◌ {A = ℕ} (get_or [] i 0) 0
    none i = refl

-- of each number below n, the greatest first
abbrev Each : (ℕ → Type 0) → ℕ → Type 0
Each P zero = Unit {0}
Each P (suc n) = P n × Each P n

each : (P : ℕ → Type 0) (n : ℕ) → Each P n → (i : ℕ) → i < n → P i
each P zero p i h = absurd (omega arith)
each P (suc n) p i h =
    elim (eq_or i n) [
      | inl e ↦ subst P (sym e) p.0
      | inr o ↦ each P n p.1 i (omega arith)
    ]

module _ (l : List ℕ) (size : length l ≡ 512) where
  label-tests : get_or l 0 0 ≡ 1 → shaped fields_of parse fits_block l ≡ (eqb (get_or l 1 0) 1 && zeros l 2 508)
  unfolding shaped parse padded
  label-tests kind =
      let s = says-padded 508 (1 ∷ 1 ∷ []) l (omega arith) in
      rw kind
      (says_alike s (says-and (says_eq (get_or l 1 0) 1) (says-zeros l 2 508 (omega arith) (omega arith)))
      (λ e. (sym (e 1 (omega arith)), λ i a b. rest e i a (omega arith)))
      (λ p. back p.0 p.1))
    where
      rest : ((i : ℕ) → i < 508 → get_or (1 ∷ 1 ∷ []) i 0 ≡ get_or l i 0) → (i : ℕ) → 2 ≤ i → i < 508 → get_or l i 0 ≡ 0
      rest e zero a b = absurd (omega arith)
      rest e (suc zero) a b = absurd (omega arith)
      rest e (suc (suc i)) a b = sym (e (suc (suc i)) b)

      back : get_or l 1 0 ≡ 1 → ((i : ℕ) → 2 ≤ i → i < 508 → get_or l i 0 ≡ 0) → (i : ℕ) → i < 508 → get_or (1 ∷ 1 ∷ []) i 0 ≡ get_or l i 0
      back o z zero b = sym kind
      back o z (suc zero) b = sym o
      back o z (suc (suc i)) b = sym (z (suc (suc i)) (omega arith) (omega arith))

  blank-tests : (get_or l 0 0 ≡ 1 → ⊥) → (get_or l 0 0 ≡ 2 → ⊥) → (get_or l 0 0 ≡ 3 → ⊥) → (get_or l 0 0 ≡ 6 → ⊥)
      → shaped fields_of parse fits_block l ≡ zeros l 0 508
  unfolding shaped parse padded
  blank-tests n₁ n₂ n₃ n₆ =
      let s = says-padded 508 (0 ∷ []) l (omega arith) in
      rw (ne_eqb (get_or l 0 0) 1 n₁, ne_eqb (get_or l 0 0) 2 n₂, ne_eqb (get_or l 0 0) 3 n₃, ne_eqb (get_or l 0 0) 6 n₆)
      (says_alike s (says-zeros l 0 508 (omega arith) (omega arith)) (λ e i a b. sym (e i (omega arith)) ∙ nought i) (λ z i b. nought i ∙ sym (z i (omega arith) (omega arith))))
    where
      nought : (i : ℕ) → ◌≡◌ {A = ℕ} (get_or (0 ∷ []) i 0) 0
      nought zero = refl
      nought (suc i) = refl

  -- no block has another first byte above 3
  none-tests : 3 < get_or l 0 0 → (get_or l 0 0 ≡ 6 → ⊥) → shaped fields_of parse fits_block l ≡ false
  none-tests h n₆ =
      blank-tests (λ e. omega arith) (λ e. omega arith) (λ e. omega arith) n₆
      ∙ says_false (says-zeros l 0 508 (omega arith) (omega arith)) (λ z. omega (arith, z 0 (omega arith) (omega arith)))

  module _ (bytes : (i : ℕ) → get_or l i 0 < 256) (kind : get_or l 0 0 ≡ 6) where
    abbrev release : Block
    release = mark (released (two_at l 4) (get_or l 6 0) (four_at l 8))

    release_fits : T (fits_block release)
    release_fits =
        (block_coded.says release).so_true (omega (arith, bytes 4, bytes 5), bytes 6, omega (arith, bytes 8, bytes 9, bytes 10, bytes 11))

    -- the bytes as they must be
    says_release : Says (same (padded (fields_of release)) (take 508 l))
        (((i : ℕ) → 1 ≤ i → i < 4 → get_or l i 0 ≡ 0) × (get_or l 7 0 ≡ 0) × ((i : ℕ) → 12 ≤ i → i < 508 → get_or l i 0 ≡ 0))
    unfolding padded
    says_release =
        let s = says-padded 508 (fields_of release) l (omega arith) in
        record {
          true_so = λ t. let e = s.true_so t in
              ((λ i a b. sym (e i (omega arith)) ∙ early i b a), sym (e 7 (omega arith)), (λ i a b. sym (e i (omega arith)) ∙ late i a));
          so_true = λ p. s.so_true (back p.0 p.1 p.2);
        }
      where
        early : (i : ℕ) → i < 4 → 1 ≤ i → get_or (fields_of release) i 0 ≡ 0
        early = each (λ (i : ℕ). 1 ≤ i → get_or (fields_of release) i 0 ≡ 0) 4 ((λ a. refl), ((λ a. refl), ((λ a. refl), ((λ a. absurd (omega arith)), tt))))

        late : (i : ℕ) → 12 ≤ i → get_or (fields_of release) i 0 ≡ 0
        late i a = get_or-eq_default (fields_of release) 0 {n = i} a

        back : ((i : ℕ) → 1 ≤ i → i < 4 → get_or l i 0 ≡ 0) → get_or l 7 0 ≡ 0 → ((i : ℕ) → 12 ≤ i → i < 508 → get_or l i 0 ≡ 0)
            → (i : ℕ) → i < 508 → get_or (fields_of release) i 0 ≡ get_or l i 0
        back z e w i b =
            elim (dec_le 12 i) [
              | yes a ↦ late i a ∙ sym (w i a (omega arith))
              | no n ↦ each (λ (j : ℕ). get_or (fields_of release) j 0 ≡ get_or l j 0) 12 (
                omega (arith, bytes 8, bytes 9, bytes 10),
                (
                  omega (arith, bytes 8, bytes 9, bytes 10),
                  (
                    omega (arith, bytes 8, bytes 9),
                    (
                      omega (arith, bytes 8),
                      (
                        sym e,
                        (
                          refl,
                          (
                            omega (arith, bytes 4),
                            (
                              omega (arith, bytes 4),
                              (sym (z 3 (omega arith) (omega arith)), (sym (z 2 (omega arith) (omega arith)), (sym (z 1 (omega arith) (omega arith)), (sym kind, tt)))),
                            ),
                          ),
                        ),
                      ),
                    ),
                  ),
                ),
              )
                  i (omega arith)
            ]

    release-tests : shaped fields_of parse fits_block l ≡ (zeros l 1 4 && (eqb (get_or l 7 0) 0 && zeros l 12 508))
    unfolding shaped parse
    release-tests =
        let r = says-and (says-zeros l 1 4 (omega arith) (omega arith)) (says-and (says_eq (get_or l 7 0) 0) (says-zeros l 12 508 (omega arith) (omega arith))) in
        rw kind
        (bool_alike (fits_block release && same (padded (fields_of release)) (take 508 l)) _
        (λ t. let p = says_release.true_so (and_true (fits_block release) (same (padded (fields_of release)) (take 508 l)) t).1 in r.so_true (p.0, (p.1, p.2)))
        (λ t. let q = r.true_so t in true_and (fits_block release) (same (padded (fields_of release)) (take 508 l)) release_fits (says_release.so_true (q.0, q.1.0, q.1.1))))

  module _ (bytes : (i : ℕ) → get_or l i 0 < 256) (kind : get_or l 0 0 ≡ 3) where
    few-fit : two_at l 2 ≤ 32 → T (fits_block (commit (two_at l 4) (get_or l 6 0) (four_at l 8) (parse_lines (two_at l 2) (drop 16 l))))
    few-fit h =
        (block_coded.says (commit (two_at l 4) (get_or l 6 0) (four_at l 8) (parse_lines (two_at l 2) (drop 16 l)))).so_true (
          omega (arith, bytes 4, bytes 5),
          bytes 6,
          omega (arith, bytes 8, bytes 9, bytes 10, bytes 11),
          (
            omega (arith, length-parse (two_at l 2) (drop 16 l)),
            all-lines-fit (two_at l 2) (drop 16 l) (λ i. subst (λ (x : ℕ). x < 256) (sym (get_or-drop 16 l i 0)) (bytes (16 + i))),
          ),
        )

    fit-few : T (fits_block (commit (two_at l 4) (get_or l 6 0) (four_at l 8) (parse_lines (two_at l 2) (drop 16 l)))) → two_at l 2 ≤ 32
    fit-few t =
        let f = (block_coded.says (commit (two_at l 4) (get_or l 6 0) (four_at l 8) (parse_lines (two_at l 2) (drop 16 l)))).true_so t in
        omega (arith, f.3.0, length-parse (two_at l 2) (drop 16 l))

    whole : 3 ∷ get_or l 1 0 ∷ get_or l 2 0 ∷ get_or l 3 0 ∷ get_or l 4 0 ∷ get_or l 5 0 ∷ get_or l 6 0 ∷ get_or l 7 0
        ∷ get_or l 8 0 ∷ get_or l 9 0 ∷ get_or l 10 0 ∷ get_or l 11 0 ∷ get_or l 12 0 ∷ get_or l 13 0 ∷ get_or l 14 0 ∷ get_or l 15 0 ∷ drop 16 l ≡ l
    whole = cc (first_sixteen l (omega arith), kind)

    -- the bytes as they must be, where there are at most 32 changes
    says-commit : two_at l 2 ≤ 32
        → Says (same (padded (fields_of (commit (two_at l 4) (get_or l 6 0) (four_at l 8) (parse_lines (two_at l 2) (drop 16 l))))) (take 508 l))
        ((get_or l 1 0 ≡ 0) × (get_or l 7 0 ≡ 0) × ((get_or l 12 0 ≡ 0) × (get_or l 13 0 ≡ 0) × (get_or l 14 0 ≡ 0) × (get_or l 15 0 ≡ 0))
        × (LinesOk (two_at l 2) (drop 16 l) × ((i : ℕ) → 16 + 8 * two_at l 2 ≤ i → i < 16 + 8 * two_at l 2 + (492 - 8 * two_at l 2) → get_or l i 0 ≡ 0)))
    unfolding padded
    says-commit h =
        let m = two_at l 2 in
        let k : ℕ = 492 - 8 * m in
        let Z : Type 0 = (i : ℕ) → 16 + 8 * m ≤ i → i < 16 + 8 * m + k → get_or l i 0 ≡ 0 in
        let e : eights m k ≡ 492 = eights_is m k ∙ omega arith in
        let w = says-lines m k (drop 16 l) Z (rw e (simp length-drop (omega arith))) (λ i. subst (λ (x : ℕ). x < 256) (sym (get_or-drop 16 l i 0)) (bytes (16 + i)))
        (says_past m k l (omega arith)) in
        commit-any m 492 (four_at l 8) l l (LinesOk m (drop 16 l) × Z) bytes refl refl whole
        (subst (λ (n : ℕ). Says (same (pad_to n (lines_of (parse_lines m (drop 16 l)))) (take n (drop 16 l))) (LinesOk m (drop 16 l) × Z)) e w)

    commit-tests : shaped fields_of parse fits_block l
        ≡ (eqb (get_or l 1 0) 0 && (leb (two_at l 2) 32 && (eqb (get_or l 7 0) 0 && (zeros l 12 16
        && (lines_ok (two_at l 2) (drop 16 l) && zeros l (16 + 8 * two_at l 2) 508)))))
    unfolding shaped parse
    commit-tests =
        let C = commit (two_at l 4) (get_or l 6 0) (four_at l 8) (parse_lines (two_at l 2) (drop 16 l)) in
        let m = two_at l 2 in
        elim (dec_le m 32) [
          | no n ↦
              rw (kind, lt-leb m 32 (omega arith))
              (bool_alike (fits_block C && same (padded (fields_of C)) (take 508 l)) (eqb (get_or l 1 0) 0 && false)
              (λ t. absurd (n (fit-few (and_true (fits_block C) (same (padded (fields_of C)) (take 508 l)) t).0)))
              (λ t. absurd (and_true (eqb (get_or l 1 0) 0) false t).1))
          | yes h ↦ (
              let r = says-and (says_eq (get_or l 1 0) 0) (says-and (says-le m 32) (says-and (says_eq (get_or l 7 0) 0) (says-and (says-zeros l 12 16 (omega arith) (omega arith))
              (says-and (says-lines_ok m (drop 16 l)) (says-zeros l (16 + 8 * m) 508 (omega arith) (omega arith)))))) in
              rw kind
              (bool_alike (fits_block C && same (padded (fields_of C)) (take 508 l)) _
              (λ t. let q = (says-commit h).true_so (and_true (fits_block C) (same (padded (fields_of C)) (take 508 l)) t).1 in
              r.so_true (q.0, (h, (q.1, ((λ i a b. four i a b q.2), (q.3.0, λ i a b. q.3.1 i a (omega arith)))))))
              (λ t. let q = r.true_so t in let z = q.1.1.1.0 in
              true_and (fits_block C) (same (padded (fields_of C)) (take 508 l)) (few-fit h)
              ((says-commit h).so_true (
                q.0,
                q.1.1.0,
                (z 12 (omega arith) (omega arith), z 13 (omega arith) (omega arith), z 14 (omega arith) (omega arith), z 15 (omega arith) (omega arith)),
                (q.1.1.1.1.0, λ i a b. q.1.1.1.1.1 i a (omega arith)),
              )))))
        ]
      where
        four : (i : ℕ) → 12 ≤ i → i < 16 → (get_or l 12 0 ≡ 0) × (get_or l 13 0 ≡ 0) × (get_or l 14 0 ≡ 0) × (get_or l 15 0 ≡ 0) → get_or l i 0 ≡ 0
        four i a b p =
            elim (eq_or i 12) [
              | inl e ↦ rw e p.0
              | inr n ↦ elim (eq_or i 13) [
                | inl e ↦ rw e p.1
                | inr o ↦ elim (eq_or i 14) [
                  | inl e ↦ rw e p.2
                  | inr q ↦ (let e : i ≡ 15 = omega arith in rw e p.3)
                ]
              ]
            ]

-- ---- the same for a slice of the code, whose bytes fit: what the code asks of a block with this first byte
module _ (l : List ℕ) (fit : (i : ℕ) → Fits w8 (get_or l i 0)) (size : length l ≡ 512) where
  bytes : (i : ℕ) → get_or l i 0 < 256
  bytes i = omega (arith, fit i)

  pub label_shaped : get_or l 0 0 ≡ 1 → shaped fields_of parse fits_block l ≡ (eqb (get_or l 1 0) 1 && zeros l 2 508)
  label_shaped kind = label-tests l size kind

  pub content_shaped : get_or l 0 0 ≡ 2
      → shaped fields_of parse fits_block l ≡ (eqb (get_or l 1 0) 0 && (leb (two_at l 2) 480 && (zeros l 6 16 && zeros l (16 + two_at l 2) 508)))
  content_shaped kind =
      let s = says-content l size bytes kind in
      elim (dec_le (two_at l 2) 480) [
        | no n ↦ says_false s (λ p. n p.size) ∙ rw (lt-leb (two_at l 2) 480 (omega arith)) (sym (and-false (eqb (get_or l 1 0) 0)))
        | yes h ↦
            says_alike s
            (says-and (says_eq (get_or l 1 0) 0) (says-and (says-le (two_at l 2) 480)
            (says-and (says-zeros l 6 16 (omega arith) (omega arith)) (says-zeros l (16 + two_at l 2) 508 (omega arith) (omega arith)))))
            (λ p. (p.one, (h, (p.gap, p.rest))))
            (λ q. record { one = q.0; size = h; gap = q.1.1.0; rest = q.1.1.1 })
      ]

  pub commit_shaped : get_or l 0 0 ≡ 3 → shaped fields_of parse fits_block l
      ≡ (eqb (get_or l 1 0) 0 && (leb (two_at l 2) 32 && (eqb (get_or l 7 0) 0 && (zeros l 12 16
      && (lines_ok (two_at l 2) (drop 16 l) && zeros l (16 + 8 * two_at l 2) 508)))))
  commit_shaped kind = commit-tests l size bytes kind

  pub release_shaped : get_or l 0 0 ≡ 6 → shaped fields_of parse fits_block l ≡ (zeros l 1 4 && (eqb (get_or l 7 0) 0 && zeros l 12 508))
  release_shaped kind = release-tests l size bytes kind

  -- no block has another first byte above 3
  pub none_shaped : 3 < get_or l 0 0 → (get_or l 0 0 ≡ 6 → ⊥) → shaped fields_of parse fits_block l ≡ false
  none_shaped h n = none-tests l size h n

  pub blank_shaped : get_or l 0 0 ≤ 3 → (get_or l 0 0 ≡ 1 → ⊥) → (get_or l 0 0 ≡ 2 → ⊥) → (get_or l 0 0 ≡ 3 → ⊥)
      → shaped fields_of parse fits_block l ≡ is_zero (take 508 l)
  blank_shaped h n₁ n₂ n₃ = blank-tests l size n₁ n₂ n₃ (λ e. omega arith)

pub ruleset label_law = (label_shaped, nat_tests)

pub ruleset content_law = (content_shaped, nat_tests)

pub ruleset commit_law = (commit_shaped, nat_tests)

pub ruleset release_law = (release_shaped, nat_tests)

pub ruleset other_laws = (none_shaped, blank_shaped, nat_tests)
