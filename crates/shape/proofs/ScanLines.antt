-- What a scan of a commit block's changes has to look at: each action is 1 to 4, each byte 5 is zero, and zeros follow.
-- Assumes nothing.
use Prim.Native.Nat.{◌%◌, ◌*◌, ◌+◌, ◌/◌, ◌<◌, ◌≤◌, suc, zero, ℕ}
use mathlib.Core.Bool.{◌&&◌}
use mathlib.Core.List.{List, [], ◌∷◌}
use mathlib.Core.Path.{◌∙◌, ◌≡◌, ap, refl, subst, sym}
use native.Mathlib.Omega.{arith}
use lib.Dec.{eqb}
use lib.ListN.{drop, get_or, length, length-drop, take}
use lib.Seq.{drop-cons, get_or-drop}
use Rattle.block.proofs.Says.{Says, says-and, says_eq}
use Rattle.block.specs.Lists.{same}
use Rattle.model.specs.Blocks.{Action, action_of, adds, changes, code_of, copies, deletes, lines_of, parse_lines}
use Rattle.model.specs.Codec.{pad_to}
use Rattle.laws.proofs.BlockCodes.{code_back}

code_range : (a : Action) → (1 ≤ code_of a) × (code_of a ≤ 4)
code_range adds = omega arith
code_range changes = omega arith
code_range deletes = omega arith
code_range copies = omega arith

says-action : (y : ℕ) → Says (eqb (code_of (action_of y)) y) ((1 ≤ y) × (y ≤ 4))
says-action y =
    let s = says_eq (code_of (action_of y)) y in
    record {
      true_so = λ t. subst (λ (x : ℕ). (1 ≤ x) × (x ≤ 4)) (s.true_so t) (code_range (action_of y));
      so_true = λ p. s.so_true (code_back y p.0 p.1);
    }

-- eight more for each of m
abbrev pub eights : ℕ → ℕ → ℕ
eights zero k = k
eights (suc m) k = suc (suc (suc (suc (suc (suc (suc (suc (eights m k))))))))

abbrev pub LinesOk : ℕ → List ℕ → Type 0
LinesOk zero t = Unit {0}
LinesOk (suc m) t = ((1 ≤ get_or t 1 0) × (get_or t 1 0 ≤ 4)) × (get_or t 5 0 ≡ 0) × LinesOk m (drop 8 t)

-- m lines off
abbrev pub past : ℕ → List ℕ → List ℕ
past zero t = t
past (suc m) t = past m (drop 8 t)

first_eight : (t : List ℕ) → 8 ≤ length t
    → t ≡ get_or t 0 0 ∷ get_or t 1 0 ∷ get_or t 2 0 ∷ get_or t 3 0 ∷ get_or t 4 0 ∷ get_or t 5 0 ∷ get_or t 6 0 ∷ get_or t 7 0 ∷ drop 8 t
first_eight t h =
    drop-cons t 0 0 (omega arith)
    ∙ ap (λ x. get_or t 0 0 ∷ x) (drop-cons t 1 0 (omega arith)
    ∙ ap (λ x. get_or t 1 0 ∷ x) (drop-cons t 2 0 (omega arith)
    ∙ ap (λ x. get_or t 2 0 ∷ x) (drop-cons t 3 0 (omega arith)
    ∙ ap (λ x. get_or t 3 0 ∷ x) (drop-cons t 4 0 (omega arith)
    ∙ ap (λ x. get_or t 4 0 ∷ x) (drop-cons t 5 0 (omega arith)
    ∙ ap (λ x. get_or t 5 0 ∷ x) (drop-cons t 6 0 (omega arith)
    ∙ ap (λ x. get_or t 6 0 ∷ x) (drop-cons t 7 0 (omega arith))))))))

-- one line taken apart
line_core : (n x₀ x₁ x₂ x₃ x₄ x₅ x₆ x₇ : ℕ) (f t : List ℕ) (Q : Type 0) → x₂ < 256 → x₃ < 256 → x₆ < 256 → x₇ < 256
    → Says (same (pad_to n f) (take n t)) Q
    → Says (eqb x₀ x₀ && (eqb (code_of (action_of x₁)) x₁ && (eqb ((x₂ + 256 * x₃) % 256) x₂ && (eqb ((x₂ + 256 * x₃) / 256) x₃
    && (eqb x₄ x₄ && (eqb 0 x₅ && (eqb ((x₆ + 256 * x₇) % 256) x₆ && (eqb ((x₆ + 256 * x₇) / 256) x₇ && same (pad_to n f) (take n t)))))))))
    (((1 ≤ x₁) × (x₁ ≤ 4)) × (x₅ ≡ 0) × Q)
line_core n x₀ x₁ x₂ x₃ x₄ x₅ x₆ x₇ f t Q h₂ h₃ h₆ h₇ w =
    let s = says-and (says_eq x₀ x₀) (says-and (says-action x₁) (says-and (says_eq ((x₂ + 256 * x₃) % 256) x₂) (says-and (says_eq ((x₂ + 256 * x₃) / 256) x₃)
    (says-and (says_eq x₄ x₄) (says-and (says_eq 0 x₅) (says-and (says_eq ((x₆ + 256 * x₇) % 256) x₆) (says-and (says_eq ((x₆ + 256 * x₇) / 256) x₇) w))))))) in
    record {
      true_so = λ t. let p = s.true_so t in (p.1.0, sym p.1.1.1.1.1.0, p.1.1.1.1.1.1.1.1);
      so_true = λ p. s.so_true (refl, (p.0, (omega arith, (omega arith, (refl, (sym p.1, (omega arith, (omega arith, p.2))))))));
    }

-- the bytes of what would be m lines are the bytes that are there exactly where each action and each byte 5 is right, and what follows is right
pub says-lines : (m k : ℕ) (t : List ℕ) (Q : Type 0) → eights m k ≤ length t → ((i : ℕ) → get_or t i 0 < 256)
    → Says (same (pad_to k []) (take k (past m t))) Q
    → Says (same (pad_to (eights m k) (lines_of (parse_lines m t))) (take (eights m k) t)) (LinesOk m t × Q)
says-lines zero k t Q h b w = record { true_so = λ u. (tt, w.true_so u); so_true = λ p. w.so_true p.1 }
says-lines (suc m) k t Q h b w =
    let ih = says-lines m k (drop 8 t) Q (simp length-drop (omega arith)) (λ i. subst (λ (x : ℕ). x < 256) (sym (get_or-drop 8 t i 0)) (b (8 + i))) w in
    let core = line_core (eights m k) (get_or t 0 0) (get_or t 1 0) (get_or t 2 0) (get_or t 3 0) (get_or t 4 0) (get_or t 5 0) (get_or t 6 0) (get_or t 7 0)
    (lines_of (parse_lines m (drop 8 t))) (drop 8 t) (LinesOk m (drop 8 t) × Q) (b 2) (b 3) (b 6) (b 7) ih in
    let whole : Says (same (pad_to (eights (suc m) k) (lines_of (parse_lines (suc m) t))) (take (eights (suc m) k) t))
    (((1 ≤ get_or t 1 0) × (get_or t 1 0 ≤ 4)) × (get_or t 5 0 ≡ 0) × (LinesOk m (drop 8 t) × Q)) =
    subst (λ (z : List ℕ). Says (same (pad_to (eights (suc m) k) (lines_of (parse_lines (suc m) t))) (take (eights (suc m) k) z))
    (((1 ≤ get_or t 1 0) × (get_or t 1 0 ≤ 4)) × (get_or t 5 0 ≡ 0) × (LinesOk m (drop 8 t) × Q)))
    (sym (first_eight t (omega arith))) core in
    record {
      true_so = λ u. let p = whole.true_so u in ((p.0, p.1, p.2.0), p.2.1);
      so_true = λ p. whole.so_true (p.0.0, p.0.1, (p.0.2, p.1));
    }
