-- What the test for zeros says of a part of a block.
-- Assumes nothing.
use Prim.Native.Nat.{◌+◌, ◌-◌, ◌<◌, ◌≤◌, suc, zero, ℕ}
use mathlib.Core.List.{List, [], ◌∷◌}
use mathlib.Core.Path.{◌∙◌, ◌≡◌, subst, sym}
use native.Mathlib.Omega.{arith}
use lib.ListN.{drop, get_or, length, length-drop, take}
use lib.Seq.{get_or-drop}
use Rattle.block.proofs.Says.{Says, says-and, says_eq}
use Rattle.block.specs.Check.{is_zero}

says_first : (n : ℕ) (l : List ℕ) → n ≤ length l → Says (is_zero (take n l)) ((i : ℕ) → i < n → get_or l i 0 ≡ 0)
says_first zero l h = record { true_so = λ t i b. absurd (omega arith); so_true = λ f. tt }
says_first (suc n) [] h = absurd (omega arith)
says_first (suc n) (x ∷ l) h =
    let s = says-and (says_eq x 0) (says_first n l (omega arith)) in
    record {
      true_so = λ t. from (s.true_so t);
      so_true = λ f. s.so_true (f 0 (omega arith), λ i b. f (suc i) (omega arith));
    }
  where
    from : (x ≡ 0) × ((i : ℕ) → i < n → get_or l i 0 ≡ 0) → (i : ℕ) → i < suc n → get_or (x ∷ l) i 0 ≡ 0
    from p zero b = p.0
    from p (suc i) b = p.1 i (omega arith)

-- the bytes from a up to b are zeros
pub says-zeros : (l : List ℕ) (a b : ℕ) → a ≤ b → b ≤ length l → Says (is_zero (take (b - a) (drop a l))) ((i : ℕ) → a ≤ i → i < b → get_or l i 0 ≡ 0)
says-zeros l a b h g =
    let s = says_first (b - a) (drop a l) (simp length-drop (omega arith)) in
    record {
      true_so = λ t i p q. let j : (k : ℕ) × (a + k ≡ i) = (i - a, omega arith) in
          subst (λ (x : ℕ). get_or l x 0 ≡ 0) j.1 (sym (get_or-drop a l j.0 0) ∙ s.true_so t j.0 (omega (arith, j.1)));
      so_true = λ f. s.so_true (λ i q. get_or-drop a l i 0 ∙ f (a + i) (omega arith) (omega arith));
    }
