-- Texts written one after the other.
-- Assumes nothing.
use Prim.Native.Nat.{◌+◌, ℕ}
use mathlib.Core.List.{List, [], ◌++◌, ◌∷◌}
use mathlib.Core.Path.{◌∙◌, ◌≡◌, ap, sym}
use lib.ListN.{length, set}
use Rattle.block.proofs.Writing.{written_both, written_none, written_one}
use Rattle.block.specs.Write.{written}

-- a word, a text, and one byte
pub said : (w t o₀ o₁ o₂ o₃ : List ℕ) (x at p : ℕ) → p ≡ at + length w → o₁ ≡ written at w o₀ → o₂ ≡ written p t o₁ → o₃ ≡ set o₂ (p + length t) x
    → o₃ ≡ written at (w ++ (t ++ (x ∷ []))) o₀
said w t o₀ o₁ o₂ o₃ x at p e f g h =
    let last : written (p + length t) (x ∷ []) o₂ ≡ set o₂ (p + length t) x = written_one (p + length t) x [] o₂ ∙ written_none (p + length t + 1) (set o₂ (p + length t) x) in
    h ∙ sym last ∙ ap (written (p + length t) (x ∷ [])) g ∙ sym (written_both p t (x ∷ []) o₁) ∙ ap (written p (t ++ (x ∷ []))) f
    ∙ ap (λ (k : ℕ). written k (t ++ (x ∷ [])) (written at w o₀)) e ∙ sym (written_both at w (t ++ (x ∷ [])) o₀)
