-- The laws of printing: one text after the other, the text of a row, and of a day.
-- Assumes nothing.
use Prim.Native.Nat.{◌+◌, ◌≤◌, ℕ}
use mathlib.Core.List.{List, [], ◌++◌, ◌∷◌, append_assoc, append-nil, map}
use mathlib.Core.Path.{◌∙◌, ◌≡◌, ap, refl, subst, sym}
use native.Mathlib.Omega.{arith}
use lib.ListN.{length, length-append, set, take}
use Rattle.block.proofs.Writing.{written_both, written_none, written_one}
use Rattle.block.specs.Write.{written}
use Rattle.rehearsal.specs.Output.{reports_in, row_text, rows_text}
use Rattle.rehearsal.specs.Printed.{Printed}
use Rattle.rehearsal.specs.Rehearsal.{Row, report_of}
use Rattle.rehearsal.specs.RehearsalCalls.{tally_of}
use Rattle.rehearsal.specs.declared.Tally.{Tally}
use Rattle.text.proofs.Laws.{taken}
use Rattle.text.specs.Text.{decimal_of}

-- a text, and a byte behind it
pub printed_byte : (at : ℕ) (t o o₁ o₂ : List ℕ) (k x : ℕ) → k ≡ length t → o₁ ≡ written at t o → o₂ ≡ set o₁ (at + k) x → Printed at (t ++ (x ∷ [])) o (at + k + 1) o₂
printed_byte at t o o₁ o₂ k x e f g = record {
  ends = omega (arith, e, length-append t (x ∷ []));
  is =
      g ∙ ap (λ (j : ℕ). set o₁ (at + j) x) e ∙ ap (λ (l : List ℕ). set l (at + length t) x) f
      ∙ sym (written_one (at + length t) x [] (written at t o) ∙ written_none (at + length t + 1) (set (written at t o) (at + length t) x))
      ∙ sym (written_both at t (x ∷ []) o);
}

-- two texts
pub printed_both : (at p r : ℕ) (x y o o₁ o₂ : List ℕ) → Printed at x o p o₁ → Printed p y o₁ r o₂ → Printed at (x ++ y) o r o₂
printed_both at p r x y o o₁ o₂ P Q = record {
  ends = (let e = P.ends in let f = Q.ends in omega (arith, e, f, length-append x y));
  is =
      Q.is ∙ ap (λ (n : ℕ). written n y o₁) P.ends ∙ ap (written (at + length x) y) P.is ∙ sym (written_both at x y o);
}

-- the three numbers of a row
pub row_is : (c a l : ℕ) → (decimal_of c ++ (32 ∷ [])) ++ ((decimal_of a ++ (32 ∷ [])) ++ (decimal_of l ++ (10 ∷ []))) ≡ row_text (record { commits = c; asks = a; longest = l })
row_is c a l =
    append_assoc (decimal_of c) (32 ∷ []) ((decimal_of a ++ (32 ∷ [])) ++ (decimal_of l ++ (10 ∷ [])))
    ∙ ap (λ (t : List ℕ). decimal_of c ++ (32 ∷ t)) (append_assoc (decimal_of a) (32 ∷ []) (decimal_of l ++ (10 ∷ [])))

-- four texts
pub printed_four : (p q e r : ℕ) (a b c d o o₁ o₂ o₃ o₄ : List ℕ) → Printed 0 a o p o₁ → Printed p b o₁ q o₂ → Printed q c o₂ e o₃ → Printed e d o₃ r o₄
    → Printed 0 (a ++ (b ++ (c ++ (d ++ [])))) o r o₄
printed_four p q e r a b c d o o₁ o₂ o₃ o₄ A B C D =
    subst (λ (t : List ℕ). Printed 0 (a ++ (b ++ (c ++ t))) o r o₄) (sym (append-nil d))
    (printed_both 0 p r a (b ++ (c ++ d)) o o₁ o₄ A (printed_both p q r b (c ++ d) o₁ o₂ o₄ B (printed_both q e r c d o₂ o₃ o₄ C D)))

-- the same text under another name
pub printed_as : (t t' o o' : List ℕ) (r : ℕ) → t ≡ t' → Printed 0 t o r o' → Printed 0 t' o r o'
printed_as t t' o o' r e P = subst (λ (x : List ℕ). Printed 0 x o r o') e P

-- the tallies of a day print as its reports
pub day_text : (rows : List Row) (l : List Tally) → length rows ≡ 4 → l ≡ map tally_of rows → rows_text (reports_in l) ≡ rows_text (map report_of rows)
day_text rows l n e = ap (λ (x : List Tally). rows_text (reports_in x)) e ∙ ap rows_text (go rows n)
  where
    go : (rows : List Row) → length rows ≡ 4 → reports_in (map tally_of rows) ≡ map report_of rows
    go [] e = absurd (omega (arith, e))
    go (a ∷ []) e = absurd (omega (arith, e))
    go (a ∷ b ∷ []) e = absurd (omega (arith, e))
    go (a ∷ b ∷ c ∷ []) e = absurd (omega (arith, e))
    go (a ∷ b ∷ c ∷ d ∷ []) e = refl
    go (a ∷ b ∷ c ∷ d ∷ x ∷ l) e = absurd (omega (arith, e))

-- a buffer of 132 bytes has the whole text
pub printed_whole : (x o o' : List ℕ) (r : ℕ) → Printed 0 x o r o' → r ≤ 132 → 132 ≤ length o → take r o' ≡ x
printed_whole x o o' r P le room =
    let m = P.ends in
    let n : r ≡ length x = omega (arith, m) in
    ap (λ (k : ℕ). take k o') n ∙ ap (take (length x)) P.is ∙ taken x o (omega (arith, n, le, room))
