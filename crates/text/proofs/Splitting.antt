-- A text taken apart at its first newline or its first space, and the rest of it.
-- Assumes nothing.
use Prim.Native.Nat.{◌+◌, ◌-◌, ◌<◌, ◌≤◌, suc, ℕ}
use mathlib.Core.Bool.{Bool, false, true}
use mathlib.Core.List.{List, [], ◌∷◌}
use mathlib.Core.Path.{◌≡◌, refl}
use native.Mathlib.Numerals.{towards_suc}
use native.Mathlib.Omega.{arith}
use lib.Dec.{eqb}
use lib.ListN.{drop, length, length-drop, take}
use lib.Seq.{take_all}
use Rattle.text.specs.Text.{lines, span_of, words}

-- what `&s[k..]` is, and that it is what is left
abbrev pub tail : ℕ → List ℕ → List ℕ
tail k s = take (length s - k) (drop k s)

pub tail_is : (k : ℕ) (s : List ℕ) → tail k s ≡ drop k s
tail_is k s = take_all (length s - k) (drop k s) (simp length-drop (omega arith))

-- the first line, and the lines after it
pub lines_step : (s : List ℕ) → 0 < length s → lines s ≡ take (span_of 10 s) s ∷ lines (drop (span_of 10 s + 1) s)
unfolding lines span_of
lines_step [] h = absurd (omega arith)
lines_step (x ∷ []) h = by_test_lem (eqb x 10) refl
  where
    by_test_lem : (t : Bool) → eqb x 10 ≡ t → lines (x ∷ []) ≡ take (span_of 10 (x ∷ [])) (x ∷ []) ∷ lines (drop (span_of 10 (x ∷ []) + 1) (x ∷ []))
    by_test_lem true e = rw e
    by_test_lem false e = rw e
lines_step (x ∷ y ∷ s) h = by_test_lem (eqb x 10) refl (lines_step (y ∷ s) (omega arith))
  where
    by_test_lem : (t : Bool) → eqb x 10 ≡ t → lines (y ∷ s) ≡ take (span_of 10 (y ∷ s)) (y ∷ s) ∷ lines (drop (span_of 10 (y ∷ s) + 1) (y ∷ s))
        → lines (x ∷ y ∷ s) ≡ take (span_of 10 (x ∷ y ∷ s)) (x ∷ y ∷ s) ∷ lines (drop (span_of 10 (x ∷ y ∷ s) + 1) (x ∷ y ∷ s))
    by_test_lem true e ih = rw e
    by_test_lem false e ih = simp (e, ih, towards_suc)

-- the only word
pub words_last : (s : List ℕ) → length s ≤ span_of 32 s → words s ≡ s ∷ []
unfolding words span_of
words_last [] h = refl
words_last (x ∷ s) h = by_test_lem (eqb x 32) refl (words_last s)
  where
    by_test_lem : (t : Bool) → eqb x 32 ≡ t → (length s ≤ span_of 32 s → words s ≡ s ∷ []) → words (x ∷ s) ≡ (x ∷ s) ∷ []
    by_test_lem true e ih = let g : suc (length s) ≤ 0 = rw e at h in absurd (omega arith)
    by_test_lem false e ih =
        let g : suc (length s) ≤ span_of 32 s + 1 = rw e at h in
        let k : length s ≤ span_of 32 s = omega arith in
        rw (e, ih k)

-- the first word, and the words after it
pub words_more : (s : List ℕ) → span_of 32 s < length s → words s ≡ take (span_of 32 s) s ∷ words (drop (span_of 32 s + 1) s)
unfolding words span_of
words_more [] h = absurd (omega arith)
words_more (x ∷ s) h = by_test_lem (eqb x 32) refl (words_more s)
  where
    by_test_lem : (t : Bool) → eqb x 32 ≡ t → (span_of 32 s < length s → words s ≡ take (span_of 32 s) s ∷ words (drop (span_of 32 s + 1) s))
        → words (x ∷ s) ≡ take (span_of 32 (x ∷ s)) (x ∷ s) ∷ words (drop (span_of 32 (x ∷ s) + 1) (x ∷ s))
    by_test_lem true e ih = rw e
    by_test_lem false e ih =
        let g : span_of 32 s + 1 < suc (length s) = rw e at h in
        let k : span_of 32 s < length s = omega arith in
        rw (e, ih k) (simp towards_suc)
