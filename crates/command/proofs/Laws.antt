-- The words that are no key, and the words of a text.
-- Assumes nothing.
use Rattle.std.proofs.Common.{◌≡◌, ℕ, ◌+◌, ◌<◌, ◌≤◌, Bool, false, true, List, [], ◌∷◌, length, get_or, take, drop, arith, refl, ltb, ltb-false, ltb-true, ne_eqb, Option, MatchOption, Bor}
use Rattle.std.proofs.Math.Bool.{and-false}
use Rattle.std.specs.Prelude.{None, Some}
use Rattle.text.proofs.Splitting.{tail, tail_is, words_last, words_more}
use Rattle.text.specs.Text.{span_of, words}
use Rattle.command.specs.Command.{is_word, key_of}

-- ---- words that are no key, by their length and their first byte

pub key_short : (w : List ℕ) → length w < 2 → key_of w ≡ None
unfolding key_of is_word
key_short [] h = refl
key_short (x ∷ []) h = simp and-false
key_short (x ∷ y ∷ w) h = absurd (omega arith)

pub key_two : (w : List ℕ) → length w ≡ 2 → (get_or w 0 0 ≡ 99 → ⊥) → (get_or w 0 0 ≡ 109 → ⊥) → (get_or w 0 0 ≡ 117 → ⊥) → key_of w ≡ None
unfolding key_of is_word
key_two [] h a b d = absurd (omega arith)
key_two (x ∷ []) h a b d = absurd (omega arith)
key_two (x ∷ y ∷ []) h a b d = simp (ne_eqb _ _ a, ne_eqb _ _ b, ne_eqb _ _ d, and-false)
key_two (x ∷ y ∷ z ∷ w) h a b d = absurd (omega arith)

pub key_three : (w : List ℕ) → length w ≡ 3 → (get_or w 0 0 ≡ 97 → ⊥) → (get_or w 0 0 ≡ 115 → ⊥) → (get_or w 0 0 ≡ 100 → ⊥) → (get_or w 0 0 ≡ 112 → ⊥) → (get_or w 0 0 ≡ 103 → ⊥) → key_of w ≡ None
unfolding key_of is_word
key_three [] h a b d e f = absurd (omega arith)
key_three (x ∷ []) h a b d e f = absurd (omega arith)
key_three (x ∷ y ∷ []) h a b d e f = absurd (omega arith)
key_three (x ∷ y ∷ z ∷ []) h a b d e f = simp (ne_eqb _ _ a, ne_eqb _ _ b, ne_eqb _ _ d, ne_eqb _ _ e, ne_eqb _ _ f, and-false)
key_three (x ∷ y ∷ z ∷ u ∷ w) h a b d e f = absurd (omega arith)

pub key_long : (w : List ℕ) → 3 < length w → key_of w ≡ None
unfolding key_of is_word
key_long [] h = absurd (omega arith)
key_long (x ∷ []) h = absurd (omega arith)
key_long (x ∷ y ∷ []) h = absurd (omega arith)
key_long (x ∷ y ∷ z ∷ []) h = absurd (omega arith)
key_long (x ∷ y ∷ z ∷ u ∷ w) h = simp and-false

pub ruleset no_key = (key_short, key_two, key_three, key_long)

-- ---- the first word of a text, which ends before place n

pub words_first : (s : List ℕ) (n : ℕ) → n ≡ span_of 32 s → n < length s → words s ≡ take n s ∷ words (tail (n + 1) s)
words_first s n e h =
    let w = words_more s (omega arith) in
    let t = tail_is (n + 1) s in
    cc

pub words_only : (s : List ℕ) (n : ℕ) → n ≡ span_of 32 s → length s ≤ n → words s ≡ s ∷ []
words_only s n e h = words_last s (omega arith)

pub ruleset word_steps = (words_first, words_only)

-- ---- a text has a word, and one whose first word is not its last has two

words-some : (s : List ℕ) → (u : List ℕ) × (ws : List (List ℕ)) × (words s ≡ u ∷ ws)
words-some s = by_test_lem (ltb (span_of 32 s) (length s)) refl
  where
    by_test_lem : (t : Bool) → ltb (span_of 32 s) (length s) ≡ t → (u : List ℕ) × (ws : List (List ℕ)) × (words s ≡ u ∷ ws)
    by_test_lem true e = (take (span_of 32 s) s, words (drop (span_of 32 s + 1) s), words_more s (ltb-true _ _ e))
    by_test_lem false e = (s, [], words_last s (ltb-false _ _ e))

pub words-two : (rest : Option (Bor (List ℕ))) (w s : List ℕ) → MatchOption rest (words s ≡ w ∷ []) (λ r. words s ≡ w ∷ words r.now) → (rest ≡ None → ⊥) → (u : List ℕ) × (ws : List (List ℕ)) × (words s ≡ w ∷ u ∷ ws)
words-two None w s h e = absurd (e refl)
words-two (Some r) w s h e = let f = words-some r.now in (f.0, f.1, rw f.2 at h)
