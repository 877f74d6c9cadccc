-- The four numbers taken as they stand: where the code puts a seat or takes one away is where the line has it.
-- Assumes nothing.
use Prim.Native.Nat.{◌<◌, ◌≤◌, suc, zero, ℕ}
use mathlib.Core.Bool.{Bool, ◌||◌, cond, false, true}
use mathlib.Core.List.{List, [], ◌++◌, ◌∷◌}
use mathlib.Core.Path.{◌∙◌, ◌≡◌, ap, ap₂, refl, sym}
use native.Mathlib.Omega.{arith}
use borrow.Author.Tests.{eq-eqb, eqb-true, ne_eqb}
use Rattle.std.proofs.lemmas.Bool.{true≢false}
use lib.Dec.{eqb}
use lib.ListN.{drop, length, set}
use Rattle.model.specs.Codec.{pad_to}
use Rattle.laws.proofs.Rows.{or_false}
use Rattle.turns.specs.Turns.{Queue, asked, in_form, is_in, passed_on, queue_of}
use Rattle.turns.proofs.Form.{padded_is}

-- one zero more behind a line
pad_more : (n : ℕ) (q : Queue) → length q ≤ n → pad_to (suc n) q ≡ pad_to n q ++ (0 ∷ [])
pad_more zero [] h = refl
pad_more zero (x ∷ q) h = absurd (omega arith)
pad_more (suc n) [] h = ap (λ (l : List ℕ). 0 ∷ l) (pad_more n [] (omega arith))
pad_more (suc n) (x ∷ q) h = ap (λ (l : List ℕ). x ∷ l) (pad_more n q (omega arith))

queue-short : (l : List ℕ) → length (queue_of l) ≤ length l
unfolding queue_of
queue-short [] = omega arith
queue-short (n ∷ l) = go (eqb n 0) (queue-short l)
  where
    go : (b : Bool) → length (queue_of l) ≤ length l → length (cond b [] (n ∷ queue_of l)) ≤ suc (length l)
    go true h = omega arith
    go false h = omega arith

-- a number among those of a line with zeros behind it: it stands in line already, or is 0
zero_there : (n s : ℕ) → is_in s (pad_to n []) ≡ true → s ≡ 0
zero_there zero s e = absurd (true≢false (sym e))
zero_there (suc n) s e = go (eqb 0 s) refl (zero_there n s) e
  where
    go : (t : Bool) → eqb 0 s ≡ t → (is_in s (pad_to n []) ≡ true → s ≡ 0) → (t || is_in s (pad_to n [])) ≡ true → s ≡ 0
    go true w h e = sym (eqb-true 0 s w)
    go false w h e = h e

asked_there : (n s : ℕ) (q : Queue) → is_in s (pad_to n q) ≡ true → pad_to n (asked s q) ≡ pad_to n q
asked_there zero s q e = refl
asked_there (suc n) s [] e = ap (λ (x : ℕ). x ∷ pad_to n []) (zero_there (suc n) s e)
asked_there (suc n) s (x ∷ q) e = go (eqb x s) (is_in s q) (asked_there n s q) e
  where
    go : (t u : Bool) → (is_in s (pad_to n q) ≡ true → pad_to n (cond u q (q ++ (s ∷ []))) ≡ pad_to n q) → (t || is_in s (pad_to n q)) ≡ true
        → pad_to (suc n) (cond (t || u) (x ∷ q) (x ∷ (q ++ (s ∷ [])))) ≡ x ∷ pad_to n q
    go true u h e = refl
    go false true h e = refl
    go false false h e = ap (λ (l : List ℕ). x ∷ l) (h e)

out_of : (n s : ℕ) (q : Queue) → length q ≤ n → is_in s (pad_to n q) ≡ false → is_in s q ≡ false
out_of n s [] h e = refl
out_of zero s (x ∷ q) h e = absurd (omega arith)
out_of (suc n) s (x ∷ q) h e =
    let o = or_false (eqb x s) (is_in s (pad_to n q)) e in
    ap₂ ◌||◌ o.0 (out_of n s q (omega arith) o.1)

-- the place behind a line
set_padded : (n s : ℕ) (q : Queue) → length q < n → set (pad_to n q) (length q) s ≡ pad_to n (q ++ (s ∷ []))
set_padded zero s q h = absurd (omega arith)
set_padded (suc n) s [] h = refl
set_padded (suc n) s (x ∷ q) h = ap (λ (l : List ℕ). x ∷ l) (set_padded n s q (omega arith))

module _ (h a b c : ℕ) where
  module _ (form : in_form (h ∷ a ∷ b ∷ c ∷ []) ≡ true) where
    -- ---- the first leaves

    pub passed_is : a ∷ b ∷ c ∷ 0 ∷ [] ≡ pad_to 4 (passed_on (queue_of (h ∷ a ∷ b ∷ c ∷ [])))
    unfolding queue_of
    passed_is = go (eqb h 0) (padded_is h a b c form)
      where
        go : (t : Bool) → h ∷ a ∷ b ∷ c ∷ [] ≡ pad_to 4 (cond t [] (h ∷ queue_of (a ∷ b ∷ c ∷ []))) → a ∷ b ∷ c ∷ 0 ∷ [] ≡ pad_to 4 (passed_on (cond t [] (h ∷ queue_of (a ∷ b ∷ c ∷ []))))
        go true e = ap (λ (l : List ℕ). drop 1 l ++ (0 ∷ [])) e
        go false e = ap (λ (l : List ℕ). drop 1 l ++ (0 ∷ [])) e ∙ sym (pad_more 3 (queue_of (a ∷ b ∷ c ∷ [])) (queue-short (a ∷ b ∷ c ∷ [])))

    -- ---- a seat asks

    module _ (s : ℕ) where
      -- it stands there already
      pub stays : is_in s (h ∷ a ∷ b ∷ c ∷ []) ≡ true → h ∷ a ∷ b ∷ c ∷ [] ≡ pad_to 4 (asked s (queue_of (h ∷ a ∷ b ∷ c ∷ [])))
      stays e =
          padded_is h a b c form
          ∙ sym (asked_there 4 s (queue_of (h ∷ a ∷ b ∷ c ∷ [])) (ap (is_in s) (sym (padded_is h a b c form)) ∙ e))

      -- it does not, and gets the first place behind the line
      pub joins : is_in s (h ∷ a ∷ b ∷ c ∷ []) ≡ false → {q : Queue} → queue_of (h ∷ a ∷ b ∷ c ∷ []) ≡ q → length q < 4
          → set (h ∷ a ∷ b ∷ c ∷ []) (length q) s ≡ pad_to 4 (asked s (queue_of (h ∷ a ∷ b ∷ c ∷ [])))
      joins e {q} w l =
          let p : h ∷ a ∷ b ∷ c ∷ [] ≡ pad_to 4 q = padded_is h a b c form ∙ ap (pad_to 4) w in
          let o = out_of 4 s q (omega (arith, l)) (ap (is_in s) (sym p) ∙ e) in
          ap (λ (r : List ℕ). set r (length q) s) p
          ∙ set_padded 4 s q l
          ∙ sym (ap (λ (t : Bool). pad_to 4 (cond t q (q ++ (s ∷ [])))) o)
          ∙ sym (ap (λ (q : Queue). pad_to 4 (asked s q)) w)

  -- nobody stands there
  pub joins-first : (s : ℕ) → h ≡ 0 → s ∷ 0 ∷ 0 ∷ 0 ∷ [] ≡ pad_to 4 (asked s (queue_of (h ∷ a ∷ b ∷ c ∷ [])))
  unfolding queue_of
  joins-first s h0 = simp (eq-eqb h 0 h0)

  -- ---- the line, by how many stand there

  pub line-none : h ≡ 0 → queue_of (h ∷ a ∷ b ∷ c ∷ []) ≡ []
  unfolding queue_of
  line-none h0 = simp (eq-eqb h 0 h0)

  module _ (h0 : h ≡ 0 → ⊥) where
    pub line-one : a ≡ 0 → queue_of (h ∷ a ∷ b ∷ c ∷ []) ≡ h ∷ []
    unfolding queue_of
    line-one a0 = simp (ne_eqb h 0 h0, eq-eqb a 0 a0)

    module _ (a0 : a ≡ 0 → ⊥) where
      pub line-two : b ≡ 0 → queue_of (h ∷ a ∷ b ∷ c ∷ []) ≡ h ∷ a ∷ []
      unfolding queue_of
      line-two b0 = simp (ne_eqb h 0 h0, ne_eqb a 0 a0, eq-eqb b 0 b0)

      module _ (b0 : b ≡ 0 → ⊥) where
        pub line-three : c ≡ 0 → queue_of (h ∷ a ∷ b ∷ c ∷ []) ≡ h ∷ a ∷ b ∷ []
        unfolding queue_of
        line-three c0 = simp (ne_eqb h 0 h0, ne_eqb a 0 a0, ne_eqb b 0 b0, eq-eqb c 0 c0)

        -- four stand there, and no fifth fits
        pub full : (c ≡ 0 → ⊥) → (s : ℕ) → h ∷ a ∷ b ∷ c ∷ [] ≡ pad_to 4 (asked s (queue_of (h ∷ a ∷ b ∷ c ∷ [])))
        unfolding queue_of
        full c0 s =
            let q : queue_of (h ∷ a ∷ b ∷ c ∷ []) ≡ h ∷ a ∷ b ∷ c ∷ [] = simp (ne_eqb h 0 h0, ne_eqb a 0 a0, ne_eqb b 0 b0, ne_eqb c 0 c0) in
            go (is_in s (h ∷ a ∷ b ∷ c ∷ [])) ∙ ap (λ (l : Queue). pad_to 4 (asked s l)) (sym q)
          where
            go : (t : Bool) → h ∷ a ∷ b ∷ c ∷ [] ≡ pad_to 4 (cond t (h ∷ a ∷ b ∷ c ∷ []) (h ∷ a ∷ b ∷ c ∷ s ∷ []))
            go true = refl
            go false = refl
