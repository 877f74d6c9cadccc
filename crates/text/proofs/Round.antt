-- What is printed is read back: bytes as HEX, and numbers of 32 bits in decimal.
-- Assumes nothing.
use Prim.Native.Nat.{◌%◌, ◌*◌, ◌+◌, ◌-◌, ◌/◌, ◌<◌, ◌^◌, ◌≤◌, suc, zero, ℕ}
use mathlib.Core.Bool.{Bool, ◌&&◌, cond, false, true}
use mathlib.Core.List.{List, [], ◌++◌, ◌∷◌}
use mathlib.Core.Option.{Option, none, some}
use mathlib.Core.Path.{◌∙◌, ◌≡◌, ap, ap₂, refl, sym}
use native.Mathlib.Omega.{arith}
use borrow.Author.Tests.{le-leb, lt-leb, lt-ltb, ltb-false, ltb-true, ne_eqb}
use lib.Dec.{leb, ltb}
use lib.ListN.{length}
use Rattle.block.specs.Lists.{All, all}
use Rattle.text.specs.Text.{decimal_in, decimal_of, digit_of, glyph_of, hex_of, hex_pairs, hex_text, is_digit, number_of, pairs_of, value_of}
use Rattle.text.proofs.Laws.{are_even, dash_not, hex_dash, hex_pairs_lem, length_pairs}

digit_glyph : (d : ℕ) → d < 16 → digit_of (glyph_of d) ≡ d
unfolding digit_of
digit_glyph d h = by_test_lem (ltb d 10) refl
  where
    by_test_lem : (t : Bool) → ltb d 10 ≡ t → digit_of (glyph_of d) ≡ d
    by_test_lem true e =
        let g : d < 10 = ltb-true _ _ e in
        let a : 48 ≤ 48 + d = omega arith in
        let b : 48 + d ≤ 57 = omega arith in
        let z : 48 + d - 48 ≡ d = omega arith in
        simp (e, le-leb 48 (48 + d) a, le-leb (48 + d) 57 b, z)
    by_test_lem false e =
        let g : 10 ≤ d = ltb-false _ _ e in
        let a : 48 ≤ 87 + d = omega arith in
        let b : 57 < 87 + d = omega arith in
        let f : 97 ≤ 87 + d = omega arith in
        let k : 87 + d ≤ 102 = omega arith in
        let z : 87 + d - 87 ≡ d = omega arith in
        simp (e, le-leb 48 (87 + d) a, lt-leb (87 + d) 57 b, le-leb 97 (87 + d) f, le-leb (87 + d) 102 k, z)

-- ---- HEX

abbrev Byte : ℕ → Type 0
Byte y = y < 256

round_pairs : (l : List ℕ) → All Byte l → (pairs_of (hex_pairs l) ≡ l) × (all is_digit (hex_pairs l) ≡ true)
unfolding pairs_of hex_pairs
round_pairs [] b = (refl, refl)
round_pairs (x ∷ l) b =
    let h : x < 256 = b.0 in
    let p : x / 16 < 16 = omega arith in
    let q : x % 16 < 16 = omega arith in
    let e : digit_of (glyph_of (x / 16)) ≡ x / 16 = digit_glyph (x / 16) p in
    let f : digit_of (glyph_of (x % 16)) ≡ x % 16 = digit_glyph (x % 16) q in
    let z : 16 * digit_of (glyph_of (x / 16)) + digit_of (glyph_of (x % 16)) ≡ x = omega (arith, e, f) in
    let ih = round_pairs l b.1 in
    let s : is_digit (glyph_of (x / 16)) ≡ true = lt-ltb (digit_of (glyph_of (x / 16))) 16 (omega (arith, e)) in
    let t : is_digit (glyph_of (x % 16)) ≡ true = lt-ltb (digit_of (glyph_of (x % 16))) 16 (omega (arith, f)) in
    (ap₂ (λ (y : ℕ) (v : List ℕ). y ∷ v) z ih.0, ap₂ ◌&&◌ s (ap₂ ◌&&◌ t ih.1))

pub round_hex : (l : List ℕ) → All Byte l → hex_of (hex_text l) ≡ some l
unfolding hex_text hex_pairs
round_hex [] b = hex_dash (45 ∷ []) refl
round_hex (x ∷ l) b =
    let w : List ℕ = hex_pairs (x ∷ l) in
    let n : length w ≡ 2 * length (x ∷ l) = length_pairs (x ∷ l) in
    let r = round_pairs (x ∷ l) b in
    hex_pairs_lem w (dash_not w (λ e. omega (arith, n))) (are_even w (λ e. omega (arith, n)) (omega (arith, n)) ∙ r.1) ∙ ap some r.0

-- ---- numbers

abbrev and_then : Option ℕ → List ℕ → Option ℕ
and_then none v = none
and_then (some n) v = value_of n v

value_append : (a : ℕ) (u v : List ℕ) → value_of a (u ++ v) ≡ and_then (value_of a u) v
unfolding value_of
value_append a [] v = refl
value_append a (x ∷ u) v = by_test_lem (ltb (digit_of x) 10) (leb (10 * a + digit_of x) 4_294_967_295) (value_append (10 * a + digit_of x) u v)
  where
    by_test_lem : (s t : Bool) → value_of (10 * a + digit_of x) (u ++ v) ≡ and_then (value_of (10 * a + digit_of x) u) v
        → cond s (cond t (value_of (10 * a + digit_of x) (u ++ v)) none) none ≡ and_then (cond s (cond t (value_of (10 * a + digit_of x) u) none) none) v
    by_test_lem true true ih = ih
    by_test_lem true false ih = refl
    by_test_lem false t ih = refl

digit_ten : (d : ℕ) → d < 10 → digit_of (48 + d) ≡ d
digit_ten d h = let g : d < 16 = omega arith in ap digit_of (simp (lt-ltb d 10 h)) ∙ digit_glyph d g

-- one digit more
value_one : (a d n : ℕ) → d < 10 → 10 * a + d ≡ n → n ≤ 4_294_967_295 → value_of a ((48 + d) ∷ []) ≡ some n
unfolding value_of
value_one a d n h e l =
    let g : 10 * a + d ≤ 4_294_967_295 = omega arith in
    simp (digit_ten d h, lt-ltb d 10 h, le-leb (10 * a + d) 4_294_967_295 g) (ap some e)

decimal_value : (f n : ℕ) → n < 10 ^ suc f → n ≤ 4_294_967_295 → value_of 0 (decimal_in (suc f) n) ≡ some n
unfolding decimal_in
decimal_value zero n u l =
    let h : n < 10 = omega arith in
    let e : 10 * 0 + n ≡ n = omega arith in
    simp (lt-ltb n 10 h) (value_one 0 n n h e l)
decimal_value (suc k) n u l = by_test_lem (ltb n 10) refl (decimal_value k (n / 10))
  where
    by_test_lem : (t : Bool) → ltb n 10 ≡ t → (n / 10 < 10 ^ suc k → n / 10 ≤ 4_294_967_295 → value_of 0 (decimal_in (suc k) (n / 10)) ≡ some (n / 10))
        → value_of 0 (cond t ((48 + n) ∷ []) (decimal_in (suc k) (n / 10) ++ ((48 + n % 10) ∷ []))) ≡ some n
    by_test_lem true e ih =
        let z : 10 * 0 + n ≡ n = omega arith in
        value_one 0 n n (ltb-true _ _ e) z l
    by_test_lem false e ih =
        let a : n / 10 < 10 ^ suc k = omega arith in
        let b : n / 10 ≤ 4_294_967_295 = omega arith in
        let d : n % 10 < 10 = omega arith in
        let z : 10 * (n / 10) + n % 10 ≡ n = omega arith in
        value_append 0 (decimal_in (suc k) (n / 10)) ((48 + n % 10) ∷ [])
        ∙ ap (λ (m : Option ℕ). and_then m ((48 + n % 10) ∷ [])) (ih a b) ∙ value_one (n / 10) (n % 10) n d z l

-- the first digit is 0 only of the number 0
record Lead (s : List ℕ) : Type 0 where
  first : ℕ
  rest : List ℕ
  is : s ≡ first ∷ rest
  more : first ≡ 48 → ⊥

lead : (f n : ℕ) → 1 ≤ n → n < 10 ^ suc f → Lead (decimal_in (suc f) n)
unfolding decimal_in
lead zero n h u =
    let g : n < 10 = omega arith in
    record { first = 48 + n; rest = []; is = simp (lt-ltb n 10 g); more = λ e. omega arith }
lead (suc k) n h u = by_test_lem (ltb n 10) refl (lead k (n / 10))
  where
    by_test_lem : (t : Bool) → ltb n 10 ≡ t → (1 ≤ n / 10 → n / 10 < 10 ^ suc k → Lead (decimal_in (suc k) (n / 10)))
        → Lead (cond t ((48 + n) ∷ []) (decimal_in (suc k) (n / 10) ++ ((48 + n % 10) ∷ [])))
    by_test_lem true e ih = record { first = 48 + n; rest = []; is = refl; more = λ q. omega arith }
    by_test_lem false e ih =
        let g : 10 ≤ n = ltb-false _ _ e in
        let a : 1 ≤ n / 10 = omega arith in
        let b : n / 10 < 10 ^ suc k = omega arith in
        let r = ih a b in
        record { first = r.first; rest = r.rest ++ ((48 + n % 10) ∷ []); is = ap (λ (t : List ℕ). t ++ ((48 + n % 10) ∷ [])) r.is; more = r.more }

number_lead : (x : ℕ) (w : List ℕ) → (x ≡ 48 → ⊥) → number_of (x ∷ w) ≡ value_of 0 (x ∷ w)
unfolding number_of
number_lead x [] h = refl
number_lead x (y ∷ w) h = simp (ne_eqb _ _ h)

pub round_number : (n : ℕ) → n ≤ 4_294_967_295 → number_of (decimal_of n) ≡ some n
unfolding number_of value_of decimal_in digit_of
round_number zero h = refl
round_number (suc m) h =
    let a : 1 ≤ suc m = omega arith in
    let b : suc m < 10 ^ 10 = omega arith in
    let r = lead 9 (suc m) a b in
    ap number_of r.is ∙ number_lead r.first r.rest r.more ∙ ap (value_of 0) (sym r.is) ∙ decimal_value 9 (suc m) b h
