-- How the definitions of Text go from one place of a list to the next, in the terms of the code.
-- Assumes nothing.
use Prim.Native.Nat.{◌%◌, ◌*◌, ◌+◌, ◌-◌, ◌/◌, ◌<◌, ◌^◌, ◌≤◌, suc, zero, ℕ}
use mathlib.Core.Bool.{Bool, ◌&&◌, cond, false, not, true}
use mathlib.Core.List.{List, [], ◌++◌, ◌∷◌}
use mathlib.Core.Option.{none, some}
use mathlib.Core.Path.{◌∙◌, ◌≡◌, ap, refl, sym}
use native.Mathlib.Nat.{one-le-pow, pow-le-pow_right}
use native.Mathlib.Numerals.{add-one}
use native.Mathlib.Omega.{arith}
use borrow.Author.Tests.{eq-eqb, eqb-true, le-leb, le-ltb, leb-false, leb-true, lt-leb, lt-ltb, ltb-true, ne_eqb}
use lib.Dec.{eqb, leb, ltb}
use lib.ListN.{drop, drop_of_length-le, get_or, length, length-append, set, take}
use lib.Seq.{drop-cons, take_at}
use Rattle.std.specs.List.{list_all}
use Rattle.block.proofs.Writing.{written_mid, written_none, written_one}
use Rattle.block.specs.Lists.{all}
use Rattle.block.specs.Write.{written}
use Rattle.io.specs.Digits.{last_digits}
use Rattle.text.specs.Text.{are_pairs, decimal_in, decimal_of, digit_of, glyph_of, hex_of, hex_pairs, hex_text, is_dash, is_digit, pairs_of, value_of}

pub next : (s : List ℕ) (i : ℕ) → i < length s → drop i s ≡ get_or s i 0 ∷ drop (i + 1) s
next s i h = rw (add-one, drop-cons s i 0)

pub none_left : (s : List ℕ) (i : ℕ) → length s ≤ i → drop i s ≡ []
none_left s i h = drop_of_length-le s h

-- ---- numbers

module _ (w : List ℕ) (n i d : ℕ) (h : i < length w) (is : d ≡ digit_of (get_or w i 0)) where
  pub value_other : 10 ≤ d → value_of n (drop i w) ≡ none
  unfolding value_of
  value_other g = rw (next w i h) (simp (← is, le-ltb _ _ g))

  pub value_large : d < 10 → 4_294_967_295 < 10 * n + d → value_of n (drop i w) ≡ none
  unfolding value_of
  value_large g l = rw (next w i h) (simp (← is, lt-ltb _ _ g, lt-leb _ _ l))

  pub value_next : d < 10 → (m : ℕ) → m ≡ 10 * n + d → m ≤ 4_294_967_295 → value_of m (drop (i + 1) w) ≡ value_of n (drop i w)
  unfolding value_of
  value_next g m e l = let k : 10 * n + d ≤ 4_294_967_295 = omega arith in rw e (sym (rw (next w i h) (simp (← is, lt-ltb _ _ g, le-leb _ _ k))))

pub value_end : (w : List ℕ) (n i : ℕ) → length w ≤ i → value_of n (drop i w) ≡ some n
unfolding value_of
value_end w n i h = rw (none_left w i h)

-- each step of the reading of a number
pub ruleset value_steps = (value_other, value_large, value_next, value_end)

-- ---- HEX, read

-- `all` of a slice is `all` of its list
pub digits_all : (w : List ℕ) → list_all is_digit w ≡ all is_digit w
digits_all [] = refl
digits_all (x ∷ w) = ap (λ (t : Bool). is_digit x && t) (digits_all w)

pub digit_small : (w : List ℕ) (i : ℕ) → all is_digit w ≡ true → i < length w → digit_of (get_or w i 0) < 16
digit_small [] i e h = absurd (omega arith)
digit_small (x ∷ w) i e h = go (is_digit x) refl i e h (digit_small w)
  where
    go : (b : Bool) → is_digit x ≡ b → (k : ℕ) → (b && all is_digit w) ≡ true → k < length (x ∷ w)
        → ((j : ℕ) → all is_digit w ≡ true → j < length w → digit_of (get_or w j 0) < 16) → digit_of (get_or (x ∷ w) k 0) < 16
    go false q k f g ih = let z : ◌≡◌ {A = ℕ} 0 1 = cc in absurd (omega arith)
    go true q zero f g ih = ltb-true _ _ q
    go true q (suc k) f g ih = ih k f (omega arith)

pub are_even : (w : List ℕ) → (length w ≡ 0 → ⊥) → length w % 2 ≡ 0 → are_pairs w ≡ all is_digit w
are_even w h g = simp (ne_eqb _ _ h, eq-eqb _ _ g)

pub are_digits : (w : List ℕ) → are_pairs w ≡ true → (length w % 2 ≡ 0) × (all is_digit w ≡ true)
are_digits w e = go (eqb (length w) 0) (eqb (length w % 2) 0) refl e
  where
    go : (a b : Bool) → eqb (length w % 2) 0 ≡ b → (not a && (b && all is_digit w)) ≡ true → (length w % 2 ≡ 0) × (all is_digit w ≡ true)
    go true b q f = let z : ◌≡◌ {A = ℕ} 0 1 = cc in absurd (omega arith)
    go false true q f = (eqb-true _ _ q, f)
    go false false q f = let z : ◌≡◌ {A = ℕ} 0 1 = cc in absurd (omega arith)

pub dash_not : (w : List ℕ) → (length w ≡ 1 → ⊥) → is_dash w ≡ false
dash_not [] h = refl
dash_not (x ∷ []) h = absurd (h refl)
dash_not (x ∷ y ∷ w) h = refl

pub hex_dash : (w : List ℕ) → is_dash w ≡ true → hex_of w ≡ some []
unfolding hex_of
hex_dash w e = simp e

pub hex_pairs_lem : (w : List ℕ) → is_dash w ≡ false → are_pairs w ≡ true → hex_of w ≡ some (pairs_of w)
unfolding hex_of
hex_pairs_lem w e f = simp (e, f)

-- the next two bytes x spell one byte, and what is left after them the others
pub pairs_next : (rest x left out : List ℕ) (i a b : ℕ) → rest ≡ x ++ left → length x ≡ 2 → a ≡ digit_of (get_or x 0 0) → b ≡ digit_of (get_or x 1 0)
    → written (i + 1) (pairs_of left) (set out i (16 * a + b)) ≡ written i (pairs_of rest) out
unfolding pairs_of
pairs_next rest x left out i a b e two p q = go x two p q ∙ ap (λ (l : List ℕ). written i (pairs_of l) out) (sym e)
  where
    go : (x : List ℕ) → length x ≡ 2 → a ≡ digit_of (get_or x 0 0) → b ≡ digit_of (get_or x 1 0)
        → written (i + 1) (pairs_of left) (set out i (16 * a + b)) ≡ written i (pairs_of (x ++ left)) out
    go [] two p q = absurd (omega arith)
    go (x ∷ []) two p q = absurd (omega arith)
    go (x ∷ y ∷ []) two p q = sym (written_one i (16 * digit_of x + digit_of y) (pairs_of left) out ∙ rw (← p, ← q) refl)
    go (x ∷ y ∷ z ∷ w) two p q = absurd (omega arith)

pub pairs_end : (rest out : List ℕ) (i : ℕ) → length rest < 2 → written i (pairs_of rest) out ≡ out
unfolding pairs_of
pairs_end [] out i h = written_none i out
pairs_end (x ∷ []) out i h = written_none i out
pairs_end (x ∷ y ∷ w) out i h = absurd (omega arith)

-- each step of the reading of pairs
pub ruleset pairs_steps = (pairs_next, pairs_end)

pub length-pairs_of : (w : List ℕ) → length (pairs_of w) ≡ length w / 2
unfolding pairs_of
length-pairs_of [] = refl
length-pairs_of (x ∷ []) = refl
length-pairs_of (x ∷ y ∷ w) = omega (arith, length-pairs_of w)

-- what was written at the start of a buffer stands there
pub taken : (x l : List ℕ) → length x ≤ length l → take (length x) (written 0 x l) ≡ x
taken x l h = ap (take (length x)) (written_mid 0 x l (omega arith)) ∙ take_at x (drop (0 + length x) l) (length x) refl

-- a word of pairs is no dash, and its bytes stand at the start of the buffer
pub hex_taken : (w out after : List ℕ) → are_pairs w ≡ true → length w / 2 ≤ length out → after ≡ written 0 (pairs_of w) out → some (take (length w / 2) after) ≡ hex_of w
hex_taken w out after e h p =
    let even = (are_digits w e).0 in
    let n : length (pairs_of w) ≡ length w / 2 = length-pairs_of w in
    let q : take (length w / 2) after ≡ pairs_of w = rw (p, ← n) (taken (pairs_of w) out (omega (arith, n))) in
    ap some q ∙ sym (hex_pairs_lem w (dash_not w (λ one. omega arith)) e)

-- ---- HEX, printed

pub hex_next : (s l : List ℕ) (at i a b : ℕ) → i < length s → a ≡ glyph_of (get_or s i 0 / 16) → b ≡ glyph_of (get_or s i 0 % 16)
    → written (at + 2 * (i + 1)) (hex_pairs (drop (i + 1) s)) (set (set l (at + 2 * i) a) (at + 2 * i + 1) b) ≡ written (at + 2 * i) (hex_pairs (drop i s)) l
unfolding hex_pairs
hex_next s l at i a b h p q =
    let e : at + 2 * i + 1 + 1 ≡ at + 2 * (i + 1) = omega arith in
    let x : List ℕ = hex_pairs (drop (i + 1) s) in
    sym (ap (λ (v : List ℕ). written (at + 2 * i) (hex_pairs v) l) (next s i h)
    ∙ rw (← p, ← q) (written_one (at + 2 * i) a (b ∷ x) l ∙ written_one (at + 2 * i + 1) b x (set l (at + 2 * i) a)
    ∙ ap (λ (k : ℕ). written k x (set (set l (at + 2 * i) a) (at + 2 * i + 1) b)) e))

pub hex_end : (s l : List ℕ) (at i : ℕ) → length s ≤ i → written (at + 2 * i) (hex_pairs (drop i s)) l ≡ l
unfolding hex_pairs
hex_end s l at i h = rw (none_left s i h) (written_none (at + 2 * i) l)

-- each step of the printing of bytes
pub ruleset hex_steps = (hex_next, hex_end)

pub length_pairs : (s : List ℕ) → length (hex_pairs s) ≡ 2 * length s
unfolding hex_pairs
length_pairs [] = refl
length_pairs (x ∷ s) = omega (arith, length_pairs s)

pub length_hex : (s : List ℕ) → length (hex_text s) ≤ 2 * length s + 1
unfolding hex_text
length_hex [] = omega arith
length_hex (x ∷ s) = omega (arith, length_pairs (x ∷ s))

-- ---- numbers, printed

-- `io`'s digits, where they are the fewest that hold n, are ours
pub digits_decimal : (r f n : ℕ) → 1 ≤ r → r ≤ f → n < 10 ^ r → (1 < r → 10 ^ (r - 1) ≤ n) → last_digits 10 r n ≡ decimal_in f n
unfolding decimal_in
digits_decimal zero f n h g u l = absurd (omega arith)
digits_decimal (suc r) zero n h g u l = absurd (omega arith)
digits_decimal (suc zero) (suc f) n h g u l =
    let small : n < 10 = omega arith in
    let same : n % 10 ≡ n = omega arith in
    rw same (simp (lt-ltb _ _ small))
digits_decimal (suc (suc k)) (suc f) n h g u l =
    let e : suc (suc k) - 1 ≡ suc k = omega arith in
    let two : 1 < suc (suc k) = omega arith in
    let low : 10 ^ suc k ≤ n = rw e at (l two) in
    let pos : 1 ≤ 10 ^ k = one-le-pow k 10 (omega arith) in
    let big : 10 ≤ n = omega arith in
    let one : n % 10 < 10 = omega arith in
    let ih : last_digits 10 (suc k) (n / 10) ≡ decimal_in f (n / 10)
    = digits_decimal (suc k) f (n / 10) (omega arith) (omega arith) (omega arith) (λ q. let e' : suc k - 1 ≡ k = omega arith in rw e' (omega arith)) in
    simp (le-ltb _ _ big, lt-ltb _ _ one) (ap (λ (t : List ℕ). t ++ ((48 + n % 10) ∷ [])) ih)

-- a number of 32 bits has at most ten digits
pub few : (r n : ℕ) → n < 4_294_967_296 → (1 < r → 10 ^ (r - 1) ≤ n) → r ≤ 10
few r n h l = by_test_lem (leb r 10) refl
  where
    by_test_lem : (b : Bool) → leb r 10 ≡ b → r ≤ 10
    by_test_lem true e = leb-true r 10 e
    by_test_lem false e =
        let a : 1 < r = omega (arith, leb-false r 10 e) in
        let b : 10 ≤ r - 1 = omega (arith, leb-false r 10 e) in
        let d : 10 ^ 10 ≤ 10 ^ (r - 1) = pow-le-pow_right (omega arith) b in
        omega (arith, l a)

pub decimal_is : (k n : ℕ) → n < 4_294_967_296 → 1 ≤ k → n < 10 ^ k → (1 < k → 10 ^ (k - 1) ≤ n) → last_digits 10 k n ≡ decimal_of n
decimal_is k n h g u l = digits_decimal k 10 n g (few k n h l) u l

pub length_decimal : (f n : ℕ) → length (decimal_in f n) ≤ f
unfolding decimal_in
length_decimal zero n = omega arith
length_decimal (suc f) n = go (ltb n 10) (length_decimal f (n / 10))
  where
    go : (b : Bool) → length (decimal_in f (n / 10)) ≤ f → length (cond b ((48 + n) ∷ []) (decimal_in f (n / 10) ++ ((48 + n % 10) ∷ []))) ≤ suc f
    go true ih = omega arith
    go false ih = simp length-append (omega arith)
