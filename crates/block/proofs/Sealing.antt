-- What a check says, for the proofs of the code and the theorems.
-- Assumes nothing.
use Prim.Native.Nat.{ℕ, ◌+◌, ◌*◌, ◌/◌, ◌%◌, ◌<◌}
use mathlib.Core.Path.{◌≡◌, refl, sym, ap, ◌∙◌}
use mathlib.Core.Bool.{Bool, false, ◌&&◌}
use mathlib.Core.List.{List, [], ◌∷◌, ◌++◌, append-nil}
use mathlib.Core.Logic.{inl, inr}
use native.Mathlib.Omega.{arith}
use borrow.Author.Tests.{eq-eqb, ne_eqb}
use lib.ListN.{length, get_or, take, drop, length-append, length-take, length-drop, drop_of_length-le}
use lib.Seq.{drop-cons, sets-eq}
use lib.Dec.{eqb}
use Rattle.block.specs.Field.{two, two_at, with_two}
use Rattle.block.specs.Check.{sums, checks_of, sealed, seal_of}
use Rattle.block.proofs.Says.{Says, says_eq, says-and, says_same, says_alike, says_false, eq_or}

pub length_checks : (l : List ℕ) → length (checks_of l) ≡ 4
unfolding checks_of
length_checks l = refl

pub says-sealed : (l : List ℕ) → Says (sealed l) (checks_of (take 508 l) ≡ drop 508 l)
unfolding sealed
says-sealed l = says_same (checks_of (take 508 l)) (drop 508 l)

-- what is sealed has 512 bytes
pub sealed-size : (l : List ℕ) → checks_of (take 508 l) ≡ drop 508 l → length l ≡ 512
sealed-size l e = omega (arith, length_checks (take 508 l), ap length e, length-drop 508 l)

pub not-sealed : (l : List ℕ) → (length l ≡ 512 → ⊥) → sealed l ≡ false
not-sealed l n = says_false (says-sealed l) (λ e. n (sealed-size l e))

last-four : (l : List ℕ) → length l ≡ 512 → drop 508 l ≡ get_or l 508 0 ∷ get_or l 509 0 ∷ get_or l 510 0 ∷ get_or l 511 0 ∷ []
last-four l e =
    drop-cons l 508 0 (omega arith)
    ∙ ap (λ x. get_or l 508 0 ∷ x) (drop-cons l 509 0 (omega arith)
    ∙ ap (λ x. get_or l 509 0 ∷ x) (drop-cons l 510 0 (omega arith)
    ∙ ap (λ x. get_or l 510 0 ∷ x) (drop-cons l 511 0 (omega arith)
    ∙ ap (λ x. get_or l 511 0 ∷ x) (drop_of_length-le l {i = 512} (omega arith)))))

split_two : (n x y : ℕ) → x < 256 → y < 256 → ((n % 256 ≡ x) × (n / 256 ≡ y) → x + 256 * y ≡ n) × (x + 256 * y ≡ n → (n % 256 ≡ x) × (n / 256 ≡ y))
split_two n x y h g = (λ p. omega arith, λ e. (omega arith, omega arith))

checks_are : (body : List ℕ) (a b : ℕ) → sums 0 0 body ≡ (a, b) → checks_of body ≡ two a (two b [])
unfolding checks_of
checks_are body a b s = ap (λ (r : ℕ × ℕ). two r.0 (two r.1 [])) s

says_checks : (body tail : List ℕ) (a b x y z w : ℕ) → tail ≡ x ∷ y ∷ z ∷ w ∷ [] → x < 256 → y < 256 → z < 256 → w < 256 → sums 0 0 body ≡ (a, b)
    → Says (eqb (x + 256 * y) a && eqb (z + 256 * w) b) (checks_of body ≡ tail)
says_checks body tail a b x y z w t hx hy hz hw s =
    let r = says-and (says_eq (x + 256 * y) a) (says_eq (z + 256 * w) b) in
    let p = split_two a x y hx hy in
    let q = split_two b z w hz hw in
    let e : checks_of body ≡ two a (two b []) = checks_are body a b s in
    record {
      true_so = λ u. let v = r.true_so u in let i = p.1 v.0 in let j = q.1 v.1 in e ∙ cc (i.0, i.1, j.0, j.1, t);
      so_true = λ u.
          let v : two a (two b []) ≡ x ∷ y ∷ z ∷ w ∷ [] = sym e ∙ u ∙ t in
          r.so_true (p.0 (cc, cc), q.0 (cc, cc));
    }

pub seal_is : (l : List ℕ) → length l ≡ 512 → seal_of l ≡ take 508 l ++ checks_of (take 508 l)
unfolding seal_of
seal_is l e = rw (eq-eqb (length l) 512 e)

pub seal_not : (l : List ℕ) → (length l ≡ 512 → ⊥) → l ≡ seal_of l
unfolding seal_of
seal_not l n = rw (ne_eqb (length l) 512 n)

pub length_seal : (l : List ℕ) → length (seal_of l) ≡ length l
length_seal l =
    elim (eq_or (length l) 512) [
      | inl e ↦ (
          let p = length-append (take 508 l) (checks_of (take 508 l)) in
          ap length (seal_is l e) ∙ omega (arith, length-take 508 l, length_checks (take 508 l)))
      | inr n ↦ sym (ap length (seal_not l n))
    ]

eqb_flip : (a b : ℕ) → eqb a b ≡ eqb b a
eqb_flip a b = says_alike (says_eq a b) (says_eq b a) sym sym

module _ (l : List ℕ) (a b : ℕ) (size : length l ≡ 512) (s : sums 0 0 (take 508 l) ≡ (a, b)) where
  module _ (bytes : (i : ℕ) → get_or l i 0 < 256) where
    -- the check is right exactly where the two numbers that it states are the sums
    pub sealed_by : sealed l ≡ (eqb (two_at l 508) a && eqb (two_at l 510) b)
    sealed_by =
        says_alike (says-sealed l)
        (says_checks (take 508 l) (drop 508 l) a b (get_or l 508 0) (get_or l 509 0) (get_or l 510 0) (get_or l 511 0) (last-four l size) (bytes 508) (bytes 509) (bytes 510) (bytes 511) s)
        (λ e. e) (λ e. e)

    -- the same with x and y read from the two fields
    pub check_is : {t : Bool} {x y : ℕ} → x ≡ two_at l 508 → y ≡ two_at l 510 → t ≡ (eqb a x && eqb b y) → t ≡ sealed l
    check_is ex ey e = e ∙ rw (ex, ey, eqb_flip a (two_at l 508), eqb_flip b (two_at l 510)) (sym sealed_by)

  -- the check written as two fields
  pub seal_by : {t u : List ℕ} → t ≡ with_two l 508 a → u ≡ with_two t 510 b → u ≡ seal_of l
  seal_by et eu =
      eu ∙ rw et
      (sets-eq (two a (two b [])) l 508 (omega arith)
      ∙ rw (drop_of_length-le l {i = 512} (omega arith), append-nil (take 508 l ++ two a (two b [])), seal_is l size, checks_are (take 508 l) a b s))
