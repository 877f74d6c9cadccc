-- A block as a part of a buffer: read, put back, and left alone; and its first 16 bytes one by one.
-- Assumes nothing.
use Prim.Native.Nat.{ℕ, suc, ◌+◌, ◌-◌, ◌*◌, ◌/◌, ◌≤◌, ◌<◌, min}
use mathlib.Core.Path.{◌≡◌, refl, sym, ap, ◌∙◌}
use mathlib.Core.List.{List, ◌++◌, ◌∷◌, append_assoc}
use mathlib.Core.Logic.{inl, inr}
use native.Mathlib.Omega.{arith}
use borrow.Author.Tests.{lt-ltb, le-ltb}
use borrow.Rule.Slice.PartMut.{put_mid}
use lib.ListN.{length, get_or, take, drop, length-append, length-take, length-drop, take-append-drop}
use lib.Seq.{length-take-le, take-append-le, drop-append-le, drop-append-add, drop-cons, drop-drop}
use Rattle.block.specs.Check.{seal_of}
use Rattle.block.specs.Buffer.{block_at, with_block, seal_at}
use Rattle.block.proofs.Says.{lt_or_ge}

module _ (l : List ℕ) (j : ℕ) where
  length-block : length (block_at l j) ≡ min 512 (length l - 512 * j)
  length-block = simp (length-take, length-drop)

  pub no_block : length l / 512 ≤ j → length (block_at l j) ≡ 512 → ⊥
  no_block h e = omega (arith, length-block)

  pub block_size : j < length l / 512 → length (block_at l j) ≡ 512
  block_size h = omega (arith, length-block)

  -- as the code takes it, with k from its two ends
  pub part_is : (k : ℕ) → k ≡ 512 → take k (drop (512 * j) l) ≡ block_at l j
  part_is k e = rw e

  pub seal_at_is : j < length l / 512 → seal_at l j ≡ with_block l j (seal_of (block_at l j))
  unfolding seal_at
  seal_at_is h = rw (lt-ltb j (length l / 512) h)

  pub seal_at-not : length l / 512 ≤ j → l ≡ seal_at l j
  unfolding seal_at
  seal_at-not h = rw (le-ltb j (length l / 512) h)

  pub seal_at_by : (k : ℕ) {b : List ℕ} → k ≡ 512 → j < length l / 512 → b ≡ seal_of (take k (drop (512 * j) l)) → put_mid (512 * j) k l b ≡ seal_at l j
  seal_at_by k e h eb = rw (eb, e, drop-drop 512 (512 * j) l) (sym (seal_at_is h))

  put_back : with_block l j (block_at l j) ≡ l
  put_back = rw (← drop-drop 512 (512 * j) l, take-append-drop 512 (drop (512 * j) l)) (take-append-drop (512 * j) l)

-- what lies in the first of two lists, whatever the second is
take-front : (p q r : List ℕ) (a n : ℕ) → a + n ≤ length p → take n (drop a (p ++ q)) ≡ take n (drop a (p ++ r))
take-front p q r a n h = one q ∙ sym (one r)
  where
    one : (q : List ℕ) → take n (drop a (p ++ q)) ≡ take n (drop a p)
    one q = ap (take n) (drop-append-le a p q (omega arith)) ∙ take-append-le n (drop a p) q (omega (arith, length-drop a p))

-- what lies in the second, whatever the first is
drop-back : (p q r : List ℕ) (a n : ℕ) → length p ≡ n → length q ≡ n → n ≤ a → drop a (p ++ r) ≡ drop a (q ++ r)
drop-back p q r a n ep eq h = one p ep ∙ sym (one q eq)
  where
    one : (p : List ℕ) → length p ≡ n → drop a (p ++ r) ≡ drop (a - n) r
    one p e =
        let d : a ≡ length p + (a - n) = omega arith in
        ap (λ (m : ℕ). drop m (p ++ r)) d ∙ drop-append-add p r (a - n)

-- other bytes in the place of block j leave block i
pub put-leaves : (l b : List ℕ) (i j : ℕ) → j < length l / 512 → length b ≡ 512 → (i ≡ j → ⊥) → block_at (with_block l j b) i ≡ block_at l i
put-leaves l b i j h e ne =
    elim (lt_or_ge i j) [
      | inl m ↦ take-front p (b ++ r) (block_at l j ++ r) (512 * i) 512 (omega (arith, length-take (512 * j) l))
      | inr m ↦ ap (take 512)
          (ap (drop (512 * i)) (sym (append_assoc p b r))
          ∙ drop-back (p ++ b) (p ++ block_at l j) r (512 * i) (512 * j + 512) (whole b e) (whole (block_at l j) (block_size l j h)) (omega (arith, ne))
          ∙ ap (drop (512 * i)) (append_assoc p (block_at l j) r))
    ]
    ∙ ap (λ (x : List ℕ). block_at x i) (put_back l j)
  where
    p : List ℕ
    p = take (512 * j) l

    r : List ℕ
    r = drop (512 * j + 512) l

    whole : (b : List ℕ) → length b ≡ 512 → length (p ++ b) ≡ 512 * j + 512
    whole b e = omega (arith, length-append p b, length-take-le (512 * j) l (omega arith))

-- the first 16 bytes one by one
pub first_sixteen : (l : List ℕ) → 16 ≤ length l
    → l ≡ get_or l 0 0 ∷ get_or l 1 0 ∷ get_or l 2 0 ∷ get_or l 3 0 ∷ get_or l 4 0 ∷ get_or l 5 0 ∷ get_or l 6 0 ∷ get_or l 7 0
    ∷ get_or l 8 0 ∷ get_or l 9 0 ∷ get_or l 10 0 ∷ get_or l 11 0 ∷ get_or l 12 0 ∷ get_or l 13 0 ∷ get_or l 14 0 ∷ get_or l 15 0 ∷ drop 16 l
first_sixteen l h =
    at 0 (omega arith) (at 1 (omega arith) (at 2 (omega arith) (at 3 (omega arith) (at 4 (omega arith) (at 5 (omega arith) (at 6 (omega arith) (at 7 (omega arith)
    (at 8 (omega arith) (at 9 (omega arith) (at 10 (omega arith) (at 11 (omega arith) (at 12 (omega arith) (at 13 (omega arith) (at 14 (omega arith) (at 15 (omega arith) refl)))))))))))))))
  where
    at : (j : ℕ) → j < length l → {r : List ℕ} → drop (suc j) l ≡ r → drop j l ≡ get_or l j 0 ∷ r
    at j g e = drop-cons l j 0 g ∙ ap (λ (x : List ℕ). get_or l j 0 ∷ x) e
