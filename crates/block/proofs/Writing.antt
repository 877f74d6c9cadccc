-- A run of elements written: the list that comes out, where it fits and where it reaches past the end.
-- Assumes nothing.
use Prim.Native.Nat.{ℕ, suc, ◌+◌, ◌-◌, ◌/◌, ◌%◌, ◌≤◌, ◌<◌, min}
use mathlib.Core.Path.{◌≡◌, refl, sym, ap, ◌∙◌}
use mathlib.Core.List.{List, [], ◌∷◌, ◌++◌, append_assoc}
use mathlib.Core.Logic.{inl, inr}
use native.Mathlib.Omega.{arith}
use native.Mathlib.Numerals.{add-one}
use native.Mathlib.Nat.{add-zero}
use borrow.Rule.Slice.PartMut.{put_mid}
use lib.ListN.{length, set, take, drop, get_or, replicate, length-append, length-replicate, length-set, length-take, drop_of_length-le, take-append-drop}
use lib.Seq.{sets, sets-eq, set_out, take_at, drop_at, drop-cons, drop-drop}
use Rattle.std.specs.Int.{w16, w32, to_le_bytes}
use Rattle.std.proofs.lemmas.List.{take-replicate}
use Rattle.block.specs.Field.{with_two, with_four}
use Rattle.block.specs.Write.{written}
use Rattle.block.proofs.Says.{lt_or_ge}

module _ {A : Type 0} where
  pub written_none : (at : ℕ) (l : List A) → written at [] l ≡ l
  unfolding written
  written_none at l = refl

  pub written_one : (at : ℕ) (v : A) (vs l : List A) → written at (v ∷ vs) l ≡ written (at + 1) vs (set l at v)
  unfolding written
  written_one at v vs l = ap (λ (k : ℕ). written k vs (set l at v)) (sym (add-one at))

  pub length-written : (at : ℕ) (vs l : List A) → length (written at vs l) ≡ length l
  length-written at [] l = ap length (written_none at l)
  length-written at (v ∷ vs) l = ap length (written_one at v vs l) ∙ length-written (at + 1) vs (set l at v) ∙ length-set l at v

  -- nothing is written past the end
  pub written_past : (at : ℕ) (vs l : List A) → length l ≤ at → written at vs l ≡ l
  written_past at [] l h = written_none at l
  written_past at (v ∷ vs) l h = written_one at v vs l ∙ ap (written (at + 1) vs) (set_out l at v h) ∙ written_past (at + 1) vs l (omega arith)

  -- first one run and then the next
  pub written_both : (at : ℕ) (us vs l : List A) → written at (us ++ vs) l ≡ written (at + length us) vs (written at us l)
  written_both at [] vs l = rw (add-zero at, written_none at l)
  written_both at (u ∷ us) vs l =
      let e : at + 1 + length us ≡ at + suc (length us) = omega arith in
      written_one at u (us ++ vs) l ∙ written_both (at + 1) us vs (set l at u)
      ∙ ap (λ (k : ℕ). written k vs (written (at + 1) us (set l at u))) e
      ∙ ap (written (at + suc (length us)) vs) (sym (written_one at u us l))

  is_sets : (at : ℕ) (vs l : List A) → written at vs l ≡ sets l at vs
  unfolding written
  is_sets at [] l = refl
  is_sets at (v ∷ vs) l = is_sets (suc at) vs (set l at v)

  -- where it fits: what stands before, the new elements, what stands after
  pub written_mid : (at : ℕ) (vs l : List A) → at + length vs ≤ length l → written at vs l ≡ take at l ++ (vs ++ drop (at + length vs) l)
  written_mid at vs l h = is_sets at vs l ∙ sets-eq vs l at h ∙ append_assoc (take at l) vs (drop (at + length vs) l)

  -- the same with the two sides named
  pub written_at : (at : ℕ) (a m vs b : List A) → length a ≡ at → length m ≡ length vs → written at vs (a ++ (m ++ b)) ≡ a ++ (vs ++ b)
  written_at at a m vs b p q =
      written_mid at vs (a ++ (m ++ b)) (simp length-append (omega arith))
      ∙ ap (λ (x : List A). x ++ (vs ++ drop (at + length vs) (a ++ (m ++ b)))) (take_at a (m ++ b) at p)
      ∙ ap (λ (x : List A). a ++ (vs ++ x))
      (ap (drop (at + length vs)) (sym (append_assoc a m b)) ∙ drop_at (a ++ m) b (at + length vs) (simp length-append (omega arith)))

  -- of a run that reaches past the end, what fits; k is n, as the code takes it from its two ends
  pub written_fits : (at n : ℕ) (vs l : List A) {k : ℕ} → k ≡ n → at ≤ length l → n ≡ min (length vs) (length l - at) → put_mid at k l (take n vs) ≡ written at vs l
  written_fits at n vs l {k} e h f =
      let fits : length (take n vs) ≡ n = omega (arith, length-take n vs) in
      rw (e, drop-drop n at l)
      (sym (ap (λ (x : List A). written at x l) (sym (take-append-drop n vs))
      ∙ written_both at (take n vs) (drop n vs) l
      ∙ rest fits
      ∙ written_mid at (take n vs) l (omega arith)
      ∙ ap (λ (j : ℕ). take at l ++ (take n vs ++ drop (at + j) l)) fits))
    where
      rest : length (take n vs) ≡ n → written (at + length (take n vs)) (drop n vs) (written at (take n vs) l) ≡ written at (take n vs) l
      rest fits =
          elim (lt_or_ge n (length vs)) [
            | inl g ↦ written_past (at + length (take n vs)) (drop n vs) (written at (take n vs) l) (omega (arith, length-written at (take n vs) l))
            | inr g ↦ rw (drop_of_length-le vs {i = n} g) (written_none (at + length (take n vs)) (written at (take n vs) l))
          ]

-- a loop that writes one byte a turn: what is left to write from byte i on
module _ (at i : ℕ) (vs l : List ℕ) where
  pub write_step : i < length vs → written (at + (i + 1)) (drop (i + 1) vs) (set l (at + i) (get_or vs i 0)) ≡ written (at + i) (drop i vs) l
  write_step h =
      let f : at + i + 1 ≡ at + (i + 1) = omega arith in
      sym (ap (λ (x : List ℕ). written (at + i) x l) (drop-cons vs i 0 h)
      ∙ written_one (at + i) (get_or vs i 0) (drop (suc i) vs) l
      ∙ ap (λ (k : ℕ). written k (drop (suc i) vs) (set l (at + i) (get_or vs i 0))) f
      ∙ ap (λ (k : ℕ). written (at + (i + 1)) (drop k vs) (set l (at + i) (get_or vs i 0))) (sym (add-one i)))

  pub write_done : min (length vs) (length l - at) ≤ i → written (at + i) (drop i vs) l ≡ l
  write_done h =
      elim (lt_or_ge i (length vs)) [
        | inl g ↦ written_past (at + i) (drop i vs) l (omega arith)
        | inr g ↦ rw (drop_of_length-le vs {i = i} g) (written_none (at + i) l)
      ]

pub write_all : (at : ℕ) (vs l : List ℕ) → written (at + 0) (drop 0 vs) l ≡ written at vs l
write_all at vs l = rw (add-zero at)

-- zeros up to before `to`, or to the end
module _ (from to : ℕ) (l : List ℕ) where
  pub cleared : (end : ℕ) {zeros : List ℕ} → end ≡ min to (length l) → from < end → zeros ≡ replicate (end - from) 0 → put_mid from (end - from) l zeros ≡ written from (replicate (to - from) 0) l
  cleared end e h z =
      let le : end - from ≤ to - from = omega arith in
      rw (z, ← take-replicate {X = ℕ} (end - from) (to - from) 0 le)
      (written_fits from (end - from) (replicate (to - from) 0) l refl (omega arith) (omega (arith, length-replicate {A = ℕ} (to - from) 0)))

  pub clear_none : min to (length l) ≤ from → l ≡ written from (replicate (to - from) 0) l
  clear_none h =
      elim (lt_or_ge from to) [
        | inl g ↦ sym (written_past from (replicate (to - from) 0) l (omega arith))
        | inr g ↦ (let e : to - from ≡ 0 = omega arith in sym (ap (λ (k : ℕ). written from (replicate k 0) l) e ∙ written_none from l))
      ]

-- the bytes of a number, low byte first
module _ (k v : ℕ) (l : List ℕ) where
  pub two_written : v < 65_536 → written k (to_le_bytes w16 v) l ≡ with_two l k v
  unfolding written
  two_written h =
      let e : v / 256 % 256 ≡ v / 256 = omega arith in
      rw e

  pub four_written : v < 4_294_967_296 → written k (to_le_bytes w32 v) l ≡ with_four l k v
  unfolding written
  four_written h =
      let e : v / 65_536 ≡ v / 256 / 256 = omega arith in
      let f : v / 16_777_216 % 256 ≡ v / 256 / 256 / 256 = omega arith in
      rw (e, f)
