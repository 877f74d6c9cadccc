-- A fresh copy, block by block, and the answers of create.
-- Assumes nothing.
use Rattle.std.specs.Prelude.{Err, Ok}
use Prim.Native.Nat.{◌*◌, ◌+◌, ◌-◌, ◌<◌, ◌≤◌, suc, ℕ}
use mathlib.Core.Bool.{◌&&◌, false}
use mathlib.Core.List.{List, [], ◌++◌, ◌∷◌, append_assoc, append-nil}
use mathlib.Core.Path.{◌∙◌, ◌≡◌, ap, refl, sym}
use native.Mathlib.Omega.{arith}
use borrow.Author.Tests.{eq-eqb, ne_eqb}
use borrow.Rule.Slice.PartMut.{put_mid}
use lib.Dec.{leb}
use lib.ListN.{drop, length, length-set, replicate, set, take}
use lib.Seq.{length-take-le, take_all, take-append-add, take_at}
use Rattle.block.specs.Check.{seal_of}
use Rattle.block.specs.Write.{written}
use Rattle.model.specs.Calls.{create_copy, fresh_copy}
use Rattle.model.specs.Codec.{encode, joined}
use Rattle.model.specs.Entry.{empty}
use Rattle.model.specs.WorkCopy.{copy_bytes, copy_fields, entry_block, seat_block}
use Rattle.model.specs.declared.Answer.TheVariants.{Done}
use Rattle.model.specs.declared.Refusal.TheVariants.{CopyLength, Range}
use Rattle.laws.proofs.Codec.{length-encode}
use Rattle.laws.proofs.Fresh.{create_copy_lem}
use Rattle.laws.proofs.Parts.{finish_is}
use Rattle.model.specs.Types.{created_as}

pub seat_is : (s : List ℕ) (seat : ℕ) {t u : List ℕ} → length s ≡ 512 → t ≡ written 2 (replicate 506 0) (set (set s 0 4) 1 seat) → u ≡ seal_of t
    → u ≡ encode copy_fields (seat_block seat)
seat_is s seat e et eu =
    finish_is copy_fields (seat_block seat) (set (set s 0 4) 1 seat) 2 (length-set (set s 0 4) 1 seat ∙ length-set s 0 4 ∙ e) (omega arith) (first s e) et eu
  where
    first : (s : List ℕ) → length s ≡ 512 → 4 ∷ seat ∷ [] ≡ take 2 (set (set s 0 4) 1 seat)
    first [] e = absurd (omega arith)
    first (x ∷ []) e = absurd (omega arith)
    first (x ∷ (y ∷ s)) e = refl

-- what stands before block i, and empty entries for the rest
pub so_far : List ℕ → ℕ → List ℕ
so_far l i = take (512 * i) l ++ joined copy_fields (replicate (33 - i) (entry_block empty))

pub fresh-first : (l : List ℕ) (k seat : ℕ) {y : List ℕ} → k ≡ 512 → y ≡ encode copy_fields (seat_block seat) → so_far (put_mid 0 k l y) 1 ≡ fresh_copy seat
unfolding so_far copy_bytes
fresh-first l k seat {y} e p =
    ap (λ (x : List ℕ). x ++ joined copy_fields (replicate 32 (entry_block empty)))
    (take_at y (drop k l) 512 (ap length p ∙ length-encode copy_fields (seat_block seat)) ∙ p)

pub fresh_step : (l : List ℕ) (k i : ℕ) {y : List ℕ} → k ≡ 512 → i < 33 → length l ≡ 16_896 → y ≡ encode copy_fields (entry_block empty)
    → so_far (put_mid (512 * i) k l y) (i + 1) ≡ so_far l i
unfolding so_far
fresh_step l k i {y} e h len p =
    let P = take (512 * i) l in
    let R = drop k (drop (512 * i) l) in
    let J = joined copy_fields (replicate (33 - (i + 1)) (entry_block empty)) in
    let lp : length P ≡ 512 * i = length-take-le (512 * i) l (omega arith) in
    let ly : length y ≡ 512 = ap length p ∙ length-encode copy_fields (entry_block empty) in
    let n : 512 * (i + 1) ≡ length P + 512 = omega arith in
    let m : suc (33 - (i + 1)) ≡ 33 - i = omega arith in
    let q : take (512 * (i + 1)) (P ++ (y ++ R)) ≡ P ++ y = rw n (take-append-add P (y ++ R) 512 ∙ ap (λ (x : List ℕ). P ++ x) (take_at y R 512 ly)) in
    ap (λ (x : List ℕ). x ++ J) q ∙ append_assoc P y J ∙ ap (λ (x : List ℕ). P ++ (x ++ J)) p
    ∙ ap (λ (x : ℕ). P ++ joined copy_fields (replicate x (entry_block empty))) m

pub fresh-done : (l : List ℕ) (i : ℕ) → i ≡ 33 → length l ≡ 16_896 → so_far l i ≡ l
unfolding so_far
fresh-done l i e len = ap (so_far l) e ∙ append-nil (take 16_896 l) ∙ take_all 16_896 l (omega arith)

module _ (l : List ℕ) (seat : ℕ) where
  pub create_length : (length l ≡ 16_896 → ⊥) → created_as (Err CopyLength) l ≡ create_copy l seat
  unfolding create_copy
  create_length ne = rw (ne_eqb (length l) 16_896 ne)

  module _ (e : length l ≡ 16_896) where
    pub create_range : (leb 1 seat && leb seat 4) ≡ false → created_as (Err Range) l ≡ create_copy l seat
    unfolding create_copy
    create_range h = rw (eq-eqb (length l) 16_896 e, h)

    pub create_done : {t : List ℕ} → 1 ≤ seat → seat ≤ 4 → t ≡ fresh_copy seat → created_as (Ok Done) t ≡ create_copy l seat
    create_done g h p = ap (created_as (Ok Done)) p ∙ sym (create_copy_lem l seat e g h)
