-- One block more that is cleared, from the end.
-- Assumes nothing.
use Prim.Native.Nat.{◌*◌, ◌+◌, ◌-◌, ◌≤◌, ℕ}
use mathlib.Core.List.{List, ◌++◌, append_assoc}
use mathlib.Core.Path.{◌∙◌, ◌≡◌, ap, ap₂, sym}
use native.Mathlib.Omega.{arith}
use lib.ListN.{drop, length, length-drop, length-replicate, replicate, replicate-append-replicate, take, take-append-drop}
use lib.Seq.{length-take-le, take-append-add}
use Rattle.block.proofs.Writing.{written_at}
use Rattle.block.specs.Write.{written}
use Rattle.model.specs.Store.{blank_from}

-- the zeros that `block::clear` writes into block q
pub clear_next : (l now : List ℕ) (p q : ℕ) → now ≡ blank_from p l → p ≡ q + 1 → p * 512 ≤ length l
    → written (q * 512) (replicate (q * 512 + 512 - q * 512) 0) now ≡ blank_from q l
unfolding blank_from
clear_next l now p q e s h =
    let A = take (512 * q) l in
    let D = drop (512 * q) l in
    let a : length A ≡ q * 512 = length-take-le (512 * q) l (omega arith) ∙ omega arith in
    let n : 512 * p ≡ length A + 512 = omega arith in
    let w : q * 512 + 512 - q * 512 ≡ 512 = omega arith in
    let m : length (take 512 D) ≡ length (replicate {A = ℕ} 512 0) = length-take-le 512 D (simp length-drop (omega arith)) ∙ sym (length-replicate {A = ℕ} 512 0) in
    let k : 512 + (length l - 512 * p) ≡ length l - 512 * q = omega arith in
    let z : List ℕ = replicate (length l - 512 * p) 0 in
    let f : take (512 * p) l ≡ A ++ take 512 D = ap₂ take n (sym (take-append-drop (512 * q) l)) ∙ take-append-add A D 512 in
    ap₂ (λ (x : ℕ) (y : List ℕ). written (q * 512) (replicate x 0) y) w (e ∙ ap (λ (x : List ℕ). x ++ z) f ∙ append_assoc A (take 512 D) z)
    ∙ written_at (q * 512) A (take 512 D) (replicate 512 0) z a m
    ∙ ap (λ (x : List ℕ). A ++ x) (replicate-append-replicate 512 (length l - 512 * p) 0 ∙ ap (λ (x : ℕ). replicate {A = ℕ} x 0) k)

pub blank_at : (l : List ℕ) (p q : ℕ) → p ≡ q → blank_from p l ≡ blank_from q l
blank_at l p q e = ap (λ (x : ℕ). blank_from x l) e
