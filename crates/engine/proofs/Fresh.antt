-- A store of zeros with the label sealed in it is the fresh store; and what create answers.
-- Assumes nothing.
use Rattle.std.specs.Prelude.{Err, Ok, Result}
use Prim.Native.Nat.{◌*◌, ◌+◌, ◌-◌, ◌≤◌, suc, zero, ℕ}
use mathlib.Core.Bool.{Bool, cond, false, true}
use mathlib.Core.List.{List, ◌++◌, append-nil}
use mathlib.Core.Option.{none, some}
use mathlib.Core.Path.{◌∙◌, ◌≡◌, ap, ap₂, refl, sym}
use native.Mathlib.Omega.{arith}
use lib.ListN.{drop_of_length-le, length, length-append, length-replicate, replicate, replicate-append-replicate, set}
use lib.Seq.{drop_at, set-append_left, take_at}
use Rattle.block.proofs.Parts.{seal_at_is}
use Rattle.block.proofs.Writing.{written_mid}
use Rattle.block.specs.Buffer.{seal_at}
use Rattle.block.specs.Check.{checks_of, seal_of}
use Rattle.block.specs.Write.{written}
use Rattle.model.proofs.Layouts.{blank-zero}
use Rattle.model.specs.Blocks.{blank, fields_of, label}
use Rattle.model.specs.Calls.{Created, create_by, create_copy, create_store, fresh_copy, fresh_store, size_condition}
use Rattle.model.specs.Codec.{encode, joined, padded}
use Rattle.model.specs.History.{Bytes}
use Rattle.model.specs.Store.{block_count}
use Rattle.model.specs.Types.{created_as}
use Rattle.model.specs.declared.Answer.{Answer}
use Rattle.model.specs.declared.Answer.TheVariants.{Done}
use Rattle.model.specs.declared.Refusal.TheVariants.{StoreLength}
use Rattle.laws.proofs.Conditions.{sized_so}
use Rattle.laws.proofs.Fresh.{create_copy_lem, create_store_lem}
use Rattle.model.specs.declared.Refusal.{Refusal}

-- zeros written over all bytes
pub all-zero : (l : List ℕ) → written 0 (replicate (length l - 0) 0) l ≡ replicate (length l) 0
all-zero l =
    let n : length l - 0 ≡ length l = omega arith in
    let zeros : List ℕ = replicate (length l) 0 in
    let z : length zeros ≡ length l = length-replicate (length l) 0 in
    ap (λ (k : ℕ). written 0 (replicate k 0) l) n
    ∙ written_mid 0 (replicate (length l) 0) l (omega arith)
    ∙ ap (λ (x : List ℕ). replicate (length l) 0 ++ x) (drop_of_length-le l {i = 0 + length zeros} (omega arith))
    ∙ append-nil (replicate (length l) 0)

-- the label's two bytes in a block of zeros
abbrev marked : List ℕ
marked = set (set (replicate 512 0) 0 1) 1 1

sealed-label : seal_of marked ≡ encode fields_of label
unfolding seal_of checks_of encode padded
sealed-label = refl

blanks-zero : (m : ℕ) → joined fields_of (replicate m blank) ≡ replicate (m * 512) 0
blanks-zero zero = refl
blanks-zero (suc m) =
    ap₂ (λ (x y : List ℕ). x ++ y) blank-zero (blanks-zero m) ∙ replicate-append-replicate 512 (m * 512) 0
    ∙ (let e : 512 + m * 512 ≡ suc m * 512 = omega arith in ap (λ (n : ℕ). replicate n 0) e)

first-sealed : (z : List ℕ) → seal_at (marked ++ z) 0 ≡ encode fields_of label ++ z
first-sealed z =
    let n : length (marked ++ z) ≡ 512 + length z = length-append marked z in
    seal_at_is (marked ++ z) 0 (omega (arith, n))
    ∙ ap₂ (λ (x y : List ℕ). seal_of x ++ y) (take_at marked z 512 refl) (drop_at marked z 512 refl)
    ∙ ap (λ (x : List ℕ). x ++ z) sealed-label

pub fresh-bytes : (n len : ℕ) → len ≡ n * 512 → 1 ≤ n → seal_at (set (set (replicate len 0) 0 1) 1 1) 0 ≡ fresh_store n
fresh-bytes n len e h =
    let d : len ≡ 512 + (n - 1) * 512 = omega (arith, e) in
    let z : List ℕ = replicate ((n - 1) * 512) 0 in
    ap (λ (m : ℕ). seal_at (set (set (replicate m 0) 0 1) 1 1) 0) d
    ∙ ap (λ (x : List ℕ). seal_at (set (set x 0 1) 1 1) 0) (sym (replicate-append-replicate 512 ((n - 1) * 512) 0))
    ∙ ap (λ (x : List ℕ). seal_at (set x 1 1) 0) (set-append_left (replicate 512 0) z 0 1 (omega arith))
    ∙ ap (λ (x : List ℕ). seal_at x 0) (set-append_left (set (replicate 512 0) 0 1) z 1 1 (omega arith))
    ∙ first-sealed z
    ∙ ap (λ (x : List ℕ). encode fields_of label ++ x) (sym (blanks-zero (n - 1)))

pub create_refused : (l : Bytes) → (size_condition l).holds ≡ true → created_as (Err StoreLength) l ≡ create_store l
unfolding create_store
create_refused l e = sym (ap (λ (t : Bool). create_by (cond t (some 1) none) l (fresh_store (block_count l))) e)

pub create_done : (l m : Bytes) → (size_condition l).holds ≡ false → m ≡ seal_at (set (set (replicate (length l) 0) 0 1) 1 1) 0 → created_as (Ok Done) m ≡ create_store l
unfolding create_store
create_done l m e q =
    let p = sized_so l e in
    ap (created_as (Ok Done)) (q ∙ fresh-bytes (block_count l) (length l) p.0 (omega (arith, p.1)))
    ∙ sym (ap (λ (t : Bool). create_by (cond t (some 1) none) l (fresh_store (block_count l))) e)

-- what a caller of create learns of a buffer of the right length
pub store-made : (N : ℕ) (l m : Bytes) (r : Result Answer Refusal) → length l ≡ N * 512 → 2 ≤ N → N ≤ 4_096 → created_as r m ≡ create_store l → m ≡ fresh_store N
store-made N l m r e lo hi q = ap (λ (c : Created). c.buffer) (q ∙ create_store_lem N l e lo hi)

pub copy-made : (l m : Bytes) (r : Result Answer Refusal) (k : ℕ) → length l ≡ 16_896 → 1 ≤ k → k ≤ 4 → created_as r m ≡ create_copy l k → m ≡ fresh_copy k
copy-made l m r k e lo hi q = ap (λ (c : Created). c.buffer) (q ∙ create_copy_lem l k e lo hi)
