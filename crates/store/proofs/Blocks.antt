-- A store's blocks one after the other, and the bytes that one of them holds.
-- Assumes nothing.
use Prim.Native.Nat.{◌*◌, ◌+◌, ◌-◌, ◌<◌, ◌≤◌, suc, zero, ℕ}
use mathlib.Core.List.{List, [], ◌∷◌, map}
use mathlib.Core.Path.{◌∙◌, ◌≡◌, ap, refl, sym}
use native.Mathlib.Omega.{arith}
use borrow.Author.Tests.{ne_eqb}
use lib.Dec.{eqb}
use lib.ListN.{get_or-eq_default, drop, get_or, length, length-drop, length-take, take}
use lib.Seq.{drop-drop}
use Rattle.block.specs.Lists.{same}
use Rattle.model.specs.Blocks.{Block, FitsBlock, blank, bytes_at, fields_of, fits_block, held, parse}
use Rattle.model.specs.Codec.{parts}
use Rattle.model.specs.Store.{blocks_of}
use Rattle.laws.proofs.BlockCodes.{block_coded}
use Rattle.laws.proofs.Codec.{length-parts}

-- part p, as it is lent by `&store[a..e]`
abbrev pub lent : List ℕ → ℕ → List ℕ
lent s p = take (p * 512 + 512 - p * 512) (drop (p * 512) s)

pub lent_is : (s : List ℕ) (p : ℕ) → lent s p ≡ take 512 (drop (p * 512) s)
lent_is s p = let e : p * 512 + 512 - p * 512 ≡ 512 = omega arith in ap (λ (k : ℕ). take k (drop (p * 512) s)) e

pub part_size : (s : List ℕ) (n p : ℕ) → n * 512 ≤ length s → p < n → length (lent s p) ≡ 512
part_size s n p e h = simp (length-take, length-drop) (omega arith)

-- the blocks of a store
pub length-blocks : (n : ℕ) (s : List ℕ) → length (blocks_of n s) ≡ n
unfolding blocks_of
length-blocks n s = length-parts fields_of parse fits_block FitsBlock block_coded n s

-- the first of them
pub blocks-taken : (k n : ℕ) (s : List ℕ) → k ≤ n → blocks_of k s ≡ take k (blocks_of n s)
unfolding blocks_of
blocks-taken zero n s h = refl
blocks-taken (suc k) zero s h = absurd (omega arith)
blocks-taken (suc k) (suc n) s h = ap (λ (bs : List Block). parse (take 512 s) ∷ bs) (blocks-taken k n (drop 512 s) (omega arith))

part_at : (n p : ℕ) (l : List ℕ) → p < n → get_or (map parse (parts n l)) p blank ≡ parse (take 512 (drop (p * 512) l))
part_at zero p l h = absurd (omega arith)
part_at (suc n) zero l h = refl
part_at (suc n) (suc p) l h =
    let e : 512 + p * 512 ≡ suc p * 512 = omega arith in
    part_at n p (drop 512 l) (omega arith) ∙ ap (λ (x : List ℕ). parse (take 512 x)) (drop-drop (p * 512) 512 l ∙ ap (λ (k : ℕ). drop k l) e)

pub block_at : (n p : ℕ) (s : List ℕ) → p < n → get_or (blocks_of n s) p blank ≡ parse (lent s p)
unfolding blocks_of
block_at n p s h = part_at n p s h ∙ ap parse (sym (lent_is s p))

-- what block p holds, in the store and past its end
pub bytes_in_lem : (n p : ℕ) (s : List ℕ) → p < n → bytes_at (blocks_of n s) p ≡ held (parse (lent s p))
unfolding bytes_at
bytes_in_lem n p s h = ap held (block_at n p s h)

pub bytes_past : (n p : ℕ) (s : List ℕ) → n ≤ p → bytes_at (blocks_of n s) p ≡ []
unfolding bytes_at
bytes_past n p s h = ap held (get_or-eq_default (blocks_of n s) blank {n = p} (omega (arith, length-blocks n s)))

-- a list is the same as none exactly if it has no element
pub same-nil : (a : List ℕ) → same a [] ≡ eqb (length a) 0
same-nil [] = refl
same-nil (x ∷ a) = sym (ne_eqb (suc (length a)) 0 (λ e. omega arith))
