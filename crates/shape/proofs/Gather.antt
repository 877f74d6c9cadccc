-- Where every byte is read and the bits that differ are gathered, none are exactly where the bytes are the same.
-- Assumes nothing.
use Prim.Native.Nat.{ℕ}
use mathlib.Core.Bool.{Bool, ◌&&◌, and_assoc, and-true}
use mathlib.Core.List.{List, [], ◌∷◌}
use mathlib.Core.Path.{◌∙◌, ◌≡◌, ap, sym}
use native.Mathlib.Omega.{arith}
use lib.Bits.{and_le_l, and_le_r, bit_or, bit_xor, xor_add_and, xor_self}
use lib.Dec.{eqb}
use lib.ListN.{length}
use Rattle.std.specs.List.{fold, zip}
use Rattle.block.proofs.Says.{says_alike, says_eq}
use Rattle.block.proofs.Turns.{or_zero_lem}
use Rattle.block.specs.Lists.{same}

-- no bits that differ
xor_zero : (a b : ℕ) → eqb (bit_xor a b) 0 ≡ eqb a b
xor_zero a b =
    says_alike (says_eq (bit_xor a b) 0) (says_eq a b)
    (λ e. omega (arith, xor_add_and a b, and_le_l a b, and_le_r a b, e))
    (λ e. ap (λ (x : ℕ). bit_xor x b) e ∙ xor_self b)

-- the bits that differ in a pair, with those before
abbrev pub differ : ℕ → ℕ × ℕ → ℕ
differ off p = bit_or off (bit_xor p.0 p.1)

from_off : (off : ℕ) (a b : List ℕ) → length a ≡ length b → eqb (fold differ off (zip a b)) 0 ≡ (eqb off 0 && same a b)
from_off off [] [] h = sym (and-true (eqb off 0))
from_off off [] (y ∷ b) h = absurd (omega arith)
from_off off (x ∷ a) [] h = absurd (omega arith)
from_off off (x ∷ a) (y ∷ b) h =
    from_off (bit_or off (bit_xor x y)) a b (omega arith)
    ∙ ap (λ (t : Bool). t && same a b) (or_zero_lem off (bit_xor x y) ∙ ap (λ (t : Bool). eqb off 0 && t) (xor_zero x y))
    ∙ and_assoc (eqb off 0) (eqb x y) (same a b)

pub same_gathered : (a b : List ℕ) → length a ≡ length b → eqb (fold differ 0 (zip a b)) 0 ≡ same a b
same_gathered a b h = from_off 0 a b h
