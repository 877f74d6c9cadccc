-- Text: lines, words, decimal numbers and HEX, read and printed. A text is a list of bytes. Every definition computes.
-- Assumes nothing.
use Rattle.std.specs.Prelude.{◌%◌, ◌*◌, ◌+◌, ◌-◌, ◌/◌, ◌≤◌, suc, zero, ℕ, Bool, ◌&&◌, cond, false, not, List, [], ◌++◌, ◌∷◌, eqb, leb, ltb, length, take, Option as TheOption, None, Some}
use Rattle.std.proofs.Math.Option.{Option, none, some}
use Rattle.block.specs.Lists.{all}

-- ---- lines and words

-- x put before the first of some texts
abbrev pub heads : ℕ → List (List ℕ) → List (List ℕ)
heads x [] = (x ∷ []) ∷ []
heads x (l ∷ ls) = (x ∷ l) ∷ ls

-- "Lines end with a newline, the last one maybe not."
unfoldable pub lines : List ℕ → List (List ℕ)
lines [] = []
lines (x ∷ s) = cond (eqb x 10) ([] ∷ lines s) (heads x (lines s))

-- "one space between": two spaces have an empty word between them
unfoldable pub words : List ℕ → List (List ℕ)
words [] = [] ∷ []
words (x ∷ s) = cond (eqb x 32) ([] ∷ words s) (heads x (words s))

-- how many bytes stand before the first b
unfoldable pub span_of : ℕ → List ℕ → ℕ
span_of b [] = 0
span_of b (x ∷ s) = cond (eqb x b) 0 (span_of b s + 1)

-- ---- numbers

-- the digit that a byte is: `0` to `9`, then `a` to `f`; 16 where it is none
unfoldable pub digit_of : ℕ → ℕ
digit_of x = cond (leb 48 x) (cond (leb x 57) (x - 48) (cond (leb 97 x) (cond (leb x 102) (x - 87) 16) 16)) 16

-- the number that n and the digits after it make, if it is not "a number above 4,294,967,295"
unfoldable pub value_of : ℕ → List ℕ → Option ℕ
value_of n [] = some n
value_of n (x ∷ w) = cond (ltb (digit_of x) 10) (cond (leb (10 * n + digit_of x) 4_294_967_295) (value_of (10 * n + digit_of x) w) none) none

-- "other numbers are decimal"; "a leading zero" makes none, and `0` has no leading zero
unfoldable pub number_of : List ℕ → Option ℕ
number_of [] = none
number_of (x ∷ []) = value_of 0 (x ∷ [])
number_of (x ∷ y ∷ w) = cond (eqb x 48) none (value_of 0 (x ∷ y ∷ w))

-- the decimal digits of n, at most k of them
unfoldable pub decimal_in : ℕ → ℕ → List ℕ
decimal_in zero n = []
decimal_in (suc k) n = cond (ltb n 10) ((48 + n) ∷ []) (decimal_in k (n / 10) ++ ((48 + n % 10) ∷ []))

-- a number as it is printed: of one that has 32 bits, these are all its digits
abbrev pub decimal_of : ℕ → List ℕ
decimal_of n = decimal_in 10 n

-- ---- HEX

abbrev pub is_digit : ℕ → Bool
is_digit x = ltb (digit_of x) 16

-- a byte of each pair of digits
unfoldable pub pairs_of : List ℕ → List ℕ
pairs_of [] = []
pairs_of (x ∷ []) = []
pairs_of (x ∷ y ∷ w) = (16 * digit_of x + digit_of y) ∷ pairs_of w

-- one pair or more
abbrev pub are_pairs : List ℕ → Bool
are_pairs w = not (eqb (length w) 0) && (eqb (length w % 2) 0 && all is_digit w)

abbrev pub is_dash : List ℕ → Bool
is_dash [] = false
is_dash (x ∷ []) = eqb x 45
is_dash (x ∷ y ∷ w) = false

-- "HEX is lower-case pairs or `-` for no bytes"
unfoldable pub hex_of : List ℕ → Option (List ℕ)
hex_of w = cond (is_dash w) (some []) (cond (are_pairs w) (some (pairs_of w)) none)

-- the byte of a digit
abbrev pub glyph_of : ℕ → ℕ
glyph_of d = cond (ltb d 10) (48 + d) (87 + d)

unfoldable pub hex_pairs : List ℕ → List ℕ
hex_pairs [] = []
hex_pairs (x ∷ s) = glyph_of (x / 16) ∷ glyph_of (x % 16) ∷ hex_pairs s

-- bytes as they are printed
unfoldable pub hex_text : List ℕ → List ℕ
hex_text [] = 45 ∷ []
hex_text (x ∷ s) = hex_pairs (x ∷ s)

-- ---- the answers of the code

-- a number, or none
abbrev pub numbered : TheOption ℕ → Option ℕ
numbered (Some n) = some n
numbered None = none

-- that many bytes at the start of a buffer, or none
abbrev pub hexed : TheOption ℕ → List ℕ → Option (List ℕ)
hexed (Some n) l = some (take n l)
hexed None l = none

-- the bytes, where there are any
abbrev pub bytes_or : Option (List ℕ) → List ℕ
bytes_or none = []
bytes_or (some x) = x

-- they lie within a buffer of k bytes
abbrev pub HexFits : TheOption ℕ → ℕ → Type 0
HexFits (Some n) k = n ≤ k
HexFits None k = Unit {0}
