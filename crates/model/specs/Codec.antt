-- 512 bytes that state a thing by its named bytes: those, zeros to byte 507, and the four check bytes. The same for every kind of block.
-- Assumes nothing.
use Rattle.std.specs.Prelude.{suc, zero, ℕ, Bool, ◌&&◌, cond, List, [], ◌++◌, ◌∷◌, drop, take}
use Rattle.std.proofs.Math.Option.{Option, none, some}
use Rattle.block.specs.Check.{checks_of, sealed}
use Rattle.block.specs.Lists.{same}

-- n bytes: those of the list, then zeros. "Bytes not named, and those past a length, are zero."
abbrev pub pad_to : ℕ → List ℕ → List ℕ
pad_to zero l = []
pad_to (suc n) [] = 0 ∷ pad_to n []
pad_to (suc n) (x ∷ l) = x ∷ pad_to n l

unfoldable pub padded : List ℕ → List ℕ
padded l = pad_to 508 l

-- n parts of 512 bytes
abbrev pub parts : ℕ → List ℕ → List (List ℕ)
parts zero l = []
parts (suc n) l = take 512 l ∷ parts n (drop 512 l)

module _ {A : Type 0} (fields : A → List ℕ) where
  -- the 512 bytes
  unfoldable pub encode : A → List ℕ
  encode r = padded (fields r) ++ checks_of (padded (fields r))

  -- one after the other
  abbrev pub joined : List A → List ℕ
  joined [] = []
  joined (r ∷ rs) = encode r ++ joined rs

  module _ (parse : List ℕ → A) (fits : A → Bool) where
    -- bytes 0 to 507 are those of the thing that they would be, and its numbers fit their bytes
    unfoldable pub shaped : List ℕ → Bool
    shaped l = fits (parse l) && same (padded (fields (parse l))) (take 508 l)

    -- the thing that 512 bytes state, if they do
    unfoldable pub decode : List ℕ → Option A
    decode l = cond (sealed l && shaped l) (some (parse l)) none
