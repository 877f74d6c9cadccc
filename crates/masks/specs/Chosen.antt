-- A step over the sheets that a mask chooses: the lowest set bit of what is left, which is then cleared.
-- Assumes nothing.
use Rattle.std.specs.Prelude.{◌*◌, ◌+◌, ◌-◌, ◌<◌, ◌^◌, ◌≡◌, ℕ, MatchOption, Option}
use Rattle.masks.specs.declared.Chosen.{Chosen}

-- the lowest set bit t of n: n is odd above t, and 0 below
pub record Lowest (n t : ℕ) : Type 0 where
  pub rest : ℕ
  pub is : n ≡ (rest * 2 + 1) * 2 ^ t

-- sheet k, of 32
pub record Step (left k rest : ℕ) : Type 0 where
  pub lowest : Lowest left k
  pub inside : k < 32
  pub cleared : rest ≡ left - 2 ^ k

abbrev pub NextChosen : Chosen → Option ℕ → Chosen → Type 0
NextChosen a r b = MatchOption r (a.0 ≡ 0) (λ k. Step a.0 k b.0)
