-- What is asked of a store whose releases are read.
-- Assumes nothing.
use Rattle.std.specs.Prelude.{◌*◌, ◌≤◌, ℕ, true, List, ◌≡◌, length}
use Rattle.model.specs.Pass.{ok}
use Rattle.model.specs.Store.{blocks_of}

-- n blocks at the start of a store, at most 4,096, that are laid as commits and marks
pub record Laid (store : List ℕ) (n : ℕ) : Type 0 where
  pub room : n * 512 ≤ length store
  pub few : n ≤ 4_096
  pub laid : ok (blocks_of n store) ≡ true
