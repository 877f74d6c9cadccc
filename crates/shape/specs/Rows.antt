-- The tables in one flat array: row v has the 32 numbers of tree v.
-- Assumes nothing.
use Rattle.std.specs.Prelude.{◌*◌, ◌+◌, ◌<◌, ◌≤◌, suc, zero, ℕ, List, [], ◌++◌, ◌∷◌, drop, get_or, length, take}
use Rattle.model.specs.Blocks.{parse_lines}
use Rattle.model.specs.Layout.{NoneTwice, Table}

abbrev pub row_of : ℕ → List ℕ → Table
row_of v l = take 32 (drop (32 * v) l)

-- the first n rows
unfoldable pub rows_of : ℕ → List ℕ → List Table
rows_of zero l = []
rows_of (suc n) l = rows_of n l ++ (row_of n l ∷ [])

-- what `grow` asks: row r − 1 stands and row r has room in the array, and the m changes from byte `base` on name sheets 0 to 31, none twice
pub record Growable (tab : List ℕ) (r : ℕ) (s : List ℕ) (base m : ℕ) : Type 0 where
  pub some : 1 ≤ r
  pub room : 32 * r + 32 ≤ length tab
  pub lines : base + 8 * m ≤ length s
  pub few : m ≤ 32
  pub sheets : (j : ℕ) → j < m → get_or s (base + 8 * j) 0 < 32
  pub once : NoneTwice (parse_lines m (drop base s))
