-- The changes of a commit block that a loop over them has still to see.
-- Assumes nothing.
use Rattle.std.specs.Prelude.{◌*◌, ◌+◌, ◌-◌, ℕ, List, drop}
use Rattle.model.specs.Blocks.{Line, parse_lines}

-- the changes from the j-th on, where m stand from byte `base` on
abbrev pub left : List ℕ → ℕ → ℕ → ℕ → List Line
left s base m j = parse_lines (m - j) (drop (base + 8 * j) s)
