-- The first change of a commit block that names a sheet.
-- Assumes nothing.
use Rattle.std.specs.Prelude.{◌+◌, ◌≤◌, ℕ, None, Option, Some, cond, List, [], ◌∷◌, ◌≡◌, eqb, drop, length}
use Rattle.model.specs.Blocks.{Line, parse_line, parse_lines}

abbrev pub first_named : ℕ → List Line → Option Line
first_named i [] = None
first_named i (l ∷ ls) = cond (eqb l.sheet i) (Some l) (first_named i ls)

-- where it starts among the m changes from byte 16 on, if one names sheet i
abbrev pub NamedAt : ℕ → ℕ → List ℕ → Option ℕ → Type 0
NamedAt i m b None = first_named i (parse_lines m (drop 16 b)) ≡ None
NamedAt i m b (Some o) = (o + 8 ≤ length b) × (first_named i (parse_lines m (drop 16 b)) ≡ Some (parse_line (drop o b)))
