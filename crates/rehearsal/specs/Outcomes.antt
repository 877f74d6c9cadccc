-- What `rehearse` hands back of any settings and steps: the day's tallies, if there are four settings and every number is in range.
-- Assumes nothing.
use Rattle.std.specs.Prelude.{ℕ, Bool, ◌&&◌, cond, List, map, Option, None, Some, eqb, length}
use Rattle.block.specs.Lists.{all}
use Rattle.rehearsal.specs.Rehearsal.{day_of, in_range, is_sensible}
use Rattle.rehearsal.specs.RehearsalCalls.{tally_of}
use Rattle.rehearsal.specs.declared.Setting.{Setting}
use Rattle.rehearsal.specs.declared.Tally.{Tally}

-- "a setting for each seat"
abbrev pub can_run : List Setting → ℕ → Bool
can_run l n = eqb (length l) 4 && (in_range n && all is_sensible l)

abbrev pub outcome_of : List Setting → ℕ → Option (List Tally)
outcome_of l n = cond (can_run l n) (Some (map tally_of (day_of l n).rows)) None
