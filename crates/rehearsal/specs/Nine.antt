-- The nine numbers of the line, word by word: the code's function steps as these do.
-- Assumes nothing.
use Rattle.std.specs.Prelude.{ℕ, cond, List, ◌++◌, leb, drop, length}
use Rattle.std.specs.Prelude.{Option as TheOption, None, Some}
use Rattle.std.proofs.Math.Option.{Option, none, some}
use Rattle.model.specs.History.{Bytes}
use Rattle.rehearsal.specs.Output.{Plan, numbered, plan_at, plan_in, ranged}
use Rattle.rehearsal.specs.Rehearsal.{in_range}
use Rattle.text.specs.Text.{number_of, words}

-- a number, if it is from 1 to 60
abbrev pub in_sixty : Option ℕ → Option ℕ
in_sixty none = none
in_sixty (some n) = cond (in_range n) (some n) none

abbrev pub small_of : Bytes → Option ℕ
small_of w = in_sixty (number_of w)

-- the plan, where these numbers were read and those are left
abbrev pub plan_after : List ℕ → Option (List ℕ) → Option Plan
plan_after l none = none
plan_after l (some m) = ranged (some (l ++ m))

-- the code's answer
abbrev pub nine_as : TheOption (List ℕ) → Option Plan
nine_as (Some n) = some (plan_at n)
nine_as None = none

-- what is left of a line from byte `at` on, where these numbers were read: past its end, nothing
abbrev pub left_at : Bytes → List ℕ → ℕ → Option Plan
left_at line l at = cond (leb at (length line)) (plan_after l (numbered (words (drop at line)))) (plan_in l)
