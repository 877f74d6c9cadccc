-- How the chosen entries of a working copy are written: a row of the plan for each of the 32 sheets, by the bytes of its entry.
-- Assumes nothing.
use Rattle.std.specs.Prelude.{◌*◌, ◌+◌, ◌<◌, ◌≤◌, suc, zero, ℕ, cond, List, [], ◌∷◌, ◌≡◌, eqb, get_or, take, All, Option, Some, None}
use Rattle.block.specs.Field.{two_at}
use Rattle.model.specs.Blocks.{Action, adds, changes, copies, deletes}
use Rattle.model.specs.Machine.{chosen}
use Rattle.model.specs.Writing.{Plan, fresh, lines_for, shared, skip}
use Rattle.laws.proofs.Writer.{freshes}
use Rattle.commits.specs.declared.Row.{Row}
use Rattle.writer.specs.Blocks.{lines_in}
use Rattle.writer.specs.declared.Action.{Action as TheAction}
use Rattle.writer.specs.declared.Action.TheVariants.{Add, Change, Copy, Delete}
use Rattle.writer.specs.declared.Line.{Line as TheLine}

-- "added gives add (1), modified change (2), deleted delete (3), copied copy (4)": `changed` is 0 where an entry's bytes are those of its base or source, and `place` is the
-- block that a copy's source uses
unfoldable pub plan_as : ℕ → ℕ → ℕ → ℕ → ℕ → Plan
plan_as state changed place source revision =
    cond (eqb state 2) (fresh adds 0 0)
    (cond (eqb state 3) (shared deletes 0 0 0)
    (cond (eqb state 4) (cond (eqb changed 0) (shared copies place source revision) (fresh copies source revision))
    (cond (eqb state 1) (cond (eqb changed 0) skip (fresh changes 0 0)) skip)))

-- the row of sheet i, by its entry's state (byte 1), source sheet (6) and source revision (8–9)
unfoldable pub row_of : List ℕ → List ℕ → List ℕ → ℕ → Plan
row_of copy changed places i =
    plan_as (get_or copy (512 * (i + 1) + 1) 0) (get_or changed i 0) (get_or places i 0) (get_or copy (512 * (i + 1) + 6) 0) (two_at copy (512 * (i + 1) + 8))

-- the rows of the d sheets from i on; those that the mask does not choose are skipped
unfoldable pub rows_from : (ℕ → Plan) → ℕ → ℕ → ℕ → List Plan
rows_from f mask i zero = []
rows_from f mask i (suc d) = cond (chosen mask i) (f i) skip ∷ rows_from f mask (suc i) d

-- the action as the code has it
abbrev pub action_as : Action → TheAction
action_as adds = Add
action_as changes = Change
action_as deletes = Delete
action_as copies = Copy

-- a row as the code has it, where block p is the next: the line of sheet i, and the block after it; none where the sheet is skipped
abbrev pub row_as : Plan → ℕ → ℕ → Option Row
row_as skip i p = None
row_as (fresh a s v) i p = Some (record { line = record { sheet = i; action = action_as a; block = p; source = s; revision = v }; next = p + 1 })
row_as (shared a q s v) i p = Some (record { line = record { sheet = i; action = action_as a; block = q; source = s; revision = v }; next = p })

-- the first n lines are those of the rows, from block `used` on; `next` is the first block after their contents
pub record Planned (rows : List Plan) (used : ℕ) (ls : List TheLine) (n next : ℕ) : Type 0 where
  pub lines : lines_in (take n ls) ≡ lines_for 0 used rows
  pub after : next ≡ used + freshes rows
  pub few : n ≤ 32
  pub named : All (λ l. l.sheet < 32) (take n ls)
