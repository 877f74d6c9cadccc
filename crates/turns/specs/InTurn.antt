-- A commit through the turn record (W7).
-- Assumes nothing.
use Rattle.std.specs.Prelude.{ℕ, ◌||◌, not, List, ◌++◌, ◌∷◌, eqb}
use Rattle.model.specs.Calls.{Out, change_by, copy_conditions, side_in, store_conditions}
use Rattle.model.specs.History.{Bytes}
use Rattle.model.specs.Machine.{Commits, Side}
use Rattle.model.specs.Refusals.{Condition, ◌when◌, conditions, first_of, tail_conditions}
use Rattle.turns.specs.Turns.{holder, in_form, queue_of}

-- "7 .. a record with a number above 4 ..; 15, a commit through the record by a seat that doesn't hold the turn, checked after 7": the record's and the mask's line 7 stand together,
-- then 15, then a commit's own lines, where that of the mask comes again and cannot hold any more
abbrev pub in_turn_lines : List ℕ → Side → ℕ → ℕ → List Condition
in_turn_lines r d stamp mask = 7 when (eqb mask 0 || not (in_form r)) ∷ 15 when not (eqb (holder (queue_of r)) d.seat) ∷ conditions d (Commits stamp mask)

-- the lines that are the machine's own: "14 .. checked right after 3" comes before these
abbrev pub own_in_turn : List ℕ → Side → ℕ → ℕ → List Condition
own_in_turn r d stamp mask = tail_conditions d (Commits stamp mask) ++ in_turn_lines r d stamp mask

-- on buffers, in the document's order: 1 to 3, 14, 4 to 6, then these. The calling seat is the working copy's
abbrev pub in_turn_conditions : Bytes → Bytes → List ℕ → ℕ → ℕ → List Condition
in_turn_conditions store copy r stamp mask =
    store_conditions store ++ (tail_conditions (side_in store copy) (Commits stamp mask) ++ (copy_conditions store copy ++ in_turn_lines r (side_in store copy) stamp mask))

-- the answer and both buffers; the record is read only
unfoldable pub in_turn_call : Bytes → Bytes → List ℕ → ℕ → ℕ → Out
in_turn_call store copy r stamp mask = change_by (first_of (in_turn_conditions store copy r stamp mask)) store copy (Commits stamp mask)
