-- What is found out before a commit.
-- Assumes nothing.
use Rattle.std.specs.Prelude.{not, List, ◌++◌, ◌∷◌, ◌≡◌, eqb, Err, Ok, Result}
use Rattle.std.proofs.Math.Option.{some}
use Rattle.model.specs.Calls.{copy_conditions, store_conditions}
use Rattle.model.specs.History.{Bytes}
use Rattle.model.specs.Refusals.{Condition, ◌when◌, first_of}
use Rattle.model.specs.Store.{tail_of}
use Rattle.model.specs.Types.{number_of}
use Rattle.entries.specs.View.{Fitting}
use Rattle.entries.specs.declared.View.{View}
use Rattle.model.specs.declared.Refusal.{Refusal}

-- the lines on the buffers, in the document's order: 1 to 3, 14, 4 to 6
abbrev pub commit_lines : Bytes → Bytes → List Condition
commit_lines store copy = store_conditions store ++ (14 when not (eqb (tail_of store) 0) ∷ copy_conditions store copy)

-- the first of them that holds, or the numbers of a store without a tail and of a working copy that fits it
abbrev pub MayCommit : Bytes → Bytes → Result View Refusal → Type 0
MayCommit store copy (Err k) = first_of (commit_lines store copy) ≡ some (number_of k)
MayCommit store copy (Ok v) = Fitting store copy v × (tail_of store ≡ 0)
