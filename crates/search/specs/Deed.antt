-- What the changes of a commit block do to a sheet, in the words that log answers with.
-- Assumes nothing.
use Rattle.std.specs.Prelude.{ℕ, cond, List, [], ◌∷◌, eqb}
use Rattle.model.specs.Blocks.{Action, Line, adds, changes, copies, deletes}
use Rattle.model.specs.declared.Action.{Action as Deed}
use Rattle.model.specs.declared.Action.TheVariants.{Add, Change, Copy, Delete, Nothing}

abbrev pub deed_as : Action → ℕ → ℕ → Deed
deed_as adds sheet revision = Add
deed_as changes sheet revision = Change
deed_as deletes sheet revision = Delete
deed_as copies sheet revision = Copy (record { sheet = sheet; revision = revision })

abbrev pub deed_of : Line → Deed
deed_of l = deed_as l.action l.source l.revision

-- the first change that names the sheet
abbrev pub deed_in : ℕ → List Line → Deed
deed_in i [] = Nothing
deed_in i (l ∷ ls) = cond (eqb l.sheet i) (deed_of l) (deed_in i ls)
