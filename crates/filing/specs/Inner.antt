-- What the inner commit leaves, on an accepted store and a working copy that fits it; what its steps find out of an entry and make of it.
-- Assumes nothing.
use Rattle.std.specs.Prelude.{◌<◌, ◌≤◌, ℕ, Bool, cond, false, not, true, List, eqb, get_or}
use Rattle.model.specs.Entry.{Entry, added, copied, deleted, empty, modified, normal}
use Rattle.model.specs.History.{Bytes, History, is_bytes, sheet}
use Rattle.model.specs.Rows.{rows}
use Rattle.model.specs.Store.{block_used}
use Rattle.model.specs.declared.State.{State}
use Rattle.model.specs.declared.State.TheVariants.{Added, Copied, Deleted, Empty, Normal}
use Rattle.masks.specs.Mask.{at_chosen}
use Rattle.workcopy.specs.Copy.{Accepted}

-- a normal entry is modified, or a copied one's bytes "differ from the source's at the source revision"
abbrev pub altered : History → ℕ → Entry → Bool
altered h i empty = false
altered h i (normal b x) = modified h i b x
altered h i (added x) = false
altered h i (deleted b) = false
altered h i (copied s r x) = not (is_bytes x (sheet h r s))

-- the block that the source of a copied entry uses, else 0
abbrev pub source_block : Bytes → Entry → ℕ
source_block store empty = 0
source_block store (normal b x) = 0
source_block store (added x) = 0
source_block store (deleted b) = 0
source_block store (copied s r x) = block_used store r s

-- "Named entries become normal with the new revision as base, deleted ones empty": a normal one is named where its flag is not 0
abbrev pub settled_as : ℕ → ℕ → Entry → Entry
settled_as R flag empty = empty
settled_as R flag (normal b x) = normal (cond (eqb flag 0) b R) x
settled_as R flag (added x) = normal R x
settled_as R flag (deleted b) = empty
settled_as R flag (copied s r x) = normal R x

-- the code's state: whether it stays, and else what it becomes
abbrev pub stays_as : ℕ → State → Bool
stays_as flag Empty = true
stays_as flag (Normal b) = eqb flag 0
stays_as flag Added = false
stays_as flag (Deleted b) = false
stays_as flag (Copied s) = false

abbrev pub settled_state : ℕ → State → State
settled_state R Empty = Empty
settled_state R (Normal b) = Normal R
settled_state R Added = Normal R
settled_state R (Deleted b) = Empty
settled_state R (Copied s) = Normal R

-- of each chosen entry
abbrev pub settled_rows : ℕ → List ℕ → ℕ → List Entry → List Entry
settled_rows R changed mask es = rows (at_chosen (λ i e. settled_as R (get_or changed i 0) e) mask) 0 es

-- entries of this copy can be settled with this revision
pub record Settling (copy : Bytes) (R : ℕ) : Type 0 where
  pub accepted : Accepted copy
  pub low : 1 ≤ R
  pub high : R < 65_536
