-- What an inner call leaves: it is called on an accepted store and a working copy that fits it, so that the machine's own conditions are the only ones left.
-- Assumes nothing.
use Rattle.std.specs.Prelude.{◌<◌, ℕ, Bool, ◌≡◌}
use Rattle.std.proofs.Math.Option.{none}
use Rattle.model.specs.Blocks.{bytes_at}
use Rattle.model.specs.Calls.{store_conditions}
use Rattle.model.specs.Entry.{Entry, normal}
use Rattle.model.specs.History.{Bytes, History}
use Rattle.model.specs.Machine.{or_else, updated_to}
use Rattle.model.specs.Refusals.{conflict, first_of}
use Rattle.model.specs.Store.{store_blocks, store_history, used_of}
use Rattle.model.specs.WorkCopy.{FitsCopyBlock, entry_block}
use Rattle.model.specs.declared.State.{State}
use Rattle.model.specs.declared.State.TheVariants.{Added, Copied, Deleted, Empty, Normal}
use Rattle.entries.specs.View.{entry_in}
use Rattle.workcopy.specs.Copy.{Accepted}

-- update makes nothing of entry i
abbrev pub conflicting : Bytes → Bytes → ℕ → ℕ → Bool
conflicting store copy R i = conflict (store_history store) R i (entry_in copy i)

-- what update leaves of an entry that is chosen
abbrev pub updated_of : History → ℕ → ℕ → Entry → Entry
updated_of h R i e = or_else (updated_to h R i e) e

abbrev pub rebased_state : ℕ → State → State
rebased_state R Empty = Empty
rebased_state R (Normal b) = Normal R
rebased_state R Added = Added
rebased_state R (Deleted b) = Deleted R
rebased_state R (Copied s) = Copied s

-- used block p of an accepted store can be taken into entry k of an accepted copy, with base r
pub record Takable (store copy : Bytes) (k r p : ℕ) : Type 0 where
  pub clear : first_of (store_conditions store) ≡ none
  pub accepted : Accepted copy
  pub inside : k < 32
  pub block : p < used_of store
  pub fits : FitsCopyBlock (entry_block (normal r (bytes_at (store_blocks store) p)))
