-- What is asked of a store whose tail is looked at or cleared.
-- Assumes nothing.
use Rattle.std.specs.Prelude.{◌*◌, ◌+◌, ◌≤◌, ℕ, ◌≡◌, length}
use Rattle.std.proofs.Math.Option.{none}
use Rattle.model.specs.Calls.{store_conditions}
use Rattle.model.specs.History.{Bytes}
use Rattle.model.specs.Refusals.{first_of}
use Rattle.model.specs.Store.{blank_from, used_of}

-- no line 1 to 3 refuses the store, and U of its blocks are used
pub record Taken (store : Bytes) (used : ℕ) : Type 0 where
  pub clear : first_of (store_conditions store) ≡ none
  pub in_use : used ≡ used_of store

-- after the blocks to clear there is nothing but zeros
pub record Clearable (store : Bytes) (used count : ℕ) : Type 0 where
  pub room : (used + count) * 512 ≤ length store
  pub rest : blank_from (used + count) store ≡ store
