-- The entries of a working copy.
-- Assumes nothing.
use Rattle.std.specs.Prelude.{ℕ, Bool, cond, false, not, true, List}
use Rattle.std.proofs.Math.Option.{Option, none, some}
use Rattle.model.specs.History.{Bytes, Change, History, add, change, copy, delete, is_bytes, names, nothing, sheet}

-- "An entry is one of: empty (0); normal (1) with base revision b and bytes; added (2) with bytes; deleted (3) with base b; copied (4) with source sheet,
-- source revision and bytes." A normal entry is `normal b bytes`, a copied one `copied sheet revision bytes`
pub data Entry : Type 0 where
  empty : Entry
  normal : ℕ → List ℕ → Entry
  added : List ℕ → Entry
  deleted : ℕ → Entry
  copied : ℕ → ℕ → List ℕ → Entry

-- "A normal entry is modified if its bytes differ from tree b's"
abbrev pub modified : History → ℕ → ℕ → Bytes → Bool
modified h i b x = not (is_bytes x (sheet h b i))

-- the change that an entry stands for: "added gives add, modified change, deleted delete, copied copy"
abbrev pub change_for : History → ℕ → Entry → Change
change_for h i empty = nothing
change_for h i (normal b x) = cond (modified h i b x) (change x) nothing
change_for h i (added x) = add x
change_for h i (deleted b) = delete
change_for h i (copied s r x) = copy s r x

-- "pending if it is added, deleted, copied, or modified"
abbrev pub pending : History → ℕ → Entry → Bool
pending h i e = names (change_for h i e)

abbrev pub is_empty : Entry → Bool
is_empty empty = true
is_empty (normal b x) = false
is_empty (added x) = false
is_empty (deleted b) = false
is_empty (copied s r x) = false

-- the bytes of a normal, added or copied entry
abbrev pub own_bytes : Entry → Option Bytes
own_bytes empty = none
own_bytes (normal b x) = some x
own_bytes (added x) = some x
own_bytes (deleted b) = none
own_bytes (copied s r x) = some x
