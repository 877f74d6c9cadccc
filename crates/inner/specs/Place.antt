-- What the companions of read and show promise beside the place itself: that it stands in its buffer.
-- Assumes nothing.
use Rattle.std.specs.Prelude.{◌+◌, ◌≤◌, ◌≡◌, length, Bool, false, true, Err, Ok, Result}
use Rattle.model.specs.Calls.{Place}
use Rattle.model.specs.History.{Bytes}
use Rattle.model.specs.Types.{place_of}
use Rattle.model.specs.declared.Place.{Place as ThePlace}
use Rattle.model.specs.declared.Place.TheVariants.{InCopy, InStore}
use Rattle.model.specs.declared.State.{State}
use Rattle.model.specs.declared.State.TheVariants.{Added, Copied, Deleted, Empty, Normal}
use Rattle.model.specs.declared.Refusal.{Refusal}

-- a place ends within its buffer
abbrev pub Inside : Bytes → Bytes → Result ThePlace Refusal → Type 0
Inside store copy (Err r) = Unit {0}
Inside store copy (Ok (InStore p n)) = p.start + p.len ≤ length store
Inside store copy (Ok (InCopy p)) = p.start + p.len ≤ length copy

-- the place that the meanings name, within its buffer; read has no copy
pub record Located (store copy : Bytes) (q : Place) (x : Result ThePlace Refusal) : Type 0 where
  pub is : place_of x ≡ q
  pub inside : Inside store copy x

-- an entry in this state has bytes of its own: normal, added or copied
abbrev pub has_own : State → Bool
has_own Empty = false
has_own (Normal b) = true
has_own Added = true
has_own (Deleted b) = false
has_own (Copied s) = true
