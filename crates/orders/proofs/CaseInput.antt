-- The bytes of a store, computed from the history of document 01's case input alone: the checks of its label, its content block and its commit block are those of handover cases 1 to 3.
-- Assumes nothing.
use Prim.Native.Nat.{◌*◌, ◌+◌, ℕ}
use mathlib.Core.List.{[], ◌∷◌, map}
use mathlib.Core.Path.{◌≡◌, refl}
use lib.ListN.{length, replicate, set}
use Rattle.block.specs.Check.{checks_of}
use Rattle.block.specs.Field.{two_at}
use Rattle.model.specs.Codec.{encode, padded}
use Rattle.model.specs.History.{Bytes, add, nothing, tree}
use Rattle.model.specs.Layout.{next}
use Rattle.model.specs.Log.{Log, a_commit}
use Rattle.model.specs.Order.{store_bytes}

-- seat 2 adds byte 65 as sheet 5 and commits with stamp 7
abbrev history : Log
history = a_commit (record { seat = 2; stamp = 7; changes = set (replicate 32 nothing) 5 (add (65 ∷ [])) }) ∷ []

-- a and b of a block
abbrev checks : Bytes → ℕ → ℕ × ℕ
checks store j = (two_at store (512 * j + 508), two_at store (512 * j + 510))

pub record CaseInput : Type 0 where
  pub size : length (store_bytes 4 history) ≡ 2_048
  pub each : map (checks (store_bytes 4 history)) (0 ∷ 1 ∷ 2 ∷ 3 ∷ []) ≡ (2, 1_015) ∷ (69, 34_006) ∷ (21, 10_479) ∷ (0, 0) ∷ []

pub case_input_lem : CaseInput
unfolding store_bytes tree next encode padded checks_of
case_input_lem = record { size = refl; each = refl }
