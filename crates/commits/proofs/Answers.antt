-- What each answer of the inner commit tells its caller, in the machine's words.
-- Assumes nothing.
use Prim.Native.Nat.{◌+◌, ℕ}
use mathlib.Core.Bool.{Bool, cond, false, true}
use mathlib.Core.List.{[], ◌∷◌}
use mathlib.Core.Path.{◌≡◌, refl}
use lib.ListN.{take}
use Rattle.model.specs.Calls.{commit_writes, side_in, store_with, written_from}
use Rattle.model.specs.History.{Bytes}
use Rattle.model.specs.Machine.{Side, blocks_for, commit_changes, new_commit}
use Rattle.model.specs.Refusals.{no_room, nothing_chosen}
use Rattle.commits.specs.Outcome.{Answered, enough}
use Rattle.model.specs.declared.Refusal.{Refusal}
use Rattle.model.specs.declared.Refusal.TheVariants.{NoRoom, NothingPending}
use Rattle.std.specs.Prelude.{Err, Ok, Result}
use Rattle.commits.specs.declared.Outcome.{Outcome}
use Rattle.commits.specs.declared.Outcome.TheVariants.{Done, Stopped}

-- the four ways, over plain tests
module _ (n : ℕ) (old new part after : Bytes) where
  abbrev said : Bool → Bool → Bool → Result Outcome Refusal
  said a b c = cond a (Err NothingPending) (cond b (Err NoRoom) (cond c (Ok (Done n)) (Ok Stopped)))

  abbrev left : Bool → Bool → Bool → Bytes
  left a b c = cond a old (cond b old (cond c new part))

  nothing_by : (a b c : Bool) → Err NothingPending ≡ said a b c → after ≡ left a b c → (a ≡ true) × (after ≡ old)
  nothing_by true b c p q = (refl, q)
  nothing_by false true c p q = cc
  nothing_by false false true p q = cc
  nothing_by false false false p q = cc

  no_room_by : (a b c : Bool) → Err NoRoom ≡ said a b c → after ≡ left a b c → (a ≡ false) × (b ≡ true) × (after ≡ old)
  no_room_by true b c p q = cc
  no_room_by false true c p q = (refl, refl, q)
  no_room_by false false true p q = cc
  no_room_by false false false p q = cc

  done_by : (a b c : Bool) (u : ℕ) → Ok (Done u) ≡ said a b c → after ≡ left a b c → (a ≡ false) × (b ≡ false) × (c ≡ true) × (u ≡ n) × (after ≡ new)
  done_by true b c u p q = cc
  done_by false true c u p q = cc
  done_by false false true u p q = (refl, refl, refl, cc, q)
  done_by false false false u p q = cc

  stopped_by_lem : (a b c : Bool) → Ok Stopped ≡ said a b c → after ≡ left a b c → (a ≡ false) × (b ≡ false) × (c ≡ false) × (after ≡ part)
  stopped_by_lem true b c p q = cc
  stopped_by_lem false true c p q = cc
  stopped_by_lem false false true p q = cc
  stopped_by_lem false false false p q = (refl, refl, refl, q)

module _ (store copy store' : Bytes) (stamp mask n : ℕ) where
  abbrev d : Side
  d = side_in store copy

  abbrev used_then : ℕ
  used_then = d.used + blocks_for d.history (commit_changes d.history mask d.entries)

  abbrev store_then : Bytes
  store_then = store_with store (new_commit d stamp mask ∷ [])

  abbrev part : Bytes
  part = written_from store (take n (commit_writes store copy stamp mask))

  -- refusal 10: nothing is chosen that is pending, and the store is as it was
  pub told-nothing : Answered store copy store' stamp mask n (Err NothingPending) → (nothing_chosen d mask ≡ true) × (store' ≡ store)
  told-nothing A = nothing_by used_then store store_then part store' (nothing_chosen d mask) (no_room d mask) (enough store copy stamp mask n) A.says A.bytes

  -- refusal 13: something is, and there is no room for it
  pub told-no_room : Answered store copy store' stamp mask n (Err NoRoom) → (nothing_chosen d mask ≡ false) × (no_room d mask ≡ true) × (store' ≡ store)
  told-no_room A = no_room_by used_then store store_then part store' (nothing_chosen d mask) (no_room d mask) (enough store copy stamp mask n) A.says A.bytes

  -- done: neither, n was enough, the number of used blocks is the machine's, and the store has the commit
  pub told-done : (u : ℕ) → Answered store copy store' stamp mask n (Ok (Done u))
      → (nothing_chosen d mask ≡ false) × (no_room d mask ≡ false) × (enough store copy stamp mask n ≡ true) × (u ≡ used_then) × (store' ≡ store_then)
  told-done u A = done_by used_then store store_then part store' (nothing_chosen d mask) (no_room d mask) (enough store copy stamp mask n) u A.says A.bytes

  -- stopped: n was not enough, and the store has the first n blocks of the commit
  pub told-stopped : Answered store copy store' stamp mask n (Ok Stopped)
      → (nothing_chosen d mask ≡ false) × (no_room d mask ≡ false) × (enough store copy stamp mask n ≡ false) × (store' ≡ part)
  told-stopped A = stopped_by_lem used_then store store_then part store' (nothing_chosen d mask) (no_room d mask) (enough store copy stamp mask n) A.says A.bytes
