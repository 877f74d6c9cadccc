-- The answers of revert and update, one law for each way through their tests.
-- Assumes nothing.
use Rattle.std.specs.Prelude.{Err, Ok}
use Prim.Native.Nat.{◌<◌, ◌≤◌, ℕ}
use mathlib.Core.Bool.{Bool, false, true}
use mathlib.Core.Option.{Option, none, some}
use mathlib.Core.Path.{◌∙◌, ◌≡◌, ap, sym}
use native.Mathlib.Omega.{arith}
use borrow.Author.Tests.{eq-eqb, le-ltb, lt-ltb, ne_eqb}
use Rattle.model.specs.Calls.{change_by, side_in}
use Rattle.model.specs.History.{Bytes, last}
use Rattle.model.specs.Machine.{Call, Revert, Update as UpdateCall, reverted, updated}
use Rattle.model.specs.Refusals.{conditions, first_of, some_conflict, too_late}
use Rattle.model.specs.Store.{store_history}
use Rattle.model.specs.Types.{number_of}
use Rattle.model.specs.WorkCopy.{copy_bytes, entries_of, seat_of}
use Rattle.model.specs.declared.Answer.TheVariants.{Done}
use Rattle.model.specs.declared.Refusal.{Refusal}
use Rattle.model.specs.declared.Refusal.TheVariants.{Conflict, Range}
use Rattle.entries.specs.View.{Fitting}
use Rattle.entries.specs.declared.View.{View}
use Rattle.entries.specs.View.{inner_out, out_as}

module _ (store copy : Bytes) where
  refused_is : (c : Call) (r : Refusal) → first_of (conditions (side_in store copy) c) ≡ some (number_of r) → out_as (Err r) store copy ≡ inner_out store copy c
  unfolding inner_out
  refused_is c r e = sym (ap (λ (o : Option ℕ). change_by o store copy c) e)

  done_is : (c : Call) {t : Bytes} → first_of (conditions (side_in store copy) c) ≡ none → change_by none store copy c ≡ out_as (Ok Done) store t → out_as (Ok Done) store t ≡ inner_out store copy c
  unfolding inner_out
  done_is c e d = sym (ap (λ (o : Option ℕ). change_by o store copy c) e ∙ d)

  module _ (mask : ℕ) where
    pub revert_none : mask ≡ 0 → out_as (Err Range) store copy ≡ inner_out store copy (Revert mask)
    revert_none z = refused_is (Revert mask) Range (rw (eq-eqb mask 0 z))

    pub update_none : (R : ℕ) → mask ≡ 0 → out_as (Err Range) store copy ≡ inner_out store copy (UpdateCall mask R)
    update_none R z = refused_is (UpdateCall mask R) Range (rw (eq-eqb mask 0 z))

    module _ (n : mask ≡ 0 → ⊥) where
      pub revert_done : {t : Bytes} → t ≡ copy_bytes (seat_of copy) (reverted (store_history store) mask (entries_of copy)) → out_as (Ok Done) store t ≡ inner_out store copy (Revert mask)
      revert_done p = done_is (Revert mask) (rw (ne_eqb mask 0 n)) (ap (out_as (Ok Done) store) (sym p))

      module _ {v : View} (F : Fitting store copy v) (R : ℕ) where
        pub update_late : v.last < R → out_as (Err Range) store copy ≡ inner_out store copy (UpdateCall mask R)
        update_late g = refused_is (UpdateCall mask R) Range (rw (ne_eqb mask 0 n, lt-ltb (last (store_history store)) R (omega (arith, F.viewed.opened.last))))

        module _ (le : R ≤ v.last) {b : Bool} (q : b ≡ some_conflict (side_in store copy) mask R) where
          in_time_lem : too_late (store_history store) R ≡ false
          in_time_lem = le-ltb (last (store_history store)) R (omega (arith, F.viewed.opened.last))

          pub update_refused : b ≡ true → out_as (Err Conflict) store copy ≡ inner_out store copy (UpdateCall mask R)
          update_refused z = refused_is (UpdateCall mask R) Conflict (rw (ne_eqb mask 0 n, in_time_lem, sym q ∙ z))

          pub update_done : {t : Bytes} → b ≡ false → t ≡ copy_bytes (seat_of copy) (updated (store_history store) mask R (entries_of copy)) → out_as (Ok Done) store t ≡ inner_out store copy (UpdateCall mask R)
          update_done z p = done_is (UpdateCall mask R) (rw (ne_eqb mask 0 n, in_time_lem, sym q ∙ z)) (ap (out_as (Ok Done) store) (sym p))
