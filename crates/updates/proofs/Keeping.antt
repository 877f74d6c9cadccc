-- A copy that fits a store still fits it when entries that fit take the place of others.
-- Assumes nothing.
use Prim.Native.Nat.{◌≤◌, ℕ}
use mathlib.Core.List.{List}
use mathlib.Core.Path.{◌∙◌, ap, sym}
use native.Mathlib.Omega.{arith}
use lib.ListN.{set}
use Rattle.model.specs.Calls.{side_in}
use Rattle.model.specs.Entry.{Entry}
use Rattle.model.specs.Fitting.{fits_store}
use Rattle.model.specs.History.{Bytes, History}
use Rattle.model.specs.Invariant.{FitsAt}
use Rattle.model.specs.Machine.{Side, with_entries}
use Rattle.model.specs.Store.{store_history}
use Rattle.model.specs.WorkCopy.{FitsCopyBlock, HoldsCopy, copy_bytes, entries_of, entry_block, seat_of}
use Rattle.laws.proofs.Accepted.{accepted-kept, accepted_seen}
use Rattle.laws.proofs.Invariant.{KeptSide, kept_entry}
use Rattle.laws.proofs.Steps.{fits_all, fits_piece, laid-copy}
use Rattle.laws.proofs.WorkCopy.{holds-copy}
use Rattle.entries.proofs.Checking.{fitting_accepted}
use Rattle.entries.specs.View.{Fitting}
use Rattle.entries.specs.declared.View.{View}
use Rattle.workcopy.proofs.Entries.{held}

module _ (store copy : Bytes) (v : View) (F : Fitting store copy v) where
  abbrev d : Side
  d = side_in store copy

  abbrev h : History
  h = store_history store

  pub kept : KeptSide d
  kept = accepted-kept store copy (fitting_accepted store copy v F)

  few : d.blocks ≤ 4_096
  few = (accepted_seen store copy (fitting_accepted store copy v F)).many

  seats : (1 ≤ seat_of copy) × (seat_of copy ≤ 4)
  unfolding HoldsCopy
  seats = (held copy F.viewed.accepted).1

  pub fits_limits : (k : ℕ) (e : Entry) → FitsAt h k e → FitsCopyBlock (entry_block e)
  fits_limits k e f = fits_piece h k e (omega (arith, kept.used, kept.room, few)) f

  -- with other entries, which fit
  fitting_of : (es : List Entry) → KeptSide (with_entries d es) → Fitting store (copy_bytes (seat_of copy) es) v
  fitting_of es K =
      let t = copy_bytes (seat_of copy) es in
      let q = holds-copy t (seat_of copy) es (laid-copy (with_entries d es) K few seats.0 seats.1) in
      record {
        viewed = record { opened = F.viewed.opened; accepted = record { size = q.0; ok = q.1 } };
        fits = ap (fits_store h) q.3 ∙ fits_all h es K.fits;
        seat = F.seat ∙ sym q.2;
      }

  -- THE STATEMENTS: with one other entry, which fits
  pub fitting_entry : (k : ℕ) (e : Entry) → FitsAt h k e → Fitting store (copy_bytes (seat_of copy) (set (entries_of copy) k e)) v
  fitting_entry k e f = fitting_of (set (entries_of copy) k e) (kept_entry d k e kept f)
