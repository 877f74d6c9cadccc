-- What is looked up of the chosen entries before a commit: whether one is out of date, and of one entry whether it is altered and which block its source uses.
-- Assumes nothing.
use Prim.Native.Nat.{◌+◌, ◌-◌, ◌<◌, ◌^◌, ◌≤◌, ℕ}
use mathlib.Core.Bool.{Bool, false, not, true}
use mathlib.Core.Path.{◌∙◌, ◌≡◌, ap, subst, sym}
use native.Mathlib.Omega.{arith}
use lib.ListN.{length}
use Rattle.block.specs.Buffer.{block_at}
use Rattle.model.specs.Entry.{Entry, empty, own_bytes}
use Rattle.model.specs.History.{Bytes, History, is_bytes, sheet}
use Rattle.model.specs.Invariant.{Base, FitsAt}
use Rattle.model.specs.Refusals.{out_of_date}
use Rattle.model.specs.Store.{store_history}
use Rattle.model.specs.Types.{entry_as}
use Rattle.model.specs.WorkCopy.{HoldsCopy, entries_of}
use Rattle.model.specs.declared.Entry.{Entry as TheEntry}
use Rattle.model.specs.declared.Source.{Source}
use Rattle.model.specs.declared.State.{State}
use Rattle.model.specs.declared.State.TheVariants.{Copied, Normal}
use Rattle.laws.proofs.Accepted.{accepted-kept, accepted_seen}
use Rattle.entries.proofs.Checking.{fitting_accepted}
use Rattle.entries.proofs.Looking.{found-used}
use Rattle.entries.proofs.States.{as_read}
use Rattle.entries.specs.View.{Fitting, bytes_of, entry_in, or_none}
use Rattle.entries.specs.declared.View.{View}
use Rattle.filing.specs.Inner.{altered, source_block}
use Rattle.masks.specs.Chosen.{Lowest}
use Rattle.masks.proofs.Visits.{any_here, any_next, any_none, any_chosen}
use Rattle.search.specs.Find.{found_in}
use Rattle.search.specs.declared.Found.{Found}
use Rattle.workcopy.proofs.Entries.{held}
use Rattle.workcopy.specs.Copy.{Accepted, Reading, bytes_in}

-- ---- an entry that is out of date, among the chosen
module _ (store copy : Bytes) where
  abbrev stale_at : ℕ → Entry → Bool
  stale_at i e = out_of_date (store_history store) i e

  module _ (o : Accepted copy) {m t : ℕ} (L : Lowest m t) (g : t < 32) {b : Bool} (q : b ≡ stale_at t (entry_in copy t)) where
    inside : t < length (entries_of copy)
    unfolding HoldsCopy
    inside = omega (arith, (held copy o).0)

    pub stale_here : b ≡ true → true ≡ any_chosen stale_at m (entries_of copy)
    stale_here z = sym (any_here stale_at L empty (entries_of copy) inside (sym q ∙ z))

    pub stale-next : b ≡ false → any_chosen stale_at (m - 2 ^ t) (entries_of copy) ≡ any_chosen stale_at m (entries_of copy)
    stale-next z = any_next stale_at L empty (entries_of copy) inside (sym q ∙ z)

  pub stale-none : {m : ℕ} → m ≡ 0 → false ≡ any_chosen stale_at m (entries_of copy)
  stale-none z = sym (ap (λ (n : ℕ). any_chosen stale_at n (entries_of copy)) z ∙ any_none stale_at (entries_of copy))

-- ---- one entry
module _ (store copy : Bytes) {k : ℕ} {e : TheEntry} (r : Reading copy k e) where
  abbrev h : History
  h = store_history store

  pub altered_as : {s : State} → e.state ≡ s → altered h k (entry_as s (bytes_in e (block_at copy (k + 1)))) ≡ altered h k (entry_in copy k)
  altered_as q = sym (ap (altered h k) (as_read r q))

  pub altered-normal : {b : ℕ} {t : Bool} → e.state ≡ Normal b → t ≡ not (is_bytes (bytes_of copy k) (sheet h b k)) → t ≡ altered h k (entry_in copy k)
  altered-normal {b} q z = z ∙ ap (λ (y : Entry). not (is_bytes (or_none (own_bytes y)) (sheet h b k))) (as_read r q) ∙ altered_as q

  pub source_as : {s : State} → e.state ≡ s → source_block store (entry_as s (bytes_in e (block_at copy (k + 1)))) ≡ source_block store (entry_in copy k)
  source_as q = sym (ap (source_block store) (as_read r q))

  module _ {s : Source} (q : e.state ≡ Copied s) where
    pub altered-copied : {t : Bool} → t ≡ not (is_bytes (bytes_of copy k) (sheet h s.revision s.sheet)) → t ≡ altered h k (entry_in copy k)
    altered-copied z = z ∙ ap (λ (y : Entry). not (is_bytes (or_none (own_bytes y)) (sheet h s.revision s.sheet))) (as_read r q) ∙ altered_as q

    pub source-found : {f : Found} → f ≡ found_in store s.revision s.sheet → f.block ≡ source_block store (entry_in copy k)
    source-found w = ap (λ (f : Found). f.block) w ∙ source_as q

    -- its source is there
    module _ (v : View) (F : Fitting store copy v) where
      source-there : (s.sheet ≤ 31) × Base h s.revision s.sheet
      source-there = let f = subst (FitsAt h k) (as_read r q) ((accepted-kept store copy (fitting_accepted store copy v F)).fits k) in (f.0, f.1)

      pub source_sheet_lem : s.sheet < 32
      source_sheet_lem = omega (arith, source-there.0)

      pub source_near : s.revision ≤ v.last
      source_near = omega (arith, source-there.1.high, F.viewed.opened.last)

      pub source-small : {f : Found} → f ≡ found_in store s.revision s.sheet → f.block < 65_536
      source-small w =
          let E = accepted_seen store copy (fitting_accepted store copy v F) in
          omega (arith, found-used store v F.viewed.opened s.revision s.sheet source_near w, E.stored.room, E.many)
