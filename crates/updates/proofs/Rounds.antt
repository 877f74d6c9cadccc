-- A loop that changes each chosen entry of a working copy, the lowest first: what is left to do from here gives the whole, and the copy still fits the store.
-- And the loop that looks for a conflict.
-- Assumes nothing.
use Prim.Native.Nat.{◌-◌, ◌<◌, ◌^◌, ℕ}
use mathlib.Core.Bool.{Bool, false, true}
use mathlib.Core.Path.{◌∙◌, ◌≡◌, ap, subst, sym}
use native.Mathlib.Omega.{arith}
use lib.ListN.{length, set}
use Rattle.model.specs.Entry.{Entry, empty}
use Rattle.model.specs.History.{Bytes}
use Rattle.model.specs.Invariant.{FitsAt}
use Rattle.model.specs.Refusals.{conflict}
use Rattle.model.specs.Rows.{rows}
use Rattle.model.specs.Store.{store_history}
use Rattle.model.specs.WorkCopy.{copy_bytes, entries_of, seat_of}
use Rattle.entries.specs.View.{Fitting, entry_in}
use Rattle.entries.specs.declared.View.{View}
use Rattle.masks.proofs.Visits.{any_here, any_next, any_none, any_chosen, rows_still, rows_visit}
use Rattle.masks.specs.Mask.{at_chosen}
use Rattle.updates.proofs.Keeping.{fits_limits, fitting_entry, kept}
use Rattle.masks.specs.Chosen.{Step}
use Rattle.updates.specs.Inner.{conflicting}
use Rattle.workcopy.proofs.Entries.{put_entries, same_copy}

-- f is to be done at the entries that m chooses, of those that the mask chose at first
pub record Doing (store : Bytes) (v : View) (f : ℕ → Entry → Entry) (mask : ℕ) (first : Bytes) (copy : Bytes) (m : ℕ) : Type 0 where
  pub fitting : Fitting store copy v
  pub left : rows (at_chosen f m) 0 (entries_of copy) ≡ rows (at_chosen f mask) 0 (entries_of first)

module _ {store : Bytes} {v : View} {f : ℕ → Entry → Entry} {mask : ℕ} {first copy : Bytes} {m : ℕ} (D : Doing store v f mask first copy m) where
  -- entry t is done
  pub doing-next : {t rest : ℕ} {next : Bytes} → Step m t rest → FitsAt (store_history store) t (f t (entry_in copy t))
      → next ≡ copy_bytes (seat_of copy) (set (entries_of copy) t (f t (entry_in copy t))) → Doing store v f mask first next rest
  doing-next {t} {rest} S p e =
      let F = D.fitting in
      let y = f t (entry_in copy t) in
      let n : t < length (entries_of copy) = omega (arith, S.inside, (kept store copy v F).wide) in
      subst (λ (x : Bytes). Doing store v f mask first x rest) (sym e)
      (subst (λ (m : ℕ). Doing store v f mask first (copy_bytes (seat_of copy) (set (entries_of copy) t y)) m) (sym S.cleared)
      (record {
        fitting = fitting_entry store copy v F t y p;
        left =
            ap (rows (at_chosen f (m - 2 ^ t)) 0) (put_entries copy F.viewed.accepted t y (fits_limits store copy v F t y p))
            ∙ rows_visit f S.lowest empty (entries_of copy) n ∙ D.left;
      }))

  -- nothing is left
  pub doing_end : Fitting store first v → m ≡ 0 → copy ≡ copy_bytes (seat_of first) (rows (at_chosen f mask) 0 (entries_of first))
  doing_end F z =
      let s : seat_of copy ≡ seat_of first = sym D.fitting.seat ∙ F.seat in
      let e : entries_of copy ≡ rows (at_chosen f mask) 0 (entries_of first) =
      sym (rows_still f (entries_of copy)) ∙ ap (λ (n : ℕ). rows (at_chosen f n) 0 (entries_of copy)) (sym z) ∙ D.left in
      same_copy copy D.fitting.viewed.accepted ∙ (λ i. copy_bytes (s i) (e i))

-- ---- a conflict among the chosen entries

module _ {store copy : Bytes} {v : View} (F : Fitting store copy v) (R : ℕ) where
  abbrev conflict_at : ℕ → Entry → Bool
  conflict_at i e = conflict (store_history store) R i e

  module _ {m t rest : ℕ} (S : Step m t rest) {b : Bool} (q : b ≡ conflicting store copy R t) where
    inside : t < length (entries_of copy)
    inside = omega (arith, S.inside, (kept store copy v F).wide)

    pub conflict_here : b ≡ true → true ≡ any_chosen conflict_at m (entries_of copy)
    conflict_here z = sym (any_here conflict_at S.lowest empty (entries_of copy) inside (sym q ∙ z))

    pub conflict-next : b ≡ false → any_chosen conflict_at rest (entries_of copy) ≡ any_chosen conflict_at m (entries_of copy)
    conflict-next z =
        ap (λ (n : ℕ). any_chosen conflict_at n (entries_of copy)) S.cleared ∙ any_next conflict_at S.lowest empty (entries_of copy) inside (sym q ∙ z)

  pub conflict-none : {m : ℕ} → m ≡ 0 → false ≡ any_chosen conflict_at m (entries_of copy)
  conflict-none z = sym (ap (λ (n : ℕ). any_chosen conflict_at n (entries_of copy)) z ∙ any_none conflict_at (entries_of copy))
