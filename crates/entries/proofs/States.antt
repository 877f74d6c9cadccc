-- An entry that was read, state by state: it is the machine's entry in that state, with the bytes of its block; the status of an empty one, and whether a normal one is modified.
-- Assumes nothing.
use Prim.Native.Nat.{◌*◌, ◌+◌, ◌≤◌, ℕ}
use mathlib.Core.Bool.{Bool, cond, not}
use mathlib.Core.List.{[], ◌∷◌}
use mathlib.Core.Option.{some}
use mathlib.Core.Path.{◌∙◌, ◌≡◌, ap, refl, subst, sym}
use native.Mathlib.Omega.{arith}
use lib.ListN.{drop, length, take}
use Rattle.block.specs.Buffer.{block_at}
use Rattle.model.specs.Entry.{Entry, modified, own_bytes}
use Rattle.model.specs.Fitting.{FitsEntry, FitsRows}
use Rattle.model.specs.History.{Bytes, History, is_bytes, last, newest, present, sheet}
use Rattle.model.specs.Machine.{status_of}
use Rattle.model.specs.Store.{store_history}
use Rattle.model.specs.Types.{entry_as}
use Rattle.model.specs.WorkCopy.{entries_of}
use Rattle.model.specs.declared.Entry.{Entry as TheEntry}
use Rattle.model.specs.declared.State.{State}
use Rattle.model.specs.declared.State.TheVariants.{Added, Copied, Deleted, Empty, Normal}
use Rattle.laws.proofs.Demand2.{demand_two}
use Rattle.entries.proofs.Checking.{fitting_accepted}
use Rattle.entries.specs.View.{Fitting, bytes_of, entry_in, or_none}
use Rattle.entries.specs.declared.View.{View}
use Rattle.workcopy.proofs.Blocks.{body_at}
use Rattle.workcopy.specs.Copy.{Carries, Reading, bytes_in}

-- an empty or deleted entry has no bytes
all_own : (s : State) (x : Bytes) → Carries s (length x) → or_none (own_bytes (entry_as s x)) ≡ x
all_own Empty [] c = refl
all_own Empty (y ∷ x) c = absurd (omega arith)
all_own (Normal b) x c = refl
all_own Added x c = refl
all_own (Deleted b) [] c = refl
all_own (Deleted b) (y ∷ x) c = absurd (omega arith)
all_own (Copied s) x c = refl

module _ {copy : Bytes} {i : ℕ} {e : TheEntry} (r : Reading copy i e) where
  pub as_read : {s : State} → e.state ≡ s → entry_in copy i ≡ entry_as s (bytes_in e (block_at copy (i + 1)))
  as_read q = sym r.means ∙ ap (λ (s : State). entry_as s (bytes_in e (block_at copy (i + 1)))) q

  -- an entry that has bytes has these
  pub own_read : {s : State} → e.state ≡ s → own_bytes (entry_as s (bytes_in e (block_at copy (i + 1)))) ≡ some (bytes_in e (block_at copy (i + 1)))
      → bytes_of copy i ≡ bytes_in e (block_at copy (i + 1))
  own_read q p = ap (λ (y : Entry). or_none (own_bytes y)) (as_read q) ∙ ap or_none p

  -- its bytes stand in the copy
  pub own_bytes_lem : bytes_of copy i ≡ take e.len (drop (512 * (i + 1) + 16) copy)
  own_bytes_lem =
      let x = bytes_in e (block_at copy (i + 1)) in
      ap (λ (y : Entry). or_none (own_bytes y)) (sym r.means) ∙ all_own e.state x (subst (Carries e.state) (sym r.whole) r.carries)
      ∙ body_at copy (512 * (i + 1)) e.len r.short

module _ (store copy : Bytes) (v : View) (f : Fitting store copy v) where
  fitting_rows : FitsRows (store_history store) (entries_of copy)
  fitting_rows =
      let d = demand_two store copy in
      let p = d.copy-accepted.0 (fitting_accepted store copy v f).copy_taken in
      subst (FitsRows (store_history store)) (sym (d.copy_read p.0 p.1 p.2).1) p.3

  within : {b : ℕ} → b ≤ last (store_history store) → b ≤ v.last
  within h = omega (arith, f.viewed.opened.last)

  module _ {i : ℕ} {e : TheEntry} (r : Reading copy i e) where
    -- its base or its source is there
    pub fits_read : {s : State} → e.state ≡ s → FitsEntry (store_history store) i (entry_as s (bytes_in e (block_at copy (i + 1))))
    fits_read q = subst (FitsEntry (store_history store) i) (as_read r q) (fitting_rows i)

    -- so that the base is at most the last revision
    pub normal_base : {b : ℕ} → e.state ≡ Normal b → b ≤ v.last
    normal_base q = within (fits_read q).0

    pub deleted_base : {b : ℕ} → e.state ≡ Deleted b → b ≤ v.last
    deleted_base q = within (fits_read q).0

-- an empty entry, beside the answer t whether the last tree has its sheet
pub status-empty : (h : History) {copy : Bytes} {i : ℕ} {e : TheEntry} (t : Bool) → Reading copy i e → e.state ≡ Empty → t ≡ present (newest h i)
    → cond t 8 0 ≡ status_of h i (entry_in copy i)
status-empty h {i = i} t r q m = ap (λ (b : Bool). cond b 8 0) m ∙ sym (ap (status_of h i) (as_read r q))

-- ---- a normal entry, beside the answer t whether its bytes differ from its base's

module _ (h : History) {copy : Bytes} {i b : ℕ} {e : TheEntry} (r : Reading copy i e) (q : e.state ≡ Normal b) {t : Bool} (m : t ≡ not (is_bytes (bytes_of copy i) (sheet h b i))) where
  abbrev own : Bytes
  own = bytes_in e (block_at copy (i + 1))

  pub is_modified : t ≡ modified h i b own
  is_modified = m ∙ ap (λ (y : Entry). not (is_bytes (or_none (own_bytes y)) (sheet h b i))) (as_read r q)
