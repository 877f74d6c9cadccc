-- Every call on buffers that fit, refused or done, leaves buffers that fit, with the numbers that the store then states.
-- Assumes nothing.
use Prim.Native.Nat.{ℕ}
use mathlib.Core.Option.{Option, none, some}
use mathlib.Core.Path.{◌∙◌, ◌≡◌, ap, refl, subst, sym}
use Rattle.model.specs.Calls.{Out, call, copy_conditions, side_in, store_conditions}
use Rattle.model.specs.History.{Bytes, last}
use Rattle.model.specs.Machine.{Call, Side}
use Rattle.model.specs.Refusals.{first_of}
use Rattle.model.specs.Run.{Typed, own_conditions, side_by, side_step}
use Rattle.model.specs.Shows.{Accepted, Seen}
use Rattle.model.specs.Store.{block_count, store_history, used_of}
use Rattle.model.specs.WorkCopy.{seat_of}
use Rattle.laws.proofs.Accepted.{accepted-call, stays-accepted}
use Rattle.laws.proofs.Conditions.{clear, clear_first}
use Rattle.laws.proofs.Steps.{same-seat}
use Rattle.laws.proofs.Store.{count_held, history-held, used-held}
use Rattle.laws.proofs.WorkCopy.{holds-copy}
use Rattle.entries.proofs.Checking.{check_ready, fitting_accepted}
use Rattle.entries.specs.View.{Fitting, check_of, checked_by, view_of}
use Rattle.entries.specs.declared.View.{View}

-- buffers that hold a side of the machine state its numbers
pub seen_numbers : (N : ℕ) (store copy : Bytes) (d : Side) → Seen N store copy d
    → (block_count store ≡ N) × (used_of store ≡ d.used) × (store_history store ≡ d.history)
seen_numbers N store copy d E = (
  count_held N store d.history d.used d.tail E.stored,
  used-held N store d.history d.used d.tail E.stored,
  history-held N store d.history d.used d.tail E.stored,
)

-- buffers that no line from 1 to 6 refuses fit
pub accepted_fitting : (store copy : Bytes) → Accepted store copy → Fitting store copy (view_of store copy)
unfolding check_of
accepted_fitting store copy A =
    let c = clear_first (store_conditions store) (copy_conditions store copy) (clear (store_conditions store) A.store_taken) in
    check_ready store copy (view_of store copy) (ap (λ (o : Option ℕ). checked_by o (view_of store copy)) (c ∙ A.copy_taken))

same_side : (o : Option ℕ) (d : Side) (c : Call) → (side_by o d c).1.seat ≡ d.seat
same_side (some n) d c = refl
same_side none d c = (same-seat d c).0

-- THE STATEMENT
pub call_fitting : (store copy : Bytes) (v : View) → Fitting store copy v → (c : Call) → Typed c → {o : Out} → o ≡ call store copy c → {u l : ℕ}
    → u ≡ used_of o.store → l ≡ last (store_history o.store) → Fitting o.store o.copy (record { n = v.n; used = u; last = l; seat = v.seat })
call_fitting store copy v F c ty {o} e {u} {l} p q =
    let A = fitting_accepted store copy v F in
    let d : Side = side_in store copy in
    let E : Seen (block_count store) o.store o.copy (side_step d c).1 = subst (λ (x : Out). Seen (block_count store) x.store x.copy (side_step d c).1) (sym e) (accepted-call store copy A c ty).1 in
    let n : block_count o.store ≡ v.n = (seen_numbers (block_count store) o.store o.copy (side_step d c).1 E).0 ∙ sym F.viewed.opened.accepted.count in
    let s : seat_of o.copy ≡ v.seat =
    (holds-copy o.copy (side_step d c).1.seat (side_step d c).1.entries E.copied).2 ∙ same_side (first_of (own_conditions d c)) d c ∙ sym F.seat in
    subst (Fitting o.store o.copy) (λ i. record { n = n i; used = sym p i; last = sym q i; seat = s i })
    (accepted_fitting o.store o.copy (subst (λ (x : Out). Accepted x.store x.copy) (sym e) (stays-accepted store copy A c ty)))
