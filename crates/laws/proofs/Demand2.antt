-- Demand 2: a store and a working copy are accepted exactly if they are a layout, and read as what they are the layout of.
-- Assumes nothing.
use Prim.Native.Nat.{ℕ}
use mathlib.Core.Bool.{false, not, true}
use mathlib.Core.List.{List}
use mathlib.Core.Option.{Option, none, some}
use mathlib.Core.Path.{◌∙◌, ◌≡◌, ap, refl, subst, sym}
use native.Mathlib.Nat.{zero-add}
use borrow.Author.Tests.{eq-eqb, eqb-true, le-leb, leb-true, not-false, not-true}
use lib.Dec.{eqb, leb}
use lib.ListN.{get_or, length}
use Rattle.block.proofs.Says.{is_true}
use Rattle.model.specs.Calls.{copy_conditions, store_conditions}
use Rattle.model.specs.Demand2.{Demand2, LaidStore}
use Rattle.model.specs.Entry.{Entry, added, copied, deleted, empty, normal}
use Rattle.model.specs.Fitting.{FitsEntry, FitsRows, Has, fits_entry, fits_store, has}
use Rattle.model.specs.History.{Bytes, History, last, present, sheet}
use Rattle.model.specs.Log.{Log, commits}
use Rattle.model.specs.Refusals.{first_of}
use Rattle.model.specs.Rows.{some-row}
use Rattle.model.specs.Store.{HoldsLog, bare_of, block_count, store_history, store_log, tail_of, used_of}
use Rattle.model.specs.Tail.{Tailed}
use Rattle.model.specs.WorkCopy.{HoldsCopy, copy_ok, entries_of, seat_of}
use Rattle.laws.proofs.Accepted.{both}
use Rattle.laws.proofs.Conditions.{clear, none-holds, sized_so}
use Rattle.laws.proofs.Holding.{history-logged, log-holds, logged-accepted}
use Rattle.laws.proofs.Rows.{is_t, no_row, no_rows}
use Rattle.laws.proofs.Store.{bare-held, clear-held, history-held, log-held, tail-held, taken-holds, taken_tailed, used-held}
use Rattle.laws.proofs.WorkCopy.{copy_holds, holds-copy}
use Rattle.laws.proofs.Writing.{is_some}

-- ---- the store

pub store_laid : (store : Bytes) → first_of (store_conditions store) ≡ none → LaidStore store (store_log store)
store_laid store e =
    let q = sized_so store (clear (store_conditions store) e).0 in
    let n = block_count store in
    let X = taken_tailed store e in
    let h : store_history store ≡ commits (store_log store) = sym (history-logged n (bare_of store)) in
    let X' : Tailed n store (commits (store_log store)) (used_of store) (tail_of store) = subst (λ (x : History). Tailed n store x (used_of store) (tail_of store)) h X in
    record {
      count = n;
      few = q.1;
      many = q.2;
      used = used_of store;
      tail = tail_of store;
      holds = X';
      log = subst (λ (l : Bytes). HoldsLog n l (store_log store)) (bare-held n store (commits (store_log store)) (used_of store) (tail_of store) X') (log-holds n (bare_of store) (store_history store) (taken-holds store e));
    }

laid-store : (store : Bytes) (g : Log) (L : LaidStore store g)
    → (first_of (store_conditions store) ≡ none) × ((store_log store ≡ g) × (store_history store ≡ commits g) × (used_of store ≡ L.used) × (tail_of store ≡ L.tail))
laid-store store g L =
    let h : History = commits g in (
      none-holds (store_conditions store) (clear-held L.count store h L.used L.tail L.holds L.few L.many),
      (
        log-held L.count store h L.used L.tail L.holds ∙ (logged-accepted L.count L.holds.bare g L.log).2,
        history-held L.count store h L.used L.tail L.holds,
        used-held L.count store h L.used L.tail L.holds,
        tail-held L.count store h L.used L.tail L.holds,
      ),
    )

-- ---- the copy

has_so : (h : History) (r i : ℕ) → has h r i ≡ true → Has h r i
has_so h r i e = let p = both (leb r (last h)) (present (sheet h r i)) e in (leb-true r (last h) p.0, is_some (sheet h r i) p.1)

so_has : (h : History) (r i : ℕ) → Has h r i → has h r i ≡ true
so_has h r i p = rw (le-leb r (last h) p.0) (there (sheet h r i) p.1)
  where
    there : (o : Option Bytes) → (o ≡ none → ⊥) → present o ≡ true
    there none n = absurd (n refl)
    there (some x) n = refl

fits_so : (h : History) (i : ℕ) (e : Entry) → fits_entry h i e ≡ true → FitsEntry h i e
fits_so h i empty t = tt
fits_so h i (normal r b) t = has_so h r i t
fits_so h i (added b) t = tt
fits_so h i (deleted r) t = has_so h r i t
fits_so h i (copied s v b) t = has_so h v s t

so_fits : (h : History) (i : ℕ) (e : Entry) → FitsEntry h i e → fits_entry h i e ≡ true
so_fits h i empty f = refl
so_fits h i (normal r b) f = so_has h r i f
so_fits h i (added b) f = refl
so_fits h i (deleted r) f = so_has h r i f
so_fits h i (copied s v b) f = so_has h v s f

rows_so : (h : History) (es : List Entry) → fits_store h es ≡ true → FitsRows h es
rows_so h es t i =
    let n : some-row (λ i e. not (fits_entry h i e)) 0 es ≡ false = not-true (some-row (λ i e. not (fits_entry h i e)) 0 es) t in
    fits_so h i (get_or es i empty) (not-false (fits_entry h i (get_or es i empty)) (no_row (λ i e. not (fits_entry h i e)) empty (λ i. refl) es i n))

so_rows : (h : History) (es : List Entry) → FitsRows h es → fits_store h es ≡ true
so_rows h es f = ap not (no_rows (λ i e. not (fits_entry h i e)) empty 0 es (λ i l. rw zero-add (ap not (so_fits h i (get_or es i empty) (f i)))))

copy-laid : (store copy : Bytes) → first_of (copy_conditions store copy) ≡ none → HoldsCopy copy (seat_of copy) (entries_of copy) × FitsRows (store_history store) (entries_of copy)
copy-laid store copy e =
    let c = clear (copy_conditions store copy) e in (
      copy_holds copy (eqb-true (length copy) 16_896 (not-false (eqb (length copy) 16_896) c.0)) (is_t (copy_ok copy) c.1.0),
      rows_so (store_history store) (entries_of copy) (not-false (fits_store (store_history store) (entries_of copy)) c.1.1.0),
    )

pub laid-copy : (store copy : Bytes) (k : ℕ) (es : List Entry) → HoldsCopy copy k es × FitsRows (store_history store) es
    → (first_of (copy_conditions store copy) ≡ none) × (seat_of copy ≡ k) × (entries_of copy ≡ es)
laid-copy store copy k es p =
    let C = holds-copy copy k es p.0 in
    let f : fits_store (store_history store) (entries_of copy) ≡ true = ap (fits_store (store_history store)) C.3 ∙ so_rows (store_history store) es p.1 in
    (none-holds (copy_conditions store copy) (ap not (eq-eqb (length copy) 16_896 C.0), (ap not (is_true (copy_ok copy) C.1), (ap not f, tt))), C.2, C.3)

-- THE STATEMENT
pub demand_two : (store copy : Bytes) → Demand2 store copy
demand_two store copy = record {
  store-accepted = (λ e. (store_log store, store_laid store e), λ p. (laid-store store p.0 p.1).0);
  store_read = λ g L. (laid-store store g L).1;
  copy-accepted = (
    λ e. let p = copy-laid store copy e in (seat_of copy, entries_of copy, p.0, p.1),
    λ p. (laid-copy store copy p.0 p.1 (p.2, p.3)).0,
  );
  copy_read = λ k es H. let C = holds-copy copy k es H in (C.2, C.3);
}
