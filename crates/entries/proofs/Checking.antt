-- What the answer of `check` says of the two buffers, and each of its answers from the answers of the steps.
-- Assumes nothing.
use Rattle.std.specs.Prelude.{Err, Ok}
use Prim.Native.Nat.{ℕ}
use mathlib.Core.Bool.{Bool, cond, false, not, true}
use mathlib.Core.List.{List, [], ◌++◌, ◌∷◌}
use mathlib.Core.Option.{Option, none, some}
use mathlib.Core.Path.{◌∙◌, ◌≡◌, ap, refl, subst, sym}
use native.Mathlib.Omega.{arith}
use borrow.Author.Tests.{eq-eqb, eqb-true, not-false}
use lib.Dec.{eqb}
use lib.ListN.{length}
use Rattle.block.proofs.Says.{is_true}
use Rattle.model.specs.Calls.{change_by, change_call, copy_conditions, copy_size_condition, refusal_of, side_in, size_condition, store_conditions}
use Rattle.model.specs.Fitting.{fits_store}
use Rattle.model.specs.History.{Bytes, last}
use Rattle.model.specs.Machine.{Call}
use Rattle.model.specs.Refusals.{Clear, Condition, ◌when◌, conditions, first_of, tail_conditions}
use Rattle.model.specs.Shows.{Accepted}
use Rattle.model.specs.Store.{block_count, checked_but, lawful_but, store_history, used_of}
use Rattle.model.specs.Types.{number_of}
use Rattle.model.specs.WorkCopy.{copy_ok, entries_of, seat_of}
use Rattle.model.specs.declared.Refusal.{Refusal}
use Rattle.model.specs.declared.Refusal.TheVariants.{CopyLayout, CopyLength, StoreCheck, StoreLayout, StoreLength, Unfit}
use Rattle.laws.proofs.Conditions.{clear, clear_first, clear_split, none-holds}
use Rattle.laws.proofs.Rows.{is_t}
use Rattle.entries.specs.View.{Fitting, Viewed, check_of, checked_by, inner_out, view_of}
use Rattle.entries.specs.declared.View.{View}
use Rattle.store.proofs.Opening.{open_accepted}
use Rattle.store.specs.Opened.{open_of, opened_by}
use Rattle.store.specs.declared.Header.{Header}
use Rattle.workcopy.proofs.Accepting.{seat_so}
use Rattle.workcopy.specs.Copy.{accept_of}

-- the lines 1 to 3, and 4 to 6
abbrev store_lines : Bool → Bool → Bool → List Condition
store_lines a b c = 1 when a ∷ 2 when b ∷ 3 when c ∷ []

abbrev copy_lines : Bool → Bool → Bool → List Condition
copy_lines d e f = 4 when d ∷ 5 when e ∷ 6 when f ∷ []

-- ---- the answers of the steps

ways_store : (a b c d e f : Bool) (h : Header) (v : View) (k : Refusal) → opened_by (first_of (store_lines a b c)) h ≡ Err k
    → Err k ≡ checked_by (first_of (store_lines a b c ++ copy_lines d e f)) v
ways_store true b c d e f h v k q = cc
ways_store false true c d e f h v k q = cc
ways_store false false true d e f h v k q = cc
ways_store false false false d e f h v k q = let z : ◌≡◌ {A = ℕ} 0 1 = cc in absurd (omega arith)

ways_copy : (a b f : Bool) (seat : ℕ) (v : View) (k : Refusal) → cond a (cond b (Ok seat) (Err CopyLayout)) (Err CopyLength) ≡ Err k
    → Err k ≡ checked_by (first_of (copy_lines (not a) (not b) f)) v
ways_copy false b f seat v k q = cc
ways_copy true false f seat v k q = cc
ways_copy true true f seat v k q = let z : ◌≡◌ {A = ℕ} 0 1 = cc in absurd (omega arith)

module _ (store copy : Bytes) where
  pub store-refused : {k : Refusal} → open_of store ≡ Err k → Err k ≡ check_of store copy
  unfolding open_of check_of
  store-refused {k} q =
      ways_store (size_condition store).holds (not (checked_but (block_count store) store)) (not (lawful_but (block_count store) store)) (copy_size_condition copy).holds
      (not (copy_ok copy)) (not (fits_store (store_history store) (entries_of copy))) (record { last = last (store_history store); used = used_of store }) (view_of store copy) k q

  module _ {h : Header} (p : open_of store ≡ Ok h) where
    -- the lines on the store are passed
    check_next : check_of store copy ≡ checked_by (first_of (copy_conditions store copy)) (view_of store copy)
    unfolding check_of
    check_next =
        ap (λ (o : Option ℕ). checked_by o (view_of store copy))
        (clear_first (store_conditions store) (copy_conditions store copy) (clear (store_conditions store) (open_accepted store h p).0))

    pub copy-refused : {k : Refusal} → accept_of copy ≡ Err k → Err k ≡ check_of store copy
    unfolding accept_of
    copy-refused {k} q =
        ways_copy (eqb (length copy) 16_896) (copy_ok copy) (not (fits_store (store_history store) (entries_of copy))) (seat_of copy) (view_of store copy) k q ∙ sym check_next

    module _ {seat : ℕ} (q : accept_of copy ≡ Ok seat) where
      abbrev view : View
      view = record { n = block_count store; used = h.used; last = h.last; seat = seat }

      pub both-viewed : Viewed store copy view
      both-viewed =
          let r = open_accepted store h p in
          record {
            opened = record { accepted = record { clear = r.0; count = refl; in_use = r.2 }; last = r.1 };
            accepted = (seat_so copy seat q).0;
          }

      -- nor does a line on the copy hold but that it does not fit
      check_last : check_of store copy ≡ cond (fits_store (store_history store) (entries_of copy)) (Ok (view_of store copy)) (Err Unfit)
      check_last =
          let s = (seat_so copy seat q).0 in
          check_next ∙ rw (eq-eqb (length copy) 16_896 s.size, is_true (copy_ok copy) s.ok) (ways (fits_store (store_history store) (entries_of copy)))
        where
          ways : (b : Bool) → checked_by (first_of (copy_lines false false (not b))) (view_of store copy) ≡ cond b (Ok (view_of store copy)) (Err Unfit)
          ways true = refl
          ways false = refl

      pub both-ready : fits_store (store_history store) (entries_of copy) ≡ true → Ok view ≡ check_of store copy
      both-ready f =
          let r = open_accepted store h p in
          let s = (seat_so copy seat q).1 in
          let e : view ≡ view_of store copy = λ j. record { n = block_count store; used = r.2 j; last = r.1 j; seat = s j } in
          ap Ok e ∙ sym (check_last ∙ rw f)

      pub both_unfit : fits_store (store_history store) (entries_of copy) ≡ false → Err Unfit ≡ check_of store copy
      both_unfit f = sym (check_last ∙ rw f)

-- ---- THE STATEMENTS, for callers

ready_so : (o : Option ℕ) (w v : View) → checked_by o w ≡ Ok v → (o ≡ none) × (w ≡ v)
ready_so none w v q = (refl, cc)
ready_so (some n) w v q = let z : ◌≡◌ {A = ℕ} 0 1 = cc in absurd (omega arith)

refused_so : (a b c d e f : Bool) (v : View) (k : Refusal) → checked_by (first_of (store_lines a b c ++ copy_lines d e f)) v ≡ Err k
    → first_of (store_lines a b c ++ copy_lines d e f) ≡ some (number_of k)
refused_so true b c d e f v k q = let r : StoreLength ≡ k = cc in ap (λ (y : Refusal). some (number_of y)) r
refused_so false true c d e f v k q = let r : StoreCheck ≡ k = cc in ap (λ (y : Refusal). some (number_of y)) r
refused_so false false true d e f v k q = let r : StoreLayout ≡ k = cc in ap (λ (y : Refusal). some (number_of y)) r
refused_so false false false true e f v k q = let r : CopyLength ≡ k = cc in ap (λ (y : Refusal). some (number_of y)) r
refused_so false false false false true f v k q = let r : CopyLayout ≡ k = cc in ap (λ (y : Refusal). some (number_of y)) r
refused_so false false false false false true v k q = let r : Unfit ≡ k = cc in ap (λ (y : Refusal). some (number_of y)) r
refused_so false false false false false false v k q = let z : ◌≡◌ {A = ℕ} 0 1 = cc in absurd (omega arith)

module _ (store copy : Bytes) where
  pub check_ready : (v : View) → check_of store copy ≡ Ok v → Fitting store copy v
  unfolding check_of
  check_ready v q =
      let r = ready_so (first_of (store_conditions store ++ copy_conditions store copy)) (view_of store copy) v q in
      let c = clear_split (store_conditions store) (copy_conditions store copy) (clear (store_conditions store ++ copy_conditions store copy) r.0) in
      subst (Fitting store copy) r.1
      (record {
        viewed = record {
          opened = record { accepted = record { clear = none-holds (store_conditions store) c.0; count = refl; in_use = refl }; last = refl };
          accepted = record {
            size = eqb-true (length copy) 16_896 (not-false (eqb (length copy) 16_896) c.1.0);
            ok = is_t (copy_ok copy) c.1.1.0;
          };
        };
        fits = not-false (fits_store (store_history store) (entries_of copy)) c.1.1.1.0;
        seat = refl;
      })

  pub check_refused : (k : Refusal) → check_of store copy ≡ Err k → first_of (store_conditions store ++ copy_conditions store copy) ≡ some (number_of k)
  unfolding check_of
  check_refused k q =
      refused_so (size_condition store).holds (not (checked_but (block_count store) store)) (not (lawful_but (block_count store) store)) (copy_size_condition copy).holds
      (not (copy_ok copy)) (not (fits_store (store_history store) (entries_of copy))) (view_of store copy) k q

  pub fitting_accepted : (v : View) → Fitting store copy v → Accepted store copy
  fitting_accepted v f =
      let a = f.viewed.accepted in
      record {
        store_taken = f.viewed.opened.accepted.clear;
        copy_taken = none-holds (copy_conditions store copy) (ap not (eq-eqb (length copy) 16_896 a.size), (ap not (is_true (copy_ok copy) a.ok), (ap not f.fits, tt)));
      }

-- where no line from 1 to 6 holds, nor 14, only the machine's other conditions are left
pub inner_refusal : (store copy : Bytes) (v : View) → Fitting store copy v → (c : Call) → Clear (tail_conditions (side_in store copy) c)
    → first_of (conditions (side_in store copy) c) ≡ refusal_of store copy c
unfolding refusal_of
inner_refusal store copy v F c t =
    let A = fitting_accepted store copy v F in
    let ts = tail_conditions (side_in store copy) c in
    let cs = conditions (side_in store copy) c in
    sym (clear_first (store_conditions store) (ts ++ (copy_conditions store copy ++ cs)) (clear (store_conditions store) A.store_taken)
    ∙ clear_first ts (copy_conditions store copy ++ cs) t ∙ clear_first (copy_conditions store copy) cs (clear (copy_conditions store copy) A.copy_taken))

-- so that the inner call is the call
pub inner_call : (store copy : Bytes) (v : View) → Fitting store copy v → (c : Call) → Clear (tail_conditions (side_in store copy) c) → inner_out store copy c ≡ change_call store copy c
unfolding inner_out change_call
inner_call store copy v F c t = ap (λ (o : Option ℕ). change_by o store copy c) (inner_refusal store copy v F c t)
