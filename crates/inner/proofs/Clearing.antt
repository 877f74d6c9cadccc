-- The tail of a store that is open: it can be counted and cleared, and what is left is the store without it, or with what n writes leave of it.
-- Assumes nothing.
use Rattle.std.specs.Prelude.{Err, Ok}
use Prim.Native.Nat.{◌+◌, ◌-◌, ◌<◌, ◌≤◌, ℕ}
use mathlib.Core.Bool.{Bool, cond, false, true}
use mathlib.Core.Option.{Option}
use mathlib.Core.Path.{◌∙◌, ◌≡◌, ap, subst, sym}
use native.Mathlib.Omega.{arith}
use borrow.Author.Tests.{leb-false, leb-true}
use lib.Dec.{leb}
use Rattle.model.specs.Calls.{clear_cut_call, cleared_by}
use Rattle.model.specs.History.{Bytes}
use Rattle.model.specs.Machine.{ClearsCut, done, stopped}
use Rattle.model.specs.Store.{bare_of, blank_from, tail_of, used_of}
use Rattle.model.specs.Types.{created_as, number_of}
use Rattle.model.specs.declared.Answer.TheVariants.{Done, Stopped}
use Rattle.model.specs.declared.Refusal.{Refusal}
use Rattle.inner.proofs.Refusing.{store_open, store-refused}
use Rattle.store.proofs.Opening.{open_accepted, open_refused}
use Rattle.store.specs.Opened.{open_of}
use Rattle.store.specs.declared.Header.{Header}
use Rattle.tails.proofs.Standing.{cleared_bare, tail_clearable}
use Rattle.tails.specs.Taken.{Clearable, Taken}

pub clear-refused : (store : Bytes) (n : ℕ) (k : Refusal) → open_of store ≡ Err k → created_as (Err k) store ≡ clear_cut_call store n
unfolding clear_cut_call
clear-refused store n k e = sym (ap (λ (o : Option ℕ). cleared_by o store n) (store-refused store (ClearsCut n) (number_of k) (open_refused store k e)))

module _ (store : Bytes) (h : Header) (e : open_of store ≡ Ok h) where
  pub open_taken : Taken store h.used
  open_taken = let w = open_accepted store h e in record { clear = w.0; in_use = w.2 }

  module _ (t : ℕ) (q : t ≡ tail_of store) where
    pub may_clear : Clearable store h.used t
    may_clear = subst (Clearable store h.used) (sym q) (tail_clearable store h.used open_taken)

    -- stopped after n writes, or not
    module _ (n : ℕ) {b : Bool} (l : b ≡ leb t n) {store' : Bytes} (w : store' ≡ blank_from (h.used + (t - n)) store) where
      cut_is : {c : Bool} → leb (tail_of store) n ≡ c
          → clear_cut_call store n ≡ cond c (record { says = done; buffer = bare_of store }) (record { says = stopped; buffer = blank_from (used_of store + tail_of store - n) store })
      unfolding clear_cut_call
      cut_is z =
          ap (λ (o : Option ℕ). cleared_by o store n) (store_open store (ClearsCut n) open_taken.clear)
          ∙ ap (λ (c : Bool). cond c (record { says = done; buffer = bare_of store }) (record { says = stopped; buffer = blank_from (used_of store + tail_of store - n) store })) z

      pub clear-all : b ≡ true → created_as (Ok Done) store' ≡ clear_cut_call store n
      clear-all z =
          let g : t ≤ n = leb-true t n (sym l ∙ z) in
          let s : h.used + (t - n) ≡ h.used + (t - t) = omega arith in
          ap (created_as (Ok Done)) (w ∙ ap (λ (p : ℕ). blank_from p store) s ∙ cleared_bare store h.used open_taken t q)
          ∙ sym (cut_is (ap (λ (k : ℕ). leb k n) (sym q) ∙ sym l ∙ z))

      pub clear-stopped : b ≡ false → created_as (Ok Stopped) store' ≡ clear_cut_call store n
      clear-stopped z =
          let g : n < t = leb-false t n (sym l ∙ z) in
          let s : h.used + (t - n) ≡ used_of store + tail_of store - n = omega (arith, open_taken.in_use, q) in
          ap (created_as (Ok Stopped)) (w ∙ ap (λ (p : ℕ). blank_from p store) s) ∙ sym (cut_is (ap (λ (k : ℕ). leb k n) (sym q) ∙ sym l ∙ z))
