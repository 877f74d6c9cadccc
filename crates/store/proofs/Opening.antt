-- What the answer of `open` says of the store: no line 1 to 3 holds and the numbers are the store's, or which line is the first that holds.
-- Assumes nothing.
use Rattle.std.specs.Prelude.{Err, Ok}
use Prim.Native.Nat.{ℕ}
use mathlib.Core.Bool.{Bool, false, not, true}
use mathlib.Core.List.{[], ◌∷◌}
use mathlib.Core.Option.{none, some}
use mathlib.Core.Path.{◌≡◌, ap, refl}
use native.Mathlib.Omega.{arith}
use Rattle.model.specs.Calls.{size_condition, store_conditions}
use Rattle.model.specs.History.{Bytes, last}
use Rattle.model.specs.Refusals.{◌when◌, first_of}
use Rattle.model.specs.Store.{block_count, checked_but, lawful_but, store_history, used_of}
use Rattle.model.specs.Types.{number_of}
use Rattle.model.specs.declared.Refusal.{Refusal}
use Rattle.model.specs.declared.Refusal.TheVariants.{StoreCheck, StoreLayout, StoreLength}
use Rattle.store.specs.Opened.{open_of, opened_by}
use Rattle.store.specs.declared.Header.{Header}

ways_open : (a b c : Bool) (x h : Header) → opened_by (first_of (1 when a ∷ 2 when b ∷ 3 when c ∷ [])) x ≡ Ok h
    → (first_of (1 when a ∷ 2 when b ∷ 3 when c ∷ []) ≡ none) × (x ≡ h)
ways_open true b c x h e = let z : ◌≡◌ {A = ℕ} 0 1 = cc in absurd (omega arith)
ways_open false true c x h e = let z : ◌≡◌ {A = ℕ} 0 1 = cc in absurd (omega arith)
ways_open false false true x h e = let z : ◌≡◌ {A = ℕ} 0 1 = cc in absurd (omega arith)
ways_open false false false x h e = (refl, cc)

ways_refused : (a b c : Bool) (x : Header) (k : Refusal) → opened_by (first_of (1 when a ∷ 2 when b ∷ 3 when c ∷ [])) x ≡ Err k
    → first_of (1 when a ∷ 2 when b ∷ 3 when c ∷ []) ≡ some (number_of k)
ways_refused true b c x k e = let q : StoreLength ≡ k = cc in ap (λ (y : Refusal). some (number_of y)) q
ways_refused false true c x k e = let q : StoreCheck ≡ k = cc in ap (λ (y : Refusal). some (number_of y)) q
ways_refused false false true x k e = let q : StoreLayout ≡ k = cc in ap (λ (y : Refusal). some (number_of y)) q
ways_refused false false false x k e = let z : ◌≡◌ {A = ℕ} 0 1 = cc in absurd (omega arith)

module _ (store : Bytes) where
  pub open_accepted : (h : Header) → open_of store ≡ Ok h → (first_of (store_conditions store) ≡ none) × (h.last ≡ last (store_history store)) × (h.used ≡ used_of store)
  unfolding open_of
  open_accepted h e =
      let w = ways_open (size_condition store).holds (not (checked_but (block_count store) store)) (not (lawful_but (block_count store) store))
      (record { last = last (store_history store); used = used_of store }) h e in
      (w.0, cc w.1, cc w.1)

  pub open_refused : (k : Refusal) → open_of store ≡ Err k → first_of (store_conditions store) ≡ some (number_of k)
  unfolding open_of
  open_refused k e =
      ways_refused (size_condition store).holds (not (checked_but (block_count store) store)) (not (lawful_but (block_count store) store))
      (record { last = last (store_history store); used = used_of store }) k e

  -- and back: a store of which no line holds is open
  pub accepted_open : first_of (store_conditions store) ≡ none → open_of store ≡ Ok (record { last = last (store_history store); used = used_of store })
  unfolding open_of
  accepted_open e = ap (λ o. opened_by o (record { last = last (store_history store); used = used_of store })) e
