-- W3: the number that read, show and status give is that of the last commit that names the sheet.
-- Assumes nothing.
use Prim.Native.Nat.{◌<◌, ◌≤◌, suc, zero, ℕ}
use mathlib.Core.Bool.{Bool, ◌||◌, false, not, true}
use mathlib.Core.List.{[], ◌++◌}
use mathlib.Core.Logic.{inl, inr}
use mathlib.Core.Option.{Option, none, some}
use mathlib.Core.Path.{◌∙◌, ◌≡◌, ap, ap₂, refl, subst, sym}
use native.Mathlib.Omega.{arith}
use borrow.Author.Tests.{le-ltb, leb-false, leb-true, ltb-false, ne_eqb, not-false}
use lib.Dec.{eqb, leb, ltb}
use lib.ListN.{drop, take}
use lib.Seq.{take_all}
use Rattle.block.proofs.Says.{eq_or}
use Rattle.model.specs.Calls.{Buffers, Place, answer_by, both_conditions, found_place, fresh_buffers, fresh_copy, heard, in_copy, in_store, log_call, no_place, own_place, place_by, read_call, read_place, refusal_of, run_on, show_place, side_in, status_call, store_conditions, store_only_conditions, store_refusal, store_side}
use Rattle.model.specs.Entry.{own_bytes}
use Rattle.model.specs.History.{Bytes, Change, History, add, change, change_of, commit_at, copy, delete, last, namer, namer_from, names, newest, nothing, present, sheet}
use Rattle.model.specs.Invariant.{Sound}
use Rattle.model.specs.Machine.{Log, Read, Show, Side, Status, bytes, doing, entry, fresh, number, status}
use Rattle.model.specs.Refusals.{Clear, conditions, first_of, no_sheet, too_late}
use Rattle.model.specs.Run.{accepted, run}
use Rattle.model.specs.SetBy.{CallNumbers, LastNamer, NamedBy, Numbered, SetBy, action_in}
use Rattle.model.specs.Store.{store_history}
use Rattle.laws.proofs.Accepted.{accepted-kept, clear-accepted}
use Rattle.laws.proofs.Conditions.{clear, clear_first, clear_split, none-holds}
use Rattle.laws.proofs.Demand1.{fresh-accepted}
use Rattle.laws.proofs.Demand3.{accepted-append, demand_three}
use Rattle.laws.proofs.Ordered.{list_history}
use Rattle.laws.proofs.Rows.{cond-any, or_false}
use Rattle.laws.proofs.Trees.{namer-grown, namer-step, present-named}

-- ---- histories

-- "or 0 if none did" follows
lastly : (h : History) (R i n : ℕ) → n ≤ R → (1 ≤ n → NamedBy h n i) → ((v : ℕ) → v ≤ R → NamedBy h v i → v ≤ n) → LastNamer h R i n
lastly h R i n u m g = record {
  up_to = u;
  named = m;
  greatest = g;
  never = (
    λ e v le B. omega (arith, g v le B, B.low),
    λ f. (let z : 1 ≤ n → ⊥ = λ l. f n u (m l) in omega arith),
  );
}

last-namer : (h : History) (R i : ℕ) → LastNamer h R i (namer h R i)
last-namer h zero i = lastly h 0 i 0 (omega arith) (λ l. absurd (omega arith)) (λ v le B. le)
last-namer h (suc R) i = go (leb (suc R) (last h)) refl (last-namer h R i)
  where
    go : (t : Bool) → leb (suc R) (last h) ≡ t → LastNamer h R i (namer h R i) → LastNamer h (suc R) i (namer h (suc R) i)
    go true e L =
        let lt : R < last h = leb-true (suc R) (last h) e in
        subst (LastNamer h (suc R) i) (sym (namer-step h R i lt))
        (cond-any (LastNamer h (suc R) i) (names (change_of (commit_at h (suc R)) i))
        (λ y. lastly h (suc R) i (suc R) (omega arith) (λ l. record { low = l; high = lt; named = y }) (λ v le B. le))
        (λ y. lastly h (suc R) i (namer h R i) (omega (arith, L.up_to)) L.named (λ v le B. elim (eq_or v (suc R)) [
          | inl q ↦ let z : ◌≡◌ {A = ℕ} 0 1 = cc (y, B.named, ap (λ (w : ℕ). names (change_of (commit_at h w) i)) q) in absurd (omega arith)
          | inr ne ↦ L.greatest v (omega arith) B
        ])))
    go false e L =
        let le : last h ≤ R = omega (arith, leb-false (suc R) (last h) e) in
        let q : namer h R i ≡ namer h (suc R) i = ap (λ (k : History). namer_from 0 0 k i) (take_all R h le ∙ sym (take_all (suc R) h (omega arith))) in
        subst (LastNamer h (suc R) i) q
        (lastly h (suc R) i (namer h R i) (omega (arith, L.up_to)) L.named (λ v l B. L.greatest v (omega (arith, B.high)) B))

-- there is one such number
pub one_number : (h : History) (R i n m : ℕ) → LastNamer h R i n → LastNamer h R i m → n ≡ m
one_number h R i n m L M = omega (arith, at_most n m L M, at_most m n M L)
  where
    at_most : (n m : ℕ) → LastNamer h R i n → LastNamer h R i m → n ≤ m
    at_most zero m L M = omega arith
    at_most (suc n) m L M = M.greatest (suc n) L.up_to (L.named (omega arith))

is_namer : (h : History) (R i n : ℕ) → LastNamer h R i n → namer h R i ≡ n
is_namer h R i n L = one_number h R i (namer h R i) n (last-namer h R i) L

-- ---- the calls on one store

acts : (a : Change) → names a ≡ true → 1 ≤ number a
acts nothing e = let z : ◌≡◌ {A = ℕ} 0 1 = cc in absurd (omega arith)
acts (add x) e = omega arith
acts (change x) e = omega arith
acts delete e = omega arith
acts (copy s r x) e = omega arith

-- a call that is not refused finds sheet i in tree R, with the number n
record Found (store : Bytes) (R i n : ℕ) : Type 0 where
  taken : Clear (store_conditions store)
  small : i ≤ 31
  up_to : R ≤ last (store_history store)
  there : present (sheet (store_history store) R i) ≡ true
  is : namer (store_history store) R i ≡ n

module _ (store : Bytes) where
  abbrev h : History
  h = store_history store

  log-acts : (n i : ℕ) → Clear (store_conditions store) → i ≤ 31 → NamedBy h n i → 1 ≤ action_in (log_call store n i)
  unfolding log_call store_refusal
  log-acts n i t small B =
      let nz : n ≡ 0 → ⊥ = λ z. omega (arith, B.low) in
      let seven : (no_sheet i || (eqb n 0 || too_late h n)) ≡ false = ap₂ ◌||◌ (le-ltb 31 i small) (ap₂ ◌||◌ (ne_eqb n 0 nz) (le-ltb (last h) n B.high)) in
      let e : first_of (store_only_conditions store (Log n i)) ≡ none =
      clear_first (store_conditions store) (conditions (store_side store) (Log n i)) t ∙ none-holds (conditions (store_side store) (Log n i)) (seven, tt) in
      subst (λ (o : Option ℕ). 1 ≤ action_in (answer_by o (doing (store_side store) (Log n i)).0)) (sym e) (acts (change_of (commit_at h n) i) B.named)

  numbered : (R i n : ℕ) → Clear (store_conditions store) → i ≤ 31 → R ≤ last h → namer h R i ≡ n → Numbered store R i n
  numbered R i n t small le e =
      let L : LastNamer h R i n = subst (LastNamer h R i) e (last-namer h R i) in
      record { within = le; is = L; logs = λ l. log-acts n i t small (L.named l) }

  found-numbered : (R i n : ℕ) → Found store R i n → Numbered store R i n × (1 ≤ n)
  found-numbered R i n F =
      let s : Sound h = (accepted-kept store (fresh_copy 1) (fresh-accepted store [] 1 (omega arith) (omega arith) F.taken)).sound in
      (numbered R i n F.taken F.small F.up_to F.is, omega (arith, present-named h R i s F.up_to F.there, F.is))

  read_found : (R i n : ℕ) (x : Bytes) → read_call store R i ≡ bytes x n → Found store R i n
  unfolding read_place store_refusal
  read_found R i n x e = go (store_refusal store (Read R i)) refl e
    where
      go : (o : Option ℕ) → store_refusal store (Read R i) ≡ o → heard store [] (place_by o (found_place store R i)) ≡ bytes x n → Found store R i n
      go (some k) z q = let w : ◌≡◌ {A = ℕ} 0 1 = cc in absurd (omega arith)
      go none z q =
          let c = clear_split (store_conditions store) (conditions (store_side store) (Read R i)) (clear (store_only_conditions store (Read R i)) z) in
          let l = or_false (no_sheet i) (too_late h R) c.1.0 in
          record { taken = c.0; small = ltb-false 31 i l.0; up_to = ltb-false (last h) R l.1; there = not-false (present (sheet h R i)) c.1.1.0; is = cc }

  module _ (work : Bytes) (i n : ℕ) where
    abbrev d : Side
    d = side_in store work

    show_found : (p m : ℕ) → show_place store work i ≡ in_store p m n → Found store (last h) i n
    unfolding show_place refusal_of
    show_found p m e = go (refusal_of store work (Show i)) (own_bytes (entry d i)) refl refl e
      where
        go : (o : Option ℕ) (w : Option Bytes) → refusal_of store work (Show i) ≡ o → own_bytes (entry d i) ≡ w
            → place_by o (own_place w i (found_place store (last h) i)) ≡ in_store p m n → Found store (last h) i n
        go (some k) w z y q = let v : ◌≡◌ {A = ℕ} 0 1 = cc in absurd (omega arith)
        go none (some x) z y q = let v : ◌≡◌ {A = ℕ} 0 1 = cc in absurd (omega arith)
        go none none z y q =
            let c = clear-accepted store work (Show i) (clear (both_conditions store work (Show i)) z) in
            let t : not (present (newest h i)) ≡ false = rw y at c.2.1.0 in
            record {
              taken = clear (store_conditions store) c.0.store_taken;
              small = ltb-false 31 i c.2.0;
              up_to = omega arith;
              there = not-false (present (newest h i)) t;
              is = cc;
            }

    status-numbered : (s : ℕ) → status_call store work i ≡ status s n → Numbered store (last h) i n
    unfolding status_call refusal_of
    status-numbered s e = go (refusal_of store work (Status i)) refl e
      where
        go : (o : Option ℕ) → refusal_of store work (Status i) ≡ o → answer_by o (doing d (Status i)).0 ≡ status s n → Numbered store (last h) i n
        go (some k) z q = let v : ◌≡◌ {A = ℕ} 0 1 = cc in absurd (omega arith)
        go none z q =
            let c = clear-accepted store work (Status i) (clear (both_conditions store work (Status i)) z) in
            numbered (last h) i n (clear (store_conditions store) c.0.store_taken) (ltb-false 31 i c.2.0) (omega arith) cc

numbers : (store work : Bytes) → CallNumbers store work
numbers store work = record {
  reads = λ R i p m n e. found-numbered store R i n (read_found store R i n (take m (drop p store)) (ap (heard store []) e));
  shows = λ i p m n e. found-numbered store (last (store_history store)) i n (show_found store work i n p m e);
  tells = λ i s n e. status-numbered store work i n s e;
}

-- ---- lists of calls

-- bytes with a number other than 0 are a part of the store
from_store : (store work : Bytes) (P : Place) (n : ℕ) (x : Bytes) → 1 ≤ n → heard store work P ≡ bytes x n → (p : ℕ) × (m : ℕ) × (P ≡ in_store p m n)
from_store store work (no_place k) n x l e = let z : ◌≡◌ {A = ℕ} 0 1 = cc in absurd (omega arith)
from_store store work (in_store p m k) n x l e = (p, m, cc)
from_store store work (in_copy p m) n x l e = let z : 0 ≡ n = cc in absurd (omega arith)

-- THE STATEMENT
pub set_by : SetBy
set_by = record {
  calls = numbers;
  updates = λ h R b i n m L M. ap₂ eqb (is_namer h R i n L) (is_namer h b i m M);
  stale = λ h b i n L. ap (ltb b) (is_namer h (last h) i n L);
  lists = λ N ts lo hi v.
      let b : Buffers = run_on (fresh_buffers N) ts in
      let h : History = accepted (fresh N) ts in
      let e : store_history b.store ≡ h = list_history N ts lo hi v in
      record {
        reads = λ R i n x q. subst (λ (k : History). LastNamer k R i n) e (found-numbered b.store R i n (read_found b.store R i n x q)).0.is;
        shows = λ work i n x l q.
            let P = from_store b.store work (show_place b.store work i) n x l q in
            subst (λ (g : History). LastNamer g (last g) i n) e ((numbers b.store work).shows i P.0 P.1 n P.2).0.is;
        tells = λ work i s n q. subst (λ (g : History). LastNamer g (last g) i n) e ((numbers b.store work).tells i s n q).is;
        lasting = λ us w R i n x q.
            let F = read_found b.store R i n x q in
            let D = demand_three N ts lo hi v in
            let le : R ≤ last h = subst (λ (k : History). R ≤ last k) e F.up_to in
            D.lasting us w R i le F.small ∙ sym (D.found R i le F.small) ∙ q;
        stays = λ us R i n le L.
            let g : History = accepted (run (fresh N) ts) us in
            subst (λ (k : History). LastNamer k R i n) (sym (accepted-append (fresh N) ts us)) (subst (LastNamer (h ++ g) R i) (namer-grown h g R i le ∙ is_namer h R i n L) (last-namer (h ++ g) R i));
      };
}
