-- A list of calls on buffers that someone else left: if they are accepted, the list runs as the machine does from the state that they show.
-- Assumes nothing.
use Prim.Native.Nat.{◌<◌, suc, zero, ℕ}
use mathlib.Core.Bool.{Bool, false, true}
use mathlib.Core.List.{List, [], ◌∷◌, map}
use mathlib.Core.Path.{◌∙◌, ◌≡◌, ap, refl, subst, sym}
use native.Mathlib.Omega.{arith}
use borrow.Author.Tests.{leb-false, leb-true}
use lib.Dec.{leb}
use lib.ListN.{get_or-eq_default, get_or, length, length-map}
use Rattle.model.specs.Calls.{Buffers, answers_on, run_on}
use Rattle.model.specs.Entry.{Entry, empty}
use Rattle.model.specs.History.{Bytes}
use Rattle.model.specs.Invariant.{FitsAt, Kept}
use Rattle.model.specs.Run.{AllValid, Turn, answers, run}
use Rattle.model.specs.Shows.{AllAccepted, Shows, state_in}
use Rattle.model.specs.Store.{block_count, store_history}
use Rattle.model.specs.WorkCopy.{HoldsCopy, entries_of}
use Rattle.laws.proofs.Accepted.{accepted-kept, accepted_seen}
use Rattle.laws.proofs.Demand3.{whole}

entries_at : (cs : List Bytes) (k : ℕ) → k < length cs → get_or (map entries_of cs) k [] ≡ entries_of (get_or cs k [])
entries_at [] k h = absurd (omega arith)
entries_at (c ∷ cs) zero h = refl
entries_at (c ∷ cs) (suc k) h = entries_at cs k (omega arith)

module _ (b : Buffers) (A : AllAccepted b) where
  first : 0 < 4
  first = omega arith

  four : length (map entries_of b.copies) ≡ 4
  four = length-map b.copies entries_of ∙ A.four

  mine : (k : ℕ) → k < 4 → get_or (map entries_of b.copies) k [] ≡ entries_of (get_or b.copies k [])
  mine k h = entries_at b.copies k (omega (arith, A.four))

  pub accepted-shows : Shows (block_count b.store) b (state_in b)
  accepted-shows =
      let V' = accepted_seen b.store (get_or b.copies 0 []) (A.each 0 first) in
      record {
        few = V'.few;
        many = V'.many;
        blocks = refl;
        store = V'.stored;
        marked = V'.marked;
        four = A.four;
        copies = λ k h.
            subst (HoldsCopy (get_or b.copies k []) (suc k)) (sym (mine k h))
            (subst (λ (n : ℕ). HoldsCopy (get_or b.copies k []) n (entries_of (get_or b.copies k []))) (A.seats k h) (accepted_seen b.store (get_or b.copies k []) (A.each k h)).copied);
      }

  fits-any : (k i : ℕ) → FitsAt (store_history b.store) i (get_or (get_or (map entries_of b.copies) k []) i empty)
  fits-any k i = go (leb (suc k) 4) refl
    where
      go : (t : Bool) → leb (suc k) 4 ≡ t → FitsAt (store_history b.store) i (get_or (get_or (map entries_of b.copies) k []) i empty)
      go true e =
          let h : k < 4 = leb-true (suc k) 4 e in
          subst (λ (l : List Entry). FitsAt (store_history b.store) i (get_or l i empty)) (sym (mine k h)) ((accepted-kept b.store (get_or b.copies k []) (A.each k h)).fits i)
      go false e =
          subst (λ (l : List Entry). FitsAt (store_history b.store) i (get_or l i empty))
          (sym (get_or-eq_default (map entries_of b.copies) [] {n = k} (omega (arith, four, leb-false (suc k) 4 e)))) tt

  pub accepted_state : Kept (state_in b)
  accepted_state =
      let K = accepted-kept b.store (get_or b.copies 0 []) (A.each 0 first) in
      record {
        sound = K.sound;
        fits = fits-any;
        four = four;
        wide = λ k h. ap length (mine k h) ∙ (accepted-kept b.store (get_or b.copies k []) (A.each k h)).wide;
        used = K.used;
        room = K.room;
      }

  -- THE STATEMENT
  pub replayed : (ts : List Turn) → AllValid ts → (answers_on b ts ≡ answers (state_in b) ts) × Shows (block_count b.store) (run_on b ts) (run (state_in b) ts)
  replayed ts v = whole (block_count b.store) b (state_in b) ts accepted-shows accepted_state v
