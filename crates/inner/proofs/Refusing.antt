-- Lists of conditions one after the other: the first that holds, and what refuses a call that takes the store alone.
-- Assumes nothing.
use Prim.Native.Nat.{ℕ}
use mathlib.Core.Bool.{Bool, cond, false, not, true}
use mathlib.Core.List.{List, [], ◌++◌, ◌∷◌}
use mathlib.Core.Option.{none, some}
use mathlib.Core.Path.{◌∙◌, ◌≡◌, ap}
use native.Mathlib.Omega.{arith}
use lib.Dec.{eqb}
use Rattle.model.specs.Calls.{store_conditions, store_refusal, store_side}
use Rattle.model.specs.History.{Bytes}
use Rattle.model.specs.Machine.{Call}
use Rattle.model.specs.Refusals.{Condition, ◌when◌, first_of}
use Rattle.model.specs.Run.{own_conditions}
use Rattle.model.specs.Store.{tail_of}
use Rattle.laws.proofs.Conditions.{clear, clear_first}

-- a number that comes of the first list comes of both
pub first-stays : (cs ds : List Condition) (n : ℕ) → first_of cs ≡ some n → first_of (cs ++ ds) ≡ some n
first-stays [] ds n e = let z : ◌≡◌ {A = ℕ} 0 1 = cc in absurd (omega arith)
first-stays (c ∷ cs) ds n e = go c.holds (first-stays cs ds n) e
  where
    go : (b : Bool) → (first_of cs ≡ some n → first_of (cs ++ ds) ≡ some n) → cond b (some c.number) (first_of cs) ≡ some n → cond b (some c.number) (first_of (cs ++ ds)) ≡ some n
    go true f e = e
    go false f e = f e

-- 14 comes after the lines on the store, whatever follows
pub tail-first : (store : Bytes) (ls : List Condition) → first_of (store_conditions store) ≡ none → not (eqb (tail_of store) 0) ≡ true
    → first_of (store_conditions store ++ (14 when not (eqb (tail_of store) 0) ∷ ls)) ≡ some 14
tail-first store ls e t =
    clear_first (store_conditions store) (14 when not (eqb (tail_of store) 0) ∷ ls) (clear (store_conditions store) e) ∙ ap (λ (b : Bool). cond b (some 14) (first_of ls)) t

module _ (store : Bytes) (c : Call) where
  pub store-refused : (n : ℕ) → first_of (store_conditions store) ≡ some n → store_refusal store c ≡ some n
  unfolding store_refusal
  store-refused n e = first-stays (store_conditions store) (own_conditions (store_side store) c) n e

  pub store_open : first_of (store_conditions store) ≡ none → store_refusal store c ≡ first_of (own_conditions (store_side store) c)
  unfolding store_refusal
  store_open e = clear_first (store_conditions store) (own_conditions (store_side store) c) (clear (store_conditions store) e)
