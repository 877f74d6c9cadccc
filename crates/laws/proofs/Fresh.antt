-- Fresh buffers: they are what create makes, and they show the fresh machine.
-- Assumes nothing.
use Prim.Native.Nat.{◌*◌, ◌-◌, ◌<◌, ◌≤◌, suc, zero, ℕ}
use mathlib.Core.Bool.{Bool, ◌&&◌, cond, not, true}
use mathlib.Core.List.{List, [], ◌∷◌, map}
use mathlib.Core.Option.{none, some}
use mathlib.Core.Path.{◌∙◌, ◌≡◌, ap, ap₂, refl}
use native.Mathlib.Omega.{arith}
use borrow.Author.Tests.{eq-eqb, le-leb}
use lib.Dec.{eqb, leb}
use lib.ListN.{get_or, length, length-replicate, replicate}
use Rattle.block.specs.Lists.{All}
use Rattle.model.specs.Blocks.{Block, FitsBlock, blank, label}
use Rattle.model.specs.Calls.{create_by, create_copy, create_store, fresh_buffers, fresh_copy, fresh_store}
use Rattle.model.specs.Entry.{empty}
use Rattle.model.specs.History.{Bytes}
use Rattle.model.specs.Layout.{LaysFrom, LaysLog}
use Rattle.model.specs.Log.{marks}
use Rattle.model.specs.Machine.{done, fresh}
use Rattle.model.specs.Shows.{Shows}
use Rattle.model.specs.Tail.{Stored}
use Rattle.model.specs.Store.{Holds, HoldsLog, block_count, blocks_of, front, store_marks}
use Rattle.model.specs.WorkCopy.{FitsCopyBlock, HoldsCopy, entry_block}
use Rattle.laws.proofs.Conditions.{so_sized}
use Rattle.laws.proofs.Holding.{logged-accepted}
use Rattle.laws.proofs.Store.{log-stored, stored_tailed}
use Rattle.laws.proofs.WorkCopy.{copy_bytes_lem}
use Rattle.laws.proofs.Writing.{blocks-back, front-none}

blank-fits : (n : ℕ) → All FitsBlock (replicate n blank)
blank-fits zero = tt
blank-fits (suc n) = (tt, blank-fits n)

blank-all : (n : ℕ) → All (λ (b : Block). b ≡ blank) (replicate n blank)
blank-all zero = tt
blank-all (suc n) = (refl, blank-all n)

-- a fresh store's blocks, of which the label alone is used
module _ (N : ℕ) (le : 1 ≤ N) where
  abbrev bs : List Block
  bs = label ∷ replicate (N - 1) blank

  counted : length bs ≡ N
  counted = let l : length (replicate (N - 1) blank) ≡ N - 1 = length-replicate (N - 1) blank in omega (arith, l)

  pub fresh-front : front (blocks_of N (fresh_store N)) ≡ label ∷ []
  fresh-front =
      ap front (blocks-back N bs counted (tt, blank-fits (N - 1))) ∙ ap (λ (x : List Block). label ∷ x) (front-none (replicate (N - 1) blank) (blank-all (N - 1)))

  -- no commit, and no mark
  pub fresh-log : HoldsLog N (fresh_store N) []
  unfolding HoldsLog LaysLog LaysFrom
  fresh-log = (bs, counted, (tt, blank-fits (N - 1)), refl, (replicate (N - 1) blank, refl, blank-all (N - 1)), tt)

  pub fresh-stored : Stored N (fresh_store N) [] 1
  unfolding Holds
  fresh-stored = record { holds = ([], refl, fresh-log); uses = ap length fresh-front }

pub fresh_copy_lem : (k : ℕ) → 1 ≤ k → k ≤ 4 → HoldsCopy (fresh_copy k) k (replicate 32 empty)
fresh_copy_lem k lo hi = copy_bytes_lem k (replicate 32 empty) refl lo hi (empties 32)
  where
    empties : (n : ℕ) → All FitsCopyBlock (map entry_block (replicate n empty))
    empties zero = tt
    empties (suc n) = (tt, empties n)

pub fresh-shows : (N : ℕ) → 2 ≤ N → N ≤ 4_096 → Shows N (fresh_buffers N) (fresh N)
fresh-shows N lo hi = record { few = lo; many = hi; blocks = refl; store = stored_tailed N (fresh_store N) [] 1 (fresh-stored N (omega arith)); marked = no_marks; four = refl; copies = each }
  where
    no_marks : store_marks (fresh_store N) ≡ []
    no_marks =
        let l : 1 ≤ N = omega arith in
        ap marks (log-stored N (fresh_store N) [] 1 (fresh-stored N l) ∙ (logged-accepted N (fresh_store N) [] (fresh-log N l)).2)

    each : (k : ℕ) → k < 4 → HoldsCopy (get_or (fresh_buffers N).copies k []) (suc k) (get_or (fresh N).seats k [])
    each zero lt = fresh_copy_lem 1 (omega arith) (omega arith)
    each (suc zero) lt = fresh_copy_lem 2 (omega arith) (omega arith)
    each (suc (suc zero)) lt = fresh_copy_lem 3 (omega arith) (omega arith)
    each (suc (suc (suc zero))) lt = fresh_copy_lem 4 (omega arith) (omega arith)
    each (suc (suc (suc (suc k)))) lt = absurd (omega arith)

-- create makes them, whatever stood in the buffer
pub create_store_lem : (N : ℕ) (store : Bytes) → length store ≡ N * 512 → 2 ≤ N → N ≤ 4_096 → create_store store ≡ record { says = done; buffer = fresh_store N }
unfolding create_store
create_store_lem N store e lo hi =
    let n : block_count store ≡ N = omega (arith, e) in
    ap (λ (x : Bool). create_by (cond x (some 1) none) store (fresh_store (block_count store))) (so_sized N store e lo hi)
    ∙ ap (λ (k : ℕ). create_by none store (fresh_store k)) n

pub create_copy_lem : (copy : Bytes) (seat : ℕ) → length copy ≡ 16_896 → 1 ≤ seat → seat ≤ 4 → create_copy copy seat ≡ record { says = done; buffer = fresh_copy seat }
unfolding create_copy
create_copy_lem copy seat e lo hi =
    let p : eqb (length copy) 16_896 ≡ true = eq-eqb (length copy) 16_896 e in
    let q : (leb 1 seat && leb seat 4) ≡ true = rw (le-leb 1 seat lo, le-leb seat 4 hi) in
    ap₂ (λ (x y : Bool). create_by (cond (not x) (some 4) (cond (not y) (some 7) none)) copy (fresh_copy seat)) p q

-- so the list's buffers are those that create leaves, of any five of the right lengths
pub created : (N : ℕ) (store c₁ c₂ c₃ c₄ : Bytes) → length store ≡ N * 512 → 2 ≤ N → N ≤ 4_096
    → length c₁ ≡ 16_896 → length c₂ ≡ 16_896 → length c₃ ≡ 16_896 → length c₄ ≡ 16_896
    → record {
      store = (create_store store).buffer;
      copies = (create_copy c₁ 1).buffer ∷ (create_copy c₂ 2).buffer ∷ (create_copy c₃ 3).buffer ∷ (create_copy c₄ 4).buffer ∷ [];
    } ≡ fresh_buffers N
created N store c₁ c₂ c₃ c₄ e lo hi e₁ e₂ e₃ e₄ =
    let s = create_store_lem N store e lo hi in
    let p₁ = create_copy_lem c₁ 1 e₁ (omega arith) (omega arith) in
    let p₂ = create_copy_lem c₂ 2 e₂ (omega arith) (omega arith) in
    let p₃ = create_copy_lem c₃ 3 e₃ (omega arith) (omega arith) in
    let p₄ = create_copy_lem c₄ 4 e₄ (omega arith) (omega arith) in
    λ i. record { store = (s i).buffer; copies = (p₁ i).buffer ∷ (p₂ i).buffer ∷ (p₃ i).buffer ∷ (p₄ i).buffer ∷ [] }
