-- Demand 1, the statement, over the calls on buffers: on any bytes whatever, every call answers a number if and only if its condition is the first in the document's order
-- that holds, and then every buffer is unchanged; otherwise it is done as the machine does it. That every call is a total definition is the rest of it.
-- Its proof is in laws/proofs/Demand1.
-- Assumes nothing.
use Rattle.std.specs.Prelude.{◌-◌, ◌<◌, ◌^◌, ◌≤◌, ℕ, cond, true, [], ◌∷◌, ◌↔◌, ◌≡◌, leb}
use Rattle.model.specs.Calls.{Created, Out, both_conditions, call, clear_call, clear_cut_call, conditions_in, create_copy, create_copy_conditions, create_store, fresh_copy, fresh_store, no_place, out, panel_place, read_place, release_call, side_in, size_condition, store_conditions, store_only_conditions, store_side}
use Rattle.model.specs.History.{Bytes, last}
use Rattle.model.specs.Log.{among, panel_revision, releases}
use Rattle.model.specs.Machine.{Answer, Call, Log, Panel, Read, Release, Side, doing, done, refused, stopped}
use Rattle.model.specs.Refusals.{Clear, First}
use Rattle.model.specs.Run.{Typed}
use Rattle.model.specs.Shows.{Seen}
use Rattle.model.specs.Store.{block_count, store_history, store_marks, tail_of, used_of}
use Rattle.model.specs.Tail.{Tailed}

-- a call was done on the two buffers: it answers as the machine does on what they hold, and they hold what the machine leaves
pub record DoneOn (store copy : Bytes) (c : Call) (o : Out) : Type 0 where
  pub says : o.says ≡ (doing (side_in store copy) c).0
  pub holds : Seen (block_count store) o.store o.copy (doing (side_in store copy) c).1

-- the tail was cleared: the history with its releases and U are as they were, and there is no tail
pub record Cleared (store : Bytes) (o : Created) : Type 0 where
  pub says : o.says ≡ done
  pub holds : Tailed (block_count store) o.buffer (store_history store) (used_of store) 0
  pub marks : store_marks o.buffer ≡ store_marks store

-- the same of clearing that may stop after n writes: what is left of the tail
pub record ClearedSome (store : Bytes) (n : ℕ) (o : Created) : Type 0 where
  pub says : o.says ≡ cond (leb (tail_of store) n) done stopped
  pub holds : Tailed (block_count store) o.buffer (store_history store) (used_of store) (tail_of store - n)
  pub marks : store_marks o.buffer ≡ store_marks store

-- a mark was made, r being what the machine does: the store holds one mark more
pub record MarkMade (store : Bytes) (r : Answer × Side) (o : Created) : Type 0 where
  pub says : o.says ≡ r.0
  pub holds : Tailed (block_count store) o.buffer r.1.history r.1.used r.1.tail
  pub marks : store_marks o.buffer ≡ r.1.marks

-- of one call on these bytes
pub record Refuses (store copy : Bytes) (c : Call) : Type 0 where
  -- "A number comes if and only if its condition is the first in the order that holds."
  pub numbered : (n : ℕ) → ((call store copy c).says ≡ refused n) ↔ First (conditions_in store copy c) n
  -- "gives the refusal that document 01 fixes, with every buffer unchanged"
  pub stays : (n : ℕ) → (call store copy c).says ≡ refused n → call store copy c ≡ out (refused n) store copy

pub record Demand1 (store copy : Bytes) : Type 0 where
  pub refuses : (c : Call) → Refuses store copy c
  -- "either does the call": one that takes both buffers
  pub does : (c : Call) → Typed c → Clear (both_conditions store copy c) → DoneOn store copy c (call store copy c)
  -- read and log, which take the store
  pub reads : (R i : ℕ) → Clear (store_only_conditions store (Read R i)) → call store copy (Read R i) ≡ out (doing (store_side store) (Read R i)).0 store copy
  pub logs : (R i : ℕ) → Clear (store_only_conditions store (Log R i)) → call store copy (Log R i) ≡ out (doing (store_side store) (Log R i)).0 store copy
  -- clearing, which takes the store; stopped after n writes or not
  pub clears : Clear (store_conditions store) → Cleared store (clear_call store)
  pub clears_cut : (n : ℕ) → Clear (store_conditions store) → ClearedSome store n (clear_cut_call store n)
  -- "A panel reading R gets what read, or its companion, gives at the greatest released revision up to R": the same part of the store, or the same refusal
  pub panel_place_holds : (R i : ℕ) → R ≤ last (store_history store) → panel_place store R i ≡ read_place store (panel_revision (store_marks store) R) i
  -- "and refusal 8 if there is none"
  pub panel-none : (R i : ℕ) → Clear (store_conditions store) → R ≤ last (store_history store) → i ≤ 31
      → ((x : ℕ) → among x (releases (store_marks store)) ≡ true → x ≤ R → ⊥) → panel_place store R i ≡ no_place 8
  -- panel reading, and a release, on the store alone
  pub panels : (R i : ℕ) → Clear (store_only_conditions store (Panel R i)) → call store copy (Panel R i) ≡ out (doing (store_side store) (Panel R i)).0 store copy
  pub releases : (R seat stamp : ℕ) → stamp < 2 ^ 32 → Clear (store_only_conditions store (Release R seat stamp))
      → MarkMade store (doing (store_side store) (Release R seat stamp)) (release_call store R seat stamp)
  -- create
  pub store-numbered : (n : ℕ) → ((create_store store).says ≡ refused n) ↔ First (size_condition store ∷ []) n
  pub store-stays : (n : ℕ) → (create_store store).says ≡ refused n → (create_store store).buffer ≡ store
  pub store-made : Clear (size_condition store ∷ []) → create_store store ≡ record { says = done; buffer = fresh_store (block_count store) }
  pub copy-numbered : (k n : ℕ) → ((create_copy copy k).says ≡ refused n) ↔ First (create_copy_conditions copy k) n
  pub copy-stays : (k n : ℕ) → (create_copy copy k).says ≡ refused n → (create_copy copy k).buffer ≡ copy
  pub copy-made : (k : ℕ) → Clear (create_copy_conditions copy k) → create_copy copy k ≡ record { says = done; buffer = fresh_copy k }
