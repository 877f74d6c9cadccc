-- Demand 2, the statement: "A store is accepted exactly when its blocks are the layout of some history, and reading back what a history was laid out as gives that history."
-- The same of working copies. Its proof is in laws/proofs/Demand2.
-- Assumes nothing.
use Rattle.std.specs.Prelude.{◌≤◌, ℕ, List, ◌↔◌, ◌≡◌}
use Rattle.std.proofs.Math.Option.{none}
use Rattle.model.specs.Calls.{copy_conditions, store_conditions}
use Rattle.model.specs.Entry.{Entry}
use Rattle.model.specs.Fitting.{FitsRows}
use Rattle.model.specs.History.{Bytes}
use Rattle.model.specs.Log.{Log, commits}
use Rattle.model.specs.Refusals.{first_of}
use Rattle.model.specs.Store.{HoldsLog, store_history, store_log, tail_of, used_of}
use Rattle.model.specs.Tail.{Tailed}
use Rattle.model.specs.WorkCopy.{HoldsCopy, entries_of, seat_of}

-- 2 to 4,096 blocks are the layout of g, with a tail or without: "For layout .. a history includes its releases and their places."
pub record LaidStore (store : Bytes) (g : Log) : Type 0 where
  pub count : ℕ
  pub few : 2 ≤ count
  pub many : count ≤ 4_096
  pub used : ℕ
  pub tail : ℕ
  pub holds : Tailed count store (commits g) used tail
  -- the store without its tail is the layout of g
  pub log : HoldsLog count holds.bare g

pub record Demand2 (store copy : Bytes) : Type 0 where
  -- no line from 1 to 3 holds exactly where the store is the layout of some history
  pub store-accepted : (first_of (store_conditions store) ≡ none) ↔ ((g : Log) × LaidStore store g)
  -- and that is the log that is read, its commits the history, and its U, and the length of its tail
  pub store_read : (g : Log) (L : LaidStore store g) → (store_log store ≡ g) × (store_history store ≡ commits g) × (used_of store ≡ L.used) × (tail_of store ≡ L.tail)
  -- no line from 4 to 6 holds exactly where the copy is the layout of some seat's 32 entries that fit
  pub copy-accepted : (first_of (copy_conditions store copy) ≡ none) ↔ ((k : ℕ) × (es : List Entry) × HoldsCopy copy k es × FitsRows (store_history store) es)
  -- and those are the seat and the entries that are read
  pub copy_read : (k : ℕ) (es : List Entry) → HoldsCopy copy k es → (seat_of copy ≡ k) × (entries_of copy ≡ es)
