-- W5 of document 02, the statement: "A store may now end in a tail .. Every call but commit works meanwhile, as if the tail were zero blocks. A new call on the store alone clears the
-- tail .. without a tail it changes nothing. New numbers: 14, commit on a store that has a tail, checked right after 3."
-- Here over the calls on any store that is accepted, with any bytes for a working copy. Its proof is in laws/proofs/HalfWritten.
-- Assumes nothing.
use Rattle.std.specs.Prelude.{◌*◌, ◌-◌, ℕ, ◌≡◌, drop, length, replicate, take}
use Rattle.std.proofs.Math.Option.{none}
use Rattle.model.specs.Calls.{call, clear_call, commit_call, out, panel_place, read_place, release_call, show_place, store_conditions}
use Rattle.model.specs.History.{Bytes}
use Rattle.model.specs.Machine.{Add, Call, Clears, ClearsCut, Commits, CommitsCut, Copy, Delete, Edit, Log, Move, Panel, Read, Release, Revert, Show, Status, Update, done, refused}
use Rattle.model.specs.Refusals.{first_of}
use Rattle.model.specs.Store.{bare_of, store_history, tail_of, used_of}

-- the same store "as if the tail were zero blocks": it is accepted, has no tail, and the history and U of the first
pub record Bare (store bare : Bytes) : Type 0 where
  pub accepted : first_of (store_conditions bare) ≡ none
  pub untailed : tail_of bare ≡ 0
  pub history : store_history bare ≡ store_history store
  pub used : used_of bare ≡ used_of store
  -- the used blocks are as they were, and zeros follow, to the length that the store has
  pub front : take (512 * used_of store) bare ≡ take (512 * used_of store) store
  pub zeros : drop (512 * used_of store) bare ≡ replicate (length store - 512 * used_of store) 0

-- the calls but commit and release; clearing has a clause of its own. The two that stop after n writes are W6's (Cut)
abbrev pub Meanwhile : Call → Type 0
Meanwhile (Add i x) = Unit {0}
Meanwhile (Edit i x) = Unit {0}
Meanwhile (Delete i) = Unit {0}
Meanwhile (Copy i j) = Unit {0}
Meanwhile (Move i j) = Unit {0}
Meanwhile (Commits stamp mask) = ⊥
Meanwhile (Update mask R) = Unit {0}
Meanwhile (Revert mask) = Unit {0}
Meanwhile (Read R i) = Unit {0}
Meanwhile (Show i) = Unit {0}
Meanwhile (Status i) = Unit {0}
Meanwhile (Log R i) = Unit {0}
Meanwhile Clears = ⊥
Meanwhile (CommitsCut stamp mask n) = ⊥
Meanwhile (ClearsCut n) = ⊥
Meanwhile (Release R seat stamp) = ⊥
Meanwhile (Panel R i) = Unit {0}

pub record HalfWritten (store copy : Bytes) : Type 0 where
  pub bare : Bare store (bare_of store)
  -- "Every call but commit works meanwhile, as if the tail were zero blocks": it answers what it answers on the bare store, refusals included, makes the same of the working copy, and
  -- leaves the store's bytes, tail and all
  pub works : (c : Call) → Meanwhile c → call store copy c ≡ out (call (bare_of store) copy c).says store (call (bare_of store) copy c).copy
  -- the places that read, a panel's reading and show tell are those in the bare store
  pub reads : (R i : ℕ) → read_place store R i ≡ read_place (bare_of store) R i
  pub panels : (R i : ℕ) → panel_place store R i ≡ panel_place (bare_of store) R i
  pub shows : (i : ℕ) → show_place store copy i ≡ show_place (bare_of store) copy i
  -- "14, commit on a store that has a tail", whatever the working copy is
  pub commits : (stamp mask : ℕ) → (tail_of store ≡ 0 → ⊥) → commit_call store copy stamp mask ≡ out (refused 14) store copy
  -- and a release (W9): "14 a store with a tail", whatever its numbers are
  pub releases : (R seat stamp : ℕ) → (tail_of store ≡ 0 → ⊥) → release_call store R seat stamp ≡ record { says = refused 14; buffer = store }
  -- clearing gives exactly the bare store; "without a tail it changes nothing"
  pub clears : clear_call store ≡ record { says = done; buffer = bare_of store }
  pub unchanged : tail_of store ≡ 0 → bare_of store ≡ store

-- THE STATEMENT
abbrev pub Unfinished : Type 0
Unfinished = (store copy : Bytes) → first_of (store_conditions store) ≡ none → HalfWritten store copy
