-- What the inner commit asks and what it answers, in the machine's words: refusals 10 and 13, the store with the new commit, or with the first n blocks of it. Refusals 1 to 7
-- and 11 are the caller's.
-- Assumes nothing.
use Rattle.std.specs.Prelude.{◌+◌, ◌<◌, suc, ℕ, Bool, cond, not, true, List, [], ◌∷◌, ◌≡◌, eqb, leb, get_or, length, take, Result, Ok, Err}
use Rattle.model.specs.Calls.{commit_writes, side_in, store_with, written_from}
use Rattle.model.specs.Entry.{Entry, added, copied, deleted, empty, modified, normal}
use Rattle.model.specs.History.{Bytes, is_bytes, last, sheet}
use Rattle.model.specs.Machine.{blocks_for, chosen, commit_changes, entry, new_commit}
use Rattle.model.specs.Refusals.{no_room, nothing_chosen}
use Rattle.model.specs.Shows.{Accepted}
use Rattle.model.specs.Store.{block_used, store_history, tail_of, used_of}
use Rattle.model.specs.WorkCopy.{seat_of}
use Rattle.model.specs.declared.Refusal.{Refusal}
use Rattle.model.specs.declared.Refusal.TheVariants.{NoRoom, NothingPending}
use Rattle.commits.specs.declared.Outcome.{Outcome}
use Rattle.commits.specs.declared.Outcome.TheVariants.{Done, Stopped}

-- what the flag and the place of sheet i's entry have to say: whether a normal entry is modified, and whether "copies whose bytes differ from the source's at the source
-- revision" is of this one; the block that the source uses
abbrev pub RightAt : Bytes → ℕ → Entry → ℕ → ℕ → Type 0
RightAt store i empty flag place = Unit {0}
RightAt store i (normal b x) flag place = modified (store_history store) i b x ≡ not (eqb flag 0)
RightAt store i (added x) flag place = Unit {0}
RightAt store i (deleted b) flag place = Unit {0}
RightAt store i (copied s r x) flag place = (is_bytes x (sheet (store_history store) r s) ≡ eqb flag 0) × (place ≡ block_used store r s)

-- a flag and a place for each sheet, right for the chosen ones
pub record RightFlags (store copy : Bytes) (mask : ℕ) (changed places : List ℕ) : Type 0 where
  pub flags : length changed ≡ 32
  pub spots : length places ≡ 32
  pub each : (i : ℕ) → i < 32 → chosen mask i ≡ true → RightAt store i (entry (side_in store copy) i) (get_or changed i 0) (get_or places i 0)

-- what is asked: buffers that are accepted, a store without a tail, the numbers that they state, and flags that are right
pub record Asked (store copy : Bytes) (used revision seat mask : ℕ) (changed places : List ℕ) : Type 0 where
  pub taken : Accepted store copy
  pub untailed : tail_of store ≡ 0
  pub uses : used ≡ used_of store
  pub next : revision ≡ suc (last (store_history store))
  pub by : seat ≡ seat_of copy
  pub right : RightFlags store copy mask changed places

-- n is enough for all its writes
abbrev pub enough : Bytes → Bytes → ℕ → ℕ → ℕ → Bool
enough store copy stamp mask n = leb (length (commit_writes store copy stamp mask)) n

-- refusal 10, refusal 13, U + k + 1, or stopped
abbrev pub outcome_in : Bytes → Bytes → ℕ → ℕ → ℕ → Result Outcome Refusal
outcome_in store copy stamp mask n =
    let d = side_in store copy in
    cond (nothing_chosen d mask) (Err NothingPending)
    (cond (no_room d mask) (Err NoRoom)
    (cond (enough store copy stamp mask n) (Ok (Done (d.used + blocks_for d.history (commit_changes d.history mask d.entries)))) (Ok Stopped)))

-- the store's bytes then
abbrev pub store_in : Bytes → Bytes → ℕ → ℕ → ℕ → Bytes
store_in store copy stamp mask n =
    let d = side_in store copy in
    cond (nothing_chosen d mask) store
    (cond (no_room d mask) store
    (cond (enough store copy stamp mask n) (store_with store (new_commit d stamp mask ∷ [])) (written_from store (take n (commit_writes store copy stamp mask)))))

-- the answer, and what is left in the store
pub record Answered (store copy store' : Bytes) (stamp mask n : ℕ) (r : Result Outcome Refusal) : Type 0 where
  pub says : r ≡ outcome_in store copy stamp mask n
  pub bytes : store' ≡ store_in store copy stamp mask n
