-- Where the buffers and the machine meet: which buffers show which state.
-- Assumes nothing.
use Rattle.std.specs.Prelude.{◌<◌, ◌≤◌, suc, ℕ, [], map, ◌≡◌, get_or, length}
use Rattle.std.proofs.Math.Option.{none}
use Rattle.model.specs.Calls.{Buffers, copy_conditions, store_conditions}
use Rattle.model.specs.History.{Bytes}
use Rattle.model.specs.Machine.{Side, State}
use Rattle.model.specs.Refusals.{first_of}
use Rattle.model.specs.Store.{block_count, store_history, store_marks, tail_of, used_of}
use Rattle.model.specs.Tail.{Tailed}
use Rattle.model.specs.WorkCopy.{HoldsCopy, entries_of, seat_of}

-- no line from 1 to 6 holds: what a function may ask for that is called after these were looked at
pub record Accepted (store copy : Bytes) : Type 0 where
  pub store_taken : first_of (store_conditions store) ≡ none
  pub copy_taken : first_of (copy_conditions store copy) ≡ none

-- the store, and the working copy of one seat: what a call on these two buffers finds is the side d
pub record Seen (N : ℕ) (store copy : Bytes) (d : Side) : Type 0 where
  pub few : 2 ≤ N
  pub many : N ≤ 4_096
  pub blocks : d.blocks ≡ N
  pub stored : Tailed N store d.history d.used d.tail
  -- its releases, each at its place
  pub marked : store_marks store ≡ d.marks
  pub copied : HoldsCopy copy d.seat d.entries

-- "The history in a store and the entries in a copy are those whose layout, by the next section, the buffer is."
pub record Shows (N : ℕ) (b : Buffers) (s : State) : Type 0 where
  pub few : 2 ≤ N
  pub many : N ≤ 4_096
  pub blocks : s.blocks ≡ N
  pub store : Tailed N b.store s.history s.used s.tail
  pub marked : store_marks b.store ≡ s.marks
  pub four : length b.copies ≡ 4
  pub copies : (k : ℕ) → k < 4 → HoldsCopy (get_or b.copies k []) (suc k) (get_or s.seats k [])

-- ---- buffers that someone else left: the state that they show, if they are accepted

abbrev pub state_in : Buffers → State
state_in b = record {
  blocks = block_count b.store;
  used = used_of b.store;
  tail = tail_of b.store;
  history = store_history b.store;
  marks = store_marks b.store;
  seats = map entries_of b.copies;
}

-- four copies, of seats 1 to 4 in order, each accepted with the store
pub record AllAccepted (b : Buffers) : Type 0 where
  pub four : length b.copies ≡ 4
  pub each : (k : ℕ) → k < 4 → Accepted b.store (get_or b.copies k [])
  pub seats : (k : ℕ) → k < 4 → seat_of (get_or b.copies k []) ≡ suc k
