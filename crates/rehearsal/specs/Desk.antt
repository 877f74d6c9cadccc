-- What the code of a day works on: a store and four working copies, and the day by value, as a hall; and what every day's numbers keep to.
-- Assumes nothing.
use Rattle.std.specs.Prelude.{◌^◌, ◌≤◌, ℕ, Bool, List, [], ◌∷◌, ◌≡◌}
use Rattle.model.specs.Calls.{Buffers, call}
use Rattle.model.specs.Codec.{pad_to}
use Rattle.model.specs.History.{Bytes}
use Rattle.model.specs.Run.{is_revision}
use Rattle.rehearsal.specs.Rehearsal.{holds, setting_of}
use Rattle.rehearsal.specs.RehearsalCalls.{Hall, got_through, hall, no_tally, row_in, writing}
use Rattle.rehearsal.specs.declared.Day.{Day}
use Rattle.rehearsal.specs.declared.Setting.{Setting}
use Rattle.rehearsal.specs.declared.Tally.{Tally}
use Rattle.turns.proofs.Queues.{Right}
use Rattle.turns.specs.InTurn.{in_turn_call}
use Rattle.turns.specs.Mixed.{Bench, Said, bench, commits, move_on, plain}
use Rattle.turns.specs.Turns.{Queue, numbers_of}

abbrev pub pool : Bytes → Bytes → Bytes → Bytes → Bytes → Buffers
pool store one two three four = record { store = store; copies = one ∷ two ∷ three ∷ four ∷ [] }

abbrev pub hall_in : Buffers → Day → Hall
hall_in b d = hall (bench b (numbers_of d.turn)) d.since d.rows

-- nobody holds or waits, and nothing is counted
abbrev pub fresh_day : Day
fresh_day = record { turn = record { holder = 0; first = 0; second = 0; third = 0 }; since = 0; rows = no_tally ∷ no_tally ∷ no_tally ∷ no_tally ∷ [] }

-- periods that divide, and holding times that are no more than 60 steps
pub record Planned (l : List Setting) : Type 0 where
  pub asks : (k : ℕ) → 1 ≤ k → k ≤ 4 → 1 ≤ (setting_of l k).period
  pub ends : (k : ℕ) → holds l k ≤ 60

-- whether the commit got through, and both buffers afterwards
pub record Filed : Type 0 where
  pub through : Bool
  pub store : Bytes
  pub copy : Bytes

abbrev pub filed : Bool → Bytes → Bytes → Filed
filed b s c = record { through = b; store = s; copy = c }

-- a seat writes its sheet at step t and commits it through the record r
abbrev pub filed_by : Bytes → Bytes → List ℕ → ℕ → ℕ → ℕ → Tally → Filed
filed_by store copy r s mask t n =
    let one = call store copy (writing t s n).call in
    let two = in_turn_call one.store one.copy r t mask in
    filed (is_revision two.says) two.store two.copy

-- of the four copies, that of seat s: what its two calls say and leave
abbrev pub two_calls : Buffers → List ℕ → ℕ → ℕ → Tally → Said × Bench
two_calls b r s t n = move_on (move_on (bench b r) (plain (writing t s n))).1 (commits s t (2 ^ s))

pub record FiledOn (b : Buffers) (r : List ℕ) (s t : ℕ) (n : Tally) (through : Bool) (b' : Buffers) : Type 0 where
  pub says : through ≡ got_through (two_calls b r s t n).0
  pub leaves : b' ≡ (two_calls b r s t n).1.buffers

-- the record is a line of seats, no count is above n, and the grant was at step 60 or before
pub record Sane (n : ℕ) (w : Hall) : Type 0 where
  pub line : (q : Queue) × Right q × (w.bench.turn ≡ pad_to 4 q)
  pub small : (k : ℕ) → ((row_in w.rows k).commits ≤ n) × ((row_in w.rows k).asks ≤ n)
  pub early : w.since ≤ 60
