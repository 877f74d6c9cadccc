-- What the steps of a run ask for and leave.
-- Assumes nothing.
use Rattle.std.specs.Prelude.{◌-◌, ◌<◌, ◌≤◌, true, ◌≡◌, get_or, length, Ok}
use Rattle.entries.specs.View.{Fitting}
use Rattle.entries.specs.declared.View.{View}
use Rattle.inner.specs.Performs.{Within}
use Rattle.inner.specs.declared.Reply.{Reply}
use Rattle.model.specs.Calls.{Out, call, out}
use Rattle.model.specs.History.{Bytes}
use Rattle.model.specs.Shows.{AllAccepted}
use Rattle.replay.specs.Desk.{buffers_in, copy_at, with_copy}
use Rattle.replay.specs.Records.{record_of}
use Rattle.replay.specs.Script.{record_ok, script_ok, turn_in}
use Rattle.store.specs.Opened.{open_of}
use Rattle.store.specs.declared.Header.{Header}

-- a place that ends within its buffer, and buffers whose lengths are small numbers
pub record Reachable (store copy : Bytes) (r : Reply) : Type 0 where
  pub within : Within store copy r
  pub few : length store < 4_294_967_296
  pub small : length copy < 4_294_967_296

-- a good record, the buffers of its seat, which fit, and room for the answer
pub record Stepping (r store copy : Bytes) (v : View) (answer : Bytes) : Type 0 where
  pub good : record_ok r ≡ true
  pub size : length r ≡ 512
  pub fits : Fitting store copy v
  pub room : length answer ≡ 512

-- the call of the record is done, its answer written, and the buffers fit again, with the numbers h
pub record Stepped (r store copy : Bytes) (v : View) (h : Header) (store' copy' answer' : Bytes) : Type 0 where
  pub stored : store' ≡ (call store copy (turn_in r).call).store
  pub copied : copy' ≡ (call store copy (turn_in r).call).copy
  pub answer : answer' ≡ record_of (call store copy (turn_in r).call).says
  pub fits : Fitting store' copy' (record { n = v.n; used = h.used; last = h.last; seat = v.seat })

-- the store and the four copies side by side, accepted, with the store's numbers h
pub record Set (store copies : Bytes) (h : Header) : Type 0 where
  pub all : AllAccepted (buffers_in store copies)
  pub size : length copies ≡ 67_584
  pub «open» : open_of store ≡ Ok h

pub record Turning (r store copies : Bytes) (h : Header) (answer : Bytes) : Type 0 where
  pub good : record_ok r ≡ true
  pub size : length r ≡ 512
  pub ready : Set store copies h
  pub room : length answer ≡ 512

abbrev pub turn_out : Bytes → Bytes → Bytes → Out
turn_out r store copies =
    let o = call store (copy_at copies (get_or r 1 0 - 1)) (turn_in r).call in
    out o.says o.store (with_copy copies (get_or r 1 0 - 1) o.copy)

pub record Turned (r store copies : Bytes) (h : Header) (store' copies' answer' : Bytes) : Type 0 where
  pub stored : store' ≡ (turn_out r store copies).store
  pub copied : copies' ≡ (turn_out r store copies).copy
  pub answer : answer' ≡ record_of (turn_out r store copies).says
  pub ready : Set store' copies' h

pub record Running (script store copies answers : Bytes) (h : Header) : Type 0 where
  pub good : script_ok script ≡ true
  pub ready : Set store copies h
  pub room : length script ≤ length answers
