-- Every list of calls that records have room for is the list of a good script.
-- Assumes nothing.
use Prim.Native.Nat.{◌*◌, ◌+◌, ◌-◌, ◌/◌, ◌%◌, ◌<◌, ◌^◌, ◌≤◌, suc, zero, ℕ}
use mathlib.Core.Bool.{Bool, ◌&&◌, true}
use mathlib.Core.List.{List, [], ◌++◌, ◌∷◌}
use mathlib.Core.Path.{◌∙◌, ◌≡◌, ap, ap₂, refl}
use native.Mathlib.Omega.{arith}
use borrow.Author.Tests.{eq-eqb, le-leb}
use lib.ListN.{drop, get_or, length, length-append, length-replicate, replicate, take}
use lib.Seq.{drop-append-add, take_at}
use Rattle.block.specs.Buffer.{block_at}
use Rattle.block.specs.Field.{four, four_at, two_at}
use Rattle.block.specs.Lists.{All, all_from}
use Rattle.inner.specs.Performs.{call_of}
use Rattle.laws.proofs.All.{all_append}
use Rattle.laws.proofs.Codec.{four-back, two_back}
use Rattle.model.specs.History.{Bytes}
use Rattle.model.specs.Machine.{Add, Call, Clears, ClearsCut, Commits, CommitsCut, Copy, Delete, Edit, Log, Move, Panel, Read, Release, Revert, Show, Status, Update}
use Rattle.model.specs.Run.{Turn, Typed}
use Rattle.replay.specs.Encoding.{AllRecorded, Recorded, Row, record_by, row_of, script_of}
use Rattle.replay.specs.Script.{bytes_in, call_as, call_in, kind_ok, record_ok, script_ok, turn_in, turns_from, turns_of}

-- ---- one record

module _ (seat : ℕ) (r : Row) (room : length r.bytes ≤ 496) where
  length_record : length (record_by seat r) ≡ 512
  unfolding record_by
  length_record =
      let n = length-append r.bytes (replicate (496 - length r.bytes) 0) in
      let m = length-replicate {A = ℕ} (496 - length r.bytes) 0 in
      omega (arith, n, m)

  kind-back : get_or (record_by seat r) 0 0 ≡ r.kind
  unfolding record_by
  kind-back = refl

  seat-back : get_or (record_by seat r) 1 0 ≡ seat
  unfolding record_by
  seat-back = refl

  count-back : two_at (record_by seat r) 2 ≡ length r.bytes
  unfolding record_by
  count-back = two_back (length r.bytes)

  first_back : four_at (record_by seat r) 4 ≡ r.first
  unfolding record_by
  first_back = four-back r.first

  second_back : four_at (record_by seat r) 8 ≡ r.second
  unfolding record_by
  second_back = four-back r.second

  third_back : four_at (record_by seat r) 12 ≡ r.third
  unfolding record_by
  third_back = four-back r.third

  bytes_back : bytes_in (record_by seat r) ≡ r.bytes
  unfolding record_by
  bytes_back =
      ap (λ (n : ℕ). take n (r.bytes ++ replicate (496 - length r.bytes) 0)) (two_back (length r.bytes))
      ∙ take_at r.bytes (replicate (496 - length r.bytes) 0) (length r.bytes) refl

  call_back : call_in (record_by seat r) ≡ call_as r.kind r.first r.second r.third
  unfolding call_in
  call_back = λ i. call_as (kind-back i) (first_back i) (second_back i) (third_back i)

  turn-back : turn_in (record_by seat r) ≡ record { by = seat; call = call_of (call_as r.kind r.first r.second r.third) r.bytes }
  turn-back = λ i. record { by = seat-back i; call = call_of (call_back i) (bytes_back i) }

  good-back : kind_ok r.kind ≡ true → 1 ≤ seat → seat ≤ 4 → record_ok (record_by seat r) ≡ true
  unfolding record_ok
  good-back ok low high = rw (kind-back, seat-back, count-back, ok, le-leb 1 seat low, le-leb seat 4 high, le-leb (length r.bytes) 496 room)

row_back : (c : Call) → call_of (call_as (row_of c).kind (row_of c).first (row_of c).second (row_of c).third) (row_of c).bytes ≡ c
row_back (Add i x) = refl
row_back (Edit i x) = refl
row_back (Delete i) = refl
row_back (Copy i j) = refl
row_back (Move i j) = refl
row_back (Commits stamp mask) = refl
row_back (Update mask R) = refl
row_back (Revert mask) = refl
row_back (Read R i) = refl
row_back (Show i) = refl
row_back (Status i) = refl
row_back (Log R i) = refl
row_back Clears = refl
row_back (CommitsCut stamp mask n) = refl
row_back (ClearsCut n) = refl
row_back (Release R seat stamp) = refl
row_back (Panel R i) = refl

kind_in : (c : Call) → (kind_ok (row_of c).kind ≡ true) × ((row_of c).kind < 256)
kind_in (Add i x) = (refl, omega arith)
kind_in (Edit i x) = (refl, omega arith)
kind_in (Delete i) = (refl, omega arith)
kind_in (Copy i j) = (refl, omega arith)
kind_in (Move i j) = (refl, omega arith)
kind_in (Commits stamp mask) = (refl, omega arith)
kind_in (Update mask R) = (refl, omega arith)
kind_in (Revert mask) = (refl, omega arith)
kind_in (Read R i) = (refl, omega arith)
kind_in (Show i) = (refl, omega arith)
kind_in (Status i) = (refl, omega arith)
kind_in (Log R i) = (refl, omega arith)
kind_in Clears = (refl, omega arith)
kind_in (CommitsCut stamp mask n) = (refl, omega arith)
kind_in (ClearsCut n) = (refl, omega arith)
kind_in (Release R seat stamp) = (refl, omega arith)
kind_in (Panel R i) = (refl, omega arith)

abbrev Byte : ℕ → Type 0
Byte x = x < 256

typed-bytes : (c : Call) → Typed c → All Byte (row_of c).bytes
typed-bytes (Add i x) t = t
typed-bytes (Edit i x) t = t
typed-bytes (Delete i) t = tt
typed-bytes (Copy i j) t = tt
typed-bytes (Move i j) t = tt
typed-bytes (Commits stamp mask) t = tt
typed-bytes (Update mask R) t = tt
typed-bytes (Revert mask) t = tt
typed-bytes (Read R i) t = tt
typed-bytes (Show i) t = tt
typed-bytes (Status i) t = tt
typed-bytes (Log R i) t = tt
typed-bytes Clears t = tt
typed-bytes (CommitsCut stamp mask n) t = tt
typed-bytes (ClearsCut n) t = tt
typed-bytes (Release R seat stamp) t = tt
typed-bytes (Panel R i) t = tt

all-four : (n : ℕ) → n < 2 ^ 32 → (l : Bytes) → All Byte l → All Byte (four n l)
all-four n h l a = (omega arith, (omega arith, (omega arith, (omega (arith, h), a))))

zero-bytes : (n : ℕ) → All Byte (replicate n 0)
zero-bytes zero = tt
zero-bytes (suc n) = (omega arith, zero-bytes n)

module _ (t : Turn) (R : Recorded t) where
  abbrev mine : Bytes
  mine = record_by t.by (row_of t.call)

  size : length mine ≡ 512
  size = length_record t.by (row_of t.call) R.room

  is_turn : turn_in mine ≡ t
  is_turn = turn-back t.by (row_of t.call) R.room ∙ ap (λ (c : Call). record { by = t.by; call = c }) (row_back t.call)

  is_good : record_ok mine ≡ true
  is_good = good-back t.by (row_of t.call) R.room (kind_in t.call).0 R.valid.low R.valid.high

  is_bytes_lem : All Byte mine
  unfolding record_by
  is_bytes_lem =
      let k = (kind_in t.call).1 in
      let r : Row = row_of t.call in
      let n = R.room in
      let rest = all_append Byte r.bytes (replicate (496 - length r.bytes) 0) (typed-bytes t.call R.valid.typed) (zero-bytes (496 - length r.bytes)) in
      let l : Bytes = r.bytes ++ replicate (496 - length r.bytes) 0 in
      let numbers : All Byte (four r.first (four r.second (four r.third l))) =
      all-four r.first R.first (four r.second (four r.third l)) (all-four r.second R.second (four r.third l) (all-four r.third R.third l rest)) in
      (omega (arith, k), (omega (arith, R.valid.high), (omega arith, (omega (arith, n), numbers))))

-- ---- one after the other

module _ (r s : Bytes) (size : length r ≡ 512) where
  first_block : block_at (r ++ s) 0 ≡ r
  first_block = take_at r s 512 size

  next-block : (i : ℕ) → block_at (r ++ s) (suc i) ≡ block_at s i
  next-block i =
      let e : 512 * suc i ≡ length r + 512 * i = omega (arith, size) in
      ap (λ (n : ℕ). take 512 (drop n (r ++ s))) e ∙ ap (take 512) (drop-append-add r s (512 * i))

  turns-after : (i n : ℕ) → turns_from (suc i) n (r ++ s) ≡ turns_from i n s
  unfolding turns_from
  turns-after i zero = refl
  turns-after i (suc n) = ap₂ (λ (b : Bytes) (ts : List Turn). turn_in b ∷ ts) (next-block i) (turns-after (suc i) n)

  good-after : (i n : ℕ) → all_from (λ j. record_ok (block_at (r ++ s) j)) (suc i) n ≡ all_from (λ j. record_ok (block_at s j)) i n
  good-after i zero = refl
  good-after i (suc n) = ap₂ (λ (b : Bytes) (x : Bool). record_ok b && x) (next-block i) (good-after (suc i) n)

length_script : (ts : List Turn) → AllRecorded ts → length (script_of ts) ≡ 512 * length ts
length_script [] A = refl
length_script (t ∷ ts) A =
    let n = length-append (mine t A.0) (script_of ts) in
    let m = size t A.0 in
    let k = length_script ts A.1 in
    omega (arith, n, m, k)

turns_are : (ts : List Turn) → AllRecorded ts → turns_from 0 (length ts) (script_of ts) ≡ ts
unfolding turns_from
turns_are [] A = refl
turns_are (t ∷ ts) A =
    ap₂ (λ (x : Turn) (xs : List Turn). x ∷ xs) (ap turn_in (first_block (mine t A.0) (script_of ts) (size t A.0)) ∙ is_turn t A.0)
    (turns-after (mine t A.0) (script_of ts) (size t A.0) 0 (length ts) ∙ turns_are ts A.1)

good_are : (ts : List Turn) → AllRecorded ts → all_from (λ j. record_ok (block_at (script_of ts) j)) 0 (length ts) ≡ true
good_are [] A = refl
good_are (t ∷ ts) A =
    ap₂ (λ (x y : Bool). x && y) (ap record_ok (first_block (mine t A.0) (script_of ts) (size t A.0)) ∙ is_good t A.0)
    (good-after (mine t A.0) (script_of ts) (size t A.0) 0 (length ts) ∙ good_are ts A.1)

-- THE STATEMENTS: the script of a list of calls is bytes, it is good, and its calls are the list
module _ (ts : List Turn) (A : AllRecorded ts) where
  count : length (script_of ts) / 512 ≡ length ts
  count = omega (arith, length_script ts A)

  pub script_turns : turns_of (script_of ts) ≡ ts
  script_turns = ap (λ (n : ℕ). turns_from 0 n (script_of ts)) count ∙ turns_are ts A

  pub script_good : script_ok (script_of ts) ≡ true
  unfolding script_ok
  script_good =
      let z : length (script_of ts) % 512 ≡ 0 = omega (arith, length_script ts A) in
      rw (eq-eqb (length (script_of ts) % 512) 0 z, count, good_are ts A)

pub script_bytes : (ts : List Turn) → AllRecorded ts → All Byte (script_of ts)
script_bytes [] A = tt
script_bytes (t ∷ ts) A = all_append Byte (mine t A.0) (script_of ts) (is_bytes_lem t A.0) (script_bytes ts A.1)
