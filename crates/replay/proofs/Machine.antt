-- A run of a script is the machine's run over its calls.
-- Assumes nothing.
use Rattle.std.specs.Prelude.{Err, Ok, Result}
use Prim.Native.Nat.{◌*◌, ◌+◌, ◌-◌, ◌/◌, ◌<◌, ◌≤◌, suc, zero, ℕ}
use mathlib.Core.Bool.{true}
use mathlib.Core.List.{List, [], ◌++◌, ◌∷◌, append_assoc}
use mathlib.Core.Option.{Option, none, some}
use mathlib.Core.Path.{◌∙◌, ◌≡◌, ap, refl, subst, sym}
use native.Mathlib.Omega.{arith}
use lib.ListN.{drop, get_or, length, length-replicate, length-set, set, take, take-append-drop}
use Rattle.block.proofs.Writing.{length-written}
use Rattle.block.specs.Buffer.{block_at, with_block}
use Rattle.entries.proofs.Keeping.{accepted_fitting}
use Rattle.laws.proofs.Accepted.{stays-accepted, turn-accepted}
use Rattle.laws.proofs.All.{All-get_or, all_drop, all_take}
use Rattle.laws.proofs.Replaying.{replayed}
use Rattle.model.specs.Calls.{Buffers, Out, after_turn, answers_on, call, run_on, turn_on}
use Rattle.model.specs.History.{Bytes}
use Rattle.model.specs.Machine.{Answer, bytes, done, logged, refused, revision, status, stopped}
use Rattle.model.specs.Run.{AllValid, Turn, Valid, run}
use Rattle.model.specs.Shows.{Accepted, AllAccepted, Shows, state_in}
use Rattle.model.specs.Store.{block_count}
use Rattle.model.specs.Types.{number_of}
use Rattle.model.specs.WorkCopy.{seat_of}
use Rattle.model.specs.declared.Answer.TheVariants.{Done}
use Rattle.model.specs.declared.Refusal.{Refusal}
use Rattle.replay.proofs.Copies.{after, copy_is, length-copies, length_with, put-copies, upto}
use Rattle.replay.proofs.Faults.{copies-size, copy-clear, room-enough, script_good, store_taken_lem}
use Rattle.replay.proofs.Running.{record_good}
use Rattle.replay.proofs.Stepping.{good_limits, turn_typed}
use Rattle.replay.specs.Desk.{Desk, buffers_in, copy_at, desk, ran_from, turned}
use Rattle.replay.specs.Faults.{Checks}
use Rattle.replay.specs.Records.{record_of, records_of, zeros}
use Rattle.replay.specs.Replay.{MachineRan, Replays, replay_by, replay_refusal}
use Rattle.replay.specs.Script.{script_ok, turns_from, turns_of}
use Rattle.replay.specs.Steps.{Running}
use Rattle.store.specs.Opened.{open_of}
use Rattle.store.specs.declared.Header.{Header}
use Rattle.workcopy.proofs.Scan.{all-bytes}

-- ---- the calls of a good script are calls that a caller can give

module _ (s : Bytes) (small : (i : ℕ) → get_or s i 0 < 256) where
  block-bytes : (j i : ℕ) → get_or (block_at s j) i 0 < 256
  block-bytes j i =
      All-get_or (λ (x : ℕ). x < 256) (block_at s j) i 0
      (all_take (λ (x : ℕ). x < 256) 512 (drop (512 * j) s) (all_drop (λ (x : ℕ). x < 256) (512 * j) s (all-bytes s small))) (omega arith)

  module _ (good : script_ok s ≡ true) where
    valid_from : (i n : ℕ) → i + n ≤ length s / 512 → AllValid (turns_from i n s)
    unfolding turns_from
    valid_from i zero h = tt
    valid_from i (suc n) h =
        let g = good_limits (block_at s i) (record_good s good i (omega arith)) in
        (record { low = g.0; high = g.1; typed = turn_typed (block_at s i) (block-bytes i) }, valid_from (suc i) n (omega arith))

    pub valid_script : AllValid (turns_of s)
    valid_script = valid_from 0 (length s / 512) (omega arith)

length-turns : (i n : ℕ) (s : Bytes) → length (turns_from i n s) ≡ n
unfolding turns_from
length-turns i zero s = refl
length-turns i (suc n) s = ap suc (length-turns (suc i) n s)

-- ---- what the calls leave

length_record : (a : Answer) → length (record_of a) ≡ 512
unfolding record_of zeros
length_record (refused n) = simp (length-set, length-replicate)
length_record done = length-replicate {A = ℕ} 512 0
length_record stopped = simp (length-set, length-replicate)
length_record (revision R) = simp (length-set, length-replicate)
length_record (bytes x n) = length-written 32 x _ ∙ simp (length-set, length-replicate)
length_record (status s n) = simp (length-set, length-replicate)
length_record (logged seat stamp m a i R) = simp (length-set, length-replicate)

-- the buffers of a desk
abbrev buffers_of : Desk → Buffers
buffers_of b = buffers_in b.store b.copies

record Ready (b : Desk) : Type 0 where
  all : AllAccepted (buffers_of b)
  size : length b.copies ≡ 67_584

module _ (i : ℕ) (t : Turn) (b : Desk) (v : Valid t) (R : Ready b) where
  abbrev k : ℕ
  k = t.by - 1

  low : k < 4
  low = omega (arith, v.low, v.high)

  abbrev done' : Out
  done' = call b.store (copy_at b.copies k) t.call

  same-call : done' ≡ turn_on (buffers_of b) t
  same-call = ap (λ (x : Bytes). call b.store x t.call) (sym (copy_is b.store b.copies k low))

  left-size : length done'.copy ≡ 16_896
  left-size =
      ap (λ (x : Out). length x.copy) same-call
      ∙ (accepted_fitting (turn_on (buffers_of b) t).store (turn_on (buffers_of b) t).copy
      (stays-accepted b.store (get_or (buffers_of b).copies k []) (R.all.each k low) t.call v.typed)).viewed.accepted.size

  buffers-next : buffers_of (turned i t b) ≡ after_turn (buffers_of b) t
  buffers-next =
      put-copies done'.store b.copies done'.copy k R.size low left-size
      ∙ ap (λ (x : Out). record { store = x.store; copies = set (buffers_of b).copies k x.copy }) same-call

  next-ready : Ready (turned i t b)
  next-ready = record {
    all = subst AllAccepted (sym buffers-next) (turn-accepted (buffers_of b) R.all k low t.call v.typed);
    size = length-copies b.copies done'.copy k R.size low left-size;
  }

  abbrev mine : Bytes
  mine = record_of done'.says

  -- the answers' records after this one, and those before it with it
  answers_next : (n : ℕ) → 512 * (i + suc n) ≤ length b.answers → (rs : Bytes)
      → take (512 * suc i) (turned i t b).answers ++ (rs ++ drop (512 * (suc i + n)) (turned i t b).answers)
      ≡ take (512 * i) b.answers ++ ((record_of (turn_on (buffers_of b) t).says ++ rs) ++ drop (512 * (i + suc n)) b.answers)
  answers_next n h rs =
      let l : Bytes = b.answers in
      let e : 512 * suc i ≡ 512 * i + 512 = omega arith in
      let f : 512 * (suc i + n) ≡ 512 * (i + suc n) = omega arith in
      let x : Bytes = take (512 * i) l in
      let d : Bytes = drop (512 * (i + suc n)) l in
      let room : 512 * i + 512 ≤ length l = omega arith in
      let p : take (512 * suc i) (with_block l i mine) ≡ x ++ mine = ap (λ (m : ℕ). take m (with_block l i mine)) e ∙ upto l mine (512 * i) 512 room (length_record done'.says) in
      let q : drop (512 * (suc i + n)) (with_block l i mine) ≡ d = ap (λ (m : ℕ). drop m (with_block l i mine)) f ∙ after l mine (512 * i) 512 room (length_record done'.says) (512 * (i + suc n)) (omega arith) in
      (λ j. p j ++ (rs ++ q j)) ∙ append_assoc x mine (rs ++ d) ∙ ap (λ (y : Bytes). x ++ y) (sym (append_assoc mine rs d))
      ∙ ap (λ (y : Out). x ++ ((record_of y.says ++ rs) ++ d)) same-call

-- the calls leave what the calls on buffers leave, and their answers' records
ran_is : (i : ℕ) (ts : List Turn) (b : Desk) → AllValid ts → Ready b → 512 * (i + length ts) ≤ length b.answers
    → (buffers_of (ran_from i ts b) ≡ run_on (buffers_of b) ts)
    × ((ran_from i ts b).answers ≡ take (512 * i) b.answers ++ (records_of (answers_on (buffers_of b) ts) ++ drop (512 * (i + length ts)) b.answers))
unfolding ran_from
ran_is i [] b v R h =
    let e : 512 * (i + 0) ≡ 512 * i = omega arith in
    (refl, sym (ap (λ (n : ℕ). take (512 * i) b.answers ++ drop n b.answers) e ∙ take-append-drop (512 * i) b.answers))
ran_is i (t ∷ ts) b v R h =
    let P = ran_is (suc i) ts (turned i t b) v.1 (next-ready i t b v.0 R) (room (length ts) h) in
    let n = buffers-next i t b v.0 R in (
      P.0 ∙ ap (λ (x : Buffers). run_on x ts) n,
      P.1
          ∙ ap (λ (x : Buffers). take (512 * suc i) (turned i t b).answers ++ (records_of (answers_on x ts) ++ drop (512 * (suc i + length ts)) (turned i t b).answers)) n
          ∙ answers_next i t b v.0 R (length ts) h (records_of (answers_on (after_turn (buffers_of b) t) ts)),
    )
  where
    room : (n : ℕ) → 512 * (i + suc n) ≤ length b.answers → 512 * (suc i + n) ≤ length (turned i t b).answers
    room n h = omega (arith, h, length_with b.answers i (record_of (call b.store (copy_at b.copies (t.by - 1)) t.call).says) (length_record _) (omega arith))

-- ---- THE STATEMENTS

module _ (script store copies old : Bytes) (small : (i : ℕ) → get_or script i 0 < 256) (e : replay_refusal script store copies old ≡ none) where
  abbrev b₀ : Desk
  b₀ = desk store copies old

  pub four-accepted : AllAccepted (buffers_in store copies)
  four-accepted = record {
    four = refl;
    each = λ k l.
        subst (Accepted store) (sym (copy_is store copies k l)) (record { store_taken = store_taken_lem script store copies old e; copy_taken = (copy-clear script store copies old e k l).0 });
    seats = λ k l. ap seat_of (copy_is store copies k l) ∙ (copy-clear script store copies old e k l).1;
  }

  -- what the calls on buffers leave, and their answers' records
  pub left_by : {store' copies' answers' : Bytes} → desk store' copies' answers' ≡ ran_from 0 (turns_of script) b₀
      → (buffers_in store' copies' ≡ run_on (buffers_in store copies) (turns_of script))
      × (answers' ≡ records_of (answers_on (buffers_in store copies) (turns_of script)) ++ drop (512 * length (turns_of script)) old)
  left_by q =
      let ts : List Turn = turns_of script in
      let v = valid_script script small (script_good script store copies old e) in
      let n : length ts ≡ length script / 512 = length-turns 0 (length script / 512) script in
      let P = ran_is 0 ts b₀ v (record { all = four-accepted; size = copies-size script store copies old e }) (omega (arith, n, room-enough script store copies old e)) in
      let z : 512 * (0 + length ts) ≡ 512 * length ts = omega arith in
      (ap buffers_of q ∙ P.0, ap (λ (d : Desk). d.answers) q ∙ P.1 ∙ ap (λ (m : ℕ). records_of (answers_on (buffers_in store copies) ts) ++ drop m old) z)

  pub machine_ran : {store' copies' answers' : Bytes} → desk store' copies' answers' ≡ ran_from 0 (turns_of script) b₀
      → MachineRan (buffers_in store copies) (turns_of script) old store' copies' answers'
  machine_ran q =
      let ts : List Turn = turns_of script in
      let M = replayed (buffers_in store copies) four-accepted ts (valid_script script small (script_good script store copies old e)) in
      let L = left_by q in
      record {
        answer = L.1 ∙ ap (λ (a : List Answer). records_of a ++ drop (512 * length ts) old) M.0;
        shows = subst (λ (x : Buffers). Shows (block_count store) x (run (state_in (buffers_in store copies)) ts)) (sym L.0) M.1;
      }

  -- what a run asks for
  pub run-asks : (h : Header) → open_of store ≡ Ok h → Running script store copies old h
  run-asks h o = record {
    good = script_good script store copies old e;
    ready = record { all = four-accepted; size = copies-size script store copies old e; «open» = o };
    room = room-enough script store copies old e;
  }

module _ (script store copies old : Bytes) where
  pub replay_refused : (k : Refusal) → replay_refusal script store copies old ≡ some (number_of k) → Replays script store copies old (Err k) store copies old
  replay_refused k e = record {
    is = sym (ap (λ (o : Option ℕ). replay_by o (turns_of script) (desk store copies old)) e);
    machine = λ n. absurd (apart (sym e ∙ n));
  }
    where
      apart : {n : ℕ} → some n ≡ none → ⊥
      apart q = let z : ◌≡◌ {A = ℕ} 0 1 = cc in omega arith

  pub replay_done : ((i : ℕ) → get_or script i 0 < 256) → replay_refusal script store copies old ≡ none → {store' copies' answers' : Bytes}
      → desk store' copies' answers' ≡ ran_from 0 (turns_of script) (desk store copies old) → Replays script store copies old (Ok Done) store' copies' answers'
  replay_done small e q = record {
    is = ap (λ (d : Desk). record { says = done; left = d }) q ∙ sym (ap (λ (o : Option ℕ). replay_by o (turns_of script) (desk store copies old)) e);
    machine = λ n. machine_ran script store copies old small e q;
  }

  pub checked : {c d : Result Header Refusal} → c ≡ d → Checks script store copies old c → Checks script store copies old d
  checked q C = subst (Checks script store copies old) q C
