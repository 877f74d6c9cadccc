-- One call of a script: the record's call on its seat's copy, and the copy put back among the four.
-- Assumes nothing.
use Prim.Native.Nat.{◌*◌, ◌+◌, ◌-◌, ◌/◌, ◌<◌, ◌^◌, ◌≤◌, suc, ℕ}
use mathlib.Core.Bool.{true}
use mathlib.Core.List.{[], ◌++◌}
use mathlib.Core.Path.{◌∙◌, ◌≡◌, ap, subst, sym}
use native.Mathlib.Omega.{arith}
use borrow.Author.Tests.{leb-true}
use lib.Dec.{eqb, leb}
use lib.ListN.{drop, get_or, length, set, take}
use Rattle.block.specs.Field.{four_at, two_at}
use Rattle.block.specs.Lists.{All}
use Rattle.entries.proofs.Checking.{fitting_accepted}
use Rattle.entries.proofs.Keeping.{accepted_fitting}
use Rattle.entries.specs.View.{Fitting}
use Rattle.entries.specs.declared.View.{View}
use Rattle.inner.proofs.Performing.{fitting_open}
use Rattle.inner.specs.Performs.{Performs, Within, call_of, told}
use Rattle.inner.specs.declared.Call.{Call}
use Rattle.inner.specs.declared.Performed.{Performed}
use Rattle.inner.specs.declared.Reply.{Reply}
use Rattle.laws.proofs.Accepted.{accepted_seen, both, turn-accepted}
use Rattle.laws.proofs.All.{all_drop, all_take}
use Rattle.laws.proofs.Rows.{cond-any}
use Rattle.model.specs.Calls.{Out, call}
use Rattle.model.specs.History.{Bytes}
use Rattle.model.specs.Run.{Typed}
use Rattle.model.specs.Shows.{Accepted, AllAccepted}
use Rattle.model.specs.WorkCopy.{seat_of}
use Rattle.replay.proofs.Copies.{copy_is, length-copies, put-copies, put_is}
use Rattle.replay.specs.Desk.{buffers_in, copy_at, with_copy}
use Rattle.replay.specs.Records.{record_of}
use Rattle.replay.specs.Script.{bytes_in, call_as, call_in, kind_ok, record_ok, turn_in}
use Rattle.replay.specs.Steps.{Reachable, Set, Stepped, Stepping, Turned}
use Rattle.store.proofs.Opening.{open_accepted}
use Rattle.store.specs.declared.Header.{Header}
use Rattle.workcopy.proofs.Scan.{all-bytes}

-- ---- a record

pub good_limits : (r : Bytes) → record_ok r ≡ true → (1 ≤ get_or r 1 0) × (get_or r 1 0 ≤ 4) × (two_at r 2 ≤ 496)
unfolding record_ok
good_limits r e =
    let a = both (kind_ok (get_or r 0 0)) _ e in
    let c = both (leb 1 (get_or r 1 0)) _ a.1 in
    let d = both (leb (get_or r 1 0) 4) (leb (two_at r 2) 496) c.1 in
    (leb-true 1 (get_or r 1 0) c.0, leb-true (get_or r 1 0) 4 d.0, leb-true (two_at r 2) 496 d.1)

-- the call, and the bytes as the code takes them
called : (r : Bytes) {k : Call} {n : ℕ} → k ≡ call_in r → n ≡ two_at r 2 → call_of k (take (16 + n - 16) (drop 16 r)) ≡ (turn_in r).call
called r {n = n} p q = let e : 16 + n - 16 ≡ two_at r 2 = omega (arith, q) in λ i. call_of (p i) (take (e i) (drop 16 r))

typed_call : (x : Bytes) → All (λ (y : ℕ). y < 256) x → (k a b c : ℕ) → a < 2 ^ 32 → b < 2 ^ 32 → Typed (call_of (call_as k a b c) x)
typed_call x all k a b c small second =
    cond-any P (eqb k 1) (λ e. all)
    (λ e. cond-any P (eqb k 2) (λ e. all)
    (λ e. cond-any P (eqb k 3) (λ e. tt)
    (λ e. cond-any P (eqb k 4) (λ e. tt)
    (λ e. cond-any P (eqb k 5) (λ e. tt)
    (λ e. cond-any P (eqb k 6) (λ e. small)
    (λ e. cond-any P (eqb k 7) (λ e. tt)
    (λ e. cond-any P (eqb k 8) (λ e. tt)
    (λ e. cond-any P (eqb k 9) (λ e. tt)
    (λ e. cond-any P (eqb k 10) (λ e. tt)
    (λ e. cond-any P (eqb k 11) (λ e. tt)
    (λ e. cond-any P (eqb k 12) (λ e. tt)
    (λ e. cond-any P (eqb k 13) (λ e. tt)
    (λ e. cond-any P (eqb k 14) (λ e. small)
    (λ e. cond-any P (eqb k 15) (λ e. tt)
    (λ e. cond-any P (eqb k 20) (λ e. second) (λ e. tt))))))))))))))))
  where
    P : Call → Type 0
    P c = Typed (call_of c x)

pub turn_typed : (r : Bytes) → ((i : ℕ) → get_or r i 0 < 256) → Typed (turn_in r).call
unfolding call_in
turn_typed r f =
    typed_call (bytes_in r) (all_take (λ (y : ℕ). y < 256) (two_at r 2) (drop 16 r) (all_drop (λ (y : ℕ). y < 256) 16 r (all-bytes r f))) (get_or r 0 0) (four_at r 4) (four_at r 8) (four_at r 12)
    (omega (arith, f 4, f 5, f 6, f 7)) (omega (arith, f 8, f 9, f 10, f 11))

-- ---- its seat's buffers

pub reachable : (store copy : Bytes) (v : View) → Fitting store copy v → {p : Reply} → Within store copy p → Reachable store copy p
reachable store copy v F w = record {
  within = w;
  few = omega (arith, (accepted_seen store copy (fitting_accepted store copy v F)).many);
  small = omega (arith, F.viewed.accepted.size);
}

pub step-done : (r store copy : Bytes) (v : View) {k : Call} {n : ℕ} {p : Performed} {store' copy' answer' : Bytes} → k ≡ call_in r → n ≡ two_at r 2
    → Performs store copy v (call_of k (take (16 + n - 16) (drop 16 r))) p store' copy' → answer' ≡ record_of (told store' copy' p.reply)
    → Stepped r store copy v (record { last = p.last; used = p.used }) store' copy' answer'
step-done r store copy v e n P q =
    let o = P.is ∙ ap (call store copy) (called r e n) in
    record { stored = ap (λ (x : Out). x.store) o; copied = ap (λ (x : Out). x.copy) o; answer = q ∙ ap (λ (x : Out). record_of x.says) o; fits = P.fits }

-- ---- among the four

module _ (store copies : Bytes) (h : Header) (S : Set store copies h) (k : ℕ) (low : k < 4) where
  mine : Accepted store (copy_at copies k)
  mine = subst (Accepted store) (copy_is store copies k low) (S.all.each k low)

  set-fits : (n : ℕ) → n ≡ length store / 512 → (seat : ℕ) → seat ≡ suc k → Fitting store (copy_at copies k) (record { n = n; used = h.used; last = h.last; seat = seat })
  set-fits n e seat q =
      let o = open_accepted store h S.«open» in
      let s : seat_of (copy_at copies k) ≡ seat = ap seat_of (sym (copy_is store copies k low)) ∙ S.all.seats k low ∙ sym q in
      subst (Fitting store (copy_at copies k)) (λ i. record { n = sym e i; used = sym o.2 i; last = sym o.1 i; seat = s i }) (accepted_fitting store (copy_at copies k) mine)

  module _ (r : Bytes) (bytes : (i : ℕ) → get_or r i 0 < 256) {v : View} {g : Header} {store' copy' answer' : Bytes} (q : v.seat ≡ suc k)
      (D : Stepped r store (copy_at copies k) v g store' copy' answer') where
    put-accepted : AllAccepted (record { store = store'; copies = set (buffers_in store copies).copies k copy' })
    put-accepted =
        let o : Bytes → Out = λ x. call store x (turn_in r).call in
        let e : o (copy_at copies k) ≡ o (get_or (buffers_in store copies).copies k []) = ap o (sym (copy_is store copies k low)) in
        let p = D.stored ∙ ap (λ (x : Out). x.store) e in
        let c = D.copied ∙ ap (λ (x : Out). x.copy) e in
        subst AllAccepted (λ i. record { store = sym p i; copies = set (buffers_in store copies).copies k (sym c i) })
        (turn-accepted (buffers_in store copies) S.all k low (turn_in r).call (turn_typed r bytes))

    turn-ready : Set store' (with_copy copies k copy') g
    turn-ready =
        let n : length copy' ≡ 16_896 = D.fits.viewed.accepted.size in
        let size : length copies ≡ 67_584 = S.size in
        record {
          all = subst AllAccepted (sym (put-copies store' copies copy' k size low n)) put-accepted;
          size = length-copies copies copy' k size low n;
          «open» = fitting_open store' copy' _ D.fits;
        }

    turn-done : get_or r 1 0 - 1 ≡ k → {copies' : Bytes} → copies' ≡ with_copy copies k copy' → Turned r store copies g store' copies' answer'
    turn-done e {copies'} p = record {
      stored = D.stored ∙ ap (λ (j : ℕ). (call store (copy_at copies j) (turn_in r).call).store) (sym e);
      copied = p ∙ ap (with_copy copies k) D.copied ∙ ap (λ (j : ℕ). with_copy copies j (call store (copy_at copies j) (turn_in r).call).copy) (sym e);
      answer = D.answer ∙ ap (λ (j : ℕ). record_of (call store (copy_at copies j) (turn_in r).call).says) (sym e);
      ready = subst (λ (x : Bytes). Set store' x g) (sym p) turn-ready;
    }

  -- THE STATEMENTS, with the copy as the code takes it and puts it back, m from its two ends
  module _ (r : Bytes) (m : ℕ) (whole : m ≡ 16_896) where
    pub turn-steps : record_ok r ≡ true → length r ≡ 512 → {answer : Bytes} → length answer ≡ 512 → (n seat : ℕ) → n ≡ length store / 512 → seat ≡ suc k
        → Stepping r store (take m (drop (16_896 * k) copies)) (record { n = n; used = h.used; last = h.last; seat = seat }) answer
    turn-steps good size room n seat e q = record {
      good = good;
      size = size;
      fits =
          subst (λ (x : ℕ). Fitting store (take x (drop (16_896 * k) copies)) (record { n = n; used = h.used; last = h.last; seat = seat })) (sym whole)
          (set-fits n e seat q);
      room = room;
    }

    pub turn_by_lem : ((i : ℕ) → get_or r i 0 < 256) → {v : View} {g : Header} {store' copy' answer' copies' : Bytes} → v.seat ≡ suc k
        → Stepped r store (take m (drop (16_896 * k) copies)) v g store' copy' answer' → get_or r 1 0 - 1 ≡ k
        → copies' ≡ take (16_896 * k) copies ++ (copy' ++ drop m (drop (16_896 * k) copies)) → Turned r store copies g store' copies' answer'
    turn_by_lem bytes {v} {g} {store'} {copy'} {answer'} q D e p =
        turn-done r bytes q (subst (λ (x : ℕ). Stepped r store (take x (drop (16_896 * k) copies)) v g store' copy' answer') whole D) e (p ∙ put_is copies copy' k m whole)
