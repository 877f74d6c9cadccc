-- The laws of a holder whose time is over: its three calls, the grant, and what a day's numbers keep to.
-- Assumes nothing.
use Prim.Native.Nat.{◌%◌, ◌+◌, ◌-◌, ◌<◌, ◌≤◌, suc, ℕ}
use mathlib.Core.Bool.{Bool, ◌&&◌, cond, false, not, true}
use mathlib.Core.List.{List, [], ◌∷◌}
use mathlib.Core.Path.{◌∙◌, ◌≡◌, ap, ap₂, subst, sym}
use native.Mathlib.Omega.{arith}
use borrow.Author.Tests.{eq-eqb, le-leb, lt-leb, ne_eqb}
use lib.Dec.{eqb, leb}
use lib.ListN.{get_or, set}
use Rattle.laws.proofs.Rows.{cond-any, set-any}
use Rattle.model.specs.Calls.{Buffers}
use Rattle.model.specs.Codec.{pad_to}
use Rattle.rehearsal.specs.Desk.{FiledOn, Sane, hall_in, two_calls}
use Rattle.rehearsal.specs.Rehearsal.{holds}
use Rattle.rehearsal.specs.RehearsalCalls.{Hall, asking_by, closing_on, finishing_on, got_through, grant_on, hall, leaves, no_tally, one_ask, one_commit, one_wait, row_in, seat_asks}
use Rattle.rehearsal.specs.declared.Day.{Day}
use Rattle.rehearsal.specs.declared.Setting.{Setting}
use Rattle.rehearsal.specs.declared.Tally.{Tally}
use Rattle.turns.proofs.Calls.{holder_is}
use Rattle.turns.proofs.Queues.{Right, Seats}
use Rattle.turns.proofs.Traces.{left-four}
use Rattle.turns.proofs.Turning.{called, line-left, so_seat}
use Rattle.turns.specs.Mixed.{bench, held}
use Rattle.turns.specs.Turned.{turned_of}
use Rattle.turns.specs.Turns.{Ask, Give, Queue, TurnCall, TurnOut, given_back, held_by, holder, is_in, numbers_of, passed_on, queue_of, turn_call, turn_out}
use Rattle.turns.specs.declared.TurnRecord.{TurnRecord}
use Rattle.turns.specs.declared.Turned.{Turned}
use Rattle.rehearsal.proofs.Asking.{holder-left}

-- ---- the seats of a line

holder-low : (q : Queue) → Seats q → holder q ≤ 4
holder-low [] S = omega arith
holder-low (s ∷ q) S = S.0.1

passed-low : (q : Queue) → Seats q → holder (passed_on q) ≤ 4
passed-low [] S = omega arith
passed-low (s ∷ q) S = holder-low q S.1

module _ (t : TurnRecord) (q : Queue) (R : Right q) (e : numbers_of t ≡ pad_to 4 q) (n : t.holder ≡ 0 → ⊥) where
  pub held-seat : (1 ≤ t.holder) × (t.holder ≤ 4)
  held-seat = go q R e
    where
      go : (q : Queue) → Right q → numbers_of t ≡ pad_to 4 q → (1 ≤ t.holder) × (t.holder ≤ 4)
      go [] R e = absurd (n (ap (λ (l : List ℕ). get_or l 0 0) e))
      go (s ∷ q) R e =
          let h : t.holder ≡ s = ap (λ (l : List ℕ). get_or l 0 0) e in
          ((let i = R.seats.0.0 in omega (arith, i, h)), (let i = R.seats.0.1 in omega (arith, i, h)))

  -- who gets the turn when the holder gives back
  pub next_low : leaves (held (turn_call (numbers_of t) (Give t.holder)).says) ≤ 4
  next_low =
      let c : turn_call (numbers_of t) (Give t.holder) ≡ turn_out (held_by (holder (given_back t.holder q))) (pad_to 4 (given_back t.holder q)) =
      ap (λ (l : List ℕ). turn_call l (Give t.holder)) e ∙ called q R (Give t.holder) (ap not (so_seat t.holder held-seat.0 held-seat.1)) in
      subst (λ (o : TurnOut). leaves (held o.says) ≤ 4) (sym c)
      (cond-any (λ (p : Queue). holder p ≤ 4) (eqb (holder q) t.holder) (λ z. passed-low q R.seats) (λ z. holder-low q R.seats))

-- ---- the three calls

pub closes_so : (b b' : Buffers) (d : Day) (s t : ℕ) (g : Bool) (n : Tally) (x : Turned) → FiledOn b (numbers_of d.turn) s t (row_in d.rows s) g b'
    → n ≡ cond g (one_commit (row_in d.rows s)) (row_in d.rows s) → x ≡ turned_of (turn_call (numbers_of d.turn) (Give s))
    → grant_on t x.answer.holder (hall_in b' (record { turn = x.turn; since = d.since; rows = set d.rows (s - 1) n })) ≡ closing_on t s (hall_in b d)
closes_so b b' d s t g n x F en ex =
    let r : Tally = row_in d.rows s in
    let o : TurnOut = turn_call (numbers_of d.turn) (Give s) in
    let p : x.answer.holder ≡ leaves (held o.says) = ap (λ (y : Turned). y.answer.holder) ex ∙ holder-left o.says in
    let l : numbers_of x.turn ≡ o.left = ap (λ (y : Turned). numbers_of y.turn) ex ∙ left-four d.turn (Give s) in
    let m : n ≡ cond (got_through (two_calls b (numbers_of d.turn) s t r).0) (one_commit r) r = en ∙ ap (λ (z : Bool). cond z (one_commit r) r) F.says in
    let w : b' ≡ (two_calls b (numbers_of d.turn) s t r).1.buffers = F.leaves in
    λ i. grant_on t (p i) (hall (bench (w i) (l i)) d.since (set d.rows (s - 1) (m i)))

-- ---- is the time over?

module _ (b : Buffers) (d : Day) (l : List Setting) (t : ℕ) where
  abbrev seat : ℕ
  seat = d.turn.holder

  by_holder : finishing_on l t (holder (queue_of (numbers_of d.turn))) (hall_in b d) ≡ finishing_on l t seat (hall_in b d)
  by_holder = ap (λ (s : ℕ). finishing_on l t s (hall_in b d)) (holder_is seat (d.turn.first ∷ d.turn.second ∷ d.turn.third ∷ []))

  pub nobody : seat ≡ 0 → hall_in b d ≡ finishing_on l t (holder (queue_of (numbers_of d.turn))) (hall_in b d)
  nobody z = sym (by_holder ∙ ap (λ (c : Bool). cond (not c && leb (d.since + holds l seat) t) (closing_on t seat (hall_in b d)) (hall_in b d)) (eq-eqb seat 0 z))

  time : (x y : Bool) → eqb seat 0 ≡ x → leb (d.since + holds l seat) t ≡ y
      → finishing_on l t (holder (queue_of (numbers_of d.turn))) (hall_in b d) ≡ cond (not x && y) (closing_on t seat (hall_in b d)) (hall_in b d)
  time x y e f = by_holder ∙ ap₂ (λ (x y : Bool). cond (not x && y) (closing_on t seat (hall_in b d)) (hall_in b d)) e f

  pub not_yet : (seat ≡ 0 → ⊥) → t < d.since + holds l seat → hall_in b d ≡ finishing_on l t (holder (queue_of (numbers_of d.turn))) (hall_in b d)
  not_yet n h = sym (time false false (ne_eqb seat 0 n) (lt-leb (d.since + holds l seat) t h))

  pub over : (seat ≡ 0 → ⊥) → d.since + holds l seat ≤ t → closing_on t seat (hall_in b d) ≡ finishing_on l t (holder (queue_of (numbers_of d.turn))) (hall_in b d)
  over n h = sym (time false true (ne_eqb seat 0 n) (le-leb (d.since + holds l seat) t h))

-- ---- what the numbers keep to

abbrev Small : ℕ → List Tally → Type 0
Small n l = (k : ℕ) → ((row_in l k).commits ≤ n) × ((row_in l k).asks ≤ n)

small-set : (n m : ℕ) (l : List Tally) (s : ℕ) (r : Tally) → n ≤ m → Small n l → (r.commits ≤ m) × (r.asks ≤ m) → Small m (set l (s - 1) r)
small-set n m l s r le S x k =
    set-any (λ (y : Tally). (y.commits ≤ m) × (y.asks ≤ m)) l (s - 1) (k - 1) no_tally (λ i. x)
    ((let i = (S k).0 in omega (arith, i, le)), (let i = (S k).1 in omega (arith, i, le)))

line-called : (r : List ℕ) (c : TurnCall) → (q : Queue) × Right q × (r ≡ pad_to 4 q) → (q : Queue) × Right q × ((turn_call r c).left ≡ pad_to 4 q)
line-called r c L = let n = line-left L.0 L.1 c in (n.0, n.1, ap (λ (l : List ℕ). (turn_call l c).left) L.2 ∙ n.2)

pub sane_more : (n m : ℕ) (w : Hall) → n ≤ m → Sane n w → Sane m w
sane_more n m w le S = record {
  line = S.line;
  small = λ k. ((let i = (S.small k).0 in omega (arith, i, le)), (let i = (S.small k).1 in omega (arith, i, le)));
  early = S.early;
}

module _ (n t s : ℕ) (now : t ≤ 60) where
  sane_grant : (w : Hall) → Sane n w → Sane n (grant_on t s w)
  sane_grant w S =
      cond-any (Sane n) (eqb s 0) (λ z. S)
      (λ z. record { line = S.line; small = small-set n n w.rows s (one_wait t (row_in w.rows s)) (omega arith) S.small (S.small s); early = now })

module _ (n t : ℕ) (now : t ≤ 60) (w : Hall) (S : Sane n w) where
  sane_closing : (s : ℕ) → Sane (suc n) (closing_on t s w)
  sane_closing s =
      let r : Tally = row_in w.rows s in
      let g : Bool = got_through (two_calls w.bench.buffers w.bench.turn s t r).0 in
      let i = S.small s in
      let c : r.commits ≤ n = i.0 in
      let a : r.asks ≤ n = i.1 in
      let one : ((one_commit r).commits ≤ suc n) × ((one_commit r).asks ≤ suc n) = (omega (arith, c), omega (arith, a)) in
      let none : (r.commits ≤ suc n) × (r.asks ≤ suc n) = (omega (arith, c), omega (arith, a)) in
      let x : ((cond g (one_commit r) r).commits ≤ suc n) × ((cond g (one_commit r) r).asks ≤ suc n) =
      cond-any (λ (y : Tally). (y.commits ≤ suc n) × (y.asks ≤ suc n)) g {x = one_commit r} {y = r} (λ z. one) (λ z. none) in
      sane_grant (suc n) t (leaves (held (turn_call w.bench.turn (Give s)).says)) now
      (hall (bench (two_calls w.bench.buffers w.bench.turn s t r).1.buffers (turn_call w.bench.turn (Give s)).left) w.since (set w.rows (s - 1) (cond g (one_commit r) r)))
      (record {
        line = line-called w.bench.turn (Give s) S.line;
        small = small-set n (suc n) w.rows s (cond g (one_commit r) r) (omega arith) S.small x;
        early = S.early;
      })

  pub sane_finishing : (l : List Setting) (s : ℕ) → Sane (suc n) (finishing_on l t s w)
  sane_finishing l s = cond-any (Sane (suc n)) (not (eqb s 0) && leb (w.since + holds l s) t) (λ z. sane_closing s) (λ z. sane_more n (suc n) w (omega arith) S)

  sane_asks : (s : ℕ) → Sane (suc n) (seat_asks t s w)
  sane_asks s =
      let r : Tally = one_ask t (row_in w.rows s) in
      let i = S.small s in
      let A : Sane (suc n) (hall (bench w.bench.buffers (turn_call w.bench.turn (Ask s)).left) w.since (set w.rows (s - 1) r)) = record {
        line = line-called w.bench.turn (Ask s) S.line;
        small = small-set n (suc n) w.rows s r (omega arith) S.small ((let j = i.0 in omega (arith, j)), (let j = i.1 in omega (arith, j)));
        early = S.early;
      } in
      cond-any (Sane (suc n)) (eqb (leaves (held (turn_call w.bench.turn (Ask s)).says)) s) (λ z. sane_grant (suc n) t s now _ A) (λ z. A)

  pub sane_asking : (p s : ℕ) → Sane (suc n) (asking_by p t s w)
  sane_asking p s = cond-any (Sane (suc n)) (eqb (t % p) 0 && not (is_in s (queue_of w.bench.turn))) (λ z. sane_asks s) (λ z. sane_more n (suc n) w (omega arith) S)

-- the seat that gets the turn, as the code has it
pub next-seat : (t : TurnRecord) (q : Queue) → Right q → numbers_of t ≡ pad_to 4 q → (t.holder ≡ 0 → ⊥) → (x : Turned) → x ≡ turned_of (turn_call (numbers_of t) (Give t.holder)) → x.answer.holder ≤ 4
next-seat t q R e n x ex =
    let p : x.answer.holder ≡ leaves (held (turn_call (numbers_of t) (Give t.holder)).says) =
    ap (λ (y : Turned). y.answer.holder) ex ∙ holder-left (turn_call (numbers_of t) (Give t.holder)).says in
    let l = next_low t q R e n in
    omega (arith, l, p)
