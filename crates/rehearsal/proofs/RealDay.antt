-- The day made with the real calls on a store of 121 blocks has the rows and the queue of the day, and none of its calls is refused.
-- Assumes nothing.
use Prim.Native.Nat.{◌%◌, ◌+◌, ◌-◌, ◌<◌, ◌^◌, ◌≤◌, suc, zero, ℕ}
use mathlib.Core.Bool.{Bool, ◌&&◌, cond, false, not, true}
use mathlib.Core.List.{List, [], ◌++◌, ◌∷◌, map}
use mathlib.Core.Path.{◌∙◌, ◌≡◌, ap, ap₂, refl, subst, sym}
use native.Mathlib.Omega.{arith}
use borrow.Author.Tests.{eq-eqb, ne_eqb, not-true}
use lib.Dec.{eqb, leb}
use lib.ListN.{get_or-map, get_or, length, length-map, set}
use Rattle.block.specs.Lists.{All, all}
use Rattle.rehearsal.proofs.Fairness.{Keeps, ask, finish, keeps-fresh, step_keeps}
use Rattle.laws.proofs.Accepted.{both}
use Rattle.laws.proofs.Rows.{or_false, set-any}
use Rattle.turns.proofs.Form.{queue_is}
use Rattle.turns.proofs.Mixed.{demand_three_in_turn, valid-append}
use Rattle.turns.proofs.Queues.{Right}
use Rattle.turns.proofs.Turning.{called, so_seat}
use Rattle.model.specs.Calls.{Buffers, fresh_buffers}
use Rattle.model.specs.Codec.{pad_to}
use Rattle.turns.specs.Mixed.{Bench, MixedList, Move, ValidMoves, bench, commits, held, move_on, moved_on, plain, said, said_on, through, turns}
use Rattle.model.specs.Machine.{Answer, fresh}
use Rattle.model.specs.Run.{accepted, accepted_marks}
use Rattle.rehearsal.specs.Rehearsal.{Day, Row, Sensible, asking, day, days_from, finishing, fresh_day, granted_to, has_asked, has_committed, has_waited, holds, joining, no_row, setting_of, step_of, wants}
use Rattle.rehearsal.specs.RehearsalCalls.{Hall, RealDay, ask_moves, asking_on, closing_on, finish_moves, finishing_on, got_through, grant_on, hall, leaves, moves_from, no_tally, not_refused, one_ask, one_commit, one_wait, row_in, seat_asks, step_moves, step_on, steps_on, tally_of, writing}
use Rattle.rehearsal.specs.declared.Setting.{Setting}
use Rattle.rehearsal.specs.declared.Tally.{Tally}
use Rattle.turns.specs.Turns.{Ask, Give, Queue, TurnOut, free, held_by, holder, is_in, queue_of, turn_call, turn_out}
use Rattle.rehearsal.proofs.Written.{Written, b₂, fresh-written, says-done, says-revision, valid, written_later, written_on, written-rows}

-- the hall of a day: the buffers, the queue as a record, and the rows
abbrev pub lift : Buffers → Day → Hall
lift b d = hall (bench b (pad_to 4 d.queue)) d.since (map tally_of d.rows)

-- ---- calls, none of them refused, by seats 1 to 4

abbrev pub Calls : Bench → List Move → Bench → Type 0
Calls a ms b = (b ≡ moved_on a ms) × (all not_refused (said_on a ms) ≡ true) × ValidMoves ms

moved-append : (a : Bench) (ms ns : List Move) → moved_on a (ms ++ ns) ≡ moved_on (moved_on a ms) ns
moved-append a [] ns = refl
moved-append a (m ∷ ms) ns = moved-append (move_on a m).1 ms ns

taken-append : (a : Bench) (ms ns : List Move) → all not_refused (said_on a ms) ≡ true → all not_refused (said_on (moved_on a ms) ns) ≡ true → all not_refused (said_on a (ms ++ ns)) ≡ true
taken-append a [] ns e f = f
taken-append a (m ∷ ms) ns e f = go (not_refused (move_on a m).0) e (λ i. taken-append (move_on a m).1 ms ns i f)
  where
    go : (b : Bool) → (b && all not_refused (said_on (move_on a m).1 ms)) ≡ true → (all not_refused (said_on (move_on a m).1 ms) ≡ true → all not_refused (said_on (move_on a m).1 (ms ++ ns)) ≡ true)
        → (b && all not_refused (said_on (move_on a m).1 (ms ++ ns))) ≡ true
    go true e later = later e
    go false e later = e

pub calls-append : (a b c : Bench) (ms ns : List Move) → Calls a ms b → Calls b ns c → Calls a (ms ++ ns) c
calls-append a b c ms ns p q = (
  q.0 ∙ ap (λ (x : Bench). moved_on x ns) p.0 ∙ sym (moved-append a ms ns),
  taken-append a ms ns p.1 (subst (λ (x : Bench). all not_refused (said_on x ns) ≡ true) p.0 q.1),
  valid-append ms ns p.2 q.2,
)

-- ---- tallies

row_is : (l : List Row) (s : ℕ) → row_in (map tally_of l) s ≡ tally_of (get_or l (s - 1) no_row)
row_is l s = get_or-map tally_of l (s - 1) no_row

map-set : (l : List Row) (i : ℕ) (r : Row) → map tally_of (set l i r) ≡ set (map tally_of l) i (tally_of r)
map-set [] i r = refl
map-set (x ∷ l) zero r = refl
map-set (x ∷ l) (suc i) r = ap (λ (m : List Tally). tally_of x ∷ m) (map-set l i r)

-- a change of a row, and of its tally
tallied : (f : Row → Row) (g : Tally → Tally) → ((r : Row) → tally_of (f r) ≡ g (tally_of r)) → (l : List Row) (s : ℕ)
    → set (map tally_of l) (s - 1) (g (row_in (map tally_of l) s)) ≡ map tally_of (set l (s - 1) (f (get_or l (s - 1) no_row)))
tallied f g e l s =
    ap (λ (x : Tally). set (map tally_of l) (s - 1) (g x)) (row_is l s) ∙ ap (set (map tally_of l) (s - 1)) (sym (e (get_or l (s - 1) no_row)))
    ∙ sym (map-set l (s - 1) (f (get_or l (s - 1) no_row)))

-- a tally with the same commits
same-commits : (l : List Tally) (s : ℕ) (r : Tally) → r.commits ≡ (row_in l s).commits → (k : ℕ) → (row_in (set l (s - 1) r) k).commits ≡ (row_in l k).commits
same-commits l s r e k =
    set-any (λ (x : Tally). x.commits ≡ (row_in l k).commits) l (s - 1) (k - 1) no_tally
    (λ i. e ∙ ap (λ (j : ℕ). (get_or l j no_tally).commits) (sym i)) refl

module _ (l : List Setting) (four : length l ≡ 4) (sensible : All Sensible l) where
  right : (d : Day) (t : ℕ) → Keeps l d t → Right d.queue
  right d t K = record { seats = K.seats; once = K.once }

  -- the hall w is that of the day d, and these calls led to it
  abbrev pub Reached : ℕ → Hall → Bench → List Move → Day → Type 0
  Reached t w a ms d = (b : Buffers) × (w ≡ lift b d) × Written t b (map tally_of d.rows) × Calls a ms (bench b (pad_to 4 d.queue))

  -- ---- a holder whose time is over

  module _ (t : ℕ) (soon : t < 60) (b : Buffers) (g : ℕ) (rows : List Row) (W : Written t b (map tally_of rows)) (s : ℕ) (q : Queue) (K : Keeps l (day (s ∷ q) g rows) t) where
    abbrev R : Right (s ∷ q)
    R = record { seats = K.seats; once = K.once }

    abbrev lo : 1 ≤ s
    lo = K.seats.0.0

    abbrev hi : s ≤ 4
    hi = K.seats.0.1

    abbrev turn : List ℕ
    turn = pad_to 4 (s ∷ q)

    abbrev old : Tally
    old = row_in (map tally_of rows) s

    all-four : length (map tally_of rows) ≡ 4
    all-four = length-map rows tally_of ∙ K.four

    abbrev left : Buffers
    left = b₂ t b (map tally_of rows) W all-four s q lo hi R soon

    abbrev done-rows : List Tally
    done-rows = set (map tally_of rows) (s - 1) (one_commit old)

    abbrev rows₂ : List Row
    rows₂ = set rows (s - 1) (has_committed (get_or rows (s - 1) no_row))

    counted : done-rows ≡ map tally_of rows₂
    counted = tallied has_committed one_commit (λ r. refl) rows s

    gives : turn_call turn (Give s) ≡ turn_out (held_by (holder q)) (pad_to 4 q)
    gives =
        called (s ∷ q) R (Give s) (ap not (so_seat s lo hi))
        ∙ ap (λ (c : Bool). turn_out (held_by (holder (cond c q (s ∷ q)))) (pad_to 4 (cond c q (s ∷ q)))) (eq-eqb s s refl)

    closes : closing_on (suc t) s (lift b (day (s ∷ q) g rows)) ≡ grant_on (suc t) (holder q) (hall (bench left (pad_to 4 q)) g (map tally_of rows₂))
    closes =
        ap₂ (λ (a : Answer) (o : TurnOut).
        grant_on (suc t) (leaves (held o.says)) (hall (bench left o.left) g (set (map tally_of rows) (s - 1) (cond (got_through (said a)) (one_commit old) old))))
        (says-revision t b (map tally_of rows) W all-four s q lo hi R soon) gives
        ∙ ap (λ (m : List Tally). grant_on (suc t) (holder q) (hall (bench left (pad_to 4 q)) g m)) counted

    abbrev over : Tally → List Move
    over r = plain (writing (suc t) s r) ∷ commits s (suc t) (2 ^ s) ∷ turns (Give s) ∷ []

    closing_calls : Calls (bench b turn) (over old) (bench left (pad_to 4 q))
    closing_calls = (
      ap (λ (o : TurnOut). bench left o.left) (sym gives),
      ap₂ (λ (x y : Answer). not_refused (said x) && (not_refused (said y) && (not_refused (held (turn_call turn (Give s)).says) && true)))
          (says-done t b (map tally_of rows) W all-four s q lo hi R soon) (says-revision t b (map tally_of rows) W all-four s q lo hi R soon)
          ∙ ap (λ (o : TurnOut). not_refused (held o.says) && true) gives,
      (valid t b (map tally_of rows) W all-four s q lo hi R soon, ((lo, hi, omega arith), (tt, tt))),
    )

    abbrev overs : List Move
    overs = over (tally_of (get_or rows (s - 1) no_row))

    granted : Reached (suc t) (closing_on (suc t) s (lift b (day (s ∷ q) g rows))) (bench b turn) overs (granted_to (suc t) q (day q g rows₂))
    granted =
        go q K.seats.1 closes (subst (λ (r : Tally). Calls (bench b turn) (over r) (bench left (pad_to 4 q))) (row_is rows s) closing_calls)
        (subst (Written (suc t) left) counted (written_on t b (map tally_of rows) W all-four s q lo hi R soon))
      where
        go : (p : Queue) → All (λ (x : ℕ). (1 ≤ x) × (x ≤ 4)) p
            → closing_on (suc t) s (lift b (day (s ∷ q) g rows)) ≡ grant_on (suc t) (holder p) (hall (bench left (pad_to 4 p)) g (map tally_of rows₂))
            → Calls (bench b turn) overs (bench left (pad_to 4 p)) → Written (suc t) left (map tally_of rows₂)
            → Reached (suc t) (closing_on (suc t) s (lift b (day (s ∷ q) g rows))) (bench b turn) overs (granted_to (suc t) p (day p g rows₂))
        go [] S e C U = (left, e, U, C)
        go (x ∷ p) S e C U =
            let waited : List Tally = set (map tally_of rows₂) (x - 1) (one_wait (suc t) (row_in (map tally_of rows₂) x)) in
            let same : waited ≡ map tally_of (set rows₂ (x - 1) (has_waited (suc t) (get_or rows₂ (x - 1) no_row))) = tallied (has_waited (suc t)) (one_wait (suc t)) (λ r. refl) rows₂ x in
            let nz : eqb x 0 ≡ false = ne_eqb x 0 (λ z. let i = S.0.0 in omega (arith, i, z)) in (
              left,
              e ∙ ap (λ (z : Bool). cond z (hall (bench left (pad_to 4 (x ∷ p))) g (map tally_of rows₂)) (hall (bench left (pad_to 4 (x ∷ p))) (suc t) waited)) nz
                  ∙ ap (hall (bench left (pad_to 4 (x ∷ p))) (suc t)) same,
              subst (Written (suc t) left) same
                  (written-rows (suc t) left (map tally_of rows₂) waited (same-commits (map tally_of rows₂) x (one_wait (suc t) (row_in (map tally_of rows₂) x)) refl) U),
              C,
            )

  finish_real : (t : ℕ) → t < 60 → (b : Buffers) (g : ℕ) (rows : List Row) → Written t b (map tally_of rows) → (q : Queue) → Keeps l (day q g rows) t
      → Reached (suc t) (finishing_on l (suc t) (holder q) (lift b (day q g rows))) (bench b (pad_to 4 q)) (finish_moves l (suc t) q (day q g rows)) (finishing l (suc t) q (day q g rows))
  finish_real t soon b g rows W [] K = (b, refl, written_later t b (map tally_of rows) W, (refl, refl, tt))
  finish_real t soon b g rows W (s ∷ q) K = go (leb (g + holds l s) (suc t)) (granted t soon b g rows W s q K)
    where
      nz : eqb s 0 ≡ false
      nz = ne_eqb s 0 (λ z. let i = K.seats.0.0 in omega (arith, i, z))

      go : (c : Bool) → Reached (suc t) (closing_on (suc t) s (lift b (day (s ∷ q) g rows))) (bench b (pad_to 4 (s ∷ q))) (overs t soon b g rows W s q K) (granted_to (suc t) q (day q g (set rows (s - 1) (has_committed (get_or rows (s - 1) no_row)))))
          → Reached (suc t) (cond (not (eqb s 0) && c) (closing_on (suc t) s (lift b (day (s ∷ q) g rows))) (lift b (day (s ∷ q) g rows))) (bench b (pad_to 4 (s ∷ q)))
          (cond c (overs t soon b g rows W s q K) []) (cond c (granted_to (suc t) q (day q g (set rows (s - 1) (has_committed (get_or rows (s - 1) no_row))))) (day (s ∷ q) g rows))
      go true G = (
        G.0,
        ap (λ (z : Bool). cond (not z && true) (closing_on (suc t) s (lift b (day (s ∷ q) g rows))) (lift b (day (s ∷ q) g rows))) nz ∙ G.1,
        G.2,
        G.3,
      )
      go false G = (
        b,
        ap (λ (z : Bool). cond (not z && false) (closing_on (suc t) s (lift b (day (s ∷ q) g rows))) (lift b (day (s ∷ q) g rows))) nz,
        written_later t b (map tally_of rows) W,
        (refl, refl, tt),
      )

  -- ---- a seat asks

  module _ (t : ℕ) (b : Buffers) (g : ℕ) (rows : List Row) (W : Written t b (map tally_of rows)) (s : ℕ) (lo : 1 ≤ s) (hi : s ≤ 4) where
    abbrev rows₁ : List Row
    rows₁ = set rows (s - 1) (has_asked t (get_or rows (s - 1) no_row))

    abbrev asked-rows : List Tally
    asked-rows = set (map tally_of rows) (s - 1) (one_ask t (row_in (map tally_of rows) s))

    counted₁ : asked-rows ≡ map tally_of rows₁
    counted₁ = tallied (has_asked t) (one_ask t) (λ r. refl) rows s

    asked₁ : Written t b (map tally_of rows₁)
    asked₁ = subst (Written t b) counted₁ (written-rows t b (map tally_of rows) asked-rows (same-commits (map tally_of rows) s (one_ask t (row_in (map tally_of rows) s)) refl) W)

    asks : (q : Queue) → Right q → is_in s q ≡ false → turn_call (pad_to 4 q) (Ask s) ≡ turn_out (held_by (holder (q ++ (s ∷ [])))) (pad_to 4 (q ++ (s ∷ [])))
    asks q R n =
        called q R (Ask s) (ap not (so_seat s lo hi))
        ∙ ap (λ (c : Bool). turn_out (held_by (holder (cond c q (q ++ (s ∷ []))))) (pad_to 4 (cond c q (q ++ (s ∷ []))))) n

    abbrev asking-leaves : TurnOut → List Tally → Hall
    asking-leaves o m = cond (eqb (leaves (held o.says)) s) (grant_on t s (hall (bench b o.left) g m)) (hall (bench b o.left) g m)

    ask_calls : (q : Queue) → Right q → is_in s q ≡ false → Calls (bench b (pad_to 4 q)) (turns (Ask s) ∷ []) (bench b (pad_to 4 (q ++ (s ∷ []))))
    ask_calls q R n = (ap (λ (o : TurnOut). bench b o.left) (sym (asks q R n)), ap (λ (o : TurnOut). not_refused (held o.says) && true) (asks q R n), (tt, tt))

    join_real : (q : Queue) → Right q → is_in s q ≡ false
        → Reached t (seat_asks t s (lift b (day q g rows))) (bench b (pad_to 4 q)) (turns (Ask s) ∷ []) (joining l t s q (day q g rows))
    join_real [] R n =
        let waited : List Tally = set (map tally_of rows₁) (s - 1) (one_wait t (row_in (map tally_of rows₁) s)) in
        let same : waited ≡ map tally_of (set rows₁ (s - 1) (has_waited t (get_or rows₁ (s - 1) no_row))) = tallied (has_waited t) (one_wait t) (λ r. refl) rows₁ s in
        let nz : eqb s 0 ≡ false = ne_eqb s 0 (λ z. omega (arith, z)) in (
          b,
          ap₂ asking-leaves (asks [] R n) counted₁
              ∙ ap₂ (λ (x y : Bool). cond x (cond y (hall (bench b (pad_to 4 (s ∷ []))) g (map tally_of rows₁)) (hall (bench b (pad_to 4 (s ∷ []))) t waited)) (hall (bench b (pad_to 4 (s ∷ []))) g (map tally_of rows₁)))
              (eq-eqb s s refl) nz
              ∙ ap (hall (bench b (pad_to 4 (s ∷ []))) t) same,
          subst (Written t b) same (written-rows t b (map tally_of rows₁) waited (same-commits (map tally_of rows₁) s (one_wait t (row_in (map tally_of rows₁) s)) refl) asked₁),
          ask_calls [] R n,
        )
    join_real (h ∷ q) R n = (
      b,
      ap₂ asking-leaves (asks (h ∷ q) R n) counted₁
          ∙ ap (λ (x : Bool). cond x (grant_on t s (hall (bench b (pad_to 4 ((h ∷ q) ++ (s ∷ [])))) g (map tally_of rows₁))) (hall (bench b (pad_to 4 ((h ∷ q) ++ (s ∷ [])))) g (map tally_of rows₁)))
          (or_false (eqb h s) (is_in s q) n).0,
      asked₁,
      ask_calls (h ∷ q) R n,
    )

    ask_real : (q : Queue) → Right q
        → Reached t (asking_on l t s (lift b (day q g rows))) (bench b (pad_to 4 q)) (ask_moves l t s (day q g rows)) (asking l t s (day q g rows))
    ask_real q R = go (wants l t s (day q g rows)) refl
      where
        same : asking_on l t s (lift b (day q g rows)) ≡ cond (wants l t s (day q g rows)) (seat_asks t s (lift b (day q g rows))) (lift b (day q g rows))
        same = ap (λ (p : Queue). cond (eqb (t % (setting_of l s).period) 0 && not (is_in s p)) (seat_asks t s (lift b (day q g rows))) (lift b (day q g rows))) (queue_is q R)

        go : (c : Bool) → wants l t s (day q g rows) ≡ c
            → Reached t (asking_on l t s (lift b (day q g rows))) (bench b (pad_to 4 q)) (cond c (turns (Ask s) ∷ []) []) (cond c (joining l t s q (day q g rows)) (day q g rows))
        go true e =
            let J = join_real q R (not-true (is_in s q) (both (eqb (t % (setting_of l s).period) 0) (not (is_in s q)) e).1) in
            (J.0, same ∙ ap (λ (c : Bool). cond c (seat_asks t s (lift b (day q g rows))) (lift b (day q g rows))) e ∙ J.1, J.2, J.3)
        go false e = (b, same ∙ ap (λ (c : Bool). cond c (seat_asks t s (lift b (day q g rows))) (lift b (day q g rows))) e, W, (refl, refl, tt))

  -- ---- a step, and a day

  after : (t : ℕ) (w : Hall) (a : Bench) (ms ns : List Move) (d e : Day) (f : Hall → Hall) → Reached t w a ms d
      → ((b : Buffers) → Written t b (map tally_of d.rows) → Reached t (f (lift b d)) (bench b (pad_to 4 d.queue)) ns e) → Reached t (f w) a (ms ++ ns) e
  after t w a ms ns d e f M N =
      let n = N M.0 M.2 in
      (n.0, ap f M.1 ∙ n.1, n.2, calls-append a (bench M.0 (pad_to 4 d.queue)) (bench n.0 (pad_to 4 e.queue)) ms ns M.3 n.3)

  module _ (t : ℕ) where
    asks-one : (s : ℕ) → 1 ≤ s → s ≤ 4 → (d : Day) → Keeps l d t → (b : Buffers) → Written t b (map tally_of d.rows)
        → Reached t (asking_on l t s (lift b d)) (bench b (pad_to 4 d.queue)) (ask_moves l t s d) (asking l t s d)
    asks-one s lo hi d K b W = ask_real t b d.since d.rows W s lo hi d.queue (right d t K)

    -- the seats from 3 on, from 2 on, all of them
    abbrev tail₃ : Day → List Move
    tail₃ d = ask_moves l t 3 d ++ ask_moves l t 4 (asking l t 3 d)

    abbrev tail₂ : Day → List Move
    tail₂ d = ask_moves l t 2 d ++ tail₃ (asking l t 2 d)

    asks₃ : (d : Day) → Keeps l d t → (b : Buffers) → Written t b (map tally_of d.rows)
        → Reached t (asking_on l t 4 (asking_on l t 3 (lift b d))) (bench b (pad_to 4 d.queue)) (tail₃ d) (asking l t 4 (asking l t 3 d))
    asks₃ d K b W =
        after t (asking_on l t 3 (lift b d)) (bench b (pad_to 4 d.queue)) (ask_moves l t 3 d) (ask_moves l t 4 (asking l t 3 d)) (asking l t 3 d) (asking l t 4 (asking l t 3 d)) (asking_on l t 4)
        (asks-one 3 (omega arith) (omega arith) d K b W)
        (asks-one 4 (omega arith) (omega arith) (asking l t 3 d) (ask l four sensible t 3 d (omega arith) (omega arith) K))

    asks₂ : (d : Day) → Keeps l d t → (b : Buffers) → Written t b (map tally_of d.rows)
        → Reached t (asking_on l t 4 (asking_on l t 3 (asking_on l t 2 (lift b d)))) (bench b (pad_to 4 d.queue)) (tail₂ d) (asking l t 4 (asking l t 3 (asking l t 2 d)))
    asks₂ d K b W =
        after t (asking_on l t 2 (lift b d)) (bench b (pad_to 4 d.queue)) (ask_moves l t 2 d) (tail₃ (asking l t 2 d)) (asking l t 2 d) (asking l t 4 (asking l t 3 (asking l t 2 d)))
        (λ (w : Hall). asking_on l t 4 (asking_on l t 3 w))
        (asks-one 2 (omega arith) (omega arith) d K b W) (asks₃ (asking l t 2 d) (ask l four sensible t 2 d (omega arith) (omega arith) K))

    asks₁ : (d : Day) → Keeps l d t → (b : Buffers) → Written t b (map tally_of d.rows)
        → Reached t (asking_on l t 4 (asking_on l t 3 (asking_on l t 2 (asking_on l t 1 (lift b d))))) (bench b (pad_to 4 d.queue)) (ask_moves l t 1 d ++ tail₂ (asking l t 1 d))
        (asking l t 4 (asking l t 3 (asking l t 2 (asking l t 1 d))))
    asks₁ d K b W =
        after t (asking_on l t 1 (lift b d)) (bench b (pad_to 4 d.queue)) (ask_moves l t 1 d) (tail₂ (asking l t 1 d)) (asking l t 1 d) (asking l t 4 (asking l t 3 (asking l t 2 (asking l t 1 d))))
        (λ (w : Hall). asking_on l t 4 (asking_on l t 3 (asking_on l t 2 w)))
        (asks-one 1 (omega arith) (omega arith) d K b W) (asks₂ (asking l t 1 d) (ask l four sensible t 1 d (omega arith) (omega arith) K))

  step-real : (t : ℕ) → t < 60 → (b : Buffers) (d : Day) → Written t b (map tally_of d.rows) → Keeps l d t
      → Reached (suc t) (step_on l (suc t) (lift b d)) (bench b (pad_to 4 d.queue)) (step_moves l (suc t) d) (step_of l (suc t) d)
  unfolding step_on step_of
  step-real t soon b d W K =
      let d₀ : Day = finishing l (suc t) d.queue d in
      let F = finish_real t soon b d.since d.rows W d.queue K in
      let same = ap (λ (q : Queue). finishing_on l (suc t) (holder q) (lift b d)) (queue_is d.queue (right d t K)) in
      after (suc t) (finishing_on l (suc t) (holder (queue_of (pad_to 4 d.queue))) (lift b d)) (bench b (pad_to 4 d.queue)) (finish_moves l (suc t) d.queue d)
      (ask_moves l (suc t) 1 d₀ ++ tail₂ (suc t) (asking l (suc t) 1 d₀)) d₀ (asking l (suc t) 4 (asking l (suc t) 3 (asking l (suc t) 2 (asking l (suc t) 1 d₀))))
      (λ (w : Hall). asking_on l (suc t) 4 (asking_on l (suc t) 3 (asking_on l (suc t) 2 (asking_on l (suc t) 1 w))))
      (F.0, same ∙ F.1, F.2, F.3) (asks₁ (suc t) d₀ (finish l four sensible t d.since d.queue d.rows K))

  steps-real : (n t : ℕ) → n + t ≤ 60 → (b : Buffers) (d : Day) → Written t b (map tally_of d.rows) → Keeps l d t
      → (b' : Buffers) × (steps_on l (suc t) n (lift b d) ≡ lift b' (days_from l (suc t) n d))
      × Calls (bench b (pad_to 4 d.queue)) (moves_from l (suc t) n d) (bench b' (pad_to 4 (days_from l (suc t) n d).queue))
  unfolding steps_on days_from moves_from
  steps-real zero t le b d W K = (b, refl, (refl, refl, tt))
  steps-real (suc n) t le b d W K =
      let S = step-real t (omega arith) b d W K in
      let N = steps-real n (suc t) (omega arith) S.0 (step_of l (suc t) d) S.2 (step_keeps l four sensible t d K) in (
        N.0,
        ap (steps_on l (suc (suc t)) n) S.1 ∙ N.1,
        calls-append (bench b (pad_to 4 d.queue)) (bench S.0 (pad_to 4 (step_of l (suc t) d).queue)) (bench N.0 (pad_to 4 (days_from l (suc (suc t)) n (step_of l (suc t) d)).queue))
            (step_moves l (suc t) d) (moves_from l (suc (suc t)) n (step_of l (suc t) d)) S.3 N.2,
      )

-- THE STATEMENT
pub real-day : RealDay
real-day l n four sensible few =
    let S = steps-real l four sensible n 0 (omega arith) (fresh_buffers 121) fresh_day fresh-written (keeps-fresh l four sensible) in
    let ms : List Move = moves_from l 1 n fresh_day in
    record {
      rows = ap (λ (w : Hall). w.rows) S.1;
      turn = ap (λ (w : Hall). w.bench.turn) S.1;
      calls = ap (λ (w : Hall). w.bench) S.1 ∙ S.2.0;
      taken = S.2.1;
      whole = subst (λ (b : Bench). MixedList 121 ms b (accepted (fresh 121) (through free ms)) (accepted_marks (fresh 121) (through free ms))) (sym (ap (λ (w : Hall). w.bench) S.1 ∙ S.2.0))
          (demand_three_in_turn 121 ms (omega arith) (omega arith) S.2.2);
    }
