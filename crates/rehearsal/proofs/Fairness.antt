-- What is claimed of a rehearsal, proved: asks and commits, and the bound on a wait. Each step keeps `Keeps`.
-- Assumes nothing.
use Prim.Native.Nat.{◌%◌, ◌+◌, ◌-◌, ◌<◌, ◌≤◌, suc, zero, ℕ}
use mathlib.Core.Bool.{Bool, ◌||◌, cond, false, not, true}
use mathlib.Core.List.{List, [], ◌++◌, ◌∷◌}
use mathlib.Core.Logic.{◌⊎◌, inl, inr}
use mathlib.Core.Path.{◌∙◌, ◌≡◌, ap, ap₂, refl, subst, sym}
use native.Mathlib.Omega.{arith}
use borrow.Author.Tests.{eq-eqb, eqb-false, leb-false, leb-true, ne_eqb, not-true}
use lib.Dec.{eqb, leb}
use lib.ListN.{get_or, length, length-set, replicate, set}
use lib.Seq.{get_or-set_other, get_or-set_same}
use Rattle.block.proofs.Says.{eq_or}
use Rattle.block.specs.Lists.{All}
use Rattle.rehearsal.specs.Rehearsal.{Day, Fair, FairDay, Row, Sensible, asking, day, day_of, days_from, finishing, fresh_day, granted_to, has_asked, has_committed, has_waited, holds, joining, no_row, others, row_of, setting_of, step_of, wants}
use Rattle.rehearsal.specs.declared.Setting.{Setting}
use Rattle.laws.proofs.Accepted.{both}
use Rattle.laws.proofs.Rows.{or_false}
use Rattle.turns.proofs.Queues.{Seats, in_append, no_seat_twice, once-append, or_none_lem, seats-append, share_le, share_none, sum_shares, sum_of}
use Rattle.turns.specs.Turns.{Queue, is_in}

-- ---- the invariant that proves them, at the end of step t

module _ (settings : List Setting) (d : Day) where
  -- the first in line has or gets the turn at step `at`, the next one when that one's time is over, and so on: none of them later than its ask by more than the others' times.
  -- A grant keeps this as it stands: the rest of the queue, from the step at which the first one's time is over
  abbrev pub InTime : ℕ → Queue → Type 0
  InTime at [] = Unit {0}
  InTime at (s ∷ q) = (at ≤ (row_of d s).asked + others settings s) × InTime (at + holds settings s) q

  -- the holder got the turn by step t, and its time isn't over at step t
  abbrev pub Running : ℕ → Queue → Type 0
  Running t [] = Unit {0}
  Running t (s ∷ q) = (d.since ≤ t) × (t < d.since + holds settings s)

  pub record Keeps (t : ℕ) : Type 0 where
    pub four : length d.rows ≡ 4
    pub seats : Seats d.queue
    pub once : no_seat_twice d.queue ≡ true
    pub running : Running t d.queue
    pub in_time : InTime d.since d.queue
    pub fair : (s : ℕ) → 1 ≤ s → s ≤ 4 → Fair settings d s

-- ---- the holding times of those in line are at most those of the others

module _ (l : List Setting) where
  pub sum-others : (s : ℕ) (q : Queue) → 1 ≤ s → s ≤ 4 → Seats q → no_seat_twice q ≡ true → is_in s q ≡ false → sum_of (holds l) q ≤ others l s
  sum-others zero q lo hi a e n = absurd (omega arith)
  sum-others (suc zero) q lo hi a e n = omega (arith, sum_shares (holds l) q a e, share_none (holds l) 1 q n, share_le (holds l) 2 q, share_le (holds l) 3 q, share_le (holds l) 4 q)
  sum-others (suc (suc zero)) q lo hi a e n = omega (arith, sum_shares (holds l) q a e, share_none (holds l) 2 q n, share_le (holds l) 1 q, share_le (holds l) 3 q, share_le (holds l) 4 q)
  sum-others (suc (suc (suc zero))) q lo hi a e n = omega (arith, sum_shares (holds l) q a e, share_none (holds l) 3 q n, share_le (holds l) 2 q, share_le (holds l) 1 q, share_le (holds l) 4 q)
  sum-others (suc (suc (suc (suc zero)))) q lo hi a e n = omega (arith, sum_shares (holds l) q a e, share_none (holds l) 4 q n, share_le (holds l) 2 q, share_le (holds l) 3 q, share_le (holds l) 1 q)
  sum-others (suc (suc (suc (suc (suc s))))) q lo hi a e n = absurd (omega arith)

-- ---- rows

pub all-get : {A : Type 0} (P : A → Type 0) (l : List A) (i : ℕ) (d : A) → All P l → i < length l → P (get_or l i d)
all-get P [] i d a h = absurd (omega arith)
all-get P (x ∷ l) zero d a h = a.0
all-get P (x ∷ l) (suc i) d a h = all-get P l i d a.1 (omega arith)

module _ (rows : List Row) (s : ℕ) (r : Row) (four : length rows ≡ 4) (lo : 1 ≤ s) (hi : s ≤ 4) where
  pub row_same : get_or (set rows (s - 1) r) (s - 1) no_row ≡ r
  row_same = get_or-set_same rows (s - 1) r no_row (omega (arith, four))

  pub row_other : (x : ℕ) → 1 ≤ x → (x ≡ s → ⊥) → get_or (set rows (s - 1) r) (x - 1) no_row ≡ get_or rows (x - 1) no_row
  row_other x l ne = get_or-set_other rows (s - 1) (x - 1) r no_row (λ e. ne (omega arith))

module _ (l : List Setting) where
  abbrev FairRow : ℕ → Row → Bool → Type 0
  FairRow s r b = (r.asks ≡ r.commits + cond b 1 0) × All (λ (w : ℕ). w ≤ others l s) r.waits

  abbrev FairAll : Queue → List Row → Type 0
  FairAll q rows = (x : ℕ) → 1 ≤ x → x ≤ 4 → FairRow x (get_or rows (x - 1) no_row) (is_in x q)

  -- another row for seat s, and another queue
  fair-set : (q q' : Queue) (rows : List Row) (s : ℕ) (r : Row) → length rows ≡ 4 → 1 ≤ s → s ≤ 4
      → ((x : ℕ) → (x ≡ s → ⊥) → is_in x q' ≡ is_in x q) → FairRow s r (is_in s q') → FairAll q rows → FairAll q' (set rows (s - 1) r)
  fair-set q q' rows s r four lo hi same f F x xl xh = go (eq_or x s)
    where
      go : (x ≡ s) ⊎ (x ≡ s → ⊥) → FairRow x (get_or (set rows (s - 1) r) (x - 1) no_row) (is_in x q')
      go (inl e) =
          subst (λ (y : ℕ). FairRow y (get_or (set rows (s - 1) r) (y - 1) no_row) (is_in y q')) (sym e)
          (subst (λ (z : Row). FairRow s z (is_in s q')) (sym (row_same rows s r four lo hi)) f)
      go (inr ne) =
          subst (λ (z : Row). FairRow x z (is_in x q')) (sym (row_other rows s r four lo hi x xl ne))
          (subst (λ (b : Bool). FairRow x (get_or rows (x - 1) no_row) b) (sym (same x ne)) (F x xl xh))

  -- asks at the same steps
  in_time_same : (d d' : Day) (at : ℕ) (q : Queue) → ((x : ℕ) → (row_of d x).asked ≡ (row_of d' x).asked) → InTime l d at q → InTime l d' at q
  in_time_same d d' at [] e I = tt
  in_time_same d d' at (x ∷ q) e I = (let z = e x in omega (arith, I.0, z), in_time_same d d' (at + holds l x) q e I.1)

  -- the ask of a seat that isn't in line
  in_time_other : (a a' : Queue) (g g' : ℕ) (rows : List Row) (s : ℕ) (r : Row) (at : ℕ) (q : Queue) → length rows ≡ 4 → 1 ≤ s → s ≤ 4 → Seats q → is_in s q ≡ false
      → InTime l (day a g rows) at q → InTime l (day a' g' (set rows (s - 1) r)) at q
  in_time_other a a' g g' rows s r at [] four lo hi S n I = tt
  in_time_other a a' g g' rows s r at (x ∷ q) four lo hi S n I = (
    let z : (get_or (set rows (s - 1) r) (x - 1) no_row).asked ≡ (get_or rows (x - 1) no_row).asked =
        ap (λ (y : Row). y.asked) (row_other rows s r four lo hi x S.0.0 (eqb-false x s (or_false (eqb x s) (is_in s q) n).0)) in
        omega (arith, I.0, z),
    in_time_other a a' g g' rows s r (at + holds l x) q four lo hi S.1 (or_false (eqb x s) (is_in s q) n).1 I.1,
  )

  in_time_append : (d : Day) (at : ℕ) (q : Queue) (s : ℕ) → InTime l d at q → at + sum_of (holds l) q ≤ (row_of d s).asked + others l s → InTime l d at (q ++ (s ∷ []))
  in_time_append d at [] s I h = (omega (arith, h), tt)
  in_time_append d at (x ∷ q) s I h = (I.0, in_time_append d (at + holds l x) q s I.1 (omega (arith, h)))

  asked-set : (rows : List Row) (s : ℕ) (r : Row) → s - 1 < length rows → r.asked ≡ (get_or rows (s - 1) no_row).asked
      → (x : ℕ) → (get_or rows (x - 1) no_row).asked ≡ (get_or (set rows (s - 1) r) (x - 1) no_row).asked
  asked-set rows s r h e x = go (eq_or (x - 1) (s - 1))
    where
      go : (x - 1 ≡ s - 1) ⊎ (x - 1 ≡ s - 1 → ⊥) → (get_or rows (x - 1) no_row).asked ≡ (get_or (set rows (s - 1) r) (x - 1) no_row).asked
      go (inl i) =
          subst (λ (j : ℕ). (get_or rows j no_row).asked ≡ (get_or (set rows (s - 1) r) j no_row).asked) (sym i)
          (sym e ∙ ap (λ (y : Row). y.asked) (sym (get_or-set_same rows (s - 1) r no_row h)))
      go (inr ne) = ap (λ (y : Row). y.asked) (sym (get_or-set_other rows (s - 1) (x - 1) r no_row ne))

  module _ (four-settings : length l ≡ 4) (sensible : All Sensible l) where
    holds-low : (s : ℕ) → 1 ≤ s → s ≤ 4 → 1 ≤ holds l s
    holds-low s lo hi = (all-get Sensible l (s - 1) (record { period = 0; holding = 0 }) sensible (omega (arith, four-settings))).holding_low

    keeps : (q : Queue) (g : ℕ) (rows : List Row) (t : ℕ) → length rows ≡ 4 → Seats q → no_seat_twice q ≡ true → Running l (day q g rows) t q → InTime l (day q g rows) g q
        → FairAll q rows → Keeps l (day q g rows) t
    keeps q g rows t a b c d e f =
        record { four = a; seats = b; once = c; running = d; in_time = e; fair = λ s lo hi. record { asks = (f s lo hi).0; waits = (f s lo hi).1 } }

    fair-all : (d : Day) (t : ℕ) → Keeps l d t → FairAll d.queue d.rows
    fair-all d t K x lo hi = ((K.fair x lo hi).asks, (K.fair x lo hi).waits)

    -- the holder's time is over: it commits and gives back, and the next one gets the turn
    pop : (t g s : ℕ) (q : Queue) (rows : List Row) → Keeps l (day (s ∷ q) g rows) t → suc t ≡ g + holds l s
        → Keeps l (granted_to (suc t) q (day q g (set rows (s - 1) (has_committed (get_or rows (s - 1) no_row))))) (suc t)
    pop t g s q rows K e = go q K
      where
        mine : (q : Queue) → Keeps l (day (s ∷ q) g rows) t → FairAll q (set rows (s - 1) (has_committed (get_or rows (s - 1) no_row)))
        mine q K =
            let lo : 1 ≤ s = K.seats.0.0 in
            let hi : s ≤ 4 = K.seats.0.1 in
            let n : is_in s q ≡ false = not-true (is_in s q) (both (not (is_in s q)) (no_seat_twice q) K.once).0 in
            let f = fair-all (day (s ∷ q) g rows) t K s lo hi in
            let was : (get_or rows (s - 1) no_row).asks ≡ (get_or rows (s - 1) no_row).commits + 1 =
            f.0 ∙ ap (λ (b : Bool). (get_or rows (s - 1) no_row).commits + cond (b || is_in s q) 1 0) (eq-eqb s s refl) in
            fair-set (s ∷ q) q rows s (has_committed (get_or rows (s - 1) no_row)) K.four lo hi
            (λ x ne. sym (ap (λ (b : Bool). b || is_in x q) (ne_eqb s x (λ w. ne (sym w)))))
            (was ∙ (let z : cond (is_in s q) 1 0 ≡ 0 = ap (λ (b : Bool). cond {A = ℕ} b 1 0) n in omega (arith, z)), f.1)
            (fair-all (day (s ∷ q) g rows) t K)

        go : (q : Queue) → Keeps l (day (s ∷ q) g rows) t → Keeps l (granted_to (suc t) q (day q g (set rows (s - 1) (has_committed (get_or rows (s - 1) no_row))))) (suc t)
        go [] K = keeps [] g (set rows (s - 1) (has_committed (get_or rows (s - 1) no_row))) (suc t) (length-set rows (s - 1) (has_committed (get_or rows (s - 1) no_row)) ∙ K.four) tt refl tt tt (mine [] K)
        go (x ∷ q) K =
            let lo : 1 ≤ s = K.seats.0.0 in
            let hi : s ≤ 4 = K.seats.0.1 in
            let xl : 1 ≤ x = K.seats.1.0.0 in
            let xh : x ≤ 4 = K.seats.1.0.1 in
            let new : List Row = set rows (s - 1) (has_committed (get_or rows (s - 1) no_row)) in
            let four : length new ≡ 4 = length-set rows (s - 1) (has_committed (get_or rows (s - 1) no_row)) ∙ K.four in
            let w : Row = has_waited (suc t) (get_or new (x - 1) no_row) in
            let one : (y : ℕ) → (get_or rows (y - 1) no_row).asked ≡ (get_or new (y - 1) no_row).asked = asked-set rows s (has_committed (get_or rows (s - 1) no_row)) (omega (arith, K.four)) refl in
            let two : (y : ℕ) → (get_or new (y - 1) no_row).asked ≡ (get_or (set new (x - 1) w) (y - 1) no_row).asked = asked-set new x w (omega (arith, four)) refl in
            let f = mine (x ∷ q) K in
            let i : g + holds l s ≤ (get_or rows (x - 1) no_row).asked + others l x = K.in_time.1.0 in
            let wait : suc t - (get_or new (x - 1) no_row).asked ≤ others l x = (let o = one x in omega (arith, i, o, e)) in
            let late : InTime l (day (s ∷ (x ∷ q)) g rows) (suc t) (x ∷ q) = subst (λ (n : ℕ). InTime l (day (s ∷ (x ∷ q)) g rows) n (x ∷ q)) (sym e) K.in_time.1 in
            keeps (x ∷ q) (suc t) (set new (x - 1) w) (suc t) (length-set new (x - 1) w ∙ four) K.seats.1 (both (not (is_in s (x ∷ q))) (no_seat_twice (x ∷ q)) K.once).1
            (omega arith, (let h = holds-low x xl xh in omega (arith, h)))
            (in_time_same (day (s ∷ (x ∷ q)) g rows) (day (x ∷ q) (suc t) (set new (x - 1) w)) (suc t) (x ∷ q) (λ y. one y ∙ two y) late)
            (fair-set (x ∷ q) (x ∷ q) new x w four xl xh (λ y ne. refl) ((f x xl xh).0, (wait, (f x xl xh).1)) f)

    pub finish : (t g : ℕ) (q : Queue) (rows : List Row) → Keeps l (day q g rows) t → Keeps l (finishing l (suc t) q (day q g rows)) (suc t)
    finish t g [] rows K = keeps [] g rows (suc t) K.four tt refl tt tt (fair-all (day [] g rows) t K)
    finish t g (s ∷ q) rows K = go (leb (g + holds l s) (suc t)) refl
      where
        go : (b : Bool) → leb (g + holds l s) (suc t) ≡ b
            → Keeps l (cond b (granted_to (suc t) q (day q g (set rows (s - 1) (has_committed (get_or rows (s - 1) no_row))))) (day (s ∷ q) g rows)) (suc t)
        go true e = pop t g s q rows K (let h = leb-true (g + holds l s) (suc t) e in omega (arith, h, K.running.1))
        go false e =
            keeps (s ∷ q) g rows (suc t) K.four K.seats K.once
            ((let h = K.running.0 in omega (arith, h)), leb-false (g + holds l s) (suc t) e)
            K.in_time (fair-all (day (s ∷ q) g rows) t K)

    -- a seat that isn't in line asks
    join : (t g s : ℕ) (q : Queue) (rows : List Row) → 1 ≤ s → s ≤ 4 → is_in s q ≡ false → Keeps l (day q g rows) t → Keeps l (joining l t s q (day q g rows)) t
    join t g s [] rows lo hi n K =
        let r : Row = has_asked t (get_or rows (s - 1) no_row) in
        let new : List Row = set rows (s - 1) r in
        let four : length new ≡ 4 = length-set rows (s - 1) r ∙ K.four in
        let w : Row = has_waited t (get_or new (s - 1) no_row) in
        let is : get_or new (s - 1) no_row ≡ r = row_same rows s r K.four lo hi in
        let f = fair-all (day [] g rows) t K in
        let now : (get_or (set new (s - 1) w) (s - 1) no_row).asked ≡ t = ap (λ (y : Row). y.asked) (row_same new s w four lo hi ∙ ap (has_waited t) is) in
        let wait : t - (get_or new (s - 1) no_row).asked ≡ 0 = (let z = ap (λ (y : Row). y.asked) is in omega (arith, z)) in
        let asks : (get_or new (s - 1) no_row).asks ≡ (get_or new (s - 1) no_row).commits + 1 =
        (let a = ap (λ (y : Row). y.asks) is in let c = ap (λ (y : Row). y.commits) is in let o = (f s lo hi).0 in omega (arith, a, c, o)) in
        let waits : All (λ (w : ℕ). w ≤ others l s) (get_or new (s - 1) no_row).waits = subst (λ (y : Row). All (λ (w : ℕ). w ≤ others l s) y.waits) (sym is) (f s lo hi).1 in
        let alone : is_in s (s ∷ []) ≡ true = ap (λ (b : Bool). b || false) (eq-eqb s s refl) in
        keeps (s ∷ []) t (set new (s - 1) w) t (length-set new (s - 1) w ∙ four) ((lo, hi), tt) refl
        (omega arith, (let h = holds-low s lo hi in omega (arith, h)))
        (omega (arith, now), tt)
        (λ x xl xh.
        fair-again s rows r w lo hi K.four x xl xh (f x xl xh)
        (subst (λ (b : Bool). FairRow s w b) (sym alone) (asks, ((omega (arith, wait)), waits))))
      where
        fair-again : (s : ℕ) (rows : List Row) (r w : Row) → 1 ≤ s → s ≤ 4 → length rows ≡ 4 → (x : ℕ) → 1 ≤ x → x ≤ 4 → FairRow x (get_or rows (x - 1) no_row) false
            → FairRow s w (is_in s (s ∷ [])) → FairRow x (get_or (set (set rows (s - 1) r) (s - 1) w) (x - 1) no_row) (is_in x (s ∷ []))
        fair-again s rows r w lo hi four x xl xh old mine = go (eq_or x s)
          where
            go : (x ≡ s) ⊎ (x ≡ s → ⊥) → FairRow x (get_or (set (set rows (s - 1) r) (s - 1) w) (x - 1) no_row) (is_in x (s ∷ []))
            go (inl e) =
                subst (λ (y : ℕ). FairRow y (get_or (set (set rows (s - 1) r) (s - 1) w) (y - 1) no_row) (is_in y (s ∷ []))) (sym e)
                (subst (λ (z : Row). FairRow s z (is_in s (s ∷ []))) (sym (row_same (set rows (s - 1) r) s w (length-set rows (s - 1) r ∙ four) lo hi)) mine)
            go (inr ne) =
                let p = row_other (set rows (s - 1) r) s w (length-set rows (s - 1) r ∙ four) lo hi x xl ne ∙ row_other rows s r four lo hi x xl ne in
                subst (λ (z : Row). FairRow x z (is_in x (s ∷ []))) (sym p)
                (subst (λ (b : Bool). FairRow x (get_or rows (x - 1) no_row) (b || false)) (sym (ne_eqb s x (λ w. ne (sym w)))) old)
    join t g s (h ∷ q) rows lo hi n K =
        let r : Row = has_asked t (get_or rows (s - 1) no_row) in
        let new : List Row = set rows (s - 1) r in
        let f = fair-all (day (h ∷ q) g rows) t K in
        let is : get_or new (s - 1) no_row ≡ r = row_same rows s r K.four lo hi in
        let now : (get_or new (s - 1) no_row).asked ≡ t = ap (λ (y : Row). y.asked) is in
        let sums = sum-others l s (h ∷ q) lo hi K.seats K.once n in
        let stands : is_in s ((h ∷ q) ++ (s ∷ [])) ≡ true = in_append s s (h ∷ q) ∙ ap₂ ◌||◌ n (eq-eqb s s refl) in
        let was : (get_or rows (s - 1) no_row).asks ≡ (get_or rows (s - 1) no_row).commits + 0 = (f s lo hi).0 ∙ ap (λ (b : Bool). (get_or rows (s - 1) no_row).commits + cond b 1 0) n in
        keeps ((h ∷ q) ++ (s ∷ [])) g new t (length-set rows (s - 1) r ∙ K.four)
        (seats-append s (h ∷ q) K.seats lo hi) (once-append s (h ∷ q) K.once n) K.running
        (in_time_append (day ((h ∷ q) ++ (s ∷ [])) g new) g (h ∷ q) s
        (in_time_other (h ∷ q) ((h ∷ q) ++ (s ∷ [])) g g rows s r g (h ∷ q) K.four lo hi K.seats n K.in_time)
        (omega (arith, now, sums, K.running.0)))
        (fair-set (h ∷ q) ((h ∷ q) ++ (s ∷ [])) rows s r K.four lo hi
        (λ x ne. in_append x s (h ∷ q) ∙ ap (λ (b : Bool). is_in x (h ∷ q) || b) (ne_eqb s x (λ w. ne (sym w))) ∙ or_none_lem (is_in x (h ∷ q)))
        (subst (λ (b : Bool). FairRow s r b) (sym stands) (omega (arith, was), (f s lo hi).1))
        f)

    pub ask : (t s : ℕ) (d : Day) → 1 ≤ s → s ≤ 4 → Keeps l d t → Keeps l (asking l t s d) t
    ask t s d lo hi K = go (wants l t s d) refl
      where
        go : (b : Bool) → wants l t s d ≡ b → Keeps l (cond b (joining l t s d.queue d) d) t
        go true e = join t d.since s d.queue d.rows lo hi (not-true (is_in s d.queue) (both (eqb (t % (setting_of l s).period) 0) (not (is_in s d.queue)) e).1) K
        go false e = K

    pub step_keeps : (t : ℕ) (d : Day) → Keeps l d t → Keeps l (step_of l (suc t) d) (suc t)
    unfolding step_of
    step_keeps t d K =
        let a = finish t d.since d.queue d.rows K in
        let d₀ = finishing l (suc t) d.queue d in
        let d₁ = asking l (suc t) 1 d₀ in
        let d₂ = asking l (suc t) 2 d₁ in
        ask (suc t) 4 (asking l (suc t) 3 d₂) (omega arith) (omega arith)
        (ask (suc t) 3 d₂ (omega arith) (omega arith) (ask (suc t) 2 d₁ (omega arith) (omega arith) (ask (suc t) 1 d₀ (omega arith) (omega arith) a)))

    days_keep : (n t : ℕ) (d : Day) → Keeps l d t → (m : ℕ) × Keeps l (days_from l (suc t) n d) m
    unfolding days_from
    days_keep zero t d K = (t, K)
    days_keep (suc n) t d K = days_keep n (suc t) (step_of l (suc t) d) (step_keeps t d K)

fresh-row : (x : ℕ) → 1 ≤ x → x ≤ 4 → get_or (replicate 4 no_row) (x - 1) no_row ≡ no_row
fresh-row zero lo hi = absurd (omega arith)
fresh-row (suc zero) lo hi = refl
fresh-row (suc (suc zero)) lo hi = refl
fresh-row (suc (suc (suc zero))) lo hi = refl
fresh-row (suc (suc (suc (suc zero)))) lo hi = refl
fresh-row (suc (suc (suc (suc (suc x))))) lo hi = absurd (omega arith)

pub keeps-fresh : (l : List Setting) → length l ≡ 4 → All Sensible l → Keeps l fresh_day 0
keeps-fresh l four sensible =
    keeps l four sensible [] 0 (replicate 4 no_row) 0 refl tt refl tt tt (λ x xl xh. subst (λ (r : Row). FairRow l x r false) (sym (fresh-row x xl xh)) (refl, tt))

-- THE STATEMENT
pub fair-day : FairDay
fair-day l n four sensible s lo hi = (days_keep l four sensible n 0 fresh_day (keeps-fresh l four sensible)).1.fair s lo hi

-- the four rows at the end of a day
pub four-rows : (l : List Setting) (n : ℕ) → length l ≡ 4 → All Sensible l → length (day_of l n).rows ≡ 4
four-rows l n four sensible = (days_keep l four sensible n 0 fresh_day (keeps-fresh l four sensible)).1.four
