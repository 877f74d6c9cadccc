-- The rehearsal of a handover day (W8): "first a holder whose time is over commits its own sheet .. and gives back. Then, in seat order, each seat whose period divides the step asks,
-- unless it waits or holds. A holding time counts from the step of the grant." Seats and steps alone; that the real calls come to the same is `Real` in RehearsalCalls.
-- Assumes nothing.
use Rattle.std.specs.Prelude.{◌%◌, ◌+◌, ◌-◌, ◌≤◌, suc, zero, ℕ, Bool, ◌&&◌, cond, not, List, [], ◌++◌, ◌∷◌, ◌≡◌, eqb, leb, ltb, get_or, length, replicate, set}
use Rattle.block.specs.Lists.{All}
use Rattle.rehearsal.specs.declared.Setting.{Setting}
use Rattle.turns.specs.Turns.{Queue, is_in}

-- "a setting for each seat, a period and a holding time"
abbrev pub no_setting : Setting
no_setting = record { period = 0; holding = 0 }

-- what is counted of a seat: commits, asks, the step of its last ask, and its completed waits, the newest first
pub record Row : Type 0 where
  pub commits : ℕ
  pub asks : ℕ
  pub asked : ℕ
  pub waits : List ℕ

abbrev pub no_row : Row
no_row = record { commits = 0; asks = 0; asked = 0; waits = [] }

-- who holds and waits, the step of the grant, and the four rows
pub record Day : Type 0 where
  pub queue : Queue
  pub since : ℕ
  pub rows : List Row

abbrev pub day : Queue → ℕ → List Row → Day
day q g l = record { queue = q; since = g; rows = l }

abbrev pub fresh_day : Day
fresh_day = day [] 0 (replicate 4 no_row)

abbrev pub row_of : Day → ℕ → Row
row_of d s = get_or d.rows (s - 1) no_row

abbrev pub with_row : Day → ℕ → Row → Day
with_row d s r = day d.queue d.since (set d.rows (s - 1) r)

-- the row of a seat that commits; that asks at step t; whose wait ends at step t
abbrev pub has_committed : Row → Row
has_committed r = record { commits = suc r.commits; asks = r.asks; asked = r.asked; waits = r.waits }

abbrev pub has_asked : ℕ → Row → Row
has_asked t r = record { commits = r.commits; asks = suc r.asks; asked = t; waits = r.waits }

abbrev pub has_waited : ℕ → Row → Row
has_waited t r = record { commits = r.commits; asks = r.asks; asked = r.asked; waits = (t - r.asked) ∷ r.waits }

-- the first of the queue, if any, gets the turn at step t: its wait is completed
abbrev pub granted_to : ℕ → Queue → Day → Day
granted_to t [] d = d
granted_to t (s ∷ q) d = day (s ∷ q) t (set d.rows (s - 1) (has_waited t (row_of d s)))

module _ (settings : List Setting) where
  abbrev pub setting_of : ℕ → Setting
  setting_of s = get_or settings (s - 1) no_setting

  abbrev pub holds : ℕ → ℕ
  holds s = (setting_of s).holding

  -- "a holder whose time is over commits .. and gives back"; the next one gets the turn
  abbrev pub finishing : ℕ → Queue → Day → Day
  finishing t [] d = d
  finishing t (s ∷ q) d =
      cond (leb (d.since + holds s) t)
      (granted_to t q (day q d.since (set d.rows (s - 1) (has_committed (row_of d s)))))
      d

  -- "each seat whose period divides the step asks, unless it waits or holds"; alone in line, it gets the turn with a wait of 0
  abbrev pub joining : ℕ → ℕ → Queue → Day → Day
  joining t s [] d = granted_to t (s ∷ []) (with_row d s (has_asked t (row_of d s)))
  joining t s (h ∷ q) d = day ((h ∷ q) ++ (s ∷ [])) d.since (set d.rows (s - 1) (has_asked t (row_of d s)))

  abbrev pub wants : ℕ → ℕ → Day → Bool
  wants t s d = eqb (t % (setting_of s).period) 0 && not (is_in s d.queue)

  abbrev pub asking : ℕ → ℕ → Day → Day
  asking t s d = cond (wants t s d) (joining t s d.queue d) d

  unfoldable pub step_of : ℕ → Day → Day
  step_of t d = asking t 4 (asking t 3 (asking t 2 (asking t 1 (finishing t d.queue d))))

  -- n steps, the first of them numbered t
  unfoldable pub days_from : ℕ → ℕ → Day → Day
  days_from t zero d = d
  days_from t (suc n) d = days_from (suc t) n (step_of t d)

  -- "runs 1 to 60 steps", "a step numbered from 1"
  abbrev pub day_of : ℕ → Day
  day_of n = days_from 1 n fresh_day

  -- "the holding times of the other three together"
  abbrev pub others : ℕ → ℕ
  others s =
      cond (eqb s 1) 0 (holds 1) + (cond (eqb s 2) 0 (holds 2) + (cond (eqb s 3) 0 (holds 3) + cond (eqb s 4) 0 (holds 4)))

-- ---- what is printed: "commits, asks, longest completed wait in steps (0 if none)"

-- the greatest of some numbers, 0 of none
abbrev pub greatest : List ℕ → ℕ
greatest [] = 0
greatest (w ∷ ws) = cond (ltb (greatest ws) w) w (greatest ws)

pub record Report : Type 0 where
  pub commits : ℕ
  pub asks : ℕ
  pub longest : ℕ

abbrev pub report_of : Row → Report
report_of r = record { commits = r.commits; asks = r.asks; longest = greatest r.waits }

-- ---- the statements

-- "a period and a holding time (each 1 to 60 steps), and runs 1 to 60 steps"
abbrev pub in_range : ℕ → Bool
in_range n = leb 1 n && leb n 60

abbrev pub is_sensible : Setting → Bool
is_sensible x = in_range x.period && in_range x.holding

pub record Sensible (x : Setting) : Type 0 where
  pub period_low : 1 ≤ x.period
  pub period_high : x.period ≤ 60
  pub holding_low : 1 ≤ x.holding
  pub holding_high : x.holding ≤ 60

pub record Fair (settings : List Setting) (d : Day) (s : ℕ) : Type 0 where
  -- "Asks equal commits plus the one waiting or holding, if any."
  pub asks : (row_of d s).asks ≡ (row_of d s).commits + cond (is_in s d.queue) 1 0
  -- "No completed wait exceeds the holding times of the other three together."
  pub waits : All (λ (w : ℕ). w ≤ others settings s) (row_of d s).waits

abbrev pub FairDay : Type 0
FairDay = (settings : List Setting) (n : ℕ) → length settings ≡ 4 → All Sensible settings → (s : ℕ) → 1 ≤ s → s ≤ 4 → Fair settings (day_of settings n) s
