-- The laws of a step and of a day: a step is the holder and four asks, and what is left of the day gives the whole.
-- Assumes nothing.
use Prim.Native.Nat.{◌*◌, ◌+◌, ◌-◌, ◌<◌, ◌≤◌, suc, ℕ}
use mathlib.Core.List.{List, []}
use mathlib.Core.Path.{◌∙◌, ◌≡◌, ap, refl, subst, sym}
use native.Mathlib.Omega.{arith}
use lib.ListN.{length}
use Rattle.block.specs.Lists.{All}
use Rattle.laws.proofs.All.{All-get_or, All-map}
use Rattle.laws.proofs.Rows.{replicate-any}
use Rattle.model.specs.Calls.{Buffers}
use Rattle.rehearsal.specs.Desk.{Planned, Sane, fresh_day, hall_in}
use Rattle.rehearsal.specs.Rehearsal.{Sensible, no_setting, setting_of}
use Rattle.rehearsal.specs.RehearsalCalls.{Hall, asking_on, finishing_on, no_tally, row_in, step_on, steps_on}
use Rattle.rehearsal.specs.declared.Setting.{Setting}
use Rattle.rehearsal.specs.declared.Tally.{Tally}
use Rattle.turns.specs.Turns.{holder, queue_of}
use Rattle.rehearsal.proofs.Closing.{sane_asking, sane_finishing, sane_more}
use Rattle.rehearsal.proofs.Fairness.{all-get}

module _ (l : List Setting) (t : ℕ) where
  pub step_is : (w w₀ w₁ w₂ w₃ w₄ : Hall) → w₀ ≡ finishing_on l t (holder (queue_of w.bench.turn)) w → w₁ ≡ asking_on l t 1 w₀ → w₂ ≡ asking_on l t 2 w₁ → w₃ ≡ asking_on l t 3 w₂
      → w₄ ≡ asking_on l t 4 w₃ → w₄ ≡ step_on l t w
  unfolding step_on
  step_is w w₀ w₁ w₂ w₃ w₄ e₀ e₁ e₂ e₃ e₄ =
      e₄ ∙ ap (asking_on l t 4) (e₃ ∙ ap (asking_on l t 3) (e₂ ∙ ap (asking_on l t 2) (e₁ ∙ ap (asking_on l t 1) e₀)))

  pub sane_first : (n : ℕ) (w w₀ : Hall) → t ≤ 60 → Sane n w → w₀ ≡ finishing_on l t (holder (queue_of w.bench.turn)) w → Sane (suc n) w₀
  sane_first n w w₀ now S e = subst (Sane (suc n)) (sym e) (sane_finishing n t now w S l (holder (queue_of w.bench.turn)))

  pub sane_next : (n : ℕ) (w w' : Hall) (s : ℕ) → t ≤ 60 → Sane n w → w' ≡ asking_on l t s w → Sane (suc n) w'
  sane_next n w w' s now S e = subst (Sane (suc n)) (sym e) (sane_asking n t now w S (setting_of l s).period s)

  pub sane_step : (n : ℕ) (w : Hall) → t ≤ 60 → Sane n w → Sane (suc (suc (suc (suc (suc n))))) (step_on l t w)
  unfolding step_on
  sane_step n w now S =
      let w₀ : Hall = finishing_on l t (holder (queue_of w.bench.turn)) w in
      let S₀ = sane_first n w w₀ now S refl in
      let S₁ = sane_next (suc n) w₀ (asking_on l t 1 w₀) 1 now S₀ refl in
      let S₂ = sane_next (suc (suc n)) (asking_on l t 1 w₀) (asking_on l t 2 (asking_on l t 1 w₀)) 2 now S₁ refl in
      let S₃ = sane_next (suc (suc (suc n))) (asking_on l t 2 (asking_on l t 1 w₀)) (asking_on l t 3 (asking_on l t 2 (asking_on l t 1 w₀))) 3 now S₂ refl in
      sane_next (suc (suc (suc (suc n)))) (asking_on l t 3 (asking_on l t 2 (asking_on l t 1 w₀))) (asking_on l t 4 (asking_on l t 3 (asking_on l t 2 (asking_on l t 1 w₀)))) 4 now S₃ refl

pub few-asks : (n : ℕ) (w : Hall) (k : ℕ) → n ≤ 4_000 → Sane n w → (row_in w.rows k).asks < 4_294_967_295
few-asks n w k le S = let i = (S.small k).1 in omega (arith, i, le)

-- ---- a day

pub sane_fresh : (b : Buffers) → Sane 0 (hall_in b fresh_day)
sane_fresh b = record {
  line = ([], record { seats = tt; once = refl }, refl);
  small = λ k. replicate-any (λ (r : Tally). (r.commits ≤ 0) × (r.asks ≤ 0)) 4 (k - 1) no_tally no_tally (omega arith, omega arith) (omega arith, omega arith);
  early = omega arith;
}

module _ (l : List Setting) where
  -- one step more: of n that are left, the first
  pub steps-step : (t n : ℕ) (w w' : Hall) → t ≤ n → w' ≡ step_on l t w → steps_on l (t + 1) (n + 1 - (t + 1)) w' ≡ steps_on l t (n + 1 - t) w
  unfolding steps_on
  steps-step t n w w' le e =
      let k : n + 1 - (t + 1) ≡ n - t = omega arith in
      let m : n + 1 - t ≡ suc (n - t) = omega arith in
      let s : t + 1 ≡ suc t = omega arith in
      ap (λ (j : ℕ). steps_on l (t + 1) j w') k ∙ ap (λ (j : ℕ). steps_on l j (n - t) w') s ∙ ap (steps_on l (suc t) (n - t)) e ∙ sym (ap (λ (j : ℕ). steps_on l t j w) m)

  pub steps_end : (t n : ℕ) (w : Hall) → n < t → w ≡ steps_on l t (n + 1 - t) w
  unfolding steps_on
  steps_end t n w lt = let k : n + 1 - t ≡ 0 = omega arith in sym (ap (λ (j : ℕ). steps_on l t j w) k)

  pub steps_all : (n : ℕ) (w : Hall) → steps_on l 1 (n + 1 - 1) w ≡ steps_on l 1 n w
  steps_all n w = let k : n + 1 - 1 ≡ n = omega arith in ap (λ (j : ℕ). steps_on l 1 j w) k

  pub sane_turn : (t : ℕ) (w w' : Hall) → 1 ≤ t → t ≤ 60 → w' ≡ step_on l t w → Sane (5 * (t - 1)) w → Sane (5 * (t + 1 - 1)) w'
  sane_turn t w w' lo hi e S =
      subst (Sane (5 * (t + 1 - 1))) (sym e)
      (sane_more (suc (suc (suc (suc (suc (5 * (t - 1))))))) (5 * (t + 1 - 1)) (step_on l t w) (omega arith) (sane_step l t (5 * (t - 1)) w hi S))

-- sensible settings of four seats
pub planned : (l : List Setting) → length l ≡ 4 → All Sensible l → Planned l
planned l four A = record {
  asks = λ k lo hi. (all-get Sensible l (k - 1) no_setting A (omega (arith, four))).period_low;
  ends = λ k. All-get_or (λ (x : Setting). x.holding ≤ 60) l (k - 1) no_setting (All-map Sensible (λ (x : Setting). x.holding ≤ 60) l (λ x S. S.holding_high) A) (omega arith);
}
