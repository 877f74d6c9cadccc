-- A day on the buffers that create makes: a fresh store of 121 blocks, and fresh working copies.
-- Assumes nothing.
use Prim.Native.Nat.{◌≤◌, ℕ}
use mathlib.Core.List.{List, map}
use mathlib.Core.Path.{◌∙◌, ◌≡◌, subst, sym}
use lib.ListN.{length}
use Rattle.block.specs.Lists.{All}
use Rattle.model.specs.Calls.{fresh_copy, fresh_store}
use Rattle.model.specs.History.{Bytes}
use Rattle.rehearsal.specs.Desk.{fresh_day, hall_in, pool}
use Rattle.rehearsal.specs.Rehearsal.{Sensible, day_of}
use Rattle.rehearsal.specs.RehearsalCalls.{Real, steps_on, tally_of}
use Rattle.rehearsal.specs.declared.Day.{Day}
use Rattle.rehearsal.specs.declared.Setting.{Setting}
use Rattle.rehearsal.proofs.RealDay.{real-day}

module _ (l : List Setting) (n : ℕ) (s a b c d s' a' b' c' d' : Bytes) (x : Day) (four : length l ≡ 4) (A : All Sensible l) (few : n ≤ 60)
    (es : s ≡ fresh_store 121) (ea : a ≡ fresh_copy 1) (eb : b ≡ fresh_copy 2) (ec : c ≡ fresh_copy 3) (ed : d ≡ fresh_copy 4)
    (e : hall_in (pool s' a' b' c' d') x ≡ steps_on l 1 n (hall_in (pool s a b c d) fresh_day)) where
  -- what the code's day leaves is what the real calls leave
  pub day-real : Real l n (hall_in (pool s' a' b' c' d') x)
  day-real = subst (Real l n) (sym (e ∙ (λ i. steps_on l 1 n (hall_in (pool (es i) (ea i) (eb i) (ec i) (ed i)) fresh_day)))) (real-day l n four A few)

  pub rows_are : x.rows ≡ map tally_of (day_of l n).rows
  rows_are = day-real.rows
