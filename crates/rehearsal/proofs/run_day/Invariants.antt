-- The numbers keep to their bounds, and what is left of the day gives the whole.
-- Assumes nothing.
use Rattle.std.proofs.Common.{◌≡◌, ◌+◌, ◌-◌, ◌*◌, ◌≤◌}
use Rattle.rehearsal.specs.Desk.{Sane, fresh_day, hall_in, pool}
use Rattle.rehearsal.specs.RehearsalCalls.{steps_on}
use Rattle.rehearsal.proofs.run_day.Given as goal

abbrev pub invariant-loop-step : goal.invariant-loop-step
invariant-loop-step l =
    (1 ≤ l.step) × (l.step ≤ l.steps + 1) × Sane (5 * (l.step - 1)) (hall_in (pool l.store l.one l.two l.three l.four) l.d)
    × (steps_on l.settings l.step (l.steps + 1 - l.step) (hall_in (pool l.store l.one l.two l.three l.four) l.d)
    ≡ steps_on l.settings 1 l.steps (hall_in (pool l.fn.store l.fn.one l.fn.two l.fn.three l.fn.four) fresh_day))
