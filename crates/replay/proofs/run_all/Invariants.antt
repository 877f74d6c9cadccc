-- The store and the copies are ready, and what is left from here gives the whole.
-- Assumes nothing.
use Rattle.std.proofs.Common.{◌≡◌, ◌-◌, ◌/◌, length}
use Rattle.replay.specs.Desk.{desk, ran_from}
use Rattle.replay.specs.Script.{turns_from}
use Rattle.replay.specs.Steps.{Set}
use Rattle.replay.proofs.run_all.Given as goal

abbrev pub invariant-loop-i : goal.invariant-loop-i
invariant-loop-i l =
    let n = length l.script / 512 in
    Set l.store l.copies l.h × (ran_from l.i (turns_from l.i (n - l.i) l.script) (desk l.store l.copies l.answers) ≡ ran_from 0 (turns_from 0 n l.script) (desk l.initial.store l.initial.copies l.initial.answers))
