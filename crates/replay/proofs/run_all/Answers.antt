-- Assumes nothing.
use Rattle.std.proofs.Common.{◌*◌, ◌+◌, ◌-◌, ◌/◌, ◌≡◌, ◌∙◌, ap, arith, length, refl}
use Rattle.replay.proofs.Running.{ran_end, run_step, run-turns}
use Rattle.replay.specs.Desk.{desk, ran_from}
use Rattle.replay.specs.Script.{turns_from}
use Rattle.replay.proofs.run_all.Goals as goal

pub loop-i-init : goal.loop-i-init
loop-i-init c =
    let a = c.args in
    let n : length a.script.now / 512 - 0 ≡ length a.script.now / 512 = omega arith in
    (c.requires.ready, ap (λ x. ran_from 0 (turns_from 0 x a.script.now) (desk a.store.now a.copies.now a.answers.now)) n)

pub turn-h-requires : goal.turn-h-requires
turn-h-requires c =
    let a = c.args in
    let l = c.loop-i in
    run-turns a.script.now l.store l.copies l.answers l.h c.requires.good l.invariant.0 l.i (512 * l.i + 512 - 512 * l.i) (omega arith) (omega (arith, c.requires.room)) (omega arith)

pub loop-i-preserved : goal.loop-i-preserved
loop-i-preserved c =
    let a = c.args in
    let l = c.loop-i in
    let t = c.turn-h in
    (t.ensures.ready, run_step a.script.now l.i (length a.script.now / 512) (omega arith) l.answers (512 * l.i + 512 - 512 * l.i) (omega arith) t.ensures refl ∙ l.invariant.1)

pub returns : goal.returns
returns c =
    let a = c.args in
    let l = c.loop-i in
    ran_end a.script.now l.i (length a.script.now / 512) (omega arith) (desk l.store l.copies l.answers) ∙ l.invariant.1
