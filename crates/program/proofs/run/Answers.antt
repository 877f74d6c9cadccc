-- The output of an input, and that it fits.
-- Assumes nothing.
use Rattle.std.proofs.Common.{◌≡◌, ◌≤◌, ◌∙◌, ℕ, List, ap, arith, length, sym, take}
use Rattle.block.specs.Write.{written}
use Rattle.text.proofs.Laws.{taken}
use Rattle.program.specs.Output.{output}
use Rattle.program.proofs.Room.{output-room, too_long}
use Rattle.program.proofs.run.Goals as goal

taken_whole : (r : ℕ) (input o o₀ : List ℕ) → r ≡ length (output input) → o ≡ written 0 (output input) o₀ → 495_737 ≤ length o₀ → take r o ≡ output input
taken_whole r input o o₀ e f g = ap (λ (k : ℕ). take k o) e ∙ ap (take (length (output input))) f ∙ taken (output input) o₀ (omega (arith, output-room input))

pub returns-then-input-gt4096-clause-value : goal.returns-then-input-gt4096-clause-value
returns-then-input-gt4096-clause-value c = c.say.ensures.value ∙ ap (λ (w : List ℕ). length w) (sym (too_long c.args.input.now c.if-input-gt4096.true))

pub returns-then-input-gt4096-clause-out_after : goal.returns-then-input-gt4096-clause-out_after
returns-then-input-gt4096-clause-out_after c = c.say.ensures.out_after ∙ ap (λ (w : List ℕ). written 0 w c.args.out.now) (sym (too_long c.args.input.now c.if-input-gt4096.true))

pub returns-then-input-gt4096-clause-out_after_2 : goal.returns-then-input-gt4096-clause-out_after_2
returns-then-input-gt4096-clause-out_after_2 c =
    let a = c.args in
    let e = sym (too_long a.input.now c.if-input-gt4096.true) in
    taken_whole c.say.result a.input.now c.say.new.out a.out.now (c.say.ensures.value ∙ ap (λ (w : List ℕ). length w) e) (c.say.ensures.out_after ∙ ap (λ (w : List ℕ). written 0 w a.out.now) e)

pub returns-else-input-gt4096-clause-upper_bound : goal.returns-else-input-gt4096-clause-upper_bound
returns-else-input-gt4096-clause-upper_bound c = omega (arith, c.run_lines.ensures.value, output-room c.args.input.now)

pub returns-else-input-gt4096-clause-out_after_2 : goal.returns-else-input-gt4096-clause-out_after_2
returns-else-input-gt4096-clause-out_after_2 c = let a = c.args in taken_whole c.run_lines.result a.input.now c.run_lines.new.out a.out.now c.run_lines.ensures.value c.run_lines.ensures.out_after
