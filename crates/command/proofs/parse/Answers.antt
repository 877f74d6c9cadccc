-- A line of five words or more is no call.
-- Assumes nothing.
use Rattle.std.proofs.Common.{arith, rules}
use Rattle.std.proofs.lemmas.Grind.{common_steps}
use Rattle.block.specs.Write.{written}
use Rattle.command.specs.Command.{fourth_of, turn_of}
use Rattle.command.proofs.Laws.{words-two}
use Rattle.command.proofs.parse.Goals as goal

pub returns-in_default-first_word-clause-bytes_after : goal.returns-in_default-first_word-clause-bytes_after
unfolding turn_of
returns-in_default-first_word-clause-bytes_after c =
    let five = words-two _ _ _ c.first_word-4.ensures.words (λ e. search rules) in
    let is = five.2 in
    search rules

pub returns-in_default-first_word-clause-bytes_after_2 : goal.returns-in_default-first_word-clause-bytes_after_2
unfolding fourth_of written
returns-in_default-first_word-clause-bytes_after_2 c =
    let five = words-two _ _ _ c.first_word-4.ensures.words (λ e. search rules) in
    let is = five.2 in
    grind (arith, common_steps)
