-- "The input `add 2 5 41`, `put 2 7`, `get 1 5`, `get 0 5` prints exactly `ok`, `ok 1`, `ok 41`, `no 8`, a line each": computed.
-- Assumes nothing.
use mathlib.Core.List.{[], ◌∷◌}
use mathlib.Core.Path.{◌≡◌, refl}
use Rattle.command.specs.Command.{is_word, key_of, turn_of}
use Rattle.model.specs.History.{tree}
use Rattle.text.specs.Text.{decimal_in, digit_of, hex_of, hex_pairs, hex_text, lines, number_of, pairs_of, value_of, words}
use Rattle.program.specs.Output.{output, transcript}

pub sample : output (97 ∷ 100 ∷ 100 ∷ 32 ∷ 50 ∷ 32 ∷ 53 ∷ 32 ∷ 52 ∷ 49 ∷ 10 ∷ 112 ∷ 117 ∷ 116 ∷ 32 ∷ 50 ∷ 32 ∷ 55 ∷ 10 ∷ 103 ∷ 101 ∷ 116 ∷ 32 ∷ 49 ∷ 32 ∷ 53 ∷ 10 ∷ 103 ∷ 101 ∷ 116 ∷ 32 ∷ 48 ∷ 32 ∷ 53 ∷ 10 ∷ [])
    ≡ 111 ∷ 107 ∷ 10 ∷ 111 ∷ 107 ∷ 32 ∷ 49 ∷ 10 ∷ 111 ∷ 107 ∷ 32 ∷ 52 ∷ 49 ∷ 10 ∷ 110 ∷ 111 ∷ 32 ∷ 56 ∷ 10 ∷ []
unfolding decimal_in digit_of hex_of hex_pairs hex_text is_word key_of lines number_of output pairs_of transcript tree turn_of value_of words
sample = refl
