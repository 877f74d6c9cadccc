-- The program on buffers: the calls of Calls.antt in place of the machine's steps. The inner functions cite these; that both print the same is proved.
-- Assumes nothing.
use Rattle.std.specs.Prelude.{List, [], ◌++◌, ◌∷◌}
use Rattle.std.proofs.Math.Option.{Option, none, some}
use Rattle.command.specs.Command.{line_turn}
use Rattle.model.specs.Calls.{Buffers, after_turn, fresh_copy, turn_on}
use Rattle.model.specs.History.{Bytes}
use Rattle.model.specs.Run.{Turn}
use Rattle.program.specs.Output.{text_of, unknown}

-- the copies of seats 3 and 4, which no line names
unfoldable pub spare : List Bytes
spare = fresh_copy 3 ∷ fresh_copy 4 ∷ []

-- a store, and the copies of seats 1 and 2
abbrev pub pool : Bytes → Bytes → Bytes → Buffers
pool store one two = record { store = store; copies = one ∷ two ∷ spare }

-- one line: what it prints, and the buffers afterwards
abbrev pub answered_on : Buffers → Option Turn → Bytes × Buffers
answered_on b none = (unknown, b)
answered_on b (some t) = (text_of (turn_on b t).says, after_turn b t)

unfoldable pub transcript_on : Buffers → List Bytes → Bytes
transcript_on b [] = []
transcript_on b (l ∷ ls) = (answered_on b (line_turn l)).0 ++ transcript_on (answered_on b (line_turn l)).1 ls
