-- What the program prints, from what it reads: lines, the calls that they are, the machine's answers, and their text. Nothing here speaks of buffers.
-- Every definition computes.
-- Assumes nothing.
use Rattle.std.specs.Prelude.{cond, List, [], ◌++◌, ◌∷◌, leb, length}
use Rattle.std.proofs.Math.Option.{Option, none, some}
use Rattle.command.specs.Command.{line_turn}
use Rattle.model.specs.History.{Bytes}
use Rattle.model.specs.Machine.{Answer, State, bytes, done, fresh, logged, refused, revision, status, stopped}
use Rattle.model.specs.Run.{Turn, step}
use Rattle.text.specs.Text.{decimal_of, hex_text, lines}

-- `ok` and the end of the line
abbrev pub ok : Bytes
ok = 111 ∷ 107 ∷ 10 ∷ []

-- "Any other line prints `?`"
abbrev pub unknown : Bytes
unknown = 63 ∷ 10 ∷ []

-- a sheet's bytes, as `get` prints them
abbrev pub sheet_text : Bytes → Bytes
sheet_text x = 111 ∷ 107 ∷ 32 ∷ (hex_text x ++ (10 ∷ []))

-- "Each line prints `ok`, or `no` and the number; `put` adds the revision, `get` the HEX." No line asks for a status or for the log, and none prints W3's number.
abbrev pub text_of : Answer → Bytes
text_of (refused n) = 110 ∷ 111 ∷ 32 ∷ (decimal_of n ++ (10 ∷ []))
text_of done = ok
text_of stopped = ok
text_of (revision R) = 111 ∷ 107 ∷ 32 ∷ (decimal_of R ++ (10 ∷ []))
text_of (bytes x n) = sheet_text x
text_of (status s n) = ok
text_of (logged seat stamp m a i R) = ok

-- one line: what it prints, and the machine afterwards
abbrev pub answered : State → Option Turn → Bytes × State
answered s none = (unknown, s)
answered s (some t) = let r = step s t.by t.call in (text_of r.0, r.1)

-- the lines, one after the other
unfoldable pub transcript : State → List Bytes → Bytes
transcript s [] = []
transcript s (l ∷ ls) = (answered s (line_turn l)).0 ++ transcript (answered s (line_turn l)).1 ls

-- "It reads at most 4,096 bytes from standard input, with seats 1 and 2 and a fresh store of 32 blocks; longer input prints one `?`."
unfoldable pub output : Bytes → Bytes
output input = cond (leb (length input) 4_096) (transcript (fresh 32) (lines input)) unknown
