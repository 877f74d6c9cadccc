-- An answer in bytes: a record of 512 bytes. Bytes 0–3 are the refusal's number, or 0; 4–7 the revision, the status or the seat; 8–11 of a status, a read or a show the last commit that names
-- the sheet (W3), of a log the stamp, and 1 where a cut call stopped (W6); 12–15 m, 16–19 the action, 20–23 the source sheet and 24–27 the source revision of a log; 28–31 the number of bytes of a read or a show, which stand
-- from 32 on. All else is zero.
-- Assumes nothing.
use Rattle.std.specs.Prelude.{List, [], ◌++◌, ◌∷◌, length, replicate}
use Rattle.block.specs.Field.{with_four}
use Rattle.block.specs.Write.{written}
use Rattle.model.specs.History.{Bytes}
use Rattle.model.specs.Machine.{Answer, bytes, done, logged, refused, revision, status, stopped}

unfoldable pub zeros : Bytes
zeros = replicate 512 0

unfoldable pub record_of : Answer → Bytes
record_of (refused n) = with_four zeros 0 n
record_of done = zeros
record_of stopped = with_four zeros 8 1
record_of (revision R) = with_four zeros 4 R
record_of (bytes x n) = written 32 x (with_four (with_four zeros 8 n) 28 (length x))
record_of (status s n) = with_four (with_four zeros 4 s) 8 n
record_of (logged seat stamp m a i R) = with_four (with_four (with_four (with_four (with_four (with_four zeros 4 seat) 8 stamp) 12 m) 16 a) 20 i) 24 R

-- one after the other
abbrev pub records_of : List Answer → Bytes
records_of [] = []
records_of (a ∷ l) = record_of a ++ records_of l
