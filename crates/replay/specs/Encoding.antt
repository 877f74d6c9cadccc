-- The script of a list of calls, as Script reads it.
-- Assumes nothing.
use Rattle.std.specs.Prelude.{◌-◌, ◌<◌, ◌^◌, ◌≤◌, ℕ, List, [], ◌++◌, ◌∷◌, length, replicate}
use Rattle.block.specs.Field.{four, two}
use Rattle.model.specs.History.{Bytes}
use Rattle.model.specs.Machine.{Add, Call, Clears, ClearsCut, Commits, CommitsCut, Copy, Delete, Edit, Log, Move, Panel, Read, Release, Revert, Show, Status, Update}
use Rattle.model.specs.Run.{Turn, Valid}

-- a call's kind, its numbers and its bytes
pub record Row : Type 0 where
  pub kind : ℕ
  pub first : ℕ
  pub second : ℕ
  pub third : ℕ
  pub bytes : Bytes

-- third is 0 but of a commit that stops after n writes and of a release
abbrev pub row : ℕ → ℕ → ℕ → Bytes → Row
row k a b x = record { kind = k; first = a; second = b; third = 0; bytes = x }

abbrev pub row_of : Call → Row
row_of (Add i x) = row 1 i 0 x
row_of (Edit i x) = row 2 i 0 x
row_of (Delete i) = row 3 i 0 []
row_of (Copy i j) = row 4 i j []
row_of (Move i j) = row 5 i j []
row_of (Commits stamp mask) = row 6 stamp mask []
row_of (Update mask R) = row 7 mask R []
row_of (Revert mask) = row 8 mask 0 []
row_of (Read R i) = row 9 R i []
row_of (Show i) = row 10 i 0 []
row_of (Status i) = row 11 i 0 []
row_of (Log R i) = row 12 R i []
row_of Clears = row 13 0 0 []
row_of (CommitsCut stamp mask n) = record { kind = 14; first = stamp; second = mask; third = n; bytes = [] }
row_of (ClearsCut n) = row 15 n 0 []
row_of (Release R seat stamp) = record { kind = 20; first = R; second = stamp; third = seat; bytes = [] }
row_of (Panel R i) = row 21 R i []

unfoldable pub record_by : ℕ → Row → Bytes
record_by seat r = r.kind ∷ seat ∷ two (length r.bytes) (four r.first (four r.second (four r.third (r.bytes ++ replicate (496 - length r.bytes) 0))))

abbrev pub script_of : List Turn → Bytes
script_of [] = []
script_of (t ∷ ts) = record_by t.by (row_of t.call) ++ script_of ts

-- a call that a record has room for: numbers of 32 bits, and at most 496 bytes
pub record Recorded (t : Turn) : Type 0 where
  pub valid : Valid t
  pub first : (row_of t.call).first < 2 ^ 32
  pub second : (row_of t.call).second < 2 ^ 32
  pub third : (row_of t.call).third < 2 ^ 32
  pub room : length (row_of t.call).bytes ≤ 496

abbrev pub AllRecorded : List Turn → Type 0
AllRecorded [] = Unit {0}
AllRecorded (t ∷ ts) = Recorded t × AllRecorded ts
