-- The structs of src/lib.rt, from the answers and places of the meanings: a refusal's number, or 0 and the call's numbers. What a struct has no case for is zero.
-- Assumes nothing.
use Rattle.std.specs.Prelude.{ℕ}
use Rattle.model.specs.Calls.{Out, Created, Place, in_copy, in_store, no_place, number_at}
use Rattle.model.specs.History.{Bytes}
use Rattle.model.specs.Machine.{Answer, bytes, done, logged, refused, revision, status, stopped}
use Rattle.sheetstore.specs.declared.SheetsAnswer.{SheetsAnswer}
use Rattle.sheetstore.specs.declared.SheetsCutAnswer.{SheetsCutAnswer}
use Rattle.sheetstore.specs.declared.SheetsLog.{SheetsLog}
use Rattle.sheetstore.specs.declared.SheetsPart.{SheetsPart}
use Rattle.sheetstore.specs.declared.SheetsStanding.{SheetsStanding}

abbrev pub valued : ℕ → ℕ → SheetsAnswer
valued n v = record { refusal = n; value = v }

abbrev pub answer_numbers : Answer → SheetsAnswer
answer_numbers (refused n) = valued n 0
answer_numbers done = valued 0 0
answer_numbers stopped = valued 0 0
answer_numbers (revision R) = valued 0 R
answer_numbers (bytes x n) = valued 0 0
answer_numbers (status s n) = valued 0 0
answer_numbers (logged seat stamp m a s R) = valued 0 0

-- an answer beside the buffer that the call leaves
pub record Left : Type 0 where
  pub numbers : SheetsAnswer
  pub buffer : Bytes

abbrev pub left : SheetsAnswer → Bytes → Left
left r b = record { numbers = r; buffer = b }

abbrev pub left_numbers : Created → Left
left_numbers c = left (answer_numbers c.says) c.buffer

-- an answer beside the working copy that a call leaves; the store is lent for reading
abbrev pub copy_numbers : Out → Left
copy_numbers o = left (answer_numbers o.says) o.copy

-- an answer beside both buffers
pub record Both : Type 0 where
  pub numbers : SheetsAnswer
  pub store : Bytes
  pub copy : Bytes

abbrev pub both : SheetsAnswer → Bytes → Bytes → Both
both r s c = record { numbers = r; store = s; copy = c }

abbrev pub both_numbers : Out → Both
both_numbers o = both (answer_numbers o.says) o.store o.copy

-- W6, of a call that stops after n block writes: "answers that it stopped" is 1 in a place of its own, no refusal and no revision; else the usual call's numbers
abbrev pub cut_as : ℕ → ℕ → ℕ → SheetsCutAnswer
cut_as n s v = record { refusal = n; stopped = s; value = v }

abbrev pub cut_numbers : Answer → SheetsCutAnswer
cut_numbers (refused n) = cut_as n 0 0
cut_numbers done = cut_as 0 0 0
cut_numbers stopped = cut_as 0 1 0
cut_numbers (revision R) = cut_as 0 0 R
cut_numbers (bytes x n) = cut_as 0 0 0
cut_numbers (status s n) = cut_as 0 0 0
cut_numbers (logged seat stamp m a s R) = cut_as 0 0 0

-- beside the buffer, or both buffers, that it leaves
pub record CutLeft : Type 0 where
  pub numbers : SheetsCutAnswer
  pub buffer : Bytes

abbrev pub cut_left : SheetsCutAnswer → Bytes → CutLeft
cut_left r b = record { numbers = r; buffer = b }

abbrev pub cut_left_numbers : Created → CutLeft
cut_left_numbers c = cut_left (cut_numbers c.says) c.buffer

pub record CutBoth : Type 0 where
  pub numbers : SheetsCutAnswer
  pub store : Bytes
  pub copy : Bytes

abbrev pub cut_both : SheetsCutAnswer → Bytes → Bytes → CutBoth
cut_both r s c = record { numbers = r; store = s; copy = c }

abbrev pub cut_both_numbers : Out → CutBoth
cut_both_numbers o = cut_both (cut_numbers o.says) o.store o.copy

-- buffer 0 is the store, 1 the working copy; then W3's number
abbrev pub part_numbers : Place → SheetsPart
part_numbers (no_place n) = record { refusal = n; buffer = 0; start = 0; len = 0; revision = number_at (no_place n) }
part_numbers (in_store p m v) = record { refusal = 0; buffer = 0; start = p; len = m; revision = number_at (in_store p m v) }
part_numbers (in_copy p m) = record { refusal = 0; buffer = 1; start = p; len = m; revision = number_at (in_copy p m) }

-- document 01's status and W3's number
abbrev pub no_standing : ℕ → SheetsStanding
no_standing n = record { refusal = n; status = 0; revision = 0 }

abbrev pub standing_numbers : Answer → SheetsStanding
standing_numbers (refused n) = no_standing n
standing_numbers done = no_standing 0
standing_numbers stopped = no_standing 0
standing_numbers (revision R) = no_standing 0
standing_numbers (bytes x n) = no_standing 0
standing_numbers (status s n) = record { refusal = 0; status = s; revision = n }
standing_numbers (logged seat stamp m a s R) = no_standing 0

abbrev pub no_log : ℕ → SheetsLog
no_log n = record { refusal = n; seat = 0; stamp = 0; changes = 0; action = 0; source_sheet = 0; source_revision = 0 }

abbrev pub log_numbers : Answer → SheetsLog
log_numbers (refused n) = no_log n
log_numbers done = no_log 0
log_numbers stopped = no_log 0
log_numbers (revision R) = no_log 0
log_numbers (bytes x n) = no_log 0
log_numbers (status s n) = no_log 0
log_numbers (logged seat stamp m a s R) = record { refusal = 0; seat = seat; stamp = stamp; changes = m; action = a; source_sheet = s; source_revision = R }
