-- What the types of src/lib.rt mean: for each case of an enum the document's number and values. The promises of the engine use these definitions.
-- Assumes nothing.
use Rattle.std.specs.Prelude.{ℕ, Err, Ok, Result}
use Rattle.model.specs.Calls.{Created, Place, in_copy, in_store, no_place}
use Rattle.model.specs.Entry.{Entry, added, copied, deleted, empty, normal}
use Rattle.model.specs.History.{Bytes}
use Rattle.model.specs.Machine.{Answer, done, logged, refused, revision, status, stopped}
use Rattle.model.specs.declared.Action.{Action}
use Rattle.model.specs.declared.Action.TheVariants.{Add, Change, Copy, Delete, Nothing}
use Rattle.model.specs.declared.Answer.{Answer as TheAnswer}
use Rattle.model.specs.declared.Answer.TheVariants.{Done, Logged, Revision, Status, Stopped}
use Rattle.model.specs.declared.Entry.{Entry as TheEntry}
use Rattle.model.specs.declared.Place.{Place as ThePlace}
use Rattle.model.specs.declared.Place.TheVariants.{InCopy, InStore}
use Rattle.model.specs.declared.Refusal.{Refusal}
use Rattle.model.specs.declared.Refusal.TheVariants.{Conflict, CopyLayout, CopyLength, Missing, NoRoom, NotHolding, NothingPending, Occupied, OutOfDate, Range, Released, StoreCheck, StoreLayout, StoreLength, Tail, Unfit}
use Rattle.model.specs.declared.State.{State}
use Rattle.model.specs.declared.State.TheVariants.{Added, Copied, Deleted, Empty, Normal}

-- "A refusal is its number"
abbrev pub number_of : Refusal → ℕ
number_of StoreLength = 1
number_of StoreCheck = 2
number_of StoreLayout = 3
number_of CopyLength = 4
number_of CopyLayout = 5
number_of Unfit = 6
number_of Range = 7
number_of Missing = 8
number_of Occupied = 9
number_of NothingPending = 10
number_of OutOfDate = 11
number_of Conflict = 12
number_of NoRoom = 13
number_of Tail = 14
number_of NotHolding = 15
number_of Released = 16

-- an entry in this state, with these bytes
abbrev pub entry_as : State → Bytes → Entry
entry_as Empty x = empty
entry_as (Normal b) x = normal b x
entry_as Added x = added x
entry_as (Deleted b) x = deleted b
entry_as (Copied s) x = copied s.sheet s.revision x

abbrev pub entry_of : TheEntry → Bytes → Entry
entry_of e x = entry_as e.state x

-- "add (1) .. change (2) .. delete (3) .. copy (4)", and 0 for nothing
abbrev pub action_number : Action → ℕ
action_number Nothing = 0
action_number Add = 1
action_number Change = 2
action_number Delete = 3
action_number (Copy s) = 4

-- the source of a copy, else zeros
abbrev pub source_sheet : Action → ℕ
source_sheet Nothing = 0
source_sheet Add = 0
source_sheet Change = 0
source_sheet Delete = 0
source_sheet (Copy s) = s.sheet

abbrev pub source_revision : Action → ℕ
source_revision Nothing = 0
source_revision Add = 0
source_revision Change = 0
source_revision Delete = 0
source_revision (Copy s) = s.revision

-- the machine's answer; of status both numbers, document 01's and W3's
abbrev pub answer_of : Result TheAnswer Refusal → Answer
answer_of (Err r) = refused (number_of r)
answer_of (Ok Done) = done
answer_of (Ok Stopped) = stopped
answer_of (Ok (Revision R)) = revision R
answer_of (Ok (Status s)) = status s.status s.revision
answer_of (Ok (Logged l)) = logged l.seat l.stamp l.changes (action_number l.action) (source_sheet l.action) (source_revision l.action)

-- an answer of create, beside the buffer that it makes
abbrev pub created_as : Result TheAnswer Refusal → Bytes → Created
created_as r b = record { says = answer_of r; buffer = b }

-- the place of the meanings; W3's number is with a part of the store alone (`Calls.number_at`)
abbrev pub place_of : Result ThePlace Refusal → Place
place_of (Err r) = no_place (number_of r)
place_of (Ok (InStore p n)) = in_store p.start p.len n
place_of (Ok (InCopy p)) = in_copy p.start p.len
