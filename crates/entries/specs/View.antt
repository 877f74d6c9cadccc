-- What is known of buffers that are accepted; what `check` answers; what update makes of an entry.
-- Assumes nothing.
use Rattle.std.specs.Prelude.{◌<◌, ℕ, Bool, cond, true, [], ◌++◌, ◌≡◌, eqb, get_or, Err, Ok, Result}
use Rattle.std.proofs.Math.Option.{Option, none, some}
use Rattle.model.specs.Blocks.{bytes_at}
use Rattle.model.specs.Calls.{Out, change_by, copy_conditions, out, side_in, store_conditions}
use Rattle.model.specs.Machine.{Call}
use Rattle.model.specs.Types.{answer_of}
use Rattle.model.specs.declared.Answer.{Answer}
use Rattle.model.specs.Entry.{Entry, added, copied, deleted, empty, normal, own_bytes}
use Rattle.model.specs.Fitting.{fits_store}
use Rattle.model.specs.History.{Bytes, History, last, namer}
use Rattle.model.specs.Machine.{status_of, updated_to}
use Rattle.model.specs.Refusals.{conditions, first_of}
use Rattle.model.specs.Store.{block_count, store_blocks, store_history, used_of}
use Rattle.model.specs.WorkCopy.{entries_of, seat_of}
use Rattle.model.specs.declared.Refusal.{Refusal}
use Rattle.model.specs.declared.Refusal.TheVariants.{CopyLayout, CopyLength, StoreCheck, StoreLayout, StoreLength, Unfit}
use Rattle.model.specs.declared.Standing.{Standing}
use Rattle.entries.specs.declared.Update.{Update}
use Rattle.entries.specs.declared.Update.TheVariants.{Clear, Conflict, Rebase, Stay, Take}
use Rattle.entries.specs.declared.View.{View}
use Rattle.search.specs.Find.{Accepted}
use Rattle.workcopy.specs.Copy.{Accepted as CopyAccepted}

-- the store is accepted, and these are its numbers
pub record Opened (store : Bytes) (v : View) : Type 0 where
  pub accepted : Accepted store v.n v.used
  pub last : v.last ≡ last (store_history store)

-- and the working copy is accepted, whether or not it fits
pub record Viewed (store copy : Bytes) (v : View) : Type 0 where
  pub opened : Opened store v
  pub accepted : CopyAccepted copy

-- and it fits
pub record Fitting (store copy : Bytes) (v : View) : Type 0 where
  pub viewed : Viewed store copy v
  pub fits : fits_store (store_history store) (entries_of copy) ≡ true
  pub seat : v.seat ≡ seat_of copy

abbrev pub view_of : Bytes → Bytes → View
view_of store copy = record { n = block_count store; used = used_of store; last = last (store_history store); seat = seat_of copy }

-- the refusals 1 to 6
abbrev pub refusal_as : ℕ → Refusal
refusal_as n =
    cond (eqb n 1) StoreLength (cond (eqb n 2) StoreCheck (cond (eqb n 3) StoreLayout (cond (eqb n 4) CopyLength (cond (eqb n 5) CopyLayout Unfit))))

abbrev pub checked_by : Option ℕ → View → Result View Refusal
checked_by none v = Ok v
checked_by (some n) v = Err (refusal_as n)

-- the first of the lines 1 to 6 that holds, or what is known of the two buffers
unfoldable pub check_of : Bytes → Bytes → Result View Refusal
check_of store copy = checked_by (first_of (store_conditions store ++ copy_conditions store copy)) (view_of store copy)

-- entry i of a working copy, and its bytes, none where it has none
abbrev pub entry_in : Bytes → ℕ → Entry
entry_in copy i = get_or (entries_of copy) i empty

abbrev pub or_none : Option Bytes → Bytes
or_none none = []
or_none (some x) = x

abbrev pub bytes_of : Bytes → ℕ → Bytes
bytes_of copy i = or_none (own_bytes (entry_in copy i))

-- the bytes that block p of a store holds; block 0 stands for no sheet
abbrev pub held_in : Bytes → ℕ → Option Bytes
held_in store p = cond (eqb p 0) none (some (bytes_at (store_blocks store) p))

-- the used block p of the store holds these bytes, or none: 0
pub record Holding (store : Bytes) (o : Option Bytes) (p : ℕ) : Type 0 where
  pub holds : held_in store p ≡ o
  pub used : p < used_of store

-- the status of an entry, and the last commit that names its sheet
abbrev pub standing_of : History → ℕ → Entry → Standing
standing_of h i e = record { status = status_of h i e; revision = namer h (last h) i }

-- "normal gives 1 up to date, 2 modified, 3 needs patch, 4 needs merge": a commit after the base names the sheet, the entry is modified
abbrev pub normal_status : Bool → Bool → ℕ
normal_status later modified = cond later (cond modified 4 3) (cond modified 2 1)

-- ---- update

abbrev pub taken_as : ℕ → Update
taken_as p = cond (eqb p 0) Clear (Take p)

-- t says whether the entry's bytes are tree R's, which block p holds
abbrev pub agreed_as : Bool → ℕ → Update
agreed_as t p = cond t (Take p) Conflict

-- the entry with its bytes and the base R
abbrev pub rebased : ℕ → Entry → Entry
rebased R empty = empty
rebased R (normal b x) = normal R x
rebased R (added x) = added x
rebased R (deleted b) = deleted R
rebased R (copied s r x) = copied s r x

-- what the code's word for it makes of an entry, at an update to R
abbrev pub updated_as : Update → Bytes → ℕ → Entry → Option Entry
updated_as Conflict store R e = none
updated_as Stay store R e = some e
updated_as Clear store R e = some empty
updated_as (Take p) store R e = some (normal R (bytes_at (store_blocks store) p))
updated_as Rebase store R e = some (rebased R e)

-- a block that is taken is a used one
abbrev pub Stands : Bytes → Update → Type 0
Stands store Conflict = Unit {0}
Stands store Stay = Unit {0}
Stands store Clear = Unit {0}
Stands store (Take p) = p < used_of store
Stands store Rebase = Unit {0}

-- x is what an update to R makes of entry i
pub record UpdateIs (store copy : Bytes) (R i : ℕ) (x : Update) : Type 0 where
  pub means : updated_as x store R (entry_in copy i) ≡ updated_to (store_history store) R i (entry_in copy i)
  pub stands : Stands store x

-- ---- inner calls

-- the call on buffers, where no line from 1 to 6 holds, nor 14: the machine's other conditions are the only ones left
unfoldable pub inner_out : Bytes → Bytes → Call → Out
inner_out store copy c = change_by (first_of (conditions (side_in store copy) c)) store copy c

-- what the code answers, beside the buffers that it leaves
abbrev pub out_as : Result Answer Refusal → Bytes → Bytes → Out
out_as a store copy = out (answer_of a) store copy
