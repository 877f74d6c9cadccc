-- What an inner call answers and leaves: the machine's call on the buffers, and buffers that fit again.
-- Assumes nothing.
use Rattle.std.specs.Prelude.{◌≡◌, Err}
use Rattle.model.specs.Calls.{Created, Out, call, heard, out}
use Rattle.model.specs.History.{Bytes, last}
use Rattle.model.specs.Machine.{Add, Answer, Call, Clears, ClearsCut, Commits, CommitsCut, Copy, Delete, Edit, Log, Move, Panel, Read, Release, Revert, Show, Status, Update}
use Rattle.model.specs.Store.{store_history, used_of}
use Rattle.model.specs.Types.{answer_of, created_as, place_of}
use Rattle.model.specs.declared.Refusal.{Refusal}
use Rattle.entries.specs.View.{Fitting}
use Rattle.entries.specs.declared.View.{View}
use Rattle.filing.specs.declared.Filed.{Filed}
use Rattle.inner.specs.Place.{Inside}
use Rattle.inner.specs.declared.Call.{Call as TheCall}
use Rattle.inner.specs.declared.Call.TheVariants.{Add as ToAdd, Clear as ToClear, ClearCut as ToClearCut, Commit as ToCommit, CommitCut as ToCommitCut, Copy as ToCopy, Delete as ToDelete, Edit as ToEdit, Log as ToLog, Move as ToMove, Panel as ToPanel, Read as ToRead, Release as ToRelease, Revert as ToRevert, Show as ToShow, Status as ToStatus, Update as ToUpdate}
use Rattle.inner.specs.declared.Performed.{Performed}
use Rattle.inner.specs.declared.Reply.{Reply}
use Rattle.inner.specs.declared.Reply.TheVariants.{At, Said}
use Rattle.store.specs.declared.Header.{Header}

-- the machine's call, with the bytes beside it
abbrev pub call_of : TheCall → Bytes → Call
call_of (ToAdd i) x = Add i x
call_of (ToEdit i) x = Edit i x
call_of (ToDelete i) x = Delete i
call_of (ToCopy i j) x = Copy i j
call_of (ToMove i j) x = Move i j
call_of (ToCommit stamp mask) x = Commits stamp mask
call_of (ToUpdate mask R) x = Update mask R
call_of (ToRevert mask) x = Revert mask
call_of (ToRead R i) x = Read R i
call_of (ToShow i) x = Show i
call_of (ToStatus i) x = Status i
call_of (ToLog R i) x = Log R i
call_of ToClear x = Clears
call_of (ToCommitCut stamp mask n) x = CommitsCut stamp mask n
call_of (ToClearCut n) x = ClearsCut n
call_of (ToRelease R seat stamp) x = Release R seat stamp
call_of (ToPanel R i) x = Panel R i

-- the machine's answer: of read, a panel's reading and show, the bytes that stand at the place
abbrev pub told : Bytes → Bytes → Reply → Answer
told store copy (Said a) = answer_of a
told store copy (At p) = heard store copy (place_of p)

-- a place ends within its buffer
abbrev pub Within : Bytes → Bytes → Reply → Type 0
Within store copy (Said a) = Unit {0}
Within store copy (At p) = Inside store copy p

abbrev pub stay_as : View → Reply → Performed
stay_as v r = record { reply = r; used = v.used; last = v.last }

abbrev pub moved_as : Filed → Performed
moved_as f = record { reply = Said f.answer; used = f.used; last = f.last }

-- this came of a commit, and these are the numbers of the store that it leaves
pub record CommitsAs (o : Out) (r : Filed) (store' copy' : Bytes) : Type 0 where
  pub is : out (answer_of r.answer) store' copy' ≡ o
  pub used : r.used ≡ used_of store'
  pub last : r.last ≡ last (store_history store')

-- a release was refused with this
abbrev pub unmoved_as : Header → Refusal → Filed
unmoved_as h k = record { answer = Err k; used = h.used; last = h.last }

-- this came of a release, and these are the numbers of the store that it leaves
pub record ReleasesAs (o : Created) (r : Filed) (store' : Bytes) : Type 0 where
  pub is : created_as r.answer store' ≡ o
  pub used : r.used ≡ used_of store'
  pub last : r.last ≡ last (store_history store')

pub record Performs (store copy : Bytes) (v : View) (c : Call) (r : Performed) (store' copy' : Bytes) : Type 0 where
  pub is : out (told store' copy' r.reply) store' copy' ≡ call store copy c
  pub within : Within store' copy' r.reply
  pub fits : Fitting store' copy' (record { n = v.n; used = r.used; last = r.last; seat = v.seat })
