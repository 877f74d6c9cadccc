-- What the engine answers and leaves for any request: the machine's call on the buffers, or create.
-- Assumes nothing.
use Rattle.model.specs.Calls.{Created, Out, Place, call, create_copy, create_store, panel_place, read_place, show_place}
use Rattle.model.specs.History.{Bytes}
use Rattle.model.specs.Machine.{Add, Answer, Call, Clears, ClearsCut, Commits, CommitsCut, Copy, Delete, Edit, Log, Move, Panel, Read, Release, Revert, Show, Status, Update}
use Rattle.model.specs.Types.{answer_of, place_of}
use Rattle.inner.specs.Performs.{call_of}
use Rattle.inner.specs.declared.Reply.{Reply}
use Rattle.inner.specs.declared.Reply.TheVariants.{At, Said}
use Rattle.engine.specs.declared.Request.{Request as TheRequest}
use Rattle.engine.specs.declared.Request.TheVariants.{Call as ToCall, CreateCopy, CreateStore}

-- what a reply means: an answer of the machine, or of read, a panel's reading and show the place
pub data Tells : Type 0 where
  says : Answer → Tells
  stands : Place → Tells

abbrev pub tells_of : Reply → Tells
tells_of (Said a) = says (answer_of a)
tells_of (At p) = stands (place_of p)

-- the reply, and both buffers afterwards
pub record Answered : Type 0 where
  pub tells : Tells
  pub store : Bytes
  pub copy : Bytes

abbrev pub answered : Tells → Bytes → Bytes → Answered
answered t s c = record { tells = t; store = s; copy = c }

abbrev pub out_said : Out → Answered
out_said o = answered (says o.says) o.store o.copy

-- any call: read, a panel's reading and show answer the place, and leave both buffers
abbrev pub called : Bytes → Bytes → Call → Answered
called store copy (Add i x) = out_said (call store copy (Add i x))
called store copy (Edit i x) = out_said (call store copy (Edit i x))
called store copy (Delete i) = out_said (call store copy (Delete i))
called store copy (Copy s t) = out_said (call store copy (Copy s t))
called store copy (Move s t) = out_said (call store copy (Move s t))
called store copy (Commits stamp mask) = out_said (call store copy (Commits stamp mask))
called store copy (Update mask R) = out_said (call store copy (Update mask R))
called store copy (Revert mask) = out_said (call store copy (Revert mask))
called store copy (Read R i) = answered (stands (read_place store R i)) store copy
called store copy (Show i) = answered (stands (show_place store copy i)) store copy
called store copy (Status i) = out_said (call store copy (Status i))
called store copy (Log R i) = out_said (call store copy (Log R i))
called store copy Clears = out_said (call store copy Clears)
called store copy (CommitsCut stamp mask n) = out_said (call store copy (CommitsCut stamp mask n))
called store copy (ClearsCut n) = out_said (call store copy (ClearsCut n))
called store copy (Release R seat stamp) = out_said (call store copy (Release R seat stamp))
called store copy (Panel R i) = answered (stands (panel_place store R i)) store copy

-- "Create takes the buffer it makes": the other stays
abbrev pub store_said : Created → Bytes → Answered
store_said o copy = answered (says o.says) o.buffer copy

abbrev pub copy_said : Created → Bytes → Answered
copy_said o store = answered (says o.says) store o.buffer

abbrev pub requested : Bytes → Bytes → TheRequest → Bytes → Answered
requested store copy CreateStore x = store_said (create_store store) copy
requested store copy (CreateCopy seat) x = copy_said (create_copy copy seat) store
requested store copy (ToCall k) x = called store copy (call_of k x)
