-- Demand 1 for the code: every call, on every buffer and number, is done as the machine does it, or answers the refusal whose condition is the first in the document's order that
-- holds, with every buffer unchanged. It is said of each call's own function, and of the engine as one piece (`call`) for every request. What whoever calls a function learns is taken
-- from that function's own contract (`Learnt`). That each function ends on every input, and never does anything undefined, is part of what it means that it meets its contract
-- (`CodeDemand3`, `CodeDemand2`, and here).
-- Assumes nothing.
use Rattle.std.specs.Prelude.{Result}
use Prim.Native.Nat.{◌<◌, ◌^◌, ℕ}
use mathlib.Core.List.{[]}
use mathlib.Core.Logic.{◌↔◌}
use mathlib.Core.Option.{Option, none, some}
use mathlib.Core.Path.{◌∙◌, ◌≡◌, ap, refl, subst, sym}
use denote.Ref.{Bor, MutBor}
use Rattle.model.specs.Calls.{Out, Place as Spot, both_conditions, call, conditions_in, create_copy, create_store, found_place, heard, out, panel_place, place_by, read_place, store_conditions, store_only_conditions, store_refusal, store_side}
use Rattle.model.specs.Demand1.{Cleared, ClearedSome, Demand1, DoneOn, MarkMade}
use Rattle.model.specs.History.{Bytes}
use Rattle.model.specs.Log.{panel_revision}
use Rattle.model.specs.Machine.{Add, Answer, Call, Clears, ClearsCut, Commits, CommitsCut, Copy, Delete, Edit, Log, Move, Panel, Read, Release, Revert, Show, Status, Update, doing, refused}
use Rattle.model.specs.Refusals.{Clear, First}
use Rattle.model.specs.Run.{Typed}
use Rattle.model.specs.Store.{store_marks}
use Rattle.model.specs.Types.{answer_of, created_as, place_of}
use Rattle.laws.proofs.Demand1.{demand_one}
use Rattle.inner.specs.Performs.{call_of, told}
use Rattle.inner.specs.declared.Reply.{Reply}
use Rattle.inner.specs.declared.Reply.TheVariants.{At, Said}
use Rattle.engine.specs.Request.{Answered, Tells, called, requested, says, stands, tells_of}
use Rattle.engine.specs.declared.Request.{Request}
use Rattle.engine.specs.declared.Request.TheVariants.{Call as ToCall, CreateCopy, CreateStore}
use Rattle.engine.proofs.Demand3.{Made, made_is}
use Rattle.model.specs.declared.Answer.{Answer as TheAnswer}
use Rattle.model.specs.declared.Place.{Place}
use contract.Lifetimes.{Lfts}
use Rattle.engine.proofs.status.Met as status-met
use Rattle.engine.proofs.status.Reads as status-reads
use Rattle.engine.proofs.status.Statement as status-statement
use Rattle.engine.proofs.show_place.Met as show-met
use Rattle.engine.proofs.show_place.Reads as show-reads
use Rattle.engine.proofs.show_place.Statement as show-statement
use Rattle.engine.proofs.log.Met as log-met
use Rattle.engine.proofs.log.Reads as log-reads
use Rattle.engine.proofs.log.Statement as log-statement
use Rattle.engine.proofs.read_place.Met as read-met
use Rattle.engine.proofs.read_place.Reads as read-reads
use Rattle.engine.proofs.read_place.Statement as read-statement
use Rattle.engine.proofs.panel_place.Met as panel-met
use Rattle.engine.proofs.panel_place.Reads as panel-reads
use Rattle.engine.proofs.panel_place.Statement as panel-statement
use Rattle.engine.proofs.create_store.Met as create-store-met
use Rattle.engine.proofs.create_store.Reads as create-store-reads
use Rattle.engine.proofs.create_store.Statement as create-store-statement
use Rattle.engine.proofs.create_copy.Met as create-copy-met
use Rattle.engine.proofs.create_copy.Reads as create-copy-reads
use Rattle.engine.proofs.create_copy.Statement as create-copy-statement
use Rattle.engine.proofs.call.Met as call_met
use Rattle.engine.proofs.call.Reads as call-reads
use Rattle.engine.proofs.call.Statement as call-statement
use Rattle.model.specs.declared.Refusal.{Refusal}

-- THE STATEMENT

-- a call that only looks, as code makes it: on this store and copy it answers a; of read, a panel's reading and show, the bytes that stand at the place that their companions answer
pub data Looked : Bytes → Bytes → Call → Answer → Type 0 where
  statuses : {i : ℕ} (κs : Lfts 1) (x y x' y' : Bor Bytes) (r : Result TheAnswer Refusal)
      → status-reads.Learnt κs (x, (y, (i, tt))) r (x', (y', (i, tt))) → Looked x.now y.now (Status i) (answer_of r)
  shows : {i : ℕ} (κs : Lfts 1) (x y x' y' : Bor Bytes) (r : Result Place Refusal)
      → show-reads.Learnt κs (x, (y, (i, tt))) r (x', (y', (i, tt))) → Looked x.now y.now (Show i) (heard x.now y.now (place_of r))
  logs : {R i : ℕ} {copy : Bytes} (κs : Lfts 1) (x x' : Bor Bytes) (r : Result TheAnswer Refusal)
      → log-reads.Learnt κs (x, (R, (i, tt))) r (x', (R, (i, tt))) → Looked x.now copy (Log R i) (answer_of r)
  reads : {R i : ℕ} {copy : Bytes} (κs : Lfts 1) (x x' : Bor Bytes) (r : Result Place Refusal)
      → read-reads.Learnt κs (x, (R, (i, tt))) r (x', (R, (i, tt))) → Looked x.now copy (Read R i) (heard x.now [] (place_of r))
  panels : {R i : ℕ} {copy : Bytes} (κs : Lfts 1) (x x' : Bor Bytes) (r : Result Place Refusal)
      → panel-reads.Learnt κs (x, (R, (i, tt))) r (x', (R, (i, tt))) → Looked x.now copy (Panel R i) (heard x.now [] (place_of r))

-- what demand 1 says of a call's answer and of the buffers that it leaves
pub record Answers (store copy : Bytes) (c : Call) (o : Out) : Type 0 where
  -- "A number comes if and only if its condition is the first in the order that holds"
  pub numbered : (n : ℕ) → (o.says ≡ refused n) ↔ First (conditions_in store copy c) n
  -- "gives the refusal that document 01 fixes, with every buffer unchanged"
  pub stays : (n : ℕ) → o.says ≡ refused n → o ≡ out (refused n) store copy
  -- "either does the call"
  pub does : Typed c → Clear (both_conditions store copy c) → DoneOn store copy c o
  -- read and log, which take the store
  pub reads : (R i : ℕ) → c ≡ Read R i → Clear (store_only_conditions store c) → o ≡ out (doing (store_side store) c).0 store copy
  pub logs : (R i : ℕ) → c ≡ Log R i → Clear (store_only_conditions store c) → o ≡ out (doing (store_side store) c).0 store copy
  -- clearing, which takes the store; stopped after n writes or not
  pub clears : c ≡ Clears → Clear (store_conditions store) → Cleared store (record { says = o.says; buffer = o.store })
  pub clears_cut : (n : ℕ) → c ≡ ClearsCut n → Clear (store_conditions store) → ClearedSome store n (record { says = o.says; buffer = o.store })
  -- panel reading and a release, which take the store
  pub panels : (R i : ℕ) → c ≡ Panel R i → Clear (store_only_conditions store c) → o ≡ out (doing (store_side store) c).0 store copy
  pub releases : (R seat stamp : ℕ) → c ≡ Release R seat stamp → stamp < 2 ^ 32 → Clear (store_only_conditions store c)
      → MarkMade store (doing (store_side store) c) (record { says = o.says; buffer = o.store })

-- and of the answer to a request with these bytes beside it. "Create takes the buffer it makes": the other stays
abbrev pub AnswersTo : Bytes → Bytes → Request → Bytes → Out → Type 0
AnswersTo store copy CreateStore x o = (record { says = o.says; buffer = o.store } ≡ create_store store) × (o.copy ≡ copy)
AnswersTo store copy (CreateCopy seat) x o = (record { says = o.says; buffer = o.copy } ≡ create_copy copy seat) × (o.store ≡ store)
AnswersTo store copy (ToCall k) x o = Answers store copy (call_of k x) o

pub record CodeDemand1 : Type 2 where
  pub status_meets : (M : Type 1) → status-statement.statement M
  pub show_meets : (M : Type 1) → show-statement.statement M
  pub log_meets : (M : Type 1) → log-statement.statement M
  pub read_meets : (M : Type 1) → read-statement.statement M
  pub panel_meets : (M : Type 1) → panel-statement.statement M
  pub create_store_meets : (M : Type 1) → create-store-statement.statement M
  pub create_copy_meets : (M : Type 1) → create-copy-statement.statement M
  pub call_meets : (M : Type 1) → call-statement.statement M
  -- add, edit, delete, copy, move, commit, update, revert, clear, the cut calls, and release
  pub changes : {store copy store' copy' : Bytes} {c : Call} {r : Result TheAnswer Refusal} → Made store copy c r store' copy' → Answers store copy c (out (answer_of r) store' copy')
  -- status, show, log, read and panel reading, which change no buffer
  pub looks : {store copy : Bytes} {c : Call} {a : Answer} → Looked store copy c a → Answers store copy c (out a store copy)
  -- create of a store and of a copy
  pub creates_store : (κs : Lfts 1) (x x' : MutBor Bytes) (r : Result TheAnswer Refusal) → create-store-reads.Learnt κs (x, tt) r (x', tt)
      → created_as r x'.now ≡ create_store x.now
  pub creates_copy : (κs : Lfts 1) (x x' : MutBor Bytes) (seat seat' : ℕ) (r : Result TheAnswer Refusal) → create-copy-reads.Learnt κs (x, (seat, tt)) r (x', (seat', tt))
      → created_as r x'.now ≡ create_copy x.now seat
  -- the engine as one piece: any request; of read, panel reading and show, the bytes that stand at the place that it answers
  pub requests : (κs : Lfts 3) (x y : MutBor Bytes) (z : Bor Bytes) (x' y' : MutBor Bytes) (z' : Bor Bytes) (q q' : Request) (r : Reply) → call-reads.Learnt κs (x, (y, (q, (z, tt)))) r (x', (y', (q', (z', tt))))
      → AnswersTo x.now y.now q z.now (out (told x'.now y'.now r) x'.now y'.now)
  -- and what these definitions say of create: numbered, unchanged, or made; and of a panel's reading: read at the greatest released revision, or 8
  pub create : (store copy : Bytes) → Demand1 store copy

-- THE PROOF

-- an outcome that is the call's
answers : (store copy : Bytes) (c : Call) {o : Out} → o ≡ call store copy c → Answers store copy c o
answers store copy c e =
    let D = demand_one store copy in
    subst (Answers store copy c) (sym e)
    (record {
      numbered = (D.refuses c).numbered;
      stays = (D.refuses c).stays;
      does = D.does c;
      reads = λ R i q. subst (λ (k : Call). Clear (store_only_conditions store k) → call store copy k ≡ out (doing (store_side store) k).0 store copy) (sym q) (D.reads R i);
      logs = λ R i q. subst (λ (k : Call). Clear (store_only_conditions store k) → call store copy k ≡ out (doing (store_side store) k).0 store copy) (sym q) (D.logs R i);
      clears = λ q. subst (λ (k : Call). Clear (store_conditions store) → Cleared store (record { says = (call store copy k).says; buffer = (call store copy k).store })) (sym q) D.clears;
      clears_cut = λ n q. subst (λ (k : Call). Clear (store_conditions store) → ClearedSome store n (record { says = (call store copy k).says; buffer = (call store copy k).store })) (sym q) (D.clears_cut n);
      panels = λ R i q. subst (λ (k : Call). Clear (store_only_conditions store k) → call store copy k ≡ out (doing (store_side store) k).0 store copy) (sym q) (D.panels R i);
      releases = λ R seat stamp q small.
          subst (λ (k : Call). Clear (store_only_conditions store k) → MarkMade store (doing (store_side store) k) (record { says = (call store copy k).says; buffer = (call store copy k).store }))
          (sym q) (D.releases R seat stamp small);
    })

pub looked_is : {store copy : Bytes} {c : Call} {a : Answer} → Looked store copy c a → out a store copy ≡ call store copy c
looked_is (statuses κs x y x' y' r e) = ap (λ (a : Answer). out a x.now y.now) e
looked_is (shows κs x y x' y' r l) = ap (λ (p : Spot). out (heard x.now y.now p) x.now y.now) l.is
looked_is (logs {copy = copy} κs x x' r e) = ap (λ (a : Answer). out a x.now copy) e
looked_is (reads {copy = copy} κs x x' r l) = ap (λ (p : Spot). out (heard x.now [] p) x.now copy) l.is
looked_is (panels {copy = copy} κs x x' r l) = ap (λ (p : Spot). out (heard x.now [] p) x.now copy) l.is

-- read's place is in the store, and so is that of a panel's reading
found-heard : (store copy : Bytes) (R i : ℕ) (o : Option ℕ) → heard store copy (place_by o (found_place store R i)) ≡ heard store [] (place_by o (found_place store R i))
found-heard store copy R i (some n) = refl
found-heard store copy R i none = refl

read_heard : (store copy : Bytes) (R i : ℕ) → heard store copy (read_place store R i) ≡ heard store [] (read_place store R i)
unfolding read_place
read_heard store copy R i = found-heard store copy R i (store_refusal store (Read R i))

panel-heard : (store copy : Bytes) (R i : ℕ) → heard store copy (panel_place store R i) ≡ heard store [] (panel_place store R i)
unfolding panel_place
panel-heard store copy R i = found-heard store copy (panel_revision (store_marks store) R) i (store_refusal store (Panel R i))

-- the machine's answer of a reply's meaning
abbrev hears : Bytes → Bytes → Tells → Answer
hears store copy (says a) = a
hears store copy (stands p) = heard store copy p

abbrev heard_out : Answered → Out
heard_out w = out (hears w.store w.copy w.tells) w.store w.copy

called_is : (store copy : Bytes) (c : Call) → heard_out (called store copy c) ≡ call store copy c
called_is store copy (Add i x) = refl
called_is store copy (Edit i x) = refl
called_is store copy (Delete i) = refl
called_is store copy (Copy s t) = refl
called_is store copy (Move s t) = refl
called_is store copy (Commits stamp mask) = refl
called_is store copy (Update mask R) = refl
called_is store copy (Revert mask) = refl
called_is store copy (Read R i) = ap (λ (a : Answer). out a store copy) (read_heard store copy R i)
called_is store copy (Show i) = refl
called_is store copy (Status i) = refl
called_is store copy (Log R i) = refl
called_is store copy Clears = refl
called_is store copy (CommitsCut stamp mask n) = refl
called_is store copy (ClearsCut n) = refl
called_is store copy (Release R seat stamp) = refl
called_is store copy (Panel R i) = ap (λ (a : Answer). out a store copy) (panel-heard store copy R i)

told_is : (store copy : Bytes) (r : Reply) → told store copy r ≡ hears store copy (tells_of r)
told_is store copy (Said a) = refl
told_is store copy (At p) = refl

-- what whoever calls `call` learns
asked : (store copy x : Bytes) (q : Request) {o : Out} → o ≡ heard_out (requested store copy q x) → AnswersTo store copy q x o
asked store copy x CreateStore e = (ap (λ (o : Out). record { says = o.says; buffer = o.store }) e, ap (λ (o : Out). o.copy) e)
asked store copy x (CreateCopy seat) e = (ap (λ (o : Out). record { says = o.says; buffer = o.copy }) e, ap (λ (o : Out). o.store) e)
asked store copy x (ToCall k) e = answers store copy (call_of k x) (e ∙ called_is store copy (call_of k x))

pub code_demand_one : CodeDemand1
code_demand_one = record {
  status_meets = λ M. status-met.met;
  show_meets = λ M. show-met.met;
  log_meets = λ M. log-met.met;
  read_meets = λ M. read-met.met;
  panel_meets = λ M. panel-met.met;
  create_store_meets = λ M. create-store-met.met;
  create_copy_meets = λ M. create-copy-met.met;
  call_meets = λ M. call_met.met;
  changes = λ {store} {copy} {store'} {copy'} {c} {r} m. answers store copy c (made_is m);
  looks = λ {store} {copy} {c} {a} l. answers store copy c (looked_is l);
  creates_store = λ κs x x' r e. e;
  creates_copy = λ κs x x' seat seat' r e. e;
  requests = λ κs x y z x' y' z' q q' r l. asked x.now y.now z.now q (ap (λ (a : Answer). out a x'.now y'.now) (told_is x'.now y'.now r) ∙ ap heard_out l.0);
  create = demand_one;
}
