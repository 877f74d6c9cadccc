-- W3 of document 02 for the code: "Finding a sheet in tree R now also gives the number of the last commit up to R that named it, or 0 if none did. Status answers it for the last tree, and the
-- companions of read and of show from the store where they don't refuse. Update and the out-of-date rule use it, outcomes unchanged."
-- Of the calls nothing is known but their functions' own contracts. `Looked` is that of Demand1, `Trace` that of Demand3.
-- Assumes nothing.
use Rattle.std.specs.Prelude.{Ok, Result}
use Prim.Native.Nat.{◌≤◌, ℕ}
use mathlib.Core.List.{List, [], ◌++◌}
use mathlib.Core.Path.{◌∙◌, ◌≡◌, ap, subst, sym}
use denote.Ref.{Bor}
use lib.Dec.{eqb, ltb}
use Rattle.model.specs.Calls.{Buffers, Out, fresh_buffers, run_on}
use Rattle.model.specs.History.{Bytes, History, last, named_after}
use Rattle.model.specs.Machine.{Answer, Log, fresh, same_namer}
use Rattle.model.specs.Run.{AllValid, Turn, accepted}
use Rattle.model.specs.SetBy.{LastNamer, Numbered, action_in}
use Rattle.model.specs.Store.{store_history}
use Rattle.model.specs.declared.Answer.{Answer as TheAnswer}
use Rattle.model.specs.declared.Answer.TheVariants.{Status}
use Rattle.model.specs.declared.Place.TheVariants.{InStore}
use Rattle.model.specs.declared.Span.{Span}
use Rattle.model.specs.declared.Standing.{Standing}
use Rattle.laws.proofs.Demand3.{valid-append}
use Rattle.laws.proofs.Ordered.{list_history}
use Rattle.laws.proofs.SetBy.{one_number, set_by}
use contract.Lifetimes.{Lfts}
use Rattle.engine.proofs.Demand1.{CodeDemand1, Looked, code_demand_one, looked_is}
use Rattle.engine.proofs.Demand3.{CodeDemand3, Trace, code_demand_three, run-append, traced}
use Rattle.engine.proofs.read_place.Reads as read-reads
use Rattle.engine.proofs.show_place.Reads as show-reads
use Rattle.engine.proofs.status.Reads as status-reads
use Rattle.model.specs.declared.Refusal.{Refusal}

-- THE STATEMENT

-- a call on this store gave the number n for sheet i at R: `read_place` at its R, `show_place` and `status` at the last. A part of the working copy and a refusal have no number
pub data Gave : Bytes → ℕ → ℕ → ℕ → Type 0 where
  reads : {R i n : ℕ} (κs : Lfts 1) (x x' : Bor Bytes) (p : Span)
      → read-reads.Learnt κs (x, (R, (i, tt))) (Ok (InStore p n)) (x', (R, (i, tt))) → Gave x.now R i n
  shows : {i n : ℕ} (κs : Lfts 1) (x y x' y' : Bor Bytes) (p : Span)
      → show-reads.Learnt κs (x, (y, (i, tt))) (Ok (InStore p n)) (x', (y', (i, tt))) → Gave x.now (last (store_history x.now)) i n
  statuses : {i : ℕ} (κs : Lfts 1) (x y x' y' : Bor Bytes) (s : Standing)
      → status-reads.Learnt κs (x, (y, (i, tt))) (Ok (Status s)) (x', (y', (i, tt))) → Gave x.now (last (store_history x.now)) i s.revision

pub record CodeSetBy : Type 2 where
  -- the functions meet their contracts, of which `Gave`, `Looked` and `Trace` speak
  pub looks_meet : CodeDemand1
  pub calls_meet : CodeDemand3
  -- it is the greatest commit up to R that names the sheet, 0 exactly if none does
  pub number : {store : Bytes} {R i n : ℕ} → Gave store R i n → LastNamer (store_history store) R i n
  -- and `log` of that revision tells an action other than nothing
  pub logged : {store copy : Bytes} {R i n : ℕ} {a : Answer} → Gave store R i n → 1 ≤ n → Looked store copy (Log n i) a → 1 ≤ action_in a
  -- update and the out-of-date rule go by these numbers
  pub updates : {store : Bytes} {R b i n m : ℕ} → Gave store R i n → Gave store b i m → same_namer (store_history store) i R b ≡ eqb n m
  pub stale : {store : Bytes} {i n : ℕ} → Gave store (last (store_history store)) i n → (b : ℕ) → named_after (store_history store) b i ≡ ltb b n
  -- after any list of calls from fresh buffers it follows from the accepted commits alone
  pub lists : (N : ℕ) (ts : List Turn) → 2 ≤ N → N ≤ 4_096 → AllValid ts → {rs : List (Result TheAnswer Refusal)} {b : Buffers} → Trace (fresh_buffers N) ts rs b
      → {R i n : ℕ} → Gave b.store R i n → LastNamer (accepted (fresh N) ts) R i n
  -- and a number found at R stays: a call after any longer list gives the same
  pub lasting : (N : ℕ) (ts us : List Turn) → 2 ≤ N → N ≤ 4_096 → AllValid ts → AllValid us
      → {rs qs : List (Result TheAnswer Refusal)} {b b' : Buffers} → Trace (fresh_buffers N) ts rs b → Trace b us qs b'
      → {R i n m : ℕ} → Gave b.store R i n → Gave b'.store R i m → m ≡ n

-- THE PROOF

gave_numbered : {store : Bytes} {R i n : ℕ} → Gave store R i n → Numbered store R i n
gave_numbered (reads {R} {i} {n} κs x x' p l) = ((set_by.calls x.now []).reads R i p.start p.len n (sym l.is)).0
gave_numbered (shows {i} {n} κs x y x' y' p l) = ((set_by.calls x.now y.now).shows i p.start p.len n (sym l.is)).0
gave_numbered (statuses {i} κs x y x' y' s e) = (set_by.calls x.now y.now).tells i s.status s.revision (sym e)

-- what a list of calls leaves has the history of its accepted commits
history_is : (N : ℕ) (ts : List Turn) → 2 ≤ N → N ≤ 4_096 → AllValid ts → {b : Buffers} → b ≡ run_on (fresh_buffers N) ts → store_history b.store ≡ accepted (fresh N) ts
history_is N ts lo hi v e = ap (λ (b : Buffers). store_history b.store) e ∙ list_history N ts lo hi v

pub code_set_by : CodeSetBy
code_set_by = record {
  looks_meet = code_demand_one;
  calls_meet = code_demand_three;
  number = λ g. (gave_numbered g).is;
  logged = λ {store} {copy} {R} {i} {n} {a} g l k.
      subst (λ (o : Out). 1 ≤ action_in o.says) (sym (looked_is k)) ((gave_numbered g).logs l);
  updates = λ {store} {R} {b} {i} {n} {m} g k. set_by.updates (store_history store) R b i n m (gave_numbered g).is (gave_numbered k).is;
  stale = λ {store} {i} {n} g b. set_by.stale (store_history store) b i n (gave_numbered g).is;
  lists = λ N ts lo hi v {rs} {b} T {R} {i} {n} g. subst (λ (h : History). LastNamer h R i n) (history_is N ts lo hi v (traced T).1) (gave_numbered g).is;
  lasting = λ N ts us lo hi v w {rs} {qs} {b} {b'} T U {R} {i} {n} {m} g k.
      let e = history_is N ts lo hi v (traced T).1 in
      let q : b' ≡ run_on (fresh_buffers N) (ts ++ us) = (traced U).1 ∙ ap (λ (x : Buffers). run_on x us) (traced T).1 ∙ sym (run-append (fresh_buffers N) ts us) in
      let G = gave_numbered g in
      let L = (set_by.lists N ts lo hi v).stays us R i n (subst (λ (h : History). R ≤ last h) e G.within) (subst (λ (h : History). LastNamer h R i n) e G.is) in
      let M = subst (λ (h : History). LastNamer h R i m) (history_is N (ts ++ us) lo hi (valid-append ts us v w) q) (gave_numbered k).is in
      one_number (accepted (fresh N) (ts ++ us)) R i m n M L;
}
