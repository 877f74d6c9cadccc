-- Demand 2 for the code: "A store is accepted exactly when its blocks are the layout of some history, and reading back what a history was laid out as gives that
-- history." What whoever calls `store::open`, `tails::count`, `read` and `log` learns is taken from each function's own contract (`Learnt`), of which no text is repeated here, and
-- that the code meets the contract (`met`) stands in the same record.
-- Assumes nothing.
use Rattle.std.specs.Prelude.{Ok, Result}
use Prim.Native.Nat.{◌≤◌, ℕ}
use mathlib.Core.Bool.{◌||◌, false, true}
use mathlib.Core.List.{[]}
use mathlib.Core.Logic.{◌↔◌}
use mathlib.Core.Option.{some}
use mathlib.Core.Path.{◌∙◌, ◌≡◌, ap, subst, sym}
use native.Mathlib.Omega.{arith}
use borrow.Author.Tests.{le-ltb}
use denote.Ref.{Bor}
use lib.Dec.{ltb}
use lib.ListN.{drop, take}
use Rattle.model.specs.Calls.{Place, log_call, part_of, read_place}
use Rattle.model.specs.Demand2.{LaidStore}
use Rattle.model.specs.History.{Bytes, History, commit_at, last, namer, present, sheet}
use Rattle.model.specs.Log.{Log, commits}
use Rattle.model.specs.Machine.{log_of}
use Rattle.model.specs.Refusals.{no_sheet}
use Rattle.model.specs.Store.{block_count, block_used, store_history, store_log, tail_of, used_of}
use Rattle.model.specs.Tail.{Tailed}
use Rattle.model.specs.Types.{answer_of}
use Rattle.model.specs.declared.Answer.{Answer}
use Rattle.laws.proofs.Demand2.{demand_two}
use Rattle.laws.proofs.Places.{heard-block}
use Rattle.laws.proofs.Store.{taken_tailed}
use Rattle.inner.proofs.Looking.{beyond_last, log-there, read_found}
use Rattle.search.proofs.Finding.{block_lacks, open_asked}
use Rattle.store.proofs.Opening.{accepted_open, open_accepted}
use Rattle.store.specs.Opened.{open_of}
use Rattle.store.specs.declared.Header.{Header}
use contract.Lifetimes.{Lfts}
use Rattle.store.proofs.open.Met as open-met
use Rattle.store.proofs.open.Reads as open-reads
use Rattle.store.proofs.open.Statement as open-statement
use Rattle.tails.proofs.count.Met as count-met
use Rattle.tails.proofs.count.Reads as count-reads
use Rattle.tails.proofs.count.Statement as count-statement
use Rattle.engine.proofs.log.Met as log-met
use Rattle.engine.proofs.log.Reads as log-reads
use Rattle.engine.proofs.log.Statement as log-statement
use Rattle.engine.proofs.read.Met as read-met
use Rattle.engine.proofs.read.Reads as read-reads
use Rattle.engine.proofs.read.Statement as read-statement
use Rattle.model.specs.declared.Refusal.{Refusal}

-- THE STATEMENT

-- what `open` answers on these bytes
pub record Opens (store : Bytes) (r : Result Header Refusal) : Type 0 where
  -- it is `Open` exactly where they are the layout of some history with its releases, with a tail or without
  pub accepted : ((t : Header) × (r ≡ Ok t)) ↔ ((g : Log) × LaidStore store g)
  -- with the number of its commits as the last revision
  pub length : (t : Header) (g : Log) → r ≡ Ok t → LaidStore store g → t.last ≡ last (commits g)
  -- and U is the number of the blocks before its tail
  pub uses : (t : Header) (g : Log) → r ≡ Ok t → (L : LaidStore store g) → t.used ≡ L.used
  -- and the history that is read back is that history, with its releases in their places
  pub read_back : (g : Log) → LaidStore store g → (store_log store ≡ g) × (store_history store ≡ commits g)

pub record CodeDemand2 : Type 2 where
  pub open_meets : (M : Type 1) → open-statement.statement M
  pub count_meets : (M : Type 1) → count-statement.statement M
  pub read_meets : (M : Type 1) → read-statement.statement M
  pub log_meets : (M : Type 1) → log-statement.statement M
  -- `open` of any bytes
  pub opens : (κs : Lfts 1) (x x' : Bor Bytes) (r : Result Header Refusal) → open-reads.Learnt κs (x, tt) r (x', tt) → Opens x.now r
  -- of the layout of a history, `count` answers how many blocks its tail has
  pub counts : (κs : Lfts 1) (x x' : Bor Bytes) (used used' r : ℕ) → count-reads.Learnt κs (x, (used, tt)) r (x', (used', tt))
      → (g : Log) (L : LaidStore x.now g) → r ≡ L.tail
  -- `read` hands back the bytes of its trees
  pub reads : (κs : Lfts 1) (x x' r : Bor Bytes) (R i R' i' : ℕ) → read-reads.Learnt κs (x, (R, (i, tt))) r (x', (R', (i', tt)))
      → (g : Log) → LaidStore x.now g → R ≤ last (commits g) → i ≤ 31 → (b : Bytes) → sheet (commits g) R i ≡ some b → r.now ≡ b
  -- and `log` tells of its commits
  pub logs : (κs : Lfts 1) (x x' : Bor Bytes) (r : Result Answer Refusal) (R i R' i' : ℕ) → log-reads.Learnt κs (x, (R, (i, tt))) r (x', (R', (i', tt)))
      → (g : Log) → LaidStore x.now g → 1 ≤ R → R ≤ last (commits g) → i ≤ 31 → answer_of r ≡ log_of (commit_at (commits g) R) i

-- THE PROOF

abbrev head_of : Bytes → Header
head_of store = record { last = last (store_history store); used = used_of store }

opens_as : (store : Bytes) (r : Result Header Refusal) → r ≡ open_of store → Opens store r
opens_as store r e =
    let D = demand_two store [] in
    record {
      accepted = (
        λ p. D.store-accepted.0 (open_accepted store p.0 (sym e ∙ p.1)).0,
        λ p. (head_of store, e ∙ accepted_open store (D.store-accepted.1 p)),
      );
      length = λ t g o L. (open_accepted store t (sym e ∙ o)).1 ∙ ap last (D.store_read g L).1;
      uses = λ t g o L. (open_accepted store t (sym e ∙ o)).2 ∙ (D.store_read g L).2;
      read_back = λ g L. let q = D.store_read g L in (q.0, q.1);
    }

-- the layout of a history is open, with that history in it
laid_open : (store : Bytes) (g : Log) → LaidStore store g → (open_of store ≡ Ok (head_of store)) × (store_history store ≡ commits g)
laid_open store g L =
    let D = demand_two store [] in
    (accepted_open store (D.store-accepted.1 (g, L)), (D.store_read g L).1)

module _ (store : Bytes) (e : open_of store ≡ Ok (head_of store)) (R i : ℕ) (l : R ≤ last (store_history store)) (g : i ≤ 31) where
  in_line_lem : (no_sheet i || ltb (last (store_history store)) R) ≡ false
  in_line_lem = sym (beyond_last i (ltb (last (store_history store)) R) g) ∙ le-ltb (last (store_history store)) R l

  log-tells : 1 ≤ R → log_call store R i ≡ log_of (commit_at (store_history store) R) i
  log-tells one = sym (log-there store R i (head_of store) e in_line_lem (λ z. omega arith))

  module _ (b : Bytes) (s : sheet (store_history store) R i ≡ some b) where
    held : Tailed (block_count store) store (store_history store) (used_of store) (tail_of store)
    held = taken_tailed store (open_accepted store (head_of store) e).0

    used : block_used store R i ≡ 0 → ⊥
    used z =
        let n : present (sheet (store_history store) R i) ≡ false = (block_lacks store (block_count store) (used_of store) (open_asked store (head_of store) e) R i l).0 z in
        let y : present (sheet (store_history store) R i) ≡ true = ap present s in
        let w : ◌≡◌ {A = ℕ} 0 1 = cc in
        omega arith

    read_bytes : take (part_of (read_place store R i)).1 (drop (part_of (read_place store R i)).0 store) ≡ b
    read_bytes =
        let heard = heard-block (block_count store) store [] (store_history store) (used_of store) (tail_of store) R i (namer (store_history store) R i) b held l s in
        ap (λ (q : Place). take (part_of q).1 (drop (part_of q).0 store)) (sym (read_found store R i (head_of store) e in_line_lem used)) ∙ cc heard

pub code_demand_two : CodeDemand2
code_demand_two = record {
  open_meets = λ M. open-met.met;
  count_meets = λ M. count-met.met;
  read_meets = λ M. read-met.met;
  log_meets = λ M. log-met.met;
  opens = λ κs x x' r e. opens_as x.now r e;
  counts = λ κs x x' used used' r e g L. e ∙ ((demand_two x.now []).store_read g L).3;
  reads = λ κs x x' r R i R' i' e k L l g b s.
      let o = laid_open x.now k L in
      e.bytes
      ∙ read_bytes x.now o.0 R i (subst (λ (y : History). R ≤ last y) (sym o.1) l) g b (subst (λ (y : History). sheet y R i ≡ some b) (sym o.1) s);
  logs = λ κs x x' r R i R' i' e k L one l g.
      let o = laid_open x.now k L in
      e
      ∙ log-tells x.now o.0 R i (subst (λ (y : History). R ≤ last y) (sym o.1) l) g one
      ∙ ap (λ (y : History). log_of (commit_at y R) i) o.1;
}
