-- W1 of document 02 for the code: "From now on a commit writes its changes by rising sheet number, and its content blocks in the order of the changes that point to them. Stores already
-- written in another order are still accepted and read. Two fresh stores of one size whose calls make the same history then hold equal bytes."
-- Of the calls nothing is known but their functions' own contracts: `Made` and `Trace` are those of Demand3.
-- Assumes nothing.
use Rattle.std.specs.Prelude.{Ok, Result}
use Prim.Native.Nat.{◌<◌, ◌^◌, ◌≤◌, ℕ}
use mathlib.Core.List.{List}
use mathlib.Core.Path.{◌∙◌, ◌≡◌, ap, subst, sym}
use denote.Ref.{Bor}
use Rattle.model.specs.Calls.{Buffers, Out, fresh_buffers, run_on, side_in}
use Rattle.model.specs.Demand2.{LaidStore}
use Rattle.model.specs.History.{Bytes, last}
use Rattle.model.specs.Log.{Log, commits as commits_of, released}
use Rattle.model.specs.Machine.{Commits, Release, done, fresh, new_commit, revision}
use Rattle.model.specs.Order.{continued, store_bytes}
use Rattle.model.specs.Ordered.{Appends, AppendsMark}
use Rattle.model.specs.Run.{AllValid, Turn, accepted_log}
use Rattle.model.specs.Shows.{AllAccepted, state_in}
use Rattle.model.specs.Store.{bare_of, tail_of}
use Rattle.model.specs.Types.{answer_of}
use Rattle.model.specs.declared.Answer.{Answer as TheAnswer}
use Rattle.laws.proofs.Ordered.{ordered}
use Rattle.store.specs.declared.Header.{Header}
use contract.Lifetimes.{Lfts}
use Rattle.engine.proofs.Demand2.{CodeDemand2, code_demand_two}
use Rattle.engine.proofs.Demand3.{CodeDemand3, Made, Read, Trace, code_demand_three, made_is, read_is, traced}
use Rattle.store.proofs.open.Reads as open-reads
use Rattle.model.specs.declared.Refusal.{Refusal}

-- THE STATEMENT

pub record CodeOrdered : Type 2 where
  -- the functions meet their contracts, of which `Made`, `Trace` and `Read` speak; so does `open`
  pub calls_meet : CodeDemand3
  pub open_meets : CodeDemand2
  -- "From now on a commit writes its changes by rising sheet number, and its content blocks in the order of the changes that point to them.": a commit that answers a revision, on any
  -- buffers; every block that was in use stays as it was
  pub commits : {store copy store' copy' : Bytes} {stamp mask : ℕ} {r : Result TheAnswer Refusal} → Made store copy (Commits stamp mask) r store' copy' → stamp < 2 ^ 32
      → (R : ℕ) → answer_of r ≡ revision R → Appends store store' (new_commit (side_in store copy) stamp mask) R
  -- a release that is done, on any store: its block stands behind the used ones, which stay
  pub releases : {store copy store' copy' : Bytes} {R seat stamp : ℕ} {r : Result TheAnswer Refusal} → Made store copy (Release R seat stamp) r store' copy' → stamp < 2 ^ 32
      → answer_of r ≡ done → AppendsMark store store' (released R seat stamp)
  -- "Stores already written in another order are still accepted and read.": `open` accepts every layout of a history, which leaves the order free, and `read_place` finds its sheets
  pub opened : (κs : Lfts 1) (x x' : Bor Bytes) (r : Result Header Refusal) → open-reads.Learnt κs (x, tt) r (x', tt) → (g : Log) → LaidStore x.now g → (t : Header) × (r ≡ Ok t)
  pub found : (store : Bytes) (g : Log) → LaidStore store g → (R i : ℕ) → R ≤ last (commits_of g) → i ≤ 31 → Read store (commits_of g) R i
  -- and calls go on with them: behind the blocks in use, which stay, the commits that were accepted and the releases, in this order; a tail that is left counts as zero blocks
  pub lists : {b b' : Buffers} {ts : List Turn} {rs : List (Result TheAnswer Refusal)} → AllAccepted b → AllValid ts → Trace b ts rs b'
      → bare_of b'.store ≡ continued b.store (accepted_log (state_in b) ts)
  -- from a fresh store of N blocks and four fresh copies, where the calls leave no tail: the bytes follow from N, the accepted commits and the releases in their places:
  -- "For layout and W1 a history includes its releases and their places."
  pub bytes : (N : ℕ) → 2 ≤ N → N ≤ 4_096 → {b : Buffers} {ts : List Turn} {rs : List (Result TheAnswer Refusal)} → AllValid ts → Trace (fresh_buffers N) ts rs b
      → tail_of b.store ≡ 0 → b.store ≡ store_bytes N (accepted_log (fresh N) ts)
  -- "Two fresh stores of one size whose calls make the same history then hold equal bytes."
  pub equal : (N : ℕ) → 2 ≤ N → N ≤ 4_096 → {b c : Buffers} {ts us : List Turn} {rs qs : List (Result TheAnswer Refusal)} → AllValid ts → AllValid us
      → Trace (fresh_buffers N) ts rs b → Trace (fresh_buffers N) us qs c → tail_of b.store ≡ 0 → tail_of c.store ≡ 0 → accepted_log (fresh N) ts ≡ accepted_log (fresh N) us → b.store ≡ c.store
  -- and back: equal bytes are the same history
  pub back : (N : ℕ) → 2 ≤ N → N ≤ 4_096 → {b c : Buffers} {ts us : List Turn} {rs qs : List (Result TheAnswer Refusal)} → AllValid ts → AllValid us
      → Trace (fresh_buffers N) ts rs b → Trace (fresh_buffers N) us qs c → b.store ≡ c.store → accepted_log (fresh N) ts ≡ accepted_log (fresh N) us

-- THE PROOF

left : {b b' : Buffers} {ts : List Turn} {rs : List (Result TheAnswer Refusal)} → Trace b ts rs b' → b'.store ≡ (run_on b ts).store
left T = ap (λ (x : Buffers). x.store) (traced T).1

pub code_ordered : CodeOrdered
code_ordered = record {
  calls_meet = code_demand_three;
  open_meets = code_demand_two;
  commits = λ {store} {copy} {store'} {copy'} {stamp} {mask} m small R q.
      let e = made_is m in
      subst (λ (s : Bytes). Appends store s (new_commit (side_in store copy) stamp mask) R) (sym (ap (λ (o : Out). o.store) e))
      (ordered.commits store copy stamp mask R small (sym (ap (λ (o : Out). o.says) e) ∙ q));
  releases = λ {store} {copy} {store'} {copy'} {R} {seat} {stamp} m small q.
      let e = made_is m in
      subst (λ (s : Bytes). AppendsMark store s (released R seat stamp)) (sym (ap (λ (o : Out). o.store) e))
      (ordered.releases store R seat stamp small (sym (ap (λ (o : Out). o.says) e) ∙ q));
  opened = λ κs x x' r l h L. (code_demand_two.opens κs x x' r l).accepted.1 (h, L);
  found = λ store g L R i le small. read_is store (commits_of g) R i ((ordered.another store g L).found R i le small);
  lists = λ {b} {b'} {ts} A v T. ap bare_of (left T) ∙ ordered.lists b ts A v;
  bytes = λ N lo hi {b} {ts} v T z. left T ∙ ordered.bytes N ts lo hi v (ap tail_of (sym (left T)) ∙ z);
  equal = λ N lo hi {b} {c} {ts} {us} v w T U y z e. left T ∙ ordered.equal N ts us lo hi v w (ap tail_of (sym (left T)) ∙ y) (ap tail_of (sym (left U)) ∙ z) e ∙ sym (left U);
  back = λ N lo hi {b} {c} {ts} {us} v w T U e. ordered.back N ts us lo hi v w (sym (left T) ∙ e ∙ left U);
}
