-- W1 of document 02 for scripts: which stores `replay` takes, and what it leaves in them. What whoever calls `replay` learns is taken from that function's own contract (`Learnt`), and that
-- the code meets the contract (`met`) stands in the same record. The calls of a script are `turns_of`; every list of calls is the list of its script (Encoding).
-- Assumes nothing.
use Rattle.std.specs.Prelude.{Result}
use Prim.Native.Nat.{◌*◌, ◌<◌, ◌≤◌, suc, zero, ℕ}
use mathlib.Core.Bool.{Bool, ◌||◌, cond, false, not, true}
use mathlib.Core.List.{List, [], ◌++◌, ◌∷◌}
use mathlib.Core.Option.{Option, none, some}
use mathlib.Core.Path.{◌∙◌, ◌≡◌, ap, sym}
use native.Mathlib.Omega.{arith}
use contract.Lifetimes.{Lfts}
use denote.Ref.{Bor, MutBor}
use lib.Dec.{eqb, lit≤, ltb}
use lib.ListN.{drop, get_or, length}
use Rattle.block.specs.Lists.{All}
use Rattle.laws.proofs.All.{all_append}
use Rattle.laws.proofs.Conditions.{clear, clear_first}
use Rattle.laws.proofs.Demand2.{demand_two}
use Rattle.laws.proofs.Ordered.{ordered}
use Rattle.model.specs.Calls.{Buffers, fresh_buffers, run_on, store_conditions}
use Rattle.model.specs.Demand2.{LaidStore}
use Rattle.model.specs.History.{Bytes, History}
use Rattle.model.specs.Log.{Log, commits}
use Rattle.model.specs.Machine.{Answer, done, fresh, refusal, refused}
use Rattle.model.specs.Order.{continued, store_bytes}
use Rattle.model.specs.Refusals.{Condition, ◌when◌, first_of}
use Rattle.model.specs.Run.{AllValid, Turn, accepted_log, answers}
use Rattle.model.specs.Shows.{AllAccepted, state_in}
use Rattle.model.specs.Store.{bare_of, tail_of}
use Rattle.model.specs.Types.{answer_of}
use Rattle.model.specs.declared.Answer.{Answer as TheAnswer}
use Rattle.replay.proofs.Demand3.{was_done}
use Rattle.replay.proofs.Faults.{script_good}
use Rattle.replay.proofs.Machine.{four-accepted, left_by, valid_script}
use Rattle.replay.proofs.replay.Met as replay-met
use Rattle.replay.proofs.replay.Reads as replay-reads
use Rattle.replay.proofs.replay.Statement as replay-statement
use Rattle.replay.specs.Desk.{Desk, buffers_in, copy_at, desk}
use Rattle.replay.specs.Records.{records_of}
use Rattle.replay.specs.Replay.{Replayed, copy_lines, lines_from, replay_by, replay_refusal}
use Rattle.replay.specs.Script.{script_ok, turns_of}
use Rattle.model.specs.declared.Refusal.{Refusal}

-- THE STATEMENT

-- a script that `replay` ran as code does: on this store and these copies it answers done, and leaves this store
pub data Ran : Bytes → Bytes → Bytes → Bytes → Type 0 where
  ran : {r : Result TheAnswer Refusal} (κs : Lfts 4) (s : Bor Bytes) (x y z : MutBor Bytes) (s' : Bor Bytes) (x' y' z' : MutBor Bytes) → ((i : ℕ) → get_or s.now i 0 < 256)
      → replay-reads.Learnt κs (s, (x, (y, (z, tt)))) r (s', (x', (y', (z', tt)))) → answer_of r ≡ done → Ran s.now x.now y.now x'.now

-- the commits and releases of a script that are accepted on a fresh store of N blocks, in their common order
abbrev pub log_of : ℕ → Bytes → Log
log_of N script = accepted_log (fresh N) (turns_of script)

-- of a script on buffers whose store is a layout of the commits h, with any releases among them, where `old` are the answers' buffer before and `records` after
pub record Taken (script : Bytes) (b : Buffers) (old : Bytes) (h : History) (r : Result TheAnswer Refusal) (records : Bytes) : Type 0 where
  pub refusals : (n : ℕ) → answer_of r ≡ refused n → 4 ≤ n
  pub history : (state_in b).history ≡ h
  pub answer : answer_of r ≡ done → records ≡ records_of (answers (state_in b) (turns_of script)) ++ drop (512 * length (turns_of script)) old

pub record ReplayOrdered : Type 2 where
  pub replay_meets : (M : Type 1) → replay-statement.statement M
  -- "Stores already written in another order are still accepted and read.": a store that is a layout of a history, in whatever order, is no reason to refuse a script (refusals 1 to 3), and the
  -- answers of a script that is run, those of read among them, are the machine's from that history
  pub another : (κs : Lfts 4) (s : Bor Bytes) (x y z : MutBor Bytes) (s' : Bor Bytes) (x' y' z' : MutBor Bytes) (r : Result TheAnswer Refusal) → replay-reads.Learnt κs (s, (x, (y, (z, tt)))) r (s', (x', (y', (z', tt))))
      → (g : Log) → LaidStore x.now g → Taken s.now (buffers_in x.now y.now) z.now (commits g) r z'.now
  -- "From now on a commit writes its changes by rising sheet number, and its content blocks in the order of the changes that point to them.": behind the blocks in use, which stay, in
  -- whatever order they are, the commits that were accepted and the releases; a tail that is left counts as zero blocks
  pub scripts : {script store copies store' : Bytes} → Ran script store copies store' → bare_of store' ≡ continued store (accepted_log (state_in (buffers_in store copies)) (turns_of script))
  -- from a fresh store of N blocks and four fresh copies, where no tail is left: the bytes follow from N, the accepted commits and the releases in their places
  pub bytes : (N : ℕ) → 2 ≤ N → N ≤ 4_096 → {script store copies store' : Bytes} → Ran script store copies store' → buffers_in store copies ≡ fresh_buffers N
      → tail_of store' ≡ 0 → store' ≡ store_bytes N (log_of N script)
  -- "Two fresh stores of one size whose calls make the same history then hold equal bytes."
  pub equal : (N : ℕ) → 2 ≤ N → N ≤ 4_096 → {s t x y u v x' u' : Bytes} → Ran s x y x' → Ran t u v u' → buffers_in x y ≡ fresh_buffers N → buffers_in u v ≡ fresh_buffers N
      → tail_of x' ≡ 0 → tail_of u' ≡ 0 → log_of N s ≡ log_of N t → x' ≡ u'
  -- and back: equal bytes are the same history
  pub back : (N : ℕ) → 2 ≤ N → N ≤ 4_096 → {s t x y u v x' u' : Bytes} → Ran s x y x' → Ran t u v u' → buffers_in x y ≡ fresh_buffers N → buffers_in u v ≡ fresh_buffers N
      → x' ≡ u' → log_of N s ≡ log_of N t

-- THE PROOF

-- a run is the calls on buffers
record RanOn (script store copies store' : Bytes) : Type 0 where
  pub taken : AllAccepted (buffers_in store copies)
  pub valid : AllValid (turns_of script)
  pub left : store' ≡ (run_on (buffers_in store copies) (turns_of script)).store

ran_on : {script store copies store' : Bytes} → Ran script store copies store' → RanOn script store copies store'
ran_on (ran κs s x y z s' x' y' z' small L q) =
    let w = was_done (replay_refusal s.now x.now y.now z.now) (turns_of s.now) (desk x.now y.now z.now) (desk x'.now y'.now z'.now) L.is q in
    record {
      taken = four-accepted s.now x.now y.now z.now small w.0;
      valid = valid_script s.now small (script_good s.now x.now y.now z.now w.0);
      left = ap (λ (b : Buffers). b.store) (left_by s.now x.now y.now z.now small w.0 w.1).0;
    }

-- refusals 1 to 3 are the store's, and the lines after them have higher numbers
abbrev Later : List Condition → Type 0
Later cs = All (λ (c : Condition). 4 ≤ c.number) cs

later_first : (cs : List Condition) (n : ℕ) → Later cs → first_of cs ≡ some n → 4 ≤ n
later_first [] n a e = absurd (let z : ◌≡◌ {A = ℕ} 0 1 = cc in omega arith)
later_first (c ∷ cs) n a e = go c.holds (λ q. later_first cs n a.1 q) e
  where
    go : (t : Bool) → (first_of cs ≡ some n → 4 ≤ n) → cond t (some c.number) (first_of cs) ≡ some n → 4 ≤ n
    go true f q = let z : c.number ≡ n = cc q in omega (arith, a.0)
    go false f q = f q

later_lines : (store copies : Bytes) (k n : ℕ) → Later (lines_from store copies k n)
unfolding lines_from
later_lines store copies k zero = tt
later_lines store copies k (suc n) =
    all_append (λ (c : Condition). 4 ≤ c.number) (copy_lines store (copy_at copies k) (suc k)) (lines_from store copies (suc k) n)
    (lit≤ tt, (lit≤ tt, (lit≤ tt, (lit≤ tt, tt)))) (later_lines store copies (suc k) n)

-- the number that a script answers is that of the line that refused it
answered : (o : Option ℕ) (ts : List Turn) (b d : Desk) {a : Answer} → record { says = a; left = d } ≡ replay_by o ts b → refusal a ≡ o
answered none ts b d e = ap (λ (x : Replayed). refusal x.says) e
answered (some n) ts b d e = ap (λ (x : Replayed). refusal x.says) e

not_for_store : (script store copies old : Bytes) (n : ℕ) → first_of (store_conditions store) ≡ none → replay_refusal script store copies old ≡ some n → 4 ≤ n
unfolding replay_refusal
not_for_store script store copies old n t e =
    let end : Condition = 7 when (not (script_ok script) || ltb (length old) (length script)) in
    let rest : List Condition = 4 when not (eqb (length copies) 67_584) ∷ (lines_from store copies 0 4 ++ (end ∷ [])) in
    later_first rest n
    (lit≤ tt, all_append (λ (c : Condition). 4 ≤ c.number) (lines_from store copies 0 4) (end ∷ []) (later_lines store copies 0 4) (lit≤ tt, tt))
    (sym (clear_first (store_conditions store) rest (clear (store_conditions store) t)) ∙ e)

any_layout : (κs : Lfts 4) (s : Bor Bytes) (x y z : MutBor Bytes) (s' : Bor Bytes) (x' y' z' : MutBor Bytes) (r : Result TheAnswer Refusal) → replay-reads.Learnt κs (s, (x, (y, (z, tt)))) r (s', (x', (y', (z', tt))))
    → (g : Log) → LaidStore x.now g → Taken s.now (buffers_in x.now y.now) z.now (commits g) r z'.now
any_layout κs s x y z s' x' y' z' r L g l =
    let D = demand_two x.now [] in
    let o : Option ℕ = replay_refusal s.now x.now y.now z.now in
    let before : Desk = desk x.now y.now z.now in
    let after : Desk = desk x'.now y'.now z'.now in
    record {
      refusals = λ n q. not_for_store s.now x.now y.now z.now n (D.store-accepted.1 (g, l)) (sym (answered o (turns_of s.now) before after L.is) ∙ ap refusal q);
      history = (D.store_read g l).1;
      answer = λ q. (L.machine (was_done o (turns_of s.now) before after L.is q).0).answer;
    }

-- on fresh buffers
fresh-left : (N : ℕ) {script store copies store' : Bytes} → RanOn script store copies store' → buffers_in store copies ≡ fresh_buffers N
    → store' ≡ (run_on (fresh_buffers N) (turns_of script)).store
fresh-left N {script} o e = o.left ∙ ap (λ (b : Buffers). (run_on b (turns_of script)).store) e

pub replay_ordered : ReplayOrdered
replay_ordered = record {
  replay_meets = λ M. replay-met.met;
  another = any_layout;
  scripts = λ {script} {store} {copies} p. let o = ran_on p in ap bare_of o.left ∙ ordered.lists (buffers_in store copies) (turns_of script) o.taken o.valid;
  bytes = λ N lo hi {script} p e z. let o = ran_on p in fresh-left N o e ∙ ordered.bytes N (turns_of script) lo hi o.valid (ap tail_of (sym (fresh-left N o e)) ∙ z);
  equal = λ N lo hi {s} {t} p q e f y z same.
      let o = ran_on p in
      let w = ran_on q in
      fresh-left N o e
      ∙ ordered.equal N (turns_of s) (turns_of t) lo hi o.valid w.valid (ap tail_of (sym (fresh-left N o e)) ∙ y) (ap tail_of (sym (fresh-left N w f)) ∙ z) same
      ∙ sym (fresh-left N w f);
  back = λ N lo hi {s} {t} p q e f same.
      let o = ran_on p in
      let w = ran_on q in
      ordered.back N (turns_of s) (turns_of t) lo hi o.valid w.valid (sym (fresh-left N o e) ∙ same ∙ fresh-left N w f);
}
