-- Demand 3 in code: a script run by `replay` on a fresh store of 2 to 4,096 blocks and four fresh copies. What whoever calls `replay` learns is taken from that function's own contract
-- (`Learnt`), and that the code meets the contract (`met`) stands in the same record.
-- Assumes nothing.
use Rattle.std.specs.Prelude.{Result}
use Prim.Native.Nat.{◌*◌, ◌<◌, ◌≤◌, ℕ}
use mathlib.Core.List.{List, ◌++◌}
use mathlib.Core.Option.{Option, none, some}
use mathlib.Core.Path.{◌∙◌, ◌≡◌, ap, refl, subst, sym}
use native.Mathlib.Omega.{arith}
use contract.Lifetimes.{Lfts}
use denote.Ref.{Bor, MutBor}
use lib.ListN.{drop, get_or, length}
use Rattle.laws.proofs.All.{All-get_or}
use Rattle.laws.proofs.Demand3.{demand_three}
use Rattle.model.specs.Calls.{Buffers, answers_on, fresh_buffers, run_on}
use Rattle.model.specs.Demand3.{WholeList}
use Rattle.model.specs.History.{Bytes}
use Rattle.model.specs.Machine.{Answer, done, fresh, refused}
use Rattle.model.specs.Run.{AllValid, Turn, accepted, accepted_marks, answers}
use Rattle.model.specs.Types.{answer_of}
use Rattle.model.specs.declared.Answer.{Answer as TheAnswer}
use Rattle.replay.proofs.Encoding.{script_bytes, script_turns}
use Rattle.replay.proofs.Faults.{script_good}
use Rattle.replay.proofs.Machine.{left_by, valid_script}
use Rattle.replay.proofs.replay.Met as replay-met
use Rattle.replay.proofs.replay.Reads as replay-reads
use Rattle.replay.proofs.replay.Statement as replay-statement
use Rattle.replay.specs.Desk.{Desk, buffers_in, desk, ran_from}
use Rattle.replay.specs.Encoding.{AllRecorded, script_of}
use Rattle.replay.specs.Records.{records_of}
use Rattle.replay.specs.Replay.{Replayed, replay_by, replay_refusal}
use Rattle.replay.specs.Script.{turns_of}
use Rattle.model.specs.declared.Refusal.{Refusal}

-- THE STATEMENT

-- of N blocks and the calls ts: the records of every answer are those of the machine's answers, the rest of the answers' buffer is as it was, and of the buffers that are left every clause
-- of demand 3 holds
pub record ScriptDone (N : ℕ) (ts : List Turn) (old store copies records : Bytes) : Type 0 where
  pub answer : records ≡ records_of (answers (fresh N) ts) ++ drop (512 * length ts) old
  pub whole : WholeList N ts (buffers_in store copies) (accepted (fresh N) ts) (accepted_marks (fresh N) ts)

pub record ReplayDemand3 : Type 2 where
  pub replay_meets : (M : Type 1) → replay-statement.statement M
  -- a script of bytes, done on fresh buffers
  pub scripts : (N : ℕ) → 2 ≤ N → N ≤ 4_096 → (κs : Lfts 4) (s : Bor Bytes) (x y z : MutBor Bytes) (s' : Bor Bytes) (x' y' z' : MutBor Bytes) (r : Result TheAnswer Refusal) → ((i : ℕ) → get_or s.now i 0 < 256)
      → buffers_in x.now y.now ≡ fresh_buffers N → replay-reads.Learnt κs (s, (x, (y, (z, tt)))) r (s', (x', (y', (z', tt)))) → answer_of r ≡ done
      → ScriptDone N (turns_of s.now) z.now x'.now y'.now z'.now
  -- any list of calls by four seats that records have room for, refused ones included, given as its script
  pub lists : (N : ℕ) → 2 ≤ N → N ≤ 4_096 → (ts : List Turn) → AllRecorded ts → (κs : Lfts 4) (s : Bor Bytes) (x y z : MutBor Bytes) (s' : Bor Bytes) (x' y' z' : MutBor Bytes) (r : Result TheAnswer Refusal) → s.now ≡ script_of ts
      → buffers_in x.now y.now ≡ fresh_buffers N → replay-reads.Learnt κs (s, (x, (y, (z, tt)))) r (s', (x', (y', (z', tt)))) → answer_of r ≡ done
      → ScriptDone N ts z.now x'.now y'.now z'.now

-- THE PROOF

-- a run that answers done was not refused
pub was_done : (o : Option ℕ) (ts : List Turn) (b d : Desk) {a : Answer} → record { says = a; left = d } ≡ replay_by o ts b → a ≡ done → (o ≡ none) × (d ≡ ran_from 0 ts b)
was_done none ts b d e q = (refl, ap (λ (x : Replayed). x.left) e)
was_done (some n) ts b d e q = absurd (apart (sym q ∙ ap (λ (x : Replayed). x.says) e))
  where
    apart : done ≡ refused n → ⊥
    apart p = let z : ◌≡◌ {A = ℕ} 0 1 = cc in omega arith

scripts_done : (N : ℕ) → 2 ≤ N → N ≤ 4_096 → (κs : Lfts 4) (s : Bor Bytes) (x y z : MutBor Bytes) (s' : Bor Bytes) (x' y' z' : MutBor Bytes) (r : Result TheAnswer Refusal) → ((i : ℕ) → get_or s.now i 0 < 256)
    → buffers_in x.now y.now ≡ fresh_buffers N → replay-reads.Learnt κs (s, (x, (y, (z, tt)))) r (s', (x', (y', (z', tt)))) → answer_of r ≡ done
    → ScriptDone N (turns_of s.now) z.now x'.now y'.now z'.now
scripts_done N lo hi κs s x y z s' x' y' z' r small fresh₀ L q =
    let ts : List Turn = turns_of s.now in
    let w = was_done (replay_refusal s.now x.now y.now z.now) ts (desk x.now y.now z.now) (desk x'.now y'.now z'.now) L.is q in
    let l = left_by s.now x.now y.now z.now small w.0 w.1 in
    let v : AllValid ts = valid_script s.now small (script_good s.now x.now y.now z.now w.0) in
    let W = demand_three N ts lo hi v in
    record {
      answer =
          l.1 ∙ ap (λ (b : Buffers). records_of (answers_on b ts) ++ drop (512 * length ts) z.now) fresh₀
          ∙ ap (λ (a : List Answer). records_of a ++ drop (512 * length ts) z.now) W.answer;
      whole = subst (λ (b : Buffers). WholeList N ts b (accepted (fresh N) ts) (accepted_marks (fresh N) ts)) (sym (l.0 ∙ ap (λ (b : Buffers). run_on b ts) fresh₀)) W;
    }

pub replay_demand_three : ReplayDemand3
replay_demand_three = record {
  replay_meets = λ M. replay-met.met;
  scripts = scripts_done;
  lists = λ N lo hi ts A κs s x y z s' x' y' z' r e fresh₀ L q.
      let small : (i : ℕ) → get_or s.now i 0 < 256 =
      λ i. subst (λ (l : Bytes). get_or l i 0 < 256) (sym e) (All-get_or (λ (n : ℕ). n < 256) (script_of ts) i 0 (script_bytes ts A) (omega arith)) in
      subst (λ (us : List Turn). ScriptDone N us z.now x'.now y'.now z'.now) (ap turns_of e ∙ script_turns ts A)
      (scripts_done N lo hi κs s x y z s' x' y' z' r small fresh₀ L q);
}
