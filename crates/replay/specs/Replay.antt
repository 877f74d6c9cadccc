-- What `replay` answers and leaves: a refusal and every buffer as it was, or the machine's run over the calls of the script.
-- Assumes nothing.
use Rattle.std.specs.Prelude.{◌*◌, suc, zero, ℕ, ◌||◌, not, List, [], ◌++◌, ◌∷◌, ◌≡◌, eqb, ltb, drop, length, Result}
use Rattle.std.proofs.Math.Option.{Option, none, some}
use Rattle.model.specs.Calls.{Buffers, copy_conditions, store_conditions}
use Rattle.model.specs.History.{Bytes}
use Rattle.model.specs.Machine.{Answer, done, refused}
use Rattle.model.specs.Refusals.{Condition, ◌when◌, first_of}
use Rattle.model.specs.Run.{Turn, answers, run}
use Rattle.model.specs.Shows.{Shows, state_in}
use Rattle.model.specs.Store.{block_count}
use Rattle.model.specs.Types.{answer_of}
use Rattle.model.specs.WorkCopy.{seat_of}
use Rattle.model.specs.declared.Answer.{Answer as TheAnswer}
use Rattle.replay.specs.Desk.{Desk, buffers_in, copy_at, desk, ran_from}
use Rattle.replay.specs.Records.{records_of}
use Rattle.replay.specs.Script.{script_ok, turns_of}
use Rattle.model.specs.declared.Refusal.{Refusal}

-- of the copy at place k: refusals 5 and 6, and 7 where it is not that of seat k + 1
abbrev pub copy_lines : Bytes → Bytes → ℕ → List Condition
copy_lines store copy seat = copy_conditions store copy ++ (7 when not (eqb (seat_of copy) seat) ∷ [])

-- of n copies, from place k on
unfoldable pub lines_from : Bytes → Bytes → ℕ → ℕ → List Condition
lines_from store copies k zero = []
lines_from store copies k (suc n) = copy_lines store (copy_at copies k) (suc k) ++ lines_from store copies (suc k) n

-- the store's lines; the length of four copies; each copy's lines; a bad script, or fewer records for the answers than calls
abbrev pub replay_conditions : Bytes → Bytes → Bytes → Bytes → List Condition
replay_conditions script store copies answers =
    store_conditions store ++ (4 when not (eqb (length copies) 67_584)
    ∷ (lines_from store copies 0 4 ++ (7 when (not (script_ok script) || ltb (length answers) (length script)) ∷ [])))

unfoldable pub replay_refusal : Bytes → Bytes → Bytes → Bytes → Option ℕ
replay_refusal script store copies answers = first_of (replay_conditions script store copies answers)

-- the answer, and the buffers afterwards
pub record Replayed : Type 0 where
  pub says : Answer
  pub left : Desk

abbrev pub replay_by : Option ℕ → List Turn → Desk → Replayed
replay_by (some n) ts b = record { says = refused n; left = b }
replay_by none ts b = record { says = done; left = ran_from 0 ts b }

-- the machine's run from the state that the buffers show: every answer, and the history and the entries afterwards
pub record MachineRan (b : Buffers) (ts : List Turn) (old store' copies' answers' : Bytes) : Type 0 where
  pub answer : answers' ≡ records_of (answers (state_in b) ts) ++ drop (512 * length ts) old
  pub shows : Shows (block_count b.store) (buffers_in store' copies') (run (state_in b) ts)

pub record Replays (script store copies old : Bytes) (r : Result TheAnswer Refusal) (store' copies' answers' : Bytes) : Type 0 where
  pub is : record { says = answer_of r; left = desk store' copies' answers' } ≡ replay_by (replay_refusal script store copies old) (turns_of script) (desk store copies old)
  pub machine : replay_refusal script store copies old ≡ none → MachineRan (buffers_in store copies) (turns_of script) old store' copies' answers'
