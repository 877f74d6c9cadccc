-- The program on buffers prints what the machine's run prints.
-- Assumes nothing.
use Prim.Native.Nat.{ℕ}
use mathlib.Core.List.{List, [], ◌++◌, ◌∷◌}
use mathlib.Core.Option.{Option, none, some}
use mathlib.Core.Path.{◌≡◌, ap, ap₂, refl}
use native.Mathlib.Omega.{arith}
use Rattle.command.specs.Command.{line_turn}
use Rattle.laws.proofs.Fresh.{fresh-shows}
use Rattle.laws.proofs.Invariant.{kept_fresh, kept_step}
use Rattle.laws.proofs.Steps.{one-step}
use Rattle.model.specs.Calls.{Buffers, fresh_buffers, fresh_copy, fresh_store}
use Rattle.model.specs.History.{Bytes}
use Rattle.model.specs.Invariant.{Kept}
use Rattle.model.specs.Machine.{State, fresh}
use Rattle.model.specs.Run.{Turn, Valid}
use Rattle.model.specs.Shows.{Shows}
use Rattle.program.specs.Buffers.{answered_on, pool, spare, transcript_on}
use Rattle.program.specs.Output.{answered, text_of, transcript}
use Rattle.program.proofs.Turns.{line-valid}

-- one line on buffers that show a state
record Alike (N : ℕ) (b : Buffers) (s : State) (o : Option Turn) : Type 0 where
  text : (answered_on b o).0 ≡ (answered s o).0
  shows : Shows N (answered_on b o).1 (answered s o).1
  kept : Kept (answered s o).1

alike : (N : ℕ) (b : Buffers) (s : State) (o : Option Turn) → ((t : Turn) → o ≡ some t → Valid t) → Shows N b s → Kept s → Alike N b s o
alike N b s none v W K = record { text = refl; shows = W; kept = K }
alike N b s (some t) v W K =
    let r = one-step N b s t W K (v t refl) in
    record { text = ap text_of r.0; shows = r.1; kept = kept_step s t (v t refl) K }

same-transcript : (N : ℕ) (b : Buffers) (s : State) (ls : List Bytes) → Shows N b s → Kept s → transcript_on b ls ≡ transcript s ls
unfolding transcript_on transcript
same-transcript N b s [] W K = refl
same-transcript N b s (l ∷ ls) W K =
    let a = alike N b s (line_turn l) (line-valid l) W K in
    ap₂ ◌++◌ a.text (same-transcript N (answered_on b (line_turn l)).1 (answered s (line_turn l)).1 ls a.shows a.kept)

-- THE STATEMENT
pub fresh-transcript : (ls : List Bytes) → transcript_on (pool (fresh_store 32) (fresh_copy 1) (fresh_copy 2)) ls ≡ transcript (fresh 32) ls
unfolding spare
fresh-transcript ls = same-transcript 32 (fresh_buffers 32) (fresh 32) ls (fresh-shows 32 (omega arith) (omega arith)) (kept_fresh 32 (omega arith))
