-- The rehearsal as code runs it: what a caller of a function learns is taken from its own contract (`Learnt`). The text that `run` leaves in a buffer of 132 bytes is that of a fair day, or `?`; the day is made by
-- the real calls on the store and the four working copies that `run_day` is lent.
-- Assumes nothing.
use Prim.Native.Nat.{◌<◌, ◌≤◌, ℕ}
use mathlib.Core.Bool.{true}
use mathlib.Core.List.{List}
use mathlib.Core.Logic.{◌⊎◌}
use mathlib.Core.Option.{none, some}
use mathlib.Core.Path.{◌∙◌, ◌≡◌}
use contract.Lifetimes.{Lfts}
use denote.Ref.{Bor, MutBor}
use lib.ListN.{length, take}
use Rattle.model.specs.Calls.{fresh_copy, fresh_store}
use Rattle.model.specs.History.{Bytes}
use Rattle.text.specs.Text.{lines}
use Rattle.rehearsal.specs.FairOutput.{FairText}
use Rattle.rehearsal.specs.Desk.{hall_in, pool}
use Rattle.rehearsal.specs.Outcomes.{can_run}
use Rattle.rehearsal.specs.Output.{Plan, no_plan, plan_of}
use Rattle.rehearsal.specs.RehearsalCalls.{Real}
use Rattle.rehearsal.specs.declared.Day.{Day}
use Rattle.rehearsal.specs.declared.Setting.{Setting}
use Rattle.rehearsal.proofs.FairOutput.{fair-output}
use Rattle.rehearsal.proofs.Four.{can_run_so}
use Rattle.rehearsal.proofs.Line.{nothing_planned}
use Rattle.rehearsal.proofs.Making.{day-real}
use Rattle.rehearsal.proofs.run_day.Met as day-met
use Rattle.rehearsal.proofs.run_day.Reads as day-reads
use Rattle.rehearsal.proofs.run_day.Statement as day-statement
use Rattle.rehearsal.proofs.run.Met as run-met
use Rattle.rehearsal.proofs.run.Reads as run-reads
use Rattle.rehearsal.proofs.run.Statement as run-statement

-- THE STATEMENT
pub record CodeFair : Type 2 where
  pub run_meets : (M : Type 1) → run-statement.statement M
  pub fair : (κs : Lfts 2) (x : Bor Bytes) (y : MutBor Bytes) (x' : Bor Bytes) (y' : MutBor Bytes) (r : ℕ) → run-reads.Learnt κs (x, (y, tt)) r (x', (y', tt)) → 132 ≤ length y.now
      → (p : Plan) → length x.now ≤ 4_096 → plan_of (lines x.now) ≡ some p → FairText p (take r y'.now)
  -- "anything else prints `?`"
  pub other : (κs : Lfts 2) (x : Bor Bytes) (y : MutBor Bytes) (x' : Bor Bytes) (y' : MutBor Bytes) (r : ℕ) → run-reads.Learnt κs (x, (y, tt)) r (x', (y', tt)) → 132 ≤ length y.now
      → (4_096 < length x.now) ⊎ (plan_of (lines x.now) ≡ none) → take r y'.now ≡ no_plan
  -- "The real calls on a store of 121 blocks are used": the buffers that the code leaves are those that the day's calls leave, none of which is refused
  pub day_meets : (M : Type 1) → day-statement.statement M
  pub day : (κs : Lfts 5) (l : List Setting) (n : ℕ) (s a b c d s' a' b' c' d' : MutBor Bytes) (r : Day)
      → day-reads.Learnt κs (l, (n, (s, (a, (b, (c, (d, tt))))))) r (l, (n, (s', (a', (b', (c', (d', tt))))))) → can_run l n ≡ true
      → s.now ≡ fresh_store 121 → a.now ≡ fresh_copy 1 → b.now ≡ fresh_copy 2 → c.now ≡ fresh_copy 3 → d.now ≡ fresh_copy 4
      → Real l n (hall_in (pool s'.now a'.now b'.now c'.now d'.now) r)

-- THE PROOF
pub code_fair : CodeFair
code_fair = record {
  run_meets = λ M. run-met.met;
  fair = λ κs x y x' y' r l room p short e. fair-output x.now (take r y'.now) p (l.1.1 room) short e;
  other = λ κs x y x' y' r l room o. l.1.1 room ∙ nothing_planned x.now o;
  day_meets = λ M. day-met.met;
  day = λ κs l n s a b c d s' a' b' c' d' r e can es ea eb ec ed.
      let f = can_run_so l n can in
      day-real l n s.now a.now b.now c.now d.now s'.now a'.now b'.now c'.now d'.now r f.0 f.1 f.2 es ea eb ec ed e;
}
