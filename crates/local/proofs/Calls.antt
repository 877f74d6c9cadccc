-- The five calls look at nothing of a store: beside any accepted store that the copy fits, the call on both buffers is the call on the copy alone.
-- Assumes nothing.
use Prim.Native.Nat.{ℕ}
use mathlib.Core.List.{List, ◌++◌}
use mathlib.Core.Option.{Option, none, some}
use mathlib.Core.Path.{◌∙◌, ◌≡◌, ap, refl}
use Rattle.model.specs.Calls.{change_by, change_call, copy_conditions, refusal_of, side_in, store_conditions}
use Rattle.model.specs.History.{Bytes}
use Rattle.model.specs.Machine.{Add, Call, Clears, ClearsCut, Commits, CommitsCut, Copy, Delete, Edit, Log, Move, Panel, Read, Release, Revert, Show, Status, Update}
use Rattle.model.specs.Refusals.{Clear, Condition, conditions, first_of, tail_conditions}
use Rattle.laws.proofs.Conditions.{clear_first}
use Rattle.local.specs.Local.{copy_side, local_by, local_out}
use Rattle.model.specs.Calls as calls

-- add, edit, delete, copy, move
abbrev pub Local : Call → Type 0
Local (Add i x) = Unit {0}
Local (Edit i x) = Unit {0}
Local (Delete i) = Unit {0}
Local (Copy i j) = Unit {0}
Local (Move i j) = Unit {0}
Local (Commits stamp mask) = ⊥
Local (Update mask R) = ⊥
Local (Revert mask) = ⊥
Local (Read R i) = ⊥
Local (Show i) = ⊥
Local (Status i) = ⊥
Local (Log R i) = ⊥
Local Clears = ⊥
Local (CommitsCut stamp mask n) = ⊥
Local (ClearsCut n) = ⊥
Local (Release R seat stamp) = ⊥
Local (Panel R i) = ⊥

module _ (store copy : Bytes) where
  same-conditions : (c : Call) → Local c → conditions (side_in store copy) c ≡ conditions (copy_side copy) c
  same-conditions (Add i x) k = refl
  same-conditions (Edit i x) k = refl
  same-conditions (Delete i) k = refl
  same-conditions (Copy i j) k = refl
  same-conditions (Move i j) k = refl
  same-conditions (Commits stamp mask) k = absurd k
  same-conditions (Update mask R) k = absurd k
  same-conditions (Revert mask) k = absurd k
  same-conditions (Read R i) k = absurd k
  same-conditions (Show i) k = absurd k
  same-conditions (Status i) k = absurd k
  same-conditions (Log R i) k = absurd k
  same-conditions Clears k = absurd k
  same-conditions (CommitsCut stamp mask n) k = absurd k
  same-conditions (ClearsCut n) k = absurd k
  same-conditions (Release R seat stamp) k = absurd k
  same-conditions (Panel R i) k = absurd k

  no_tail : (c : Call) → Local c → Clear (tail_conditions (side_in store copy) c)
  no_tail (Add i x) k = tt
  no_tail (Edit i x) k = tt
  no_tail (Delete i) k = tt
  no_tail (Copy i j) k = tt
  no_tail (Move i j) k = tt
  no_tail (Commits stamp mask) k = absurd k
  no_tail (Update mask R) k = absurd k
  no_tail (Revert mask) k = absurd k
  no_tail (Read R i) k = absurd k
  no_tail (Show i) k = absurd k
  no_tail (Status i) k = absurd k
  no_tail (Log R i) k = absurd k
  no_tail Clears k = absurd k
  no_tail (CommitsCut stamp mask n) k = absurd k
  no_tail (ClearsCut n) k = absurd k
  no_tail (Release R seat stamp) k = absurd k
  no_tail (Panel R i) k = absurd k

  same_deed : (o : Option ℕ) (c : Call) → Local c → change_by o store copy c ≡ calls.out (local_by o copy c).says store (local_by o copy c).copy
  same_deed (some n) c k = refl
  same_deed none (Add i x) k = refl
  same_deed none (Edit i x) k = refl
  same_deed none (Delete i) k = refl
  same_deed none (Copy i j) k = refl
  same_deed none (Move i j) k = refl
  same_deed none (Commits stamp mask) k = absurd k
  same_deed none (Update mask R) k = absurd k
  same_deed none (Revert mask) k = absurd k
  same_deed none (Read R i) k = absurd k
  same_deed none (Show i) k = absurd k
  same_deed none (Status i) k = absurd k
  same_deed none (Log R i) k = absurd k
  same_deed none Clears k = absurd k
  same_deed none (CommitsCut stamp mask n) k = absurd k
  same_deed none (ClearsCut n) k = absurd k
  same_deed none (Release R seat stamp) k = absurd k
  same_deed none (Panel R i) k = absurd k

  -- THE STATEMENT: where none of refusals 1 to 6 holds
  pub local_call : (c : Call) → Local c → Clear (store_conditions store) → Clear (copy_conditions store copy)
      → change_call store copy c ≡ calls.out (local_out copy c).says store (local_out copy c).copy
  unfolding change_call refusal_of local_out
  local_call c k s t =
      let ts : List Condition = tail_conditions (side_in store copy) c in
      let cs : List Condition = conditions (side_in store copy) c in
      ap (λ (o : Option ℕ). change_by o store copy c)
      (clear_first (store_conditions store) (ts ++ (copy_conditions store copy ++ cs)) s ∙ clear_first ts (copy_conditions store copy ++ cs) (no_tail c k)
      ∙ clear_first (copy_conditions store copy) cs t ∙ ap first_of (same-conditions c k))
      ∙ same_deed (first_of (conditions (copy_side copy) c)) c k
