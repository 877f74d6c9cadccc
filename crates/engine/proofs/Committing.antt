-- A commit, through the turn record or not: what `check_to_commit` finds out, and after it that the commit is refused as the check says, refused by the record's lines, or done as the inner
-- commit does it.
-- Assumes nothing.
use Rattle.std.specs.Prelude.{Err, Ok, Result}
use Prim.Native.Nat.{◌<◌, ◌^◌, ℕ}
use mathlib.Core.Bool.{◌&&◌, false, not, true}
use mathlib.Core.List.{[], ◌++◌, ◌∷◌}
use mathlib.Core.Option.{Option}
use mathlib.Core.Path.{◌∙◌, ◌≡◌, ap, ap₂, sym}
use borrow.Author.Tests.{eq-eqb}
use lib.Dec.{eqb}
use Rattle.model.specs.Calls.{Out, change_by, commit_cut_call, copy_conditions, out, refusal_of, side_in, store_conditions}
use Rattle.model.specs.History.{Bytes}
use Rattle.model.specs.Machine.{Commits, CommitsCut, refused}
use Rattle.model.specs.Refusals.{◌when◌, conditions, first_of}
use Rattle.model.specs.Store.{tail_of}
use Rattle.model.specs.Types.{number_of}
use Rattle.model.specs.declared.Refusal.{Refusal}
use Rattle.laws.proofs.Conditions.{clear, clear_first, clear_mid, no_tail, untailed_so}
use Rattle.laws.proofs.CutCommits.{whole-commit}
use Rattle.inner.proofs.Changing.{cut_by}
use Rattle.inner.proofs.Refusing.{first-stays}
use Rattle.entries.proofs.Checking.{check_ready, check_refused, fitting_accepted, inner_call}
use Rattle.entries.specs.View.{check_of, inner_out}
use Rattle.entries.specs.declared.View.{View}
use Rattle.filing.proofs.Keeping.{inner_cut_lem}
use Rattle.filing.specs.Filed.{inner_cut}
use Rattle.store.proofs.Opening.{open_refused}
use Rattle.store.specs.Opened.{open_of}
use Rattle.turns.proofs.Calls.{holder_is}
use Rattle.turns.proofs.InTurn.{by_holder, none-chosen, not_holding, out_of_form}
use Rattle.turns.specs.InTurn.{in_turn_call, in_turn_lines}
use Rattle.turns.specs.Turns.{holder, in_form, numbers_of, queue_of}
use Rattle.turns.specs.declared.TurnRecord.{TurnRecord}
use Rattle.engine.specs.MayCommit.{MayCommit, commit_lines}

module _ (store copy : Bytes) where
  -- ---- the check

  pub not_open : (k : Refusal) → open_of store ≡ Err k → MayCommit store copy (Err k)
  not_open k e = first-stays (store_conditions store) (14 when not (eqb (tail_of store) 0) ∷ copy_conditions store copy) (number_of k) (open_refused store k e)

  pub checked_so : (c : Result View Refusal) → not (eqb (tail_of store) 0) ≡ false → check_of store copy ≡ c → MayCommit store copy c
  checked_so (Err k) t e = clear_mid (store_conditions store) (14 when not (eqb (tail_of store) 0) ∷ []) (copy_conditions store copy) (t, tt) ∙ check_refused store copy k e
  checked_so (Ok v) t e = (check_ready store copy v e, untailed_so (side_in store copy) 0 0 (t, tt))

  -- ---- commit

  module _ (stamp mask n : ℕ) where
    pub cut_checked : (k : Refusal) → MayCommit store copy (Err k) → out (refused (number_of k)) store copy ≡ commit_cut_call store copy stamp mask n
    unfolding refusal_of
    cut_checked k e = cut_by store copy k stamp mask n (first-stays (commit_lines store copy) (conditions (side_in store copy) (CommitsCut stamp mask n)) (number_of k) e)

    pub cut_done : (v : View) → MayCommit store copy (Ok v) → inner_cut store copy stamp mask n ≡ commit_cut_call store copy stamp mask n
    cut_done v m = inner_cut_lem store copy v m.0 stamp mask n (no_tail (side_in store copy) stamp mask m.1).0

  -- ---- commit through the record

  module _ (t : TurnRecord) (stamp mask : ℕ) where
    pub turn-checked : (k : Refusal) → MayCommit store copy (Err k) → out (refused (number_of k)) store copy ≡ in_turn_call store copy (numbers_of t) stamp mask
    unfolding in_turn_call
    turn-checked k e =
        sym (ap (λ (o : Option ℕ). change_by o store copy (Commits stamp mask)) (first-stays (commit_lines store copy) (in_turn_lines (numbers_of t) (side_in store copy) stamp mask) (number_of k) e))

    held_by_lem : holder (queue_of (numbers_of t)) ≡ t.holder
    held_by_lem = holder_is t.holder (t.first ∷ t.second ∷ t.third ∷ [])

    module _ (v : View) (m : MayCommit store copy (Ok v)) where
      by_lines : {o : Option ℕ} → first_of (in_turn_lines (numbers_of t) (side_in store copy) stamp mask) ≡ o → change_by o store copy (Commits stamp mask) ≡ in_turn_call store copy (numbers_of t) stamp mask
      unfolding in_turn_call
      by_lines e =
          let A = fitting_accepted store copy v m.0 in
          let ls = in_turn_lines (numbers_of t) (side_in store copy) stamp mask in
          sym (ap (λ (o : Option ℕ). change_by o store copy (Commits stamp mask))
          (clear_first (store_conditions store) (14 when not (eqb (tail_of store) 0) ∷ (copy_conditions store copy ++ ls)) (clear (store_conditions store) A.store_taken)
          ∙ clear_first (14 when not (eqb (tail_of store) 0) ∷ copy_conditions store copy) ls ((no_tail (side_in store copy) stamp mask m.1).0, clear (copy_conditions store copy) A.copy_taken) ∙ e))

      pub turn_maskless : mask ≡ 0 → out (refused 7) store copy ≡ in_turn_call store copy (numbers_of t) stamp mask
      turn_maskless e = by_lines (none-chosen (numbers_of t) (side_in store copy) stamp mask e)

      pub turn_formless : in_form (numbers_of t) ≡ false → out (refused 7) store copy ≡ in_turn_call store copy (numbers_of t) stamp mask
      turn_formless e = by_lines (out_of_form (numbers_of t) (side_in store copy) stamp mask e)

      module _ (f : in_form (numbers_of t) ≡ true) where
        pub turn-held : (mask ≡ 0 → ⊥) → (t.holder ≡ v.seat → ⊥) → out (refused 15) store copy ≡ in_turn_call store copy (numbers_of t) stamp mask
        turn-held z n = by_lines (not_holding (numbers_of t) (side_in store copy) stamp mask z f (λ e. n (sym held_by_lem ∙ e ∙ sym m.0.seat)))

        pub turn-done : stamp < 2 ^ 32 → t.holder ≡ v.seat → {o : Out} → o ≡ inner_cut store copy stamp mask 33 → o ≡ in_turn_call store copy (numbers_of t) stamp mask
        unfolding inner_out
        turn-done ty e q =
            q ∙ cut_done stamp mask 33 v m ∙ whole-commit store copy stamp mask ty ∙ sym (inner_call store copy v m.0 (Commits stamp mask) (no_tail (side_in store copy) stamp mask m.1))
            ∙ by_lines (by_holder (numbers_of t) (side_in store copy) stamp mask (ap₂ ◌&&◌ f (eq-eqb (holder (queue_of (numbers_of t))) (side_in store copy).seat (held_by_lem ∙ e ∙ m.0.seat))))
