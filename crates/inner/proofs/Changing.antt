-- A call that takes both buffers, after `entries::check`: refused as the check says, or done as the inner function does it.
-- Assumes nothing.
use Rattle.std.specs.Prelude.{Err, Ok, Result}
use Prim.Native.Nat.{ℕ}
use mathlib.Core.Bool.{not, true}
use mathlib.Core.List.{◌++◌, append_assoc}
use mathlib.Core.Option.{Option, none, some}
use mathlib.Core.Path.{◌∙◌, ◌≡◌, ap, sym}
use lib.Dec.{eqb}
use Rattle.model.specs.Calls.{Out, change_by, change_call, commit_cut_call, copy_conditions, out, refusal_of, side_in, stopped_by, store_conditions}
use Rattle.model.specs.History.{Bytes}
use Rattle.model.specs.Machine.{Call, CommitsCut, refused}
use Rattle.model.specs.Refusals.{Clear, conditions, first_of, tail_conditions}
use Rattle.model.specs.Store.{tail_of}
use Rattle.model.specs.Types.{answer_of, number_of}
use Rattle.model.specs.declared.Answer.{Answer}
use Rattle.model.specs.declared.Refusal.{Refusal}
use Rattle.model.specs.declared.Refusal.TheVariants.{Tail}
use Rattle.laws.proofs.Conditions.{clear, clear_mid}
use Rattle.inner.proofs.Refusing.{first-stays, tail-first}
use Rattle.entries.proofs.Checking.{check_ready, check_refused, fitting_accepted, inner_call}
use Rattle.entries.specs.View.{Fitting, check_of, inner_out}
use Rattle.entries.specs.declared.View.{View}
use Rattle.local.proofs.Calls.{Local, local_call}
use Rattle.local.specs.Local.{LocalOut, local_out}

module _ (store copy : Bytes) where
  pub check_refusal : (k : Refusal) (c : Call) → Clear (tail_conditions (side_in store copy) c) → check_of store copy ≡ Err k → refusal_of store copy c ≡ some (number_of k)
  unfolding refusal_of
  check_refusal k c t e =
      clear_mid (store_conditions store) (tail_conditions (side_in store copy) c) (copy_conditions store copy ++ conditions (side_in store copy) c) t
      ∙ ap first_of (sym (append_assoc (store_conditions store) (copy_conditions store copy) (conditions (side_in store copy) c)))
      ∙ first-stays (store_conditions store ++ copy_conditions store copy) (conditions (side_in store copy) c) (number_of k) (check_refused store copy k e)

  refused_by_lem : (k : Refusal) (c : Call) → refusal_of store copy c ≡ some (number_of k) → out (refused (number_of k)) store copy ≡ change_call store copy c
  unfolding change_call
  refused_by_lem k c e = sym (ap (λ (o : Option ℕ). change_by o store copy c) e)

  pub refused-call : (k : Refusal) (c : Call) → Clear (tail_conditions (side_in store copy) c) → check_of store copy ≡ Err k → out (refused (number_of k)) store copy ≡ change_call store copy c
  refused-call k c t e = refused_by_lem k c (check_refusal k c t e)

  -- the commit that stops after n writes is refused as the commit is
  pub cut_by : (k : Refusal) (stamp mask n : ℕ) → refusal_of store copy (CommitsCut stamp mask n) ≡ some (number_of k) → out (refused (number_of k)) store copy ≡ commit_cut_call store copy stamp mask n
  unfolding commit_cut_call
  cut_by k stamp mask n e = sym (ap (λ (o : Option ℕ). stopped_by o store copy stamp mask n) e)

  pub cut_tailed : (stamp mask n : ℕ) → first_of (store_conditions store) ≡ none → not (eqb (tail_of store) 0) ≡ true → out (refused 14) store copy ≡ commit_cut_call store copy stamp mask n
  unfolding refusal_of
  cut_tailed stamp mask n e t = cut_by Tail stamp mask n (tail-first store (copy_conditions store copy ++ conditions (side_in store copy) (CommitsCut stamp mask n)) e t)

  pub local_fits : (v : View) → Fitting store copy v → (c : Call) (a : Result Answer Refusal) (copy' : Bytes) → Local c → record { says = answer_of a; copy = copy' } ≡ local_out copy c
      → out (answer_of a) store copy' ≡ change_call store copy c
  local_fits v F c a copy' l q =
      let A = fitting_accepted store copy v F in
      ap (λ (o : LocalOut). out o.says store o.copy) q
      ∙ sym (local_call store copy c l (clear (store_conditions store) A.store_taken) (clear (copy_conditions store copy) A.copy_taken))

  pub local_done : (v : View) (c : Call) (a : Result Answer Refusal) (copy' : Bytes) → check_of store copy ≡ Ok v → Local c → record { says = answer_of a; copy = copy' } ≡ local_out copy c
      → out (answer_of a) store copy' ≡ change_call store copy c
  local_done v c a copy' e l q = local_fits v (check_ready store copy v e) c a copy' l q

  -- where no line from 1 to 6 holds, nor 14, the call is the inner call
  pub inner_done : (v : View) (c : Call) {o : Out} → Clear (tail_conditions (side_in store copy) c) → check_of store copy ≡ Ok v → o ≡ inner_out store copy c → o ≡ change_call store copy c
  inner_done v c t e q = q ∙ inner_call store copy v (check_ready store copy v e) c t
