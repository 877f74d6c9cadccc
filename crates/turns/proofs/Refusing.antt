-- Demand 1 for the calls of the turn record, over their definitions.
-- Assumes nothing.
use Prim.Native.Nat.{ℕ}
use mathlib.Core.List.{List, ◌++◌}
use mathlib.Core.Option.{Option, none, some}
use mathlib.Core.Path.{◌∙◌, ◌≡◌, ap, refl, subst, sym}
use Rattle.model.specs.Calls.{both_conditions, change_by, change_call, copy_conditions, refusal_of, side_in, store_conditions}
use Rattle.model.specs.Demand1.{DoneOn}
use Rattle.model.specs.History.{Bytes}
use Rattle.model.specs.Machine.{Commits, refusal}
use Rattle.model.specs.Refusals.{Clear, conditions, first_of, tail_conditions}
use Rattle.laws.proofs.Conditions.{clear, clear_first, clear_split, first-iff, none-holds}
use Rattle.laws.proofs.Demand1.{demand_one}
use Rattle.turns.specs.InTurn.{in_turn_call, in_turn_conditions, in_turn_lines}
use Rattle.turns.specs.Refusing.{RefusesInTurn, RefusesTurn}
use Rattle.turns.specs.Turns.{TurnAnswer, TurnCall, held_by, no_turn, turn_by, turn_call, turn_conditions}

abbrev refusal_in : TurnAnswer → Option ℕ
refusal_in (no_turn n) = some n
refusal_in (held_by s) = none

pub refuses-turn : (r : List ℕ) (c : TurnCall) → RefusesTurn r c (turn_call r c)
unfolding turn_call
refuses-turn r c = record {
  numbered = λ n. (λ e. (first-iff (turn_conditions r c) n).0 (sym (first (first_of (turn_conditions r c))) ∙ ap refusal_in e), λ f. ap (λ (o : Option ℕ). (turn_by o r c).says) ((first-iff (turn_conditions r c) n).1 f));
  stays = λ n e. ap (λ (o : Option ℕ). turn_by o r c) (sym (first (first_of (turn_conditions r c))) ∙ ap refusal_in e);
}
  where
    first : (o : Option ℕ) → refusal_in (turn_by o r c).says ≡ o
    first (some n) = refl
    first none = refl

module _ (store copy : Bytes) (r : List ℕ) (stamp mask : ℕ) where
  -- where no line holds, none of an ordinary commit's does
  own-clear : Clear (in_turn_conditions store copy r stamp mask) → first_of (both_conditions store copy (Commits stamp mask)) ≡ none
  own-clear h =
      let d = side_in store copy in
      let ts = tail_conditions d (Commits stamp mask) in
      let cs = conditions d (Commits stamp mask) in
      let p = clear_split (store_conditions store) (ts ++ (copy_conditions store copy ++ in_turn_lines r d stamp mask)) h in
      let q = clear_split ts (copy_conditions store copy ++ in_turn_lines r d stamp mask) p.1 in
      let w = clear_split (copy_conditions store copy) (in_turn_lines r d stamp mask) q.1 in
      clear_first (store_conditions store) (ts ++ (copy_conditions store copy ++ cs)) p.0 ∙ clear_first ts (copy_conditions store copy ++ cs) q.0
      ∙ clear_first (copy_conditions store copy) cs w.0 ∙ none-holds cs w.1.1.1

  same-commit : Clear (in_turn_conditions store copy r stamp mask) → in_turn_call store copy r stamp mask ≡ change_call store copy (Commits stamp mask)
  unfolding in_turn_call change_call refusal_of
  same-commit h = ap (λ (o : Option ℕ). change_by o store copy (Commits stamp mask)) (none-holds (in_turn_conditions store copy r stamp mask) h ∙ sym (own-clear h))

  pub refuses_in_turn : RefusesInTurn store copy r stamp mask (in_turn_call store copy r stamp mask)
  unfolding in_turn_call
  refuses_in_turn = record {
    numbered = λ n. (λ e. (first-iff (in_turn_conditions store copy r stamp mask) n).0 (sym (first (first_of (in_turn_conditions store copy r stamp mask))) ∙ ap refusal e), λ f. ap (λ (o : Option ℕ). (change_by o store copy (Commits stamp mask)).says) ((first-iff (in_turn_conditions store copy r stamp mask) n).1 f));
    stays = λ n e. ap (λ (o : Option ℕ). change_by o store copy (Commits stamp mask)) (sym (first (first_of (in_turn_conditions store copy r stamp mask))) ∙ ap refusal e);
    does = λ ty h.
        subst (DoneOn store copy (Commits stamp mask)) (sym (same-commit h)) ((demand_one store copy).does (Commits stamp mask) ty (clear (both_conditions store copy (Commits stamp mask)) (own-clear h)));
  }
    where
      first : (o : Option ℕ) → refusal (change_by o store copy (Commits stamp mask)).says ≡ o
      first (some n) = refl
      first none = refl
