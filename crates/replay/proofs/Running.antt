-- The calls of a script one after the other: what is left from record i on gives the whole.
-- Assumes nothing.
use Prim.Native.Nat.{◌%◌, ◌*◌, ◌+◌, ◌-◌, ◌/◌, ◌<◌, ◌≤◌, suc, ℕ}
use mathlib.Core.Bool.{true}
use mathlib.Core.List.{List, ◌++◌, ◌∷◌}
use mathlib.Core.Path.{◌∙◌, ◌≡◌, ap, subst, sym}
use native.Mathlib.Omega.{arith}
use lib.Dec.{T, eqb}
use lib.ListN.{drop, length, length-drop, length-take, take}
use lib.Seq.{drop-drop}
use Rattle.block.proofs.Says.{all_from_so, is_true}
use Rattle.block.specs.Buffer.{block_at, with_block}
use Rattle.block.specs.Lists.{all_from}
use Rattle.laws.proofs.Accepted.{both}
use Rattle.model.specs.History.{Bytes}
use Rattle.replay.specs.Desk.{Desk, desk, ran_from, turned}
use Rattle.replay.specs.Script.{record_ok, script_ok, turn_in, turns_from}
use Rattle.replay.specs.Steps.{Set, Turned, Turning}
use Rattle.store.specs.declared.Header.{Header}

-- every record of a good script is good
pub record_good : (s : Bytes) → script_ok s ≡ true → (i : ℕ) → i < length s / 512 → record_ok (block_at s i) ≡ true
unfolding script_ok
record_good s e i h =
    let a = (both (eqb (length s % 512) 0) (all_from (λ i. record_ok (block_at s i)) 0 (length s / 512)) e).1 in
    is_true (record_ok (block_at s i)) (all_from_so (λ i. record_ok (block_at s i)) 0 (length s / 512) (subst T (sym a) tt) i (omega arith) (omega arith))

module _ (s : Bytes) (i n : ℕ) (h : i < n) where
  turns_next : turns_from i (n - i) s ≡ turn_in (block_at s i) ∷ turns_from (i + 1) (n - (i + 1)) s
  unfolding turns_from
  turns_next =
      let e : n - i ≡ suc (n - (i + 1)) = omega arith in
      let f : suc i ≡ i + 1 = omega arith in
      ap (λ (m : ℕ). turns_from i m s) e ∙ ap (λ (j : ℕ). turn_in (block_at s i) ∷ turns_from j (n - (i + 1)) s) f

  ran_next : (b : Desk) → ran_from (i + 1) (turns_from (i + 1) (n - (i + 1)) s) (turned i (turn_in (block_at s i)) b) ≡ ran_from i (turns_from i (n - i) s) b
  unfolding ran_from
  ran_next b =
      let f : i + 1 ≡ suc i = omega arith in
      ap (λ (j : ℕ). ran_from j (turns_from (i + 1) (n - (i + 1)) s) (turned i (turn_in (block_at s i)) b)) f ∙ ap (λ ts. ran_from i ts b) (sym turns_next)

  -- one turn of the loop, with the records as the code takes them and puts them back, m from their two ends
  pub run_step : (answers : Bytes) {store copies store' copies' answer' answers' : Bytes} {g : Header} (m : ℕ) → m ≡ 512 → Turned (take m (drop (512 * i) s)) store copies g store' copies' answer'
      → answers' ≡ take (512 * i) answers ++ (answer' ++ drop m (drop (512 * i) answers))
      → ran_from (i + 1) (turns_from (i + 1) (n - (i + 1)) s) (desk store' copies' answers') ≡ ran_from i (turns_from i (n - i) s) (desk store copies answers)
  run_step answers {store} {copies} {store'} {copies'} {answer'} {answers'} {g} m e R p =
      let D = subst (λ (x : ℕ). Turned (take x (drop (512 * i) s)) store copies g store' copies' answer') e R in
      let q : answers' ≡ with_block answers i answer' =
      p ∙ ap (λ (x : ℕ). take (512 * i) answers ++ (answer' ++ drop x (drop (512 * i) answers))) e
      ∙ ap (λ (x : List ℕ). take (512 * i) answers ++ (answer' ++ x)) (drop-drop 512 (512 * i) answers) in
      let w = q ∙ ap (with_block answers i) D.answer in
      let d : desk store' copies' answers' ≡ turned i (turn_in (block_at s i)) (desk store copies answers) = λ j. desk (D.stored j) (D.copied j) (w j) in
      ap (ran_from (i + 1) (turns_from (i + 1) (n - (i + 1)) s)) d ∙ ran_next (desk store copies answers)

-- nothing is left
pub ran_end : (s : Bytes) (i n : ℕ) → n ≤ i → (b : Desk) → b ≡ ran_from i (turns_from i (n - i) s) b
unfolding ran_from turns_from
ran_end s i n h b = let e : 0 ≡ n - i = omega arith in ap (λ (m : ℕ). ran_from i (turns_from i m s) b) e

-- what a turn asks for
pub run-turns : (s store copies answers : Bytes) (h : Header) → script_ok s ≡ true → Set store copies h → (i m : ℕ) → i < length s / 512 → length s ≤ length answers → m ≡ 512
    → Turning (take m (drop (512 * i) s)) store copies h (take m (drop (512 * i) answers))
run-turns s store copies answers h good S i m low room e = record {
  good = ap (λ (x : ℕ). record_ok (take x (drop (512 * i) s))) e ∙ record_good s good i low;
  size = omega (arith, length-take m (drop (512 * i) s), length-drop (512 * i) s);
  ready = S;
  room = omega (arith, length-take m (drop (512 * i) answers), length-drop (512 * i) answers);
}
