-- Demand 3 over lists in which ordinary calls and calls on the turn record are mixed: a list comes to the ordinary calls that get through, of which demand 3 speaks.
-- Assumes nothing.
use Prim.Native.Nat.{◌-◌, ◌<◌, ◌^◌, ◌≤◌, suc, zero, ℕ}
use mathlib.Core.Bool.{Bool, ◌&&◌, cond, false, true}
use mathlib.Core.List.{List, [], ◌++◌, ◌∷◌}
use mathlib.Core.Option.{Option, none, some}
use mathlib.Core.Path.{◌∙◌, ◌≡◌, ap, ap₂, refl, subst, sym}
use native.Mathlib.Omega.{arith}
use lib.Dec.{eqb}
use lib.ListN.{set, take}
use lib.Seq.{set-get_or}
use Rattle.model.specs.Calls.{Buffers, Out, after_turn, change_by, change_call, copy_conditions, fresh_buffers, refusal_of, run_on, side_in, store_conditions}
use Rattle.model.specs.Demand3.{Finds, PanelFinds, WholeList, copy_in}
use Rattle.model.specs.Invariant.{Kept}
use Rattle.model.specs.Machine.{Answer, Commits, Side, State, fresh, refused, side_of}
use Rattle.model.specs.Refusals.{first_of, tail_conditions}
use Rattle.model.specs.Run.{AllValid, Turn, accepted, accepted_marks, own_conditions, run, step, step_by}
use Rattle.model.specs.Shows.{Shows}
use Rattle.laws.proofs.Conditions.{clear, clear_first, clear_mid, none-holds}
use Rattle.laws.proofs.Demand3.{demand_three}
use Rattle.laws.proofs.Fresh.{fresh-shows}
use Rattle.laws.proofs.Invariant.{kept_fresh, kept_side, kept_step}
use Rattle.laws.proofs.Lasting.{found, found-marks}
use Rattle.laws.proofs.Steps.{copy-clear, one-step, same-refusal, same_side, seen_seat, store-clear}
use Rattle.turns.proofs.InTurn.{own_by_another, own_by_holder}
use Rattle.turns.specs.InTurn.{in_turn_call, in_turn_conditions, in_turn_lines, own_in_turn}
use Rattle.turns.specs.Mixed.{Demand3InTurn, Move, Said, ValidMoves, bench, commits, move_step, moved, moved_on, plain, said, said_by, said_on, table, through, turn_of, turns, turns_in}
use Rattle.turns.specs.Turns.{free, holder, in_form, queue_of, turn_after, turn_call}

-- ---- one commit through the record, on buffers that show a state

abbrev pub left_as : Buffers → ℕ → Out → Buffers
left_as b k o = record { store = o.store; copies = set b.copies (k - 1) o.copy }

module _ (N : ℕ) (b : Buffers) (s : State) (W : Shows N b s) (K : Kept s) (r : List ℕ) (k stamp mask : ℕ) (lo : 1 ≤ k) (hi : k ≤ 4) (ty : stamp < 2 ^ 32) where
  first_is : first_of (in_turn_conditions b.store (copy_in b k) r stamp mask) ≡ first_of (own_in_turn r (side_of s k) stamp mask)
  first_is =
      let E = seen_seat N b s k W lo hi in
      let S = kept_side s k K lo hi in
      let d = side_in b.store (copy_in b k) in
      let ts = tail_conditions d (Commits stamp mask) in
      let ls = in_turn_lines r d stamp mask in
      clear_first (store_conditions b.store) (ts ++ (copy_conditions b.store (copy_in b k) ++ ls)) (store-clear N b.store (copy_in b k) (side_of s k) E S lo hi)
      ∙ clear_mid ts (copy_conditions b.store (copy_in b k)) ls (copy-clear N b.store (copy_in b k) (side_of s k) E S lo hi)
      ∙ ap (λ (d : Side). first_of (own_in_turn r d stamp mask)) (same_side N b.store (copy_in b k) (side_of s k) E S lo hi)

  own_is : refusal_of b.store (copy_in b k) (Commits stamp mask) ≡ first_of (own_conditions (side_of s k) (Commits stamp mask))
  own_is = same-refusal N b.store (copy_in b k) (side_of s k) (seen_seat N b s k W lo hi) (kept_side s k K lo hi) lo hi (Commits stamp mask)

  call_is : in_turn_call b.store (copy_in b k) r stamp mask ≡ change_by (first_of (own_in_turn r (side_of s k) stamp mask)) b.store (copy_in b k) (Commits stamp mask)
  unfolding in_turn_call
  call_is = ap (λ (o : Option ℕ). change_by o b.store (copy_in b k) (Commits stamp mask)) first_is

  plain_is : change_call b.store (copy_in b k) (Commits stamp mask) ≡ change_by (first_of (own_conditions (side_of s k) (Commits stamp mask))) b.store (copy_in b k) (Commits stamp mask)
  unfolding change_call
  plain_is = ap (λ (o : Option ℕ). change_by o b.store (copy_in b k) (Commits stamp mask)) own_is

  still : left_as b k (record { says = refused 0; store = b.store; copy = copy_in b k }) ≡ b
  still = λ i. record { store = b.store; copies = set-get_or b.copies (k - 1) [] i }

  -- by the holder it is the ordinary commit
  got_through_lem : (in_form r && eqb (holder (queue_of r)) k) ≡ true → in_turn_call b.store (copy_in b k) r stamp mask ≡ change_call b.store (copy_in b k) (Commits stamp mask)
  got_through_lem e =
      call_is ∙ ap (λ (o : Option ℕ). change_by o b.store (copy_in b k) (Commits stamp mask)) (own_by_holder r (side_of s k) stamp mask e) ∙ sym plain_is

  -- by another seat it is refused, and nothing changes
  held_back : (in_form r && eqb (holder (queue_of r)) k) ≡ false → left_as b k (in_turn_call b.store (copy_in b k) r stamp mask) ≡ b
  held_back e =
      let n = own_by_another r (side_of s k) stamp mask e in
      ap (left_as b k) (call_is ∙ ap (λ (o : Option ℕ). change_by o b.store (copy_in b k) (Commits stamp mask)) n.1) ∙ still

  abbrev pub Agrees : Option ℕ → Out → Type 0
  Agrees o x = (x.says ≡ (step_by o s k (Commits stamp mask)).0) × Shows N (record { store = x.store; copies = set b.copies (k - 1) x.copy }) (step_by o s k (Commits stamp mask)).1

  agrees_by : (o : Option ℕ) → first_of (own_in_turn r (side_of s k) stamp mask) ≡ o → Agrees o (change_by o b.store (copy_in b k) (Commits stamp mask))
  agrees_by (some n) e = (refl, subst (λ (c : Buffers). Shows N c s) (sym still) W)
  agrees_by none e =
      let l = clear (own_in_turn r (side_of s k) stamp mask) e in
      let q : first_of (own_conditions (side_of s k) (Commits stamp mask)) ≡ none = none-holds (own_conditions (side_of s k) (Commits stamp mask)) (l.0, l.1.1.1) in
      let A : Agrees (first_of (own_conditions (side_of s k) (Commits stamp mask))) (change_call b.store (copy_in b k) (Commits stamp mask)) =
      one-step N b s (turn_of k stamp mask) W K (record { low = lo; high = hi; typed = ty }) in
      subst (λ (o : Option ℕ). Agrees o (change_by o b.store (copy_in b k) (Commits stamp mask))) q
      (subst (Agrees (first_of (own_conditions (side_of s k) (Commits stamp mask)))) plain_is A)

  -- it answers as the machine does, and the buffers show the machine's state
  pub commit-agrees : Agrees (first_of (own_in_turn r (side_of s k) stamp mask)) (in_turn_call b.store (copy_in b k) r stamp mask)
  commit-agrees = subst (Agrees (first_of (own_in_turn r (side_of s k) stamp mask))) (sym call_is) (agrees_by (first_of (own_in_turn r (side_of s k) stamp mask)) refl)

  kept_by : (o : Option ℕ) → first_of (own_in_turn r (side_of s k) stamp mask) ≡ o → Kept (step_by o s k (Commits stamp mask)).1
  kept_by (some n) e = K
  kept_by none e =
      let l = clear (own_in_turn r (side_of s k) stamp mask) e in
      let q : first_of (own_conditions (side_of s k) (Commits stamp mask)) ≡ none = none-holds (own_conditions (side_of s k) (Commits stamp mask)) (l.0, l.1.1.1) in
      subst (λ (o : Option ℕ). Kept (step_by o s k (Commits stamp mask)).1) q (kept_step s (turn_of k stamp mask) (record { low = lo; high = hi; typed = ty }) K)

  pub commit-kept : Kept (step_by (first_of (own_in_turn r (side_of s k) stamp mask)) s k (Commits stamp mask)).1
  commit-kept = kept_by (first_of (own_in_turn r (side_of s k) stamp mask)) refl

-- ---- a list

moves_agree : (N : ℕ) (b : Buffers) (s : State) (r : List ℕ) (ms : List Move) → Shows N b s → Kept s → ValidMoves ms
    → (said_on (bench b r) ms ≡ said_by (table s r) ms) × Shows N (moved_on (bench b r) ms).buffers (moved (table s r) ms).machine
moves_agree N b s r [] W K v = (refl, W)
moves_agree N b s r (plain t ∷ ms) W K v =
    let o = one-step N b s t W K v.0 in
    let n = moves_agree N (after_turn b t) (step s t.by t.call).1 r ms o.1 (kept_step s t v.0 K) v.1 in
    (ap₂ (λ (a : Answer) (l : List Said). said a ∷ l) o.0 n.0, n.1)
moves_agree N b s r (turns c ∷ ms) W K v =
    let n = moves_agree N b s (turn_call r c).left ms W K v.1 in
    (ap (λ (l : List Said). (move_step (table s r) (turns c)).0 ∷ l) n.0, n.1)
moves_agree N b s r (commits k stamp mask ∷ ms) W K v =
    let A = commit-agrees N b s W K r k stamp mask v.0.0 v.0.1 v.0.2 in
    let n = moves_agree N (left_as b k (in_turn_call b.store (copy_in b k) r stamp mask)) (step_by (first_of (own_in_turn r (side_of s k) stamp mask)) s k (Commits stamp mask)).1 r ms
    A.1 (commit-kept N b s W K r k stamp mask v.0.0 v.0.1 v.0.2) v.1 in
    (ap₂ (λ (a : Answer) (l : List Said). said a ∷ l) A.0 n.0, n.1)

-- the record follows from the calls on it, on buffers and beside the machine
turn_follows : (b : Buffers) (r : List ℕ) (ms : List Move) → (moved_on (bench b r) ms).turn ≡ turn_after r (turns_in ms)
turn_follows b r [] = refl
turn_follows b r (plain t ∷ ms) = turn_follows (after_turn b t) r ms
turn_follows b r (turns c ∷ ms) = turn_follows b (turn_call r c).left ms
turn_follows b r (commits k stamp mask ∷ ms) = turn_follows (left_as b k (in_turn_call b.store (copy_in b k) r stamp mask)) r ms

turn-beside : (s : State) (r : List ℕ) (ms : List Move) → (moved (table s r) ms).turn ≡ turn_after r (turns_in ms)
turn-beside s r [] = refl
turn-beside s r (plain t ∷ ms) = turn-beside (step s t.by t.call).1 r ms
turn-beside s r (turns c ∷ ms) = turn-beside s (turn_call r c).left ms
turn-beside s r (commits k stamp mask ∷ ms) = turn-beside (step_by (first_of (own_in_turn r (side_of s k) stamp mask)) s k (Commits stamp mask)).1 r ms

valid-through : (r : List ℕ) (ms : List Move) → ValidMoves ms → AllValid (through r ms)
valid-through r [] v = tt
valid-through r (plain t ∷ ms) v = (v.0, valid-through r ms v.1)
valid-through r (turns c ∷ ms) v = valid-through (turn_call r c).left ms v.1
valid-through r (commits k stamp mask ∷ ms) v = go (in_form r && eqb (holder (queue_of r)) k) (valid-through r ms v.1)
  where
    go : (t : Bool) → AllValid (through r ms) → AllValid (cond t (turn_of k stamp mask ∷ through r ms) (through r ms))
    go true w = (record { low = v.0.0; high = v.0.1; typed = v.0.2 }, w)
    go false w = w

-- the buffers follow from the calls that get through
buffers_follow : (N : ℕ) (b : Buffers) (s : State) (r : List ℕ) (ms : List Move) → Shows N b s → Kept s → ValidMoves ms
    → (moved_on (bench b r) ms).buffers ≡ run_on b (through r ms)
buffers_follow N b s r [] W K v = refl
buffers_follow N b s r (plain t ∷ ms) W K v =
    buffers_follow N (after_turn b t) (step s t.by t.call).1 r ms (one-step N b s t W K v.0).1 (kept_step s t v.0 K) v.1
buffers_follow N b s r (turns c ∷ ms) W K v = buffers_follow N b s (turn_call r c).left ms W K v.1
buffers_follow N b s r (commits k stamp mask ∷ ms) W K v =
    buffers_follow N (left_as b k (in_turn_call b.store (copy_in b k) r stamp mask)) (step_by (first_of (own_in_turn r (side_of s k) stamp mask)) s k (Commits stamp mask)).1 r ms
    (commit-agrees N b s W K r k stamp mask v.0.0 v.0.1 v.0.2).1 (commit-kept N b s W K r k stamp mask v.0.0 v.0.1 v.0.2) v.1
    ∙ go (in_form r && eqb (holder (queue_of r)) k) refl
  where
    go : (t : Bool) → (in_form r && eqb (holder (queue_of r)) k) ≡ t
        → run_on (left_as b k (in_turn_call b.store (copy_in b k) r stamp mask)) (through r ms) ≡ run_on b (cond t (turn_of k stamp mask ∷ through r ms) (through r ms))
    go true e = ap (λ (o : Out). run_on (left_as b k o) (through r ms)) (got_through_lem N b s W K r k stamp mask v.0.0 v.0.1 v.0.2 e)
    go false e = ap (λ (c : Buffers). run_on c (through r ms)) (held_back N b s W K r k stamp mask v.0.0 v.0.1 v.0.2 e)

-- and so does the machine
machine_follows : (s : State) (r : List ℕ) (ms : List Move) → (moved (table s r) ms).machine ≡ run s (through r ms)
machine_follows s r [] = refl
machine_follows s r (plain t ∷ ms) = machine_follows (step s t.by t.call).1 r ms
machine_follows s r (turns c ∷ ms) = machine_follows s (turn_call r c).left ms
machine_follows s r (commits k stamp mask ∷ ms) =
    machine_follows (step_by (first_of (own_in_turn r (side_of s k) stamp mask)) s k (Commits stamp mask)).1 r ms
    ∙ go (in_form r && eqb (holder (queue_of r)) k) refl
  where
    go : (t : Bool) → (in_form r && eqb (holder (queue_of r)) k) ≡ t
        → run (step_by (first_of (own_in_turn r (side_of s k) stamp mask)) s k (Commits stamp mask)).1 (through r ms) ≡ run s (cond t (turn_of k stamp mask ∷ through r ms) (through r ms))
    go true e = ap (λ (o : Option ℕ). run (step_by o s k (Commits stamp mask)).1 (through r ms)) (own_by_holder r (side_of s k) stamp mask e)
    go false e = ap (λ (o : Option ℕ). run (step_by o s k (Commits stamp mask)).1 (through r ms)) (own_by_another r (side_of s k) stamp mask e).1

through-append : (r : List ℕ) (ms us : List Move) → through r (ms ++ us) ≡ through r ms ++ through (turn_after r (turns_in ms)) us
through-append r [] us = refl
through-append r (plain t ∷ ms) us = ap (λ (l : List Turn). t ∷ l) (through-append r ms us)
through-append r (turns c ∷ ms) us = through-append (turn_call r c).left ms us
through-append r (commits k stamp mask ∷ ms) us = go (in_form r && eqb (holder (queue_of r)) k) (through-append r ms us)
  where
    go : (t : Bool) → through r (ms ++ us) ≡ through r ms ++ through (turn_after r (turns_in ms)) us
        → cond t (turn_of k stamp mask ∷ through r (ms ++ us)) (through r (ms ++ us)) ≡ cond t (turn_of k stamp mask ∷ through r ms) (through r ms) ++ through (turn_after r (turns_in ms)) us
    go true e = ap (λ (l : List Turn). turn_of k stamp mask ∷ l) e
    go false e = e

valid-take : (n : ℕ) (ms : List Move) → ValidMoves ms → ValidMoves (take n ms)
valid-take zero ms v = tt
valid-take (suc n) [] v = tt
valid-take (suc n) (m ∷ ms) v = (v.0, valid-take n ms v.1)

pub valid-append : (ms us : List Move) → ValidMoves ms → ValidMoves us → ValidMoves (ms ++ us)
valid-append [] us v w = w
valid-append (m ∷ ms) us v w = (v.0, valid-append ms us v.1 w)

-- THE STATEMENT
pub demand_three_in_turn : Demand3InTurn
demand_three_in_turn N ms lo hi v =
    let W = fresh-shows N lo hi in
    let K = kept_fresh N (omega arith) in
    let same = buffers_follow N (fresh_buffers N) (fresh N) free ms W K v in
    let whole = demand_three N (through free ms) lo hi (valid-through free ms v) in
    record {
      answer = (moves_agree N (fresh_buffers N) (fresh N) free ms W K v).0;
      beside = turn_follows (fresh_buffers N) free ms ∙ sym (turn-beside (fresh N) free ms);
      turn = turn_follows (fresh_buffers N) free ms;
      same = same;
      whole = subst (λ (b : Buffers). WholeList N (through free ms) b (accepted (fresh N) (through free ms)) (accepted_marks (fresh N) (through free ms))) (sym same) whole;
      shows = λ n. (moves_agree N (fresh_buffers N) (fresh N) free (take n ms) W K (valid-take n ms v)).1;
      history = ap (λ (s : State). s.history) (machine_follows (fresh N) free ms) ∙ found N (through free ms);
      marks = ap (λ (s : State). s.marks) (machine_follows (fresh N) free ms) ∙ found-marks N (through free ms);
      lasting = λ us w R i le small.
          let e = buffers_follow N (fresh_buffers N) (fresh N) free (ms ++ us) W K (valid-append ms us v w) ∙ ap (run_on (fresh_buffers N)) (through-append free ms us) in
          subst (λ (b : Buffers). Finds b (accepted (fresh N) (through free ms)) R i) (sym e)
          (whole.lasting (through (turn_after free (turns_in ms)) us) (valid-through (turn_after free (turns_in ms)) us w) R i le small);
      lasting-panel = λ us w R i le small.
          let h = accepted (fresh N) (through free ms) in
          let e = buffers_follow N (fresh_buffers N) (fresh N) free (ms ++ us) W K (valid-append ms us v w) in
          subst (λ (b : Buffers). PanelFinds b h (accepted_marks (fresh N) (through free (ms ++ us))) R i) (sym e)
          (subst (λ (ts : List Turn). PanelFinds (run_on (fresh_buffers N) ts) h (accepted_marks (fresh N) ts) R i) (sym (through-append free ms us))
          (whole.lasting-panel (through (turn_after free (turns_in ms)) us) (valid-through (turn_after free (turns_in ms)) us w) R i le small));
    }
