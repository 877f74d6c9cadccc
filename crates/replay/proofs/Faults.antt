-- The check of the five buffers, one line after the other.
-- Assumes nothing.
use Rattle.std.specs.Prelude.{Err, Ok}
use Prim.Native.Nat.{◌*◌, ◌+◌, ◌-◌, ◌<◌, ◌≤◌, suc, zero, ℕ}
use mathlib.Core.Bool.{Bool, ◌||◌, false, not, true}
use mathlib.Core.List.{List, [], ◌++◌, ◌∷◌}
use mathlib.Core.Option.{Option, none, some}
use mathlib.Core.Logic.{inl, inr}
use mathlib.Core.Path.{◌∙◌, ◌≡◌, ap, subst, sym}
use native.Mathlib.Omega.{arith}
use borrow.Author.Tests.{eq-eqb, eqb-true, le-ltb, lt-ltb, ltb-false, ne_eqb, not-false}
use lib.Dec.{eqb, ltb}
use lib.ListN.{drop, length, length-append, length-drop, take}
use lib.Seq.{drop-drop, drop_at, take_at}
use Rattle.block.proofs.Says.{eq_or}
use Rattle.entries.proofs.Checking.{check_ready, check_refused, fitting_accepted}
use Rattle.entries.specs.View.{check_of}
use Rattle.entries.specs.declared.View.{View}
use Rattle.inner.proofs.Refusing.{first-stays}
use Rattle.laws.proofs.Conditions.{clear, clear_first, clear_split, none-holds}
use Rattle.laws.proofs.Rows.{or_false}
use Rattle.model.specs.Calls.{copy_conditions, store_conditions}
use Rattle.model.specs.History.{Bytes}
use Rattle.model.specs.Refusals.{Clear, Condition, ◌when◌, first_of}
use Rattle.model.specs.Types.{number_of}
use Rattle.model.specs.WorkCopy.{seat_of}
use Rattle.model.specs.declared.Refusal.{Refusal}
use Rattle.replay.specs.Desk.{copy_at}
use Rattle.replay.specs.Replay.{copy_lines, lines_from, replay_conditions, replay_refusal}
use Rattle.replay.specs.Script.{script_ok}
use Rattle.store.proofs.Opening.{open_accepted, open_refused}
use Rattle.store.specs.Opened.{open_of}
use Rattle.store.specs.declared.Header.{Header}

-- a list that no line of which holds, before others
passed : (cs ds : List Condition) → first_of cs ≡ none → first_of (cs ++ ds) ≡ first_of ds
passed cs ds e = clear_first cs ds (clear cs e)

module _ (store copy : Bytes) (h : Header) (o : open_of store ≡ Ok h) (seat : ℕ) where
  pub fault_refused : (k : Refusal) → check_of store copy ≡ Err k → some (number_of k) ≡ first_of (copy_lines store copy seat)
  fault_refused k e =
      let p : first_of (copy_conditions store copy) ≡ some (number_of k) = sym (passed (store_conditions store) (copy_conditions store copy) (open_accepted store h o).0) ∙ check_refused store copy k e in
      sym (first-stays (copy_conditions store copy) (7 when not (eqb (seat_of copy) seat) ∷ []) (number_of k) p)

  module _ (v : View) (e : check_of store copy ≡ Ok v) where
    last_line : first_of (copy_lines store copy seat) ≡ first_of (7 when not (eqb v.seat seat) ∷ [])
    last_line =
        let F = check_ready store copy v e in
        passed (copy_conditions store copy) (7 when not (eqb (seat_of copy) seat) ∷ []) (fitting_accepted store copy v F).copy_taken
        ∙ ap (λ (s : ℕ). first_of (7 when not (eqb s seat) ∷ [])) (sym F.seat)

    pub fault_seat : (v.seat ≡ seat → ⊥) → some 7 ≡ first_of (copy_lines store copy seat)
    fault_seat n = sym (last_line ∙ rw (ne_eqb v.seat seat n))

    pub fault_free : v.seat ≡ seat → none ≡ first_of (copy_lines store copy seat)
    fault_free q = sym (last_line ∙ rw (eq-eqb v.seat seat q))

-- the next of the chunks of four copies, k of which have come
pub chunk_next : (l x y : Bytes) (k : ℕ) → length l ≡ 67_584 → drop (16_896 * k) l ≡ x ++ y → length x ≡ 16_896 → (k < 4) × (x ≡ copy_at l k) × (y ≡ drop (16_896 * (k + 1)) l)
chunk_next l x y k four e s =
    let n : 16_896 * k + 16_896 ≡ 16_896 * (k + 1) = omega arith in (
      omega (arith, length-drop (16_896 * k) l, ap length e, length-append x y),
      sym (take_at x y 16_896 s) ∙ ap (take 16_896) (sym e),
      sym (drop_at x y 16_896 s) ∙ ap (drop 16_896) (sym e) ∙ drop-drop 16_896 (16_896 * k) l ∙ ap (λ (m : ℕ). drop m l) n,
    )

module _ (store copies : Bytes) (k : ℕ) (h : k < 4) where
  lines_next : lines_from store copies k (4 - k) ≡ copy_lines store (copy_at copies k) (k + 1) ++ lines_from store copies (k + 1) (4 - (k + 1))
  unfolding lines_from
  lines_next =
      let n : 4 - k ≡ suc (4 - (k + 1)) = omega arith in
      let s : suc k ≡ k + 1 = omega arith in
      ap (lines_from store copies k) n ∙ ap (λ (j : ℕ). copy_lines store (copy_at copies k) j ++ lines_from store copies j (4 - (k + 1))) s

  -- the copy as it comes
  pub lines_here : {f : Option ℕ} {x : Bytes} {j : ℕ} → x ≡ copy_at copies k → j ≡ k → f ≡ first_of (copy_lines store x (j + 1)) → f ≡ first_of (copy_lines store (copy_at copies k) (k + 1))
  lines_here e i q = q ∙ (λ m. first_of (copy_lines store (e m) (i m + 1)))

  pub lines-refused : (n : ℕ) → some n ≡ first_of (copy_lines store (copy_at copies k) (k + 1)) → some n ≡ first_of (lines_from store copies k (4 - k))
  lines-refused n e = sym (ap first_of lines_next ∙ first-stays (copy_lines store (copy_at copies k) (k + 1)) (lines_from store copies (k + 1) (4 - (k + 1))) n (sym e))

  pub lines-free : none ≡ first_of (copy_lines store (copy_at copies k) (k + 1)) → first_of (lines_from store copies (k + 1) (4 - (k + 1))) ≡ first_of (lines_from store copies k (4 - k))
  lines-free e = sym (ap first_of lines_next ∙ passed (copy_lines store (copy_at copies k) (k + 1)) (lines_from store copies (k + 1) (4 - (k + 1))) (sym e))

pub lines_end : (store copies : Bytes) (k : ℕ) → 4 ≤ k → none ≡ first_of (lines_from store copies k (4 - k))
unfolding lines_from
lines_end store copies k h = let n : 4 - k ≡ 0 = omega arith in sym (ap (λ (m : ℕ). first_of (lines_from store copies k m)) n)

module _ (script store copies answers : Bytes) where
  abbrev last_line_lem : List Condition
  last_line_lem = 7 when (not (script_ok script) || ltb (length answers) (length script)) ∷ []

  abbrev copies_lines : List Condition
  copies_lines = lines_from store copies 0 4 ++ last_line_lem

  abbrev next_lines : List Condition
  next_lines = 4 when not (eqb (length copies) 67_584) ∷ copies_lines

  pub check_store : (k : Refusal) → open_of store ≡ Err k → replay_refusal script store copies answers ≡ some (number_of k)
  unfolding replay_refusal
  check_store k e = first-stays (store_conditions store) next_lines (number_of k) (open_refused store k e)

  module _ (h : Header) (o : open_of store ≡ Ok h) where
    after_store : replay_refusal script store copies answers ≡ first_of next_lines
    unfolding replay_refusal
    after_store = passed (store_conditions store) next_lines (open_accepted store h o).0

    pub check_length : (length copies ≡ 67_584 → ⊥) → replay_refusal script store copies answers ≡ some 4
    check_length n = after_store ∙ rw (ne_eqb (length copies) 67_584 n)

    module _ (n : length copies ≡ 67_584) where
      after-length : replay_refusal script store copies answers ≡ first_of copies_lines
      after-length = after_store ∙ rw (eq-eqb (length copies) 67_584 n)

      pub check_copy_lem : (k : ℕ) → some k ≡ first_of (lines_from store copies 0 4) → replay_refusal script store copies answers ≡ some k
      check_copy_lem k e = after-length ∙ first-stays (lines_from store copies 0 4) last_line_lem k (sym e)

      module _ (c : none ≡ first_of (lines_from store copies 0 4)) {b : Bool} (s : b ≡ script_ok script) where
        after-copies : replay_refusal script store copies answers ≡ first_of (7 when (not b || ltb (length answers) (length script)) ∷ [])
        after-copies =
            after-length ∙ passed (lines_from store copies 0 4) last_line_lem (sym c)
            ∙ ap (λ (x : Bool). first_of (7 when (not x || ltb (length answers) (length script)) ∷ [])) (sym s)

        pub check_script : not b ≡ true → replay_refusal script store copies answers ≡ some 7
        check_script q = after-copies ∙ rw q

        module _ (q : not b ≡ false) where
          pub check_room : length answers < length script → replay_refusal script store copies answers ≡ some 7
          check_room l = after-copies ∙ rw (q, lt-ltb (length answers) (length script) l)

          pub check_all : length script ≤ length answers → replay_refusal script store copies answers ≡ none
          check_all l = after-copies ∙ rw (q, le-ltb (length answers) (length script) l)

-- what is asked of a run: no line holds
module _ (script store copies answers : Bytes) (e : replay_refusal script store copies answers ≡ none) where
  lines : Clear (replay_conditions script store copies answers)
  unfolding replay_refusal
  lines = clear (replay_conditions script store copies answers) e

  after : Clear (next_lines script store copies answers)
  after = (clear_split (store_conditions store) (next_lines script store copies answers) lines).1

  ends : Clear (lines_from store copies 0 4) × Clear (last_line_lem script store copies answers)
  ends = clear_split (lines_from store copies 0 4) (last_line_lem script store copies answers) after.1

  pub store_taken_lem : first_of (store_conditions store) ≡ none
  store_taken_lem = none-holds (store_conditions store) (clear_split (store_conditions store) (next_lines script store copies answers) lines).0

  pub copies-size : length copies ≡ 67_584
  copies-size = eqb-true (length copies) 67_584 (not-false (eqb (length copies) 67_584) after.0)

  pub script_good : script_ok script ≡ true
  script_good = not-false (script_ok script) (or_false (not (script_ok script)) (ltb (length answers) (length script)) ends.1.0).0

  pub room-enough : length script ≤ length answers
  room-enough = ltb-false (length answers) (length script) (or_false (not (script_ok script)) (ltb (length answers) (length script)) ends.1.0).1

  -- of n copies from place k on, each
  each-clear : (k n j : ℕ) → Clear (lines_from store copies k n) → k ≤ j → j < k + n → Clear (copy_lines store (copy_at copies j) (suc j))
  unfolding lines_from
  each-clear k zero j c lo hi = absurd (omega arith)
  each-clear k (suc n) j c lo hi =
      let s = clear_split (copy_lines store (copy_at copies k) (suc k)) (lines_from store copies (suc k) n) c in
      elim (eq_or j k) [
        | inl q ↦ subst (λ (i : ℕ). Clear (copy_lines store (copy_at copies i) (suc i))) (sym q) s.0
        | inr d ↦ each-clear (suc k) n j s.1 (omega (arith, d)) (omega arith)
      ]

  pub copy-clear : (k : ℕ) → k < 4 → (first_of (copy_conditions store (copy_at copies k)) ≡ none) × (seat_of (copy_at copies k) ≡ suc k)
  copy-clear k h =
      let c = clear_split (copy_conditions store (copy_at copies k)) (7 when not (eqb (seat_of (copy_at copies k)) (suc k)) ∷ []) (each-clear 0 4 k ends.0 (omega arith) (omega arith)) in
      (none-holds (copy_conditions store (copy_at copies k)) c.0, eqb-true (seat_of (copy_at copies k)) (suc k) (not-false (eqb (seat_of (copy_at copies k)) (suc k)) c.1.0))
