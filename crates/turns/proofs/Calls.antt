-- A call on the record, refused or done.
-- Assumes nothing.
use mathlib.Core.Bool.{Bool, ◌||◌, cond, false, not, true}
use mathlib.Core.List.{List, [], ◌∷◌}
use mathlib.Core.Option.{none, some}
use mathlib.Core.Path.{◌∙◌, ◌≡◌, ap, ap₂, refl, sym}
use Prim.Native.Nat.{ℕ}
use borrow.Author.Tests.{eq-eqb, eqb-true, ne_eqb, not-false}
use lib.Dec.{eqb}
use lib.ListN.{get_or}
use Rattle.model.specs.Codec.{pad_to}
use Rattle.laws.proofs.Rows.{or_false}
use Rattle.turns.specs.Turned.{held_of, record_of, turned, turned_of}
use Rattle.turns.specs.Turns.{Queue, TurnCall, given_back, held_by, holder, in_form, no_turn, numbers_of, passed_on, queue_after, queue_of, strange_seat, turn_by, turn_call, turn_out}
use Rattle.turns.specs.declared.TurnRecord.{TurnRecord}
use Rattle.turns.proofs.Form.{padded_is}

pub holder-first : (q : Queue) → get_or (pad_to 4 q) 0 0 ≡ holder q
holder-first [] = refl
holder-first (s ∷ q) = refl

pub holder_is : (h : ℕ) (l : List ℕ) → holder (queue_of (h ∷ l)) ≡ h
unfolding queue_of
holder_is h l = go (eqb h 0) refl
  where
    go : (b : Bool) → eqb h 0 ≡ b → holder (cond b [] (h ∷ queue_of l)) ≡ h
    go true e = sym (eqb-true h 0 e)
    go false e = refl

-- a call that is not refused
pub done_is : (r : List ℕ) (c : TurnCall) → strange_seat c ≡ false → in_form r ≡ true → turn_call r c ≡ turn_out (held_by (holder (queue_after c (queue_of r)))) (pad_to 4 (queue_after c (queue_of r)))
unfolding turn_call
done_is r c e f = ap₂ (λ (a b : Bool). turn_by (cond (a || not b) (some 7) none) r c) e f

module _ (t : TurnRecord) (c : TurnCall) where
  pub formed : (strange_seat c || not (in_form (numbers_of t))) ≡ false → in_form (numbers_of t) ≡ true
  formed e = not-false (in_form (numbers_of t)) (or_false (strange_seat c) (not (in_form (numbers_of t))) e).1

  pub refused_is : (strange_seat c || not (in_form (numbers_of t))) ≡ true → turned t (held_of (no_turn 7)) ≡ turned_of (turn_call (numbers_of t) c)
  unfolding turn_call
  refused_is e = sym (ap (λ (b : Bool). turned_of (turn_by (cond b (some 7) none) (numbers_of t) c)) e)

  pub left_is : (strange_seat c || not (in_form (numbers_of t))) ≡ false → (u : TurnRecord) → numbers_of u ≡ pad_to 4 (queue_after c (queue_of (numbers_of t)))
      → turned u (held_of (held_by u.holder)) ≡ turned_of (turn_call (numbers_of t) c)
  left_is e u w =
      ap (λ (l : List ℕ). turned (record_of l) (held_of (held_by (get_or l 0 0)))) w
      ∙ ap (λ (n : ℕ). turned (record_of (pad_to 4 (queue_after c (queue_of (numbers_of t))))) (held_of (held_by n))) (holder-first (queue_after c (queue_of (numbers_of t))))
      ∙ sym (ap turned_of (done_is (numbers_of t) c (or_false (strange_seat c) (not (in_form (numbers_of t))) e).0 (formed e)))

-- giving back: by the holder, and by another seat
module _ (t : TurnRecord) (s : ℕ) where
  pub gives_turn : t.holder ≡ s → {l : List ℕ} → l ≡ pad_to 4 (passed_on (queue_of (numbers_of t))) → l ≡ pad_to 4 (given_back s (queue_of (numbers_of t)))
  gives_turn e w =
      w ∙ ap (λ (b : Bool). pad_to 4 (cond b (passed_on (queue_of (numbers_of t))) (queue_of (numbers_of t))))
      (sym (eq-eqb (holder (queue_of (numbers_of t))) s (holder_is t.holder (t.first ∷ t.second ∷ t.third ∷ []) ∙ e)))

  pub gives_nothing : (t.holder ≡ s → ⊥) → in_form (numbers_of t) ≡ true → numbers_of t ≡ pad_to 4 (given_back s (queue_of (numbers_of t)))
  gives_nothing n f =
      padded_is t.holder t.first t.second t.third f ∙ ap (λ (b : Bool). pad_to 4 (cond b (passed_on (queue_of (numbers_of t))) (queue_of (numbers_of t))))
      (sym (ne_eqb (holder (queue_of (numbers_of t))) s (λ e. n (sym (holder_is t.holder (t.first ∷ t.second ∷ t.third ∷ [])) ∙ e))))
