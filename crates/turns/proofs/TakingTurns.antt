-- W7's sentences hold of the calls on the record.
-- Assumes nothing.
use Prim.Native.Nat.{◌<◌, ◌≤◌, suc, zero, ℕ}
use mathlib.Core.Bool.{Bool, ◌||◌, cond, false, not, true}
use mathlib.Core.List.{List, [], ◌++◌, ◌∷◌}
use mathlib.Core.Path.{◌∙◌, ◌≡◌, ap, ap₂, refl, subst, sym}
use native.Mathlib.Omega.{arith}
use borrow.Author.Tests.{eq-eqb, ne_eqb}
use lib.Dec.{eqb}
use lib.ListN.{get_or, length, length-append, set}
use Rattle.model.specs.Codec.{pad_to}
use Rattle.turns.specs.TakingTurns.{EndOf, Sentences, TakingTurns}
use Rattle.turns.specs.Turns.{Ask, Give, Queue, TakeBack, TurnCall, asked, held_by, holder, in_form, is_in, passed_on, queue_after, queue_of, strange_seat, turn_call, turn_out}
use Rattle.turns.proofs.Calls.{done_is, holder-first, holder_is}
use Rattle.turns.proofs.Cascade.{joins-first, passed_is}
use Rattle.turns.proofs.Form.{line_is, padded_is}
use Rattle.turns.proofs.Queues.{Seats, few, once-append, seats-append}
use Rattle.turns.proofs.Turning.{so_seat}

-- ---- a line with zeros behind it

module _ (s : ℕ) where
  no_zero : 1 ≤ s → (n : ℕ) → is_in s (pad_to n []) ≡ false
  no_zero lo zero = refl
  no_zero lo (suc n) = ap₂ ◌||◌ (ne_eqb 0 s (λ e. omega (arith, e, lo))) (no_zero lo n)

  -- a seat is one of the numbers exactly if it is in line
  in_padded : 1 ≤ s → (n : ℕ) (q : Queue) → length q ≤ n → is_in s (pad_to n q) ≡ is_in s q
  in_padded lo zero [] h = refl
  in_padded lo zero (x ∷ q) h = absurd (omega arith)
  in_padded lo (suc n) [] h = no_zero lo (suc n)
  in_padded lo (suc n) (x ∷ q) h = ap (λ (t : Bool). eqb x s || t) (in_padded lo n q (omega arith))

  -- who joins stands where the first 0 was
  set-padded : (n : ℕ) (q : Queue) → length q < n → set (pad_to n q) (length q) s ≡ pad_to n (q ++ (s ∷ []))
  set-padded zero q h = absurd (omega arith)
  set-padded (suc n) [] h = refl
  set-padded (suc n) (x ∷ q) h = ap (λ (l : List ℕ). x ∷ l) (set-padded n q (omega arith))

zero-behind : (n : ℕ) (q : Queue) → get_or (pad_to n q) (length q) 0 ≡ 0
zero-behind zero q = refl
zero-behind (suc n) [] = refl
zero-behind (suc n) (x ∷ q) = zero-behind n q

no_zero-before : (n : ℕ) (q : Queue) → Seats q → length q ≤ n → (j : ℕ) → j < length q → get_or (pad_to n q) j 0 ≡ 0 → ⊥
no_zero-before n [] a h j l e = omega arith
no_zero-before zero (x ∷ q) a h j l e = omega arith
no_zero-before (suc n) (x ∷ q) a h zero l e = let z = a.0.0 in omega (arith, z, e)
no_zero-before (suc n) (x ∷ q) a h (suc j) l e = no_zero-before n q a.1 (omega arith) j (omega arith) e

-- ---- the sentences

module _ (h a b c : ℕ) (form : in_form (h ∷ a ∷ b ∷ c ∷ []) ≡ true) where
  abbrev r : List ℕ
  r = h ∷ a ∷ b ∷ c ∷ []

  abbrev q : Queue
  q = queue_of r

  -- a call that is not refused leaves these numbers, and answers their first
  leaves : (d : TurnCall) → strange_seat d ≡ false → {l : List ℕ} → l ≡ pad_to 4 (queue_after d q) → turn_call r d ≡ turn_out (held_by (get_or l 0 0)) l
  leaves d e w =
      done_is r d e form
      ∙ ap (λ (n : ℕ). turn_out (held_by n) (pad_to 4 (queue_after d q))) (sym (holder-first (queue_after d q)))
      ∙ ap (λ (l : List ℕ). turn_out (held_by (get_or l 0 0)) l) (sym w)

  -- nobody holds: nobody is in line
  empty-line : h ≡ 0 → q ≡ []
  unfolding queue_of
  empty-line e = ap (λ (t : Bool). cond t [] (h ∷ queue_of (a ∷ b ∷ c ∷ []))) (eq-eqb h 0 e)

  module _ (s : ℕ) (lo : 1 ≤ s) (hi : s ≤ 4) where
    fine : strange_seat (Ask s) ≡ false
    fine = ap not (so_seat s lo hi)

    in_numbers : is_in s r ≡ is_in s q
    in_numbers = ap (is_in s) (padded_is h a b c form) ∙ in_padded s lo 4 q (few q (line_is h a b c form))

    joins : is_in s r ≡ false → (i : ℕ) × EndOf r i × (turn_call r (Ask s) ≡ turn_out (held_by (get_or (set r i s) 0 0)) (set r i s))
    joins e =
        let R = line_is h a b c form in
        let out = sym in_numbers ∙ e in
        let one = few (q ++ (s ∷ [])) (record { seats = seats-append s q R.seats lo hi; once = once-append s q R.once out }) in
        let short : length q < 4 = (let m = length-append q (s ∷ []) in omega (arith, one, m)) in
        let p = padded_is h a b c form in
        let w : set r (length q) s ≡ pad_to 4 (asked s q) =
        ap (λ (l : List ℕ). set l (length q) s) p ∙ set-padded s 4 q short ∙ ap (λ (t : Bool). pad_to 4 (cond t q (q ++ (s ∷ [])))) (sym out) in (
          length q,
          subst (λ (l : List ℕ). EndOf l (length q)) (sym p)
              (record { within = short; free = zero-behind 4 q; first = no_zero-before 4 q R.seats (omega (arith, short)) }),
          leaves (Ask s) fine w,
        )

    sentences : Sentences h a b c s
    sentences = record {
      gets = λ e. leaves (Ask s) fine (joins-first h a b c s e);
      joins = λ n e. let j = joins e in (j.0, j.1, j.2 ∙ ap (λ (k : ℕ). turn_out (held_by k) (set r j.0 s)) (held n j.0 j.1));
      gives = λ e. leaves (Give s) fine (passed_is h a b c form ∙ ap (λ (t : Bool). pad_to 4 (cond t (passed_on q) q)) (sym (eq-eqb (holder q) s (holder_is h (a ∷ b ∷ c ∷ []) ∙ e))));
      takes = λ n. leaves TakeBack refl (passed_is h a b c form);
      another = λ n. leaves (Give s) fine (padded_is h a b c form ∙ ap (λ (t : Bool). pad_to 4 (cond t (passed_on q) q)) (sym (ne_eqb (holder q) s (λ e. n (sym (holder_is h (a ∷ b ∷ c ∷ [])) ∙ e)))));
      nobody = λ e. leaves TakeBack refl (padded_is h a b c form ∙ ap (pad_to 4) (empty-line e ∙ ap passed_on (sym (empty-line e)))) ∙ ap (λ (k : ℕ). turn_out (held_by k) r) e;
      again = λ e. leaves (Ask s) fine (padded_is h a b c form ∙ ap (λ (t : Bool). pad_to 4 (cond t q (q ++ (s ∷ [])))) (sym (sym in_numbers ∙ e)));
    }
      where
        -- who joins behind a holder does not hold
        held : (h ≡ 0 → ⊥) → (i : ℕ) → EndOf r i → get_or (set r i s) 0 0 ≡ h
        held n zero E = absurd (n E.free)
        held n (suc i) E = refl

-- THE STATEMENT
pub taking_turns : TakingTurns
taking_turns h a b c s form lo hi = sentences h a b c form s lo hi
