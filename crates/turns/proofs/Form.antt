-- A record in form, by a table of all records without a number above 4: it is a line of seats, none twice, with zeros behind it.
-- Assumes nothing.
use Prim.Native.Nat.{◌≤◌, suc, zero, ℕ}
use mathlib.Core.Bool.{Bool, ◌&&◌, ◌||◌, cond, false, not, true}
use mathlib.Core.List.{List, [], ◌∷◌}
use mathlib.Core.Path.{◌∙◌, ◌≡◌, ap, ap₂, refl, sym}
use native.Mathlib.Omega.{arith}
use borrow.Author.Tests.{eqb-false, le-leb, leb-true, ne_eqb}
use lib.Dec.{T, eqb, leb}
use lib.ListN.{length}
use Rattle.block.proofs.Says.{all_from_so, is_true, says_same, true_says}
use Rattle.block.specs.Lists.{All, all_from, same}
use Rattle.model.specs.Codec.{pad_to}
use Rattle.laws.proofs.Accepted.{both}
use Rattle.turns.specs.Turns.{Queue, in_form, queue_of, seat_after0, seat_twice}
use Rattle.turns.proofs.Queues.{Right, Seats, few, no_seat_twice}

abbrev lows : ℕ → ℕ → ℕ → ℕ → Bool
lows h a b c = leb h 4 && (leb a 4 && (leb b 4 && leb c 4))

-- as the document has it
abbrev once : ℕ → ℕ → ℕ → ℕ → Bool
once h a b c = not (seat_twice (h ∷ a ∷ b ∷ c ∷ []) || seat_after0 (h ∷ a ∷ b ∷ c ∷ []))

-- as a line
abbrev lined : ℕ → ℕ → ℕ → ℕ → Bool
lined h a b c = no_seat_twice (queue_of (h ∷ a ∷ b ∷ c ∷ [])) && same (h ∷ a ∷ b ∷ c ∷ []) (pad_to 4 (queue_of (h ∷ a ∷ b ∷ c ∷ [])))

-- those in line are seats
seats_so : (l : List ℕ) → All (λ (n : ℕ). n ≤ 4) l → Seats (queue_of l)
unfolding queue_of
seats_so [] a = tt
seats_so (n ∷ l) a = go (eqb n 0) refl (seats_so l a.1)
  where
    go : (t : Bool) → eqb n 0 ≡ t → Seats (queue_of l) → Seats (cond t [] (n ∷ queue_of l))
    go true e s = tt
    go false e s = ((let z = eqb-false n 0 e in omega (arith, z), a.0), s)

-- ---- the table

abbrev alike : Bool → Bool → Bool
alike true y = y
alike false y = not y

alike_so : (x y : Bool) → T (alike x y) → x ≡ y
alike_so true true t = refl
alike_so true false t = absurd t
alike_so false true t = absurd t
alike_so false false t = refl

abbrev Test : Type 0
Test = ℕ → ℕ → ℕ → ℕ → Bool

abbrev everywhere : Test → Bool
everywhere f = all_from (λ h. all_from (λ a. all_from (λ b. all_from (λ c. f h a b c) 0 5) 0 5) 0 5) 0 5

everywhere_so : (f : Test) → T (everywhere f) → (h a b c : ℕ) → h ≤ 4 → a ≤ 4 → b ≤ 4 → c ≤ 4 → T (f h a b c)
everywhere_so f t h a b c lh la lb lc =
    let one = all_from_so (λ h. all_from (λ a. all_from (λ b. all_from (λ c. f h a b c) 0 5) 0 5) 0 5) 0 5 t h (omega arith) (omega arith) in
    let two = all_from_so (λ a. all_from (λ b. all_from (λ c. f h a b c) 0 5) 0 5) 0 5 one a (omega arith) (omega arith) in
    let three = all_from_so (λ b. all_from (λ c. f h a b c) 0 5) 0 5 two b (omega arith) (omega arith) in
    all_from_so (λ c. f h a b c) 0 5 three c (omega arith) (omega arith)

abbrev same_line : Test
same_line h a b c = alike (once h a b c) (lined h a b c)

line-table : T (everywhere same_line)
unfolding queue_of
line-table = tt

module _ (h a b c : ℕ) where
  form_tests : (lows h a b c && once h a b c) ≡ in_form (h ∷ a ∷ b ∷ c ∷ [])
  unfolding in_form
  form_tests = go (leb h 4) (leb a 4) (leb b 4) (leb c 4)
    where
      go : (x y z w : Bool) → ((x && (y && (z && w))) && once h a b c)
          ≡ not ((not x || (not y || (not z || (not w || false)))) || (seat_twice (h ∷ a ∷ b ∷ c ∷ []) || seat_after0 (h ∷ a ∷ b ∷ c ∷ [])))
      go true true true true = refl
      go true true true false = refl
      go true true false w = refl
      go true false z w = refl
      go false y z w = refl

  -- ---- a record in form is a line of seats, none twice, with zeros behind it

  module _ (lh : h ≤ 4) (la : a ≤ 4) (lb : b ≤ 4) (lc : c ≤ 4) where
    once_lined : once h a b c ≡ lined h a b c
    once_lined = alike_so (once h a b c) (lined h a b c) (everywhere_so same_line line-table h a b c lh la lb lc)

    formed_by : lined h a b c ≡ true → in_form (h ∷ a ∷ b ∷ c ∷ []) ≡ true
    formed_by e = sym form_tests ∙ ap₂ ◌&&◌ (ap₂ ◌&&◌ (le-leb h 4 lh) (ap₂ ◌&&◌ (le-leb a 4 la) (ap₂ ◌&&◌ (le-leb b 4 lb) (le-leb c 4 lc)))) (once_lined ∙ e)

  module _ (form : in_form (h ∷ a ∷ b ∷ c ∷ []) ≡ true) where
    low : (h ≤ 4) × (a ≤ 4) × (b ≤ 4) × (c ≤ 4)
    low =
        let l = (both (lows h a b c) (once h a b c) (form_tests ∙ form)).0 in
        let m = both (leb h 4) (leb a 4 && (leb b 4 && leb c 4)) l in
        let n = both (leb a 4) (leb b 4 && leb c 4) m.1 in
        let o = both (leb b 4) (leb c 4) n.1 in
        (leb-true h 4 m.0, leb-true a 4 n.0, leb-true b 4 o.0, leb-true c 4 o.1)

    in_line_lem : lined h a b c ≡ true
    in_line_lem =
        let l = low in
        sym (once_lined l.0 l.1 l.2 l.3) ∙ (both (lows h a b c) (once h a b c) (form_tests ∙ form)).1

    pub padded_is : h ∷ a ∷ b ∷ c ∷ [] ≡ pad_to 4 (queue_of (h ∷ a ∷ b ∷ c ∷ []))
    padded_is =
        true_says (says_same (h ∷ a ∷ b ∷ c ∷ []) (pad_to 4 (queue_of (h ∷ a ∷ b ∷ c ∷ []))))
        (both (no_seat_twice (queue_of (h ∷ a ∷ b ∷ c ∷ []))) (same (h ∷ a ∷ b ∷ c ∷ []) (pad_to 4 (queue_of (h ∷ a ∷ b ∷ c ∷ [])))) in_line_lem).1

    pub line_is : Right (queue_of (h ∷ a ∷ b ∷ c ∷ []))
    line_is = record {
      seats = let l = low in seats_so (h ∷ a ∷ b ∷ c ∷ []) (l.0, (l.1, (l.2, (l.3, tt))));
      once = (both (no_seat_twice (queue_of (h ∷ a ∷ b ∷ c ∷ []))) (same (h ∷ a ∷ b ∷ c ∷ []) (pad_to 4 (queue_of (h ∷ a ∷ b ∷ c ∷ [])))) in_line_lem).0;
    }

-- a line with zeros behind it has four numbers
pub four_of_lem : (P : List ℕ → Type 0) → ((h a b c : ℕ) → P (h ∷ a ∷ b ∷ c ∷ [])) → (q : Queue) → P (pad_to 4 q)
four_of_lem P f [] = f 0 0 0 0
four_of_lem P f (h ∷ []) = f h 0 0 0
four_of_lem P f (h ∷ a ∷ []) = f h a 0 0
four_of_lem P f (h ∷ a ∷ b ∷ []) = f h a b 0
four_of_lem P f (h ∷ a ∷ b ∷ c ∷ q) = f h a b c

low-padded : (n : ℕ) (q : Queue) → Seats q → All (λ (n : ℕ). n ≤ 4) (pad_to n q)
low-padded zero q a = tt
low-padded (suc n) [] a = (omega arith, low-padded n [] tt)
low-padded (suc n) (s ∷ q) a = (a.0.1, low-padded n q a.1)

queue-padded : (n : ℕ) (q : Queue) → Seats q → length q ≤ n → queue_of (pad_to n q) ≡ q
unfolding queue_of
queue-padded zero [] a h = refl
queue-padded (suc n) [] a h = refl
queue-padded zero (s ∷ q) a h = absurd (omega arith)
queue-padded (suc n) (s ∷ q) a h =
    ap (λ (b : Bool). cond b [] (s ∷ queue_of (pad_to n q))) (ne_eqb s 0 (λ e. let l = a.0.0 in omega (arith, l, e)))
    ∙ ap (λ (r : Queue). s ∷ r) (queue-padded n q a.1 (omega arith))

-- and is in form
module _ (q : Queue) (R : Right q) where
  pub queue_is : queue_of (pad_to 4 q) ≡ q
  queue_is = queue-padded 4 q R.seats (few q R)

  pub form_is : in_form (pad_to 4 q) ≡ true
  form_is =
      four_of_lem (λ (l : List ℕ). All (λ (n : ℕ). n ≤ 4) l → no_seat_twice (queue_of l) ≡ true → l ≡ pad_to 4 (queue_of l) → in_form l ≡ true)
      (λ h a b c l o e.
      let r : List ℕ = h ∷ a ∷ b ∷ c ∷ [] in
      let s = is_true (same r (pad_to 4 (queue_of r))) ((says_same r (pad_to 4 (queue_of r))).so_true e) in
      formed_by h a b c l.0 l.1.0 l.1.1.0 l.1.1.1.0 (ap₂ ◌&&◌ o s)) q
      (low-padded 4 q R.seats) (ap no_seat_twice queue_is ∙ R.once) (ap (pad_to 4) (sym queue_is))
