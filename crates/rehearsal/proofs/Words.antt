-- The laws of the line's nine numbers: a word that is none of them, one too many, the next, and the end.
-- Assumes nothing.
use Prim.Native.Nat.{◌+◌, ◌-◌, ◌<◌, ◌≤◌, suc, ℕ}
use mathlib.Core.Bool.{Bool, ◌&&◌, cond, false, true}
use mathlib.Core.List.{List, [], ◌++◌, ◌∷◌, append_assoc, append-nil}
use mathlib.Core.Option.{Option, none, some}
use mathlib.Core.Path.{◌∙◌, ◌≡◌, ap, ap₂, refl, sym}
use native.Mathlib.Omega.{arith}
use borrow.Author.Tests.{eq-eqb, eqb-false, eqb-true, le-leb, leb-false, leb-true, lt-leb, ne_eqb}
use lib.Dec.{eqb, leb}
use lib.ListN.{drop, length, length-append, length-drop, set, take}
use lib.Seq.{drop-drop, length-take-le, take_all, take-suc-set}
use Rattle.block.specs.Lists.{all}
use Rattle.laws.proofs.Rows.{and-nothing}
use Rattle.model.specs.History.{Bytes}
use Rattle.rehearsal.specs.Nine.{in_sixty, left_at, plan_after, small_of}
use Rattle.rehearsal.specs.Output.{Plan, both, numbered, plan_at, plan_in, ranged}
use Rattle.rehearsal.specs.Rehearsal.{in_range}
use Rattle.text.proofs.Splitting.{words_last, words_more}
use Rattle.text.specs.Text.{number_of, span_of, words}

all_both : (l m : List ℕ) → all in_range (l ++ m) ≡ (all in_range l && all in_range m)
all_both [] m = refl
all_both (x ∷ l) m = go (in_range x) (all_both l m)
  where
    go : (b : Bool) → all in_range (l ++ m) ≡ (all in_range l && all in_range m) → (b && all in_range (l ++ m)) ≡ ((b && all in_range l) && all in_range m)
    go true e = e
    go false e = refl

cond-none : (b : Bool) → cond {A = Option Plan} b none none ≡ none
cond-none true = refl
cond-none false = refl

some_none : (n : ℕ) → some n ≡ none → ⊥
some_none n e = let z : 1 ≡ 0 = ap count e in omega (arith, z)
  where
    count : Option ℕ → ℕ
    count none = 0
    count (some k) = 1

-- a number that is one from 1 to 60
is_in_sixty : (x k : ℕ) → some x ≡ in_sixty (some k) → (x ≡ k) × (in_range k ≡ true)
is_in_sixty x k z = go (in_range k) refl z
  where
    number : Option ℕ → ℕ
    number none = x
    number (some j) = j

    go : (b : Bool) → in_range k ≡ b → some x ≡ cond b (some k) none → (x ≡ k) × (in_range k ≡ true)
    go true f z = (ap number z, f)
    go false f z = absurd (some_none x z)

module _ (l : List ℕ) (ws : List Bytes) where
  -- a word that is no number from 1 to 60
  pub bad_word : (w : Bytes) → small_of w ≡ none → plan_after l (numbered (w ∷ ws)) ≡ none
  bad_word w e = go (number_of w) (numbered ws) e
    where
      not_in : (n : ℕ) (b : Bool) → cond b (some n) none ≡ none → b ≡ false
      not_in n true z = absurd (some_none n z)
      not_in n false z = refl

      go : (o : Option ℕ) (m : Option (List ℕ)) → in_sixty o ≡ none → plan_after l (both o m) ≡ none
      go none m e = refl
      go (some n) none e = refl
      go (some n) (some m) e =
          ap (λ (b : Bool). cond b (plan_in (l ++ (n ∷ m))) none) (all_both l (n ∷ m) ∙ ap (λ (b : Bool). all in_range l && (b && all in_range m)) (not_in n (in_range n) e) ∙ and-nothing (all in_range l))

  -- a tenth word
  pub one_too_many : (w : Bytes) → 9 ≤ length l → plan_after l (numbered (w ∷ ws)) ≡ none
  one_too_many w h = go (number_of w) (numbered ws)
    where
      go : (o : Option ℕ) (m : Option (List ℕ)) → plan_after l (both o m) ≡ none
      go none m = refl
      go (some n) none = refl
      go (some n) (some m) =
          ap (λ (b : Bool). cond (all in_range (l ++ (n ∷ m))) (cond b (some (plan_at (l ++ (n ∷ m)))) none) none)
          (ne_eqb (length (l ++ (n ∷ m))) 9 (λ e. omega (arith, e, h, length-append l (n ∷ m))))
          ∙ cond-none (all in_range (l ++ (n ∷ m)))

  -- the next word
  pub next_word : (w : Bytes) (x : ℕ) → some x ≡ small_of w → plan_after l (numbered (w ∷ ws)) ≡ plan_after (l ++ (x ∷ [])) (numbered ws)
  next_word w x e = go (number_of w) (numbered ws) e
    where
      go : (o : Option ℕ) (m : Option (List ℕ)) → some x ≡ in_sixty o → plan_after l (both o m) ≡ plan_after (l ++ (x ∷ [])) m
      go none m z = absurd (some_none x z)
      go (some k) none z = refl
      go (some k) (some m) z =
          ap (λ (j : ℕ). ranged (some (l ++ (j ∷ m)))) (sym (is_in_sixty x k z).0) ∙ ap (λ (t : List ℕ). ranged (some t)) (sym (append_assoc l (x ∷ []) m))

-- the number is in range
pub in_range_lem : (w : Bytes) (x : ℕ) → some x ≡ small_of w → in_range x ≡ true
in_range_lem w x e = go (number_of w) e
  where
    go : (o : Option ℕ) → some x ≡ in_sixty o → in_range x ≡ true
    go none z = absurd (some_none x z)
    go (some k) z = let p = is_in_sixty x k z in ap in_range p.0 ∙ p.1

-- no word is left
pub words-done : (l : List ℕ) → all in_range l ≡ true → plan_after l (numbered []) ≡ plan_in l
words-done l e = ap (λ (t : List ℕ). ranged (some t)) (append-nil l) ∙ ap (λ (b : Bool). cond b (plan_in l) none) e

pub range_more : (l : List ℕ) (x : ℕ) → all in_range l ≡ true → in_range x ≡ true → all in_range (l ++ (x ∷ [])) ≡ true
range_more l x e f = all_both l (x ∷ []) ∙ ap₂ (λ (a b : Bool). a && (b && true)) e f

-- ---- the words of a line, as the code finds them

-- the word at byte `at`, and what is left behind it
pub turn_word : (line : Bytes) (at e : ℕ) → at ≤ length line → e ≡ span_of 32 (drop at line) → e ≤ length (drop at line)
    → (ws : List Bytes) × (words (drop at line) ≡ take e (drop at line) ∷ ws)
    × ((m : List ℕ) → all in_range m ≡ true → left_at line m (at + (e + 1)) ≡ plan_after m (numbered ws))
turn_word line at e le se he = go (leb (length (drop at line)) e) refl
  where
    rest : length (drop at line) ≡ length line - at
    rest = length-drop at line

    go : (t : Bool) → leb (length (drop at line)) e ≡ t
        → (ws : List Bytes) × (words (drop at line) ≡ take e (drop at line) ∷ ws) × ((m : List ℕ) → all in_range m ≡ true → left_at line m (at + (e + 1)) ≡ plan_after m (numbered ws))
    go true z =
        let all_of : length (drop at line) ≤ e = leb-true (length (drop at line)) e z in (
          [],
          words_last (drop at line) (omega (arith, se, all_of)) ∙ ap (λ (w : Bytes). w ∷ []) (sym (take_all e (drop at line) all_of)),
          λ m a. ap (λ (b : Bool). cond b (plan_after m (numbered (words (drop (at + (e + 1)) line)))) (plan_in m)) (lt-leb (at + (e + 1)) (length line) (omega (arith, rest, all_of, le))) ∙ sym (words-done m a),
        )
    go false z =
        let some_of : e < length (drop at line) = leb-false (length (drop at line)) e z in (
          words (drop (e + 1) (drop at line)),
          words_more (drop at line) (omega (arith, se, some_of)) ∙ ap (λ (k : ℕ). take k (drop at line) ∷ words (drop (k + 1) (drop at line))) (sym se),
          λ m a. ap (λ (b : Bool). cond b (plan_after m (numbered (words (drop (at + (e + 1)) line)))) (plan_in m)) (le-leb (at + (e + 1)) (length line) (omega (arith, rest, some_of, le)))
              ∙ ap (λ (d : Bytes). plan_after m (numbered (words d))) (sym (drop-drop (e + 1) at line)),
        )

pub left_here : (line : Bytes) (l : List ℕ) (at : ℕ) → at ≤ length line → left_at line l at ≡ plan_after l (numbered (words (drop at line)))
left_here line l at le = ap (λ (b : Bool). cond b (plan_after l (numbered (words (drop at line)))) (plan_in l)) (le-leb at (length line) le)

pub left-none : (line : Bytes) (l : List ℕ) (at : ℕ) → length line < at → left_at line l at ≡ plan_in l
left-none line l at lt = ap (λ (b : Bool). cond b (plan_after l (numbered (words (drop at line)))) (plan_in l)) (lt-leb at (length line) lt)

pub left-all : (line : Bytes) → left_at line [] 0 ≡ ranged (numbered (words line))
left-all line = left_here line [] 0 (omega arith) ∙ go (numbered (words line))
  where
    go : (o : Option (List ℕ)) → plan_after [] o ≡ ranged o
    go none = refl
    go (some l) = refl

-- the numbers so far are the first k; all nine are the whole array
pub first_more : (n : List ℕ) (k x : ℕ) → k < length n → take (k + 1) (set n k x) ≡ take k n ++ (x ∷ [])
first_more n k x lt = let e : k + 1 ≡ suc k = omega arith in ap (λ (j : ℕ). take j (set n k x)) e ∙ take-suc-set n k x lt

pub whole : (n : List ℕ) (k : ℕ) → length n ≡ 9 → k ≤ 9 → cond (eqb k 9) (some (plan_at n)) none ≡ plan_in (take k n)
whole n k e le = go (eqb k 9) refl
  where
    go : (b : Bool) → eqb k 9 ≡ b → cond b (some (plan_at n)) none ≡ plan_in (take k n)
    go true z =
        let t : take k n ≡ n = take_all k n (omega (arith, e, eqb-true k 9 z)) in
        sym (ap plan_in t ∙ ap (λ (b : Bool). cond b (some (plan_at n)) none) (eq-eqb (length n) 9 e))
    go false z =
        sym (ap (λ (b : Bool). cond b (some (plan_at (take k n))) none) (ne_eqb (length (take k n)) 9 (λ w. eqb-false k 9 z (sym (length-take-le k n (omega (arith, e, le))) ∙ w))))
