-- The calls on a line of seats with zeros behind it leave such a line, and the bound of three.
-- Assumes nothing.
use Prim.Native.Nat.{◌+◌, ◌≤◌, suc, ℕ}
use mathlib.Core.Bool.{Bool, ◌&&◌, ◌||◌, cond, false, not, true}
use mathlib.Core.List.{List, [], ◌++◌, ◌∷◌, append_assoc}
use mathlib.Core.Logic.{◌⊎◌, inl, inr}
use mathlib.Core.Option.{none, some}
use mathlib.Core.Path.{◌∙◌, ◌≡◌, ap, ap₂, refl, subst, sym}
use native.Mathlib.Omega.{arith}
use borrow.Author.Tests.{eq-eqb, eqb-true, le-leb, leb-true, ne_eqb, not-false}
use lib.Dec.{eqb, leb}
use lib.ListN.{length, length-append, take}
use Rattle.model.specs.Codec.{pad_to}
use Rattle.turns.specs.Turns.{AlwaysInForm, Ask, BoundOfThree, Give, HoldsWithin, Queue, TakeBack, TurnCall, asked, endings, ends_turn, free, given_back, held_by, holder, in_form, is_in, is_seat, no_turn, passed_on, queue_after, queue_of, strange_seat, turn_after, turn_by, turn_call, turn_out}
use Rattle.laws.proofs.Accepted.{both}
use Rattle.turns.proofs.Calls.{done_is}
use Rattle.turns.proofs.Form.{form_is, queue_is}
use Rattle.turns.proofs.Queues.{Right, few, in_append, no_seat_twice, once-append, seats-append}

-- ---- the calls

strange_is : (q : Queue) → Right q → (c : TurnCall) → strange_seat c ≡ true → turn_call (pad_to 4 q) c ≡ turn_out (no_turn 7) (pad_to 4 q)
unfolding turn_call
strange_is q R c e = ap (λ (b : Bool). turn_by (cond (b || not (in_form (pad_to 4 q))) (some 7) none) (pad_to 4 q) c) e

pub called : (q : Queue) → Right q → (c : TurnCall) → strange_seat c ≡ false → turn_call (pad_to 4 q) c ≡ turn_out (held_by (holder (queue_after c q))) (pad_to 4 (queue_after c q))
called q R c e =
    done_is (pad_to 4 q) c e (form_is q R)
    ∙ ap (λ (r : Queue). turn_out (held_by (holder (queue_after c r))) (pad_to 4 (queue_after c r))) (queue_is q R)

seat_so : (s : ℕ) → is_seat s ≡ true → (1 ≤ s) × (s ≤ 4)
seat_so s e = (leb-true 1 s (both (leb 1 s) (leb s 4) e).0, leb-true s 4 (both (leb 1 s) (leb s 4) e).1)

pub so_seat : (s : ℕ) → 1 ≤ s → s ≤ 4 → is_seat s ≡ true
so_seat s lo hi = ap₂ ◌&&◌ (le-leb 1 s lo) (le-leb s 4 hi)

right-asked : (s : ℕ) (q : Queue) → 1 ≤ s → s ≤ 4 → Right q → Right (asked s q)
right-asked s q lo hi R = go (is_in s q) refl
  where
    go : (b : Bool) → is_in s q ≡ b → Right (cond b q (q ++ (s ∷ [])))
    go true e = R
    go false e = record { seats = seats-append s q R.seats lo hi; once = once-append s q R.once e }

right-passed : (q : Queue) → Right q → Right (passed_on q)
right-passed [] R = R
right-passed (s ∷ q) R = record { seats = R.seats.1; once = (both (not (is_in s q)) (no_seat_twice q) R.once).1 }

right-given : (s : ℕ) (q : Queue) → Right q → Right (given_back s q)
right-given s q R = go (eqb (holder q) s)
  where
    go : (b : Bool) → Right (cond b (passed_on q) q)
    go true = right-passed q R
    go false = R

right-after : (c : TurnCall) (q : Queue) → strange_seat c ≡ false → Right q → Right (queue_after c q)
right-after (Ask s) q e R = let l = seat_so s (not-false (is_seat s) e) in right-asked s q l.0 l.1 R
right-after (Give s) q e R = right-given s q R
right-after TakeBack q e R = right-passed q R

-- every record that the calls leave is such a line
pub line-left : (q : Queue) → Right q → (c : TurnCall) → (q' : Queue) × Right q' × ((turn_call (pad_to 4 q) c).left ≡ pad_to 4 q')
line-left q R c = go (strange_seat c) refl
  where
    go : (b : Bool) → strange_seat c ≡ b → (q' : Queue) × Right q' × ((turn_call (pad_to 4 q) c).left ≡ pad_to 4 q')
    go true e = (q, R, ap (λ o. o.left) (strange_is q R c e))
    go false e = (queue_after c q, right-after c q e R, ap (λ o. o.left) (called q R c e))

line_after : (cs : List TurnCall) (q : Queue) → Right q → (q' : Queue) × Right q' × (turn_after (pad_to 4 q) cs ≡ pad_to 4 q')
line_after [] q R = (q, R, refl)
line_after (c ∷ cs) q R =
    let n = line-left q R c in
    let r = line_after cs n.0 n.1 in
    (r.0, r.1, ap (λ (x : List ℕ). turn_after x cs) n.2 ∙ r.2)

nobody : Right []
nobody = record { seats = tt; once = refl }

pub always_in_form : AlwaysInForm
always_in_form cs = let a = line_after cs [] nobody in ap in_form a.2 ∙ form_is a.0 a.1

-- ---- the bound

-- where seat s stands behind h and a: a call ends h's turn, and s is one place further; or it doesn't, and s keeps its place
module _ (h : ℕ) (a : Queue) (s : ℕ) (b : Queue) (R : Right (h ∷ (a ++ (s ∷ b)))) where
  abbrev Further : TurnCall → Type 0
  Further c = (ends_turn (pad_to 4 (h ∷ (a ++ (s ∷ b)))) c ≡ true) × ((turn_call (pad_to 4 (h ∷ (a ++ (s ∷ b)))) c).left ≡ pad_to 4 (a ++ (s ∷ b)))

  abbrev Stays : TurnCall → Type 0
  Stays c = (b' : Queue) × (ends_turn (pad_to 4 (h ∷ (a ++ (s ∷ b)))) c ≡ false) × ((turn_call (pad_to 4 (h ∷ (a ++ (s ∷ b)))) c).left ≡ pad_to 4 (h ∷ (a ++ (s ∷ b')))) × Right (h ∷ (a ++ (s ∷ b')))

  stays_strange : (c : TurnCall) → strange_seat c ≡ true → ends_turn (pad_to 4 (h ∷ (a ++ (s ∷ b)))) c ≡ false → Stays c
  stays_strange c e n = (b, n, ap (λ o. o.left) (strange_is (h ∷ (a ++ (s ∷ b))) R c e), R)

  place : (c : TurnCall) → Further c ⊎ Stays c
  place (Ask x) = go (strange_seat (Ask x)) refl
    where
      joined : (t : Bool) → is_in x (h ∷ (a ++ (s ∷ b))) ≡ t → strange_seat (Ask x) ≡ false → Stays (Ask x)
      joined true i e =
          (b, refl, ap (λ o. o.left) (called (h ∷ (a ++ (s ∷ b))) R (Ask x) e) ∙ ap (λ (t : Bool). pad_to 4 (cond t (h ∷ (a ++ (s ∷ b))) ((h ∷ (a ++ (s ∷ b))) ++ (x ∷ [])))) i, R)
      joined false i e =
          let l = seat_so x (not-false (is_seat x) e) in
          let p : (h ∷ (a ++ (s ∷ b))) ++ (x ∷ []) ≡ h ∷ (a ++ (s ∷ (b ++ (x ∷ [])))) = ap (λ (q : Queue). h ∷ q) (append_assoc a (s ∷ b) (x ∷ [])) in (
            b ++ (x ∷ []),
            refl,
            ap (λ o. o.left) (called (h ∷ (a ++ (s ∷ b))) R (Ask x) e)
                ∙ ap (λ (t : Bool). pad_to 4 (cond t (h ∷ (a ++ (s ∷ b))) ((h ∷ (a ++ (s ∷ b))) ++ (x ∷ [])))) i ∙ ap (pad_to 4) p,
            subst Right p (record { seats = seats-append x (h ∷ (a ++ (s ∷ b))) R.seats l.0 l.1; once = once-append x (h ∷ (a ++ (s ∷ b))) R.once i }),
          )

      go : (t : Bool) → strange_seat (Ask x) ≡ t → Further (Ask x) ⊎ Stays (Ask x)
      go true e = inr (stays_strange (Ask x) e refl)
      go false e = inr (joined (is_in x (h ∷ (a ++ (s ∷ b)))) refl e)
  place (Give x) = go (is_seat x) refl
    where
      own : (t : Bool) → eqb h x ≡ t → is_seat x ≡ true → Further (Give x) ⊎ Stays (Give x)
      own true i e = inl (
        ap₂ (λ (f : Bool) (q : Queue). f && (is_seat x && eqb (holder q) x)) (form_is (h ∷ (a ++ (s ∷ b))) R) (queue_is (h ∷ (a ++ (s ∷ b))) R) ∙ ap₂ ◌&&◌ e i,
        ap (λ o. o.left) (called (h ∷ (a ++ (s ∷ b))) R (Give x) (ap not e)) ∙ ap (λ (t : Bool). pad_to 4 (cond t (a ++ (s ∷ b)) (h ∷ (a ++ (s ∷ b))))) i,
      )
      own false i e = inr (
        b,
        ap₂ (λ (f : Bool) (q : Queue). f && (is_seat x && eqb (holder q) x)) (form_is (h ∷ (a ++ (s ∷ b))) R) (queue_is (h ∷ (a ++ (s ∷ b))) R) ∙ ap₂ ◌&&◌ e i,
        ap (λ o. o.left) (called (h ∷ (a ++ (s ∷ b))) R (Give x) (ap not e)) ∙ ap (λ (t : Bool). pad_to 4 (cond t (a ++ (s ∷ b)) (h ∷ (a ++ (s ∷ b))))) i,
        R,
      )

      go : (t : Bool) → is_seat x ≡ t → Further (Give x) ⊎ Stays (Give x)
      go true e = own (eqb h x) refl e
      go false e = inr (
          stays_strange (Give x) (ap not e)
          (ap₂ (λ (f t : Bool). f && (t && eqb (holder (queue_of (pad_to 4 (h ∷ (a ++ (s ∷ b)))))) x)) (form_is (h ∷ (a ++ (s ∷ b))) R) e)
          )
  place TakeBack = inl (
    ap₂ (λ (f : Bool) (q : Queue). f && not (eqb (holder q) 0)) (form_is (h ∷ (a ++ (s ∷ b))) R) (queue_is (h ∷ (a ++ (s ∷ b))) R)
        ∙ ap not (ne_eqb h 0 (λ e. let l = R.seats.0.0 in omega (arith, l, e))),
    ap (λ o. o.left) (called (h ∷ (a ++ (s ∷ b))) R TakeBack refl),
  )

right-tail : (h : ℕ) (q : Queue) → Right (h ∷ q) → Right q
right-tail h q R = right-passed (h ∷ q) R

reach : (cs : List TurnCall) (a : Queue) (s : ℕ) (b : Queue) → Right (a ++ (s ∷ b)) → length a ≤ endings (pad_to 4 (a ++ (s ∷ b))) cs
    → HoldsWithin (length a) s (pad_to 4 (a ++ (s ∷ b))) cs
reach cs [] s b R h = (0, omega arith, ap holder (queue_is (s ∷ b) R))
reach [] (x ∷ a) s b R h = absurd (omega arith)
reach (c ∷ cs) (x ∷ a) s b R h = go (place x a s b R c) (λ h'. reach cs a s b (right-tail x (a ++ (s ∷ b)) R) h') (λ b' R' h'. reach cs (x ∷ a) s b' R' h')
  where
    go : Further x a s b R c ⊎ Stays x a s b R c
        → (length a ≤ endings (pad_to 4 (a ++ (s ∷ b))) cs → HoldsWithin (length a) s (pad_to 4 (a ++ (s ∷ b))) cs)
        → ((b' : Queue) → Right (x ∷ (a ++ (s ∷ b'))) → suc (length a) ≤ endings (pad_to 4 (x ∷ (a ++ (s ∷ b')))) cs → HoldsWithin (suc (length a)) s (pad_to 4 (x ∷ (a ++ (s ∷ b')))) cs)
        → HoldsWithin (suc (length a)) s (pad_to 4 (x ∷ (a ++ (s ∷ b)))) (c ∷ cs)
    go (inl (e, l)) one two =
        let n : (ds : List TurnCall) → cond (ends_turn (pad_to 4 (x ∷ (a ++ (s ∷ b)))) c) 1 0 + endings (turn_call (pad_to 4 (x ∷ (a ++ (s ∷ b)))) c).left ds ≡ 1 + endings (pad_to 4 (a ++ (s ∷ b))) ds =
        λ ds. ap₂ (λ (t : Bool) (y : List ℕ). cond t 1 0 + endings y ds) e l in
        let w = one (let m = n cs in omega (arith, m, h)) in
        (suc w.0, (let m = n (take w.0 cs) in let v = w.1 in omega (arith, m, v)), ap (λ (y : List ℕ). holder (queue_of (turn_after y (take w.0 cs)))) l ∙ w.2)
    go (inr (b', e, l, R')) one two =
        let n : (ds : List TurnCall) → cond (ends_turn (pad_to 4 (x ∷ (a ++ (s ∷ b)))) c) 1 0 + endings (turn_call (pad_to 4 (x ∷ (a ++ (s ∷ b)))) c).left ds ≡ 0 + endings (pad_to 4 (x ∷ (a ++ (s ∷ b')))) ds =
        λ ds. ap₂ (λ (t : Bool) (y : List ℕ). cond t 1 0 + endings y ds) e l in
        let w = two b' R' (let m = n cs in omega (arith, m, h)) in
        (suc w.0, (let m = n (take w.0 cs) in let v = w.1 in omega (arith, m, v)), ap (λ (y : List ℕ). holder (queue_of (turn_after y (take w.0 cs)))) l ∙ w.2)

-- a seat in line has some before it and some behind it
split : (s : ℕ) (q : Queue) → is_in s q ≡ true → (a : Queue) × (b : Queue) × (q ≡ a ++ (s ∷ b))
split s [] e = let z : ◌≡◌ {A = ℕ} 0 1 = cc in absurd (omega arith)
split s (x ∷ q) e = go (eqb x s) refl (split s q)
  where
    go : (t : Bool) → eqb x s ≡ t → (is_in s q ≡ true → (a : Queue) × (b : Queue) × (q ≡ a ++ (s ∷ b))) → (a : Queue) × (b : Queue) × (x ∷ q ≡ a ++ (s ∷ b))
    go true i later = ([], q, ap (λ (y : ℕ). y ∷ q) (eqb-true x s i))
    go false i later = let r = later (sym (ap (λ (t : Bool). t || is_in s q) i) ∙ e) in (x ∷ r.0, r.1, ap (λ (y : Queue). x ∷ y) r.2)

in_asked : (s : ℕ) (q : Queue) → is_in s (asked s q) ≡ true
in_asked s q = go (is_in s q) refl
  where
    go : (t : Bool) → is_in s q ≡ t → is_in s (cond t q (q ++ (s ∷ []))) ≡ true
    go true e = e
    go false e = in_append s s q ∙ ap₂ ◌||◌ e (eq-eqb s s refl)

within : (m n s : ℕ) (r : List ℕ) (cs : List TurnCall) → m ≤ n → HoldsWithin m s r cs → HoldsWithin n s r cs
within m n s r cs h w = (w.0, (let v = w.1 in omega (arith, v, h)), w.2)

-- THE STATEMENT
pub bound_of_three : BoundOfThree
bound_of_three before later s lo hi h =
    let f = line_after before [] nobody in
    let q : Queue = asked s f.0 in
    let R : Right q = right-asked s f.0 lo hi f.1 in
    let l : (turn_call (turn_after free before) (Ask s)).left ≡ pad_to 4 q =
    ap (λ (y : List ℕ). (turn_call y (Ask s)).left) f.2 ∙ ap (λ o. o.left) (called f.0 f.1 (Ask s) (ap not (so_seat s lo hi))) in
    let p = split s q (in_asked s f.0) in
    let R' : Right (p.0 ++ (s ∷ p.1)) = subst Right p.2 R in
    let short : length p.0 ≤ 3 = (let n = few (p.0 ++ (s ∷ p.1)) R' in let m = length-append p.0 (s ∷ p.1) in omega (arith, n, m)) in
    let e : (turn_call (turn_after free before) (Ask s)).left ≡ pad_to 4 (p.0 ++ (s ∷ p.1)) = l ∙ ap (pad_to 4) p.2 in
    subst (λ (y : List ℕ). HoldsWithin 3 s y later) (sym e)
    (within (length p.0) 3 s (pad_to 4 (p.0 ++ (s ∷ p.1))) later short
    (reach later p.0 s p.1 R' (let g = subst (λ (y : List ℕ). 3 ≤ endings y later) e h in omega (arith, g, short))))
