-- Lines of seats, none twice: who joins, and how many there can be.
-- Assumes nothing.
use Prim.Native.Nat.{◌+◌, ◌≤◌, suc, zero, ℕ}
use mathlib.Core.Bool.{Bool, ◌&&◌, ◌||◌, cond, false, not, true}
use mathlib.Core.List.{[], ◌++◌, ◌∷◌}
use mathlib.Core.Path.{◌∙◌, ◌≡◌, ap, ap₂, refl, sym}
use native.Mathlib.Omega.{arith}
use borrow.Author.Tests.{eqb-false, ne_eqb, not-true}
use lib.Dec.{eqb}
use lib.ListN.{length}
use Rattle.block.specs.Lists.{All}
use Rattle.laws.proofs.Accepted.{both}
use Rattle.laws.proofs.Rows.{or_false}
use Rattle.turns.specs.Turns.{Queue, is_in}

abbrev pub no_seat_twice : Queue → Bool
no_seat_twice [] = true
no_seat_twice (s ∷ q) = not (is_in s q) && no_seat_twice q

abbrev pub Seats : Queue → Type 0
Seats q = All (λ (s : ℕ). (1 ≤ s) × (s ≤ 4)) q

-- a line of seats, none twice
pub record Right (q : Queue) : Type 0 where
  pub seats : Seats q
  pub once : no_seat_twice q ≡ true

pub or_none_lem : (b : Bool) → (b || false) ≡ b
or_none_lem true = refl
or_none_lem false = refl

-- ---- joining

pub in_append : (x s : ℕ) (q : Queue) → is_in x (q ++ (s ∷ [])) ≡ (is_in x q || eqb s x)
in_append x s [] = or_none_lem (eqb s x)
in_append x s (y ∷ q) = go (eqb y x) (in_append x s q)
  where
    go : (b : Bool) → is_in x (q ++ (s ∷ [])) ≡ (is_in x q || eqb s x) → (b || is_in x (q ++ (s ∷ []))) ≡ ((b || is_in x q) || eqb s x)
    go true e = refl
    go false e = e

pub seats-append : (s : ℕ) (q : Queue) → Seats q → 1 ≤ s → s ≤ 4 → Seats (q ++ (s ∷ []))
seats-append s [] a lo hi = ((lo, hi), tt)
seats-append s (y ∷ q) a lo hi = (a.0, seats-append s q a.1 lo hi)

pub once-append : (s : ℕ) (q : Queue) → no_seat_twice q ≡ true → is_in s q ≡ false → no_seat_twice (q ++ (s ∷ [])) ≡ true
once-append s [] e n = refl
once-append s (y ∷ q) e n =
    let i : is_in y q ≡ false = not-true (is_in y q) (both (not (is_in y q)) (no_seat_twice q) e).0 in
    let ne : eqb y s ≡ false = (or_false (eqb y s) (is_in s q) n).0 in
    let j : is_in y (q ++ (s ∷ [])) ≡ false = in_append y s q ∙ ap₂ ◌||◌ i (ne_eqb s y (λ w. eqb-false y s ne (sym w))) in
    ap₂ ◌&&◌ (ap not j) (once-append s q (both (not (is_in y q)) (no_seat_twice q) e).1 (or_false (eqb y s) (is_in s q) n).1)

-- ---- what those in line weigh together: each seat's weight once, or not at all

module _ (w : ℕ → ℕ) where
  abbrev pub sum_of : Queue → ℕ
  sum_of [] = 0
  sum_of (s ∷ q) = w s + sum_of q

  abbrev pub share : ℕ → Queue → ℕ
  share x q = cond (is_in x q) (w x) 0

  pub share_none : (x : ℕ) (q : Queue) → is_in x q ≡ false → share x q ≡ 0
  share_none x q e = ap (λ (b : Bool). cond b (w x) 0) e

  pub share_le : (x : ℕ) (q : Queue) → share x q ≤ w x
  share_le x q = go (is_in x q)
    where
      go : (b : Bool) → cond b (w x) 0 ≤ w x
      go true = omega arith
      go false = omega arith

  pub sum_shares : (q : Queue) → Seats q → no_seat_twice q ≡ true → sum_of q ≡ share 1 q + (share 2 q + (share 3 q + share 4 q))
  sum_shares [] a e = refl
  sum_shares (zero ∷ q) a e = absurd (let z : 1 ≤ 0 = a.0.0 in omega arith)
  sum_shares (suc zero ∷ q) a e =
      let r = sum_shares q a.1 (both (not (is_in 1 q)) (no_seat_twice q) e).1 in
      let z = share_none 1 q (not-true (is_in 1 q) (both (not (is_in 1 q)) (no_seat_twice q) e).0) in
      omega (arith, r, z)
  sum_shares (suc (suc zero) ∷ q) a e =
      let r = sum_shares q a.1 (both (not (is_in 2 q)) (no_seat_twice q) e).1 in
      let z = share_none 2 q (not-true (is_in 2 q) (both (not (is_in 2 q)) (no_seat_twice q) e).0) in
      omega (arith, r, z)
  sum_shares (suc (suc (suc zero)) ∷ q) a e =
      let r = sum_shares q a.1 (both (not (is_in 3 q)) (no_seat_twice q) e).1 in
      let z = share_none 3 q (not-true (is_in 3 q) (both (not (is_in 3 q)) (no_seat_twice q) e).0) in
      omega (arith, r, z)
  sum_shares (suc (suc (suc (suc zero))) ∷ q) a e =
      let r = sum_shares q a.1 (both (not (is_in 4 q)) (no_seat_twice q) e).1 in
      let z = share_none 4 q (not-true (is_in 4 q) (both (not (is_in 4 q)) (no_seat_twice q) e).0) in
      omega (arith, r, z)
  sum_shares (suc (suc (suc (suc (suc n)))) ∷ q) a e = absurd (let z : suc (suc (suc (suc (suc n)))) ≤ 4 = a.0.1 in omega arith)

-- ---- at most four

abbrev one : ℕ → ℕ
one n = 1

sum-length : (q : Queue) → sum_of one q ≡ length q
sum-length [] = refl
sum-length (s ∷ q) = let r = sum-length q in omega (arith, r)

pub few : (q : Queue) → Right q → length q ≤ 4
few q R = omega (arith, sum-length q, sum_shares one q R.seats R.once, share_le one 1 q, share_le one 2 q, share_le one 3 q, share_le one 4 q)
