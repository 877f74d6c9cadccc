-- The turns that a line can be: valid ones, by seat 1 or 2.
-- Assumes nothing.
use Prim.Native.Nat.{◌*◌, ◌+◌, ◌<◌, suc, ℕ}
use mathlib.Core.Bool.{Bool, ◌||◌, cond, false, true}
use mathlib.Core.List.{List, [], ◌∷◌}
use mathlib.Core.Option.{Option, none, some}
use mathlib.Core.Path.{◌≡◌, refl, subst}
use native.Mathlib.Omega.{arith}
use borrow.Author.Tests.{eqb-true, leb-true}
use lib.Dec.{eqb, leb, ltb}
use lib.ListN.{get_or, length}
use Rattle.std.specs.Prelude.{Option as TheOption, None, Some}
use Rattle.block.specs.Lists.{All}
use Rattle.command.specs.Command.{four, four_of, given, key_of, line_turn, seated, three, three_of, turn, turn_of}
use Rattle.command.specs.declared.Key.{Key}
use Rattle.command.specs.declared.Key.TheVariants.{Add as KeyAdd, Cp, Del, Get, Mv, Put, Set, Up}
use Rattle.model.specs.Machine.{Add, Call, Commits, Copy, Delete, Edit, Move, Update}
use Rattle.model.specs.Run.{Turn, Typed, Valid}
use Rattle.text.proofs.Laws.{are_digits, digit_small}
use Rattle.text.specs.Text.{are_pairs, digit_of, hex_of, is_dash, number_of, pairs_of, value_of, words}

-- what holds of every value that there is
abbrev pub Every : {A : Type 0} → (A → Type 0) → Option A → Type 0
Every P none = Unit {0}
Every P (some x) = P x

every_given : {A : Type 0} (P : A → Type 0) (o : Option A) (f : A → Option Turn) → Every P o → ((x : A) → P x → Every Valid (f x)) → Every Valid (given o f)
every_given P none f p g = tt
every_given P (some x) f p g = g x p

-- ---- numbers have 32 bits

value_small : (n : ℕ) (w : List ℕ) → n < 4_294_967_296 → Every (λ (k : ℕ). k < 4_294_967_296) (value_of n w)
unfolding value_of
value_small n [] h = h
value_small n (x ∷ w) h = go (ltb (digit_of x) 10) (leb (10 * n + digit_of x) 4_294_967_295) refl (value_small (10 * n + digit_of x) w)
  where
    go : (s t : Bool) → leb (10 * n + digit_of x) 4_294_967_295 ≡ t
        → (10 * n + digit_of x < 4_294_967_296 → Every (λ (k : ℕ). k < 4_294_967_296) (value_of (10 * n + digit_of x) w))
        → Every (λ (k : ℕ). k < 4_294_967_296) (cond s (cond t (value_of (10 * n + digit_of x) w) none) none)
    go true true e ih = ih (omega (arith, leb-true (10 * n + digit_of x) 4_294_967_295 e))
    go true false e ih = tt
    go false t e ih = tt

number_small : (w : List ℕ) → Every (λ (k : ℕ). k < 4_294_967_296) (number_of w)
unfolding number_of
number_small [] = tt
number_small (x ∷ []) = value_small 0 (x ∷ []) (omega arith)
number_small (x ∷ y ∷ w) = go (eqb x 48) (value_small 0 (x ∷ y ∷ w) (omega arith))
  where
    go : (s : Bool) → Every (λ (k : ℕ). k < 4_294_967_296) (value_of 0 (x ∷ y ∷ w)) → Every (λ (k : ℕ). k < 4_294_967_296) (cond s none (value_of 0 (x ∷ y ∷ w)))
    go true p = tt
    go false p = p

-- ---- HEX is bytes

abbrev Byte : ℕ → Type 0
Byte y = y < 256

pairs_bytes : (w : List ℕ) → ((i : ℕ) → i < length w → digit_of (get_or w i 0) < 16) → All Byte (pairs_of w)
unfolding pairs_of
pairs_bytes [] f = tt
pairs_bytes (x ∷ []) f = tt
pairs_bytes (x ∷ y ∷ w) f = (
  (let a : digit_of x < 16 = f 0 (omega arith) in let b : digit_of y < 16 = f 1 (omega arith) in omega arith),
  pairs_bytes w (λ i h. f (suc (suc i)) (omega arith)),
)

hex_bytes : (w : List ℕ) → Every (All Byte) (hex_of w)
unfolding hex_of
hex_bytes w = go (is_dash w) (are_pairs w) refl
  where
    go : (s t : Bool) → are_pairs w ≡ t → Every (All Byte) (cond s (some []) (cond t (some (pairs_of w)) none))
    go true t e = tt
    go false true e = pairs_bytes w (λ i h. digit_small w i (are_digits w e).1 h)
    go false false e = tt

-- ---- a turn

seated-valid : (k : ℕ) (c : Call) → Typed c → Every Valid (seated k c)
seated-valid k c ty = go (eqb k 1) (eqb k 2) refl refl
  where
    go : (s t : Bool) → eqb k 1 ≡ s → eqb k 2 ≡ t → Every Valid (cond (s || t) (some (turn k c)) none)
    go true t e f = record { low = omega (arith, eqb-true k 1 e); high = omega (arith, eqb-true k 1 e); typed = ty }
    go false true e f = record { low = omega (arith, eqb-true k 2 f); high = omega (arith, eqb-true k 2 f); typed = ty }
    go false false e f = tt

three-valid : (k : Key) (a b : ℕ) → b < 4_294_967_296 → Every Valid (three k a b)
three-valid KeyAdd a b h = tt
three-valid Set a b h = tt
three-valid Del a b h = seated-valid a (Delete b) tt
three-valid Cp a b h = tt
three-valid Mv a b h = tt
three-valid Put a b h = seated-valid a (Commits b 4_294_967_295) h
three-valid Up a b h = seated-valid a (Update 4_294_967_295 b) tt
three-valid Get a b h = record { low = omega arith; high = omega arith; typed = tt }

four-valid : (k : Key) (a b : ℕ) (z : Option ℕ) (h : Option (List ℕ)) → Every (All Byte) h → Every Valid (four k a b z h)
four-valid KeyAdd a b z h p = every_given (All Byte) h (λ x. seated a (Add b x)) p (λ x q. seated-valid a (Add b x) q)
four-valid Set a b z h p = every_given (All Byte) h (λ x. seated a (Edit b x)) p (λ x q. seated-valid a (Edit b x) q)
four-valid Del a b z h p = tt
four-valid Cp a b none h p = tt
four-valid Cp a b (some e) h p = seated-valid a (Copy b e) tt
four-valid Mv a b none h p = tt
four-valid Mv a b (some e) h p = seated-valid a (Move b e) tt
four-valid Put a b z h p = tt
four-valid Up a b z h p = tt
four-valid Get a b z h p = tt

turn-valid : (ws : List (List ℕ)) → Every Valid (turn_of ws)
unfolding turn_of
turn-valid [] = tt
turn-valid (k ∷ []) = tt
turn-valid (k ∷ x ∷ []) = tt
turn-valid (k ∷ x ∷ y ∷ []) = go (key_of k) (number_of x) (number_of y) (number_small y)
  where
    go : (o : TheOption Key) (u v : Option ℕ) → Every (λ (n : ℕ). n < 4_294_967_296) v → Every Valid (three_of o u v)
    go None u v p = tt
    go (Some w) none v p = tt
    go (Some w) (some a) none p = tt
    go (Some w) (some a) (some b) p = three-valid w a b p
turn-valid (k ∷ x ∷ y ∷ z ∷ []) = go (key_of k) (number_of x) (number_of y) (hex_of z) (hex_bytes z)
  where
    go : (o : TheOption Key) (u v : Option ℕ) (h : Option (List ℕ)) → Every (All Byte) h → Every Valid (four_of o u v (number_of z) h)
    go None u v h p = tt
    go (Some w) none v h p = tt
    go (Some w) (some a) none h p = tt
    go (Some w) (some a) (some b) h p = four-valid w a b (number_of z) h p
turn-valid (k ∷ x ∷ y ∷ z ∷ u ∷ ws) = tt

-- THE STATEMENT
pub line-valid : (line : List ℕ) (t : Turn) → line_turn line ≡ some t → Valid t
line-valid line t e = subst (Every Valid) e (turn-valid (words line))
