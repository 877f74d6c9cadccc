-- Tests beside the statements that they decide: `Says b P` is "the test b passes exactly when P holds".
-- Assumes nothing.
use Prim.Native.Nat.{ℕ, zero, suc, ◌+◌, ◌≤◌, ◌<◌}
use mathlib.Core.Path.{◌≡◌, refl, subst}
use mathlib.Core.Bool.{Bool, true, false, not, ◌&&◌, ◌||◌}
use mathlib.Core.List.{List, [], ◌∷◌, head-eq_of_cons-eq, tail-eq_of_cons-eq, nil≢cons, cons≢nil}
use mathlib.Core.Logic.{◌⊎◌, inl, inr}
use native.Mathlib.Omega.{arith}
use borrow.Author.Tests.{eqb-true, eqb-false, ltb-true, ltb-false}
use Rattle.block.specs.Lists.{same, All, all, all_from}
use lib.Dec.{T, leb, ltb, eqb, leb→le, le→leb, ltb→lt, lt→ltb, eqb→eq, eqb_refl, not_T, T_not}

pub record Says (b : Bool) (P : Type 0) : Type 0 where
  pub true_so : T b → P
  pub so_true : P → T b

pub says-le : (a b : ℕ) → Says (leb a b) (a ≤ b)
says-le a b = record { true_so = leb→le a b; so_true = le→leb a b }

pub says-lt : (a b : ℕ) → Says (ltb a b) (a < b)
says-lt a b = record { true_so = ltb→lt a b; so_true = lt→ltb a b }

pub says_eq : (a b : ℕ) → Says (eqb a b) (a ≡ b)
says_eq a b = record { true_so = eqb→eq a b; so_true = λ e. subst (λ (k : ℕ). T (eqb a k)) e (eqb_refl a) }

-- two numbers are equal or not, with what the test says
pub eq_or : (a b : ℕ) → (a ≡ b) ⊎ (a ≡ b → ⊥)
eq_or a b = go (eqb a b) refl
  where
    go : (t : Bool) → eqb a b ≡ t → (a ≡ b) ⊎ (a ≡ b → ⊥)
    go true e = inl (eqb-true a b e)
    go false e = inr (eqb-false a b e)

-- the same for the order
pub lt_or_ge : (a b : ℕ) → (a < b) ⊎ (b ≤ a)
lt_or_ge a b = go (ltb a b) refl
  where
    go : (t : Bool) → ltb a b ≡ t → (a < b) ⊎ (b ≤ a)
    go true e = inl (ltb-true a b e)
    go false e = inr (ltb-false a b e)

pub says-not : {b : Bool} {P : Type 0} → Says b P → Says (not b) (P → ⊥)
says-not {b} s = record { true_so = λ t p. T_not b t (s.so_true p); so_true = λ n. not_T b (λ t. n (s.true_so t)) }

pub and_true : (a b : Bool) → T (a && b) → T a × T b
and_true true b t = (tt, t)
and_true false b t = absurd t

pub true_and : (a b : Bool) → T a → T b → T (a && b)
true_and true b t u = u
true_and false b t u = absurd t

pub says-and : {a b : Bool} {P Q : Type 0} → Says a P → Says b Q → Says (a && b) (P × Q)
says-and {a} {b} s r =
    record {
      true_so = λ t. (s.true_so (and_true a b t).0, r.true_so (and_true a b t).1);
      so_true = λ p. true_and a b (s.so_true p.0) (r.so_true p.1);
    }

pub says_and3 : {a b c : Bool} {P Q R : Type 0} → Says a P → Says b Q → Says c R → Says (a && (b && c)) (P × Q × R)
says_and3 s r q =
    let w = says-and s (says-and r q) in
    record { true_so = λ t. let p = w.true_so t in (p.0, p.1.0, p.1.1); so_true = λ p. w.so_true (p.0, (p.1, p.2)) }

pub says_and4 : {a b c d : Bool} {P Q R S : Type 0} → Says a P → Says b Q → Says c R → Says d S → Says (a && (b && (c && d))) (P × Q × R × S)
says_and4 s r q o =
    let w = says-and s (says_and3 r q o) in
    record { true_so = λ t. let p = w.true_so t in (p.0, p.1.0, p.1.1, p.1.2); so_true = λ p. w.so_true (p.0, (p.1, p.2, p.3)) }

or_true : (a b : Bool) → T (a || b) → T a ⊎ T b
or_true true b t = inl tt
or_true false b t = inr t

true_or_l : (a b : Bool) → T a → T (a || b)
true_or_l true b t = tt
true_or_l false b t = absurd t

true_or_r : (a b : Bool) → T b → T (a || b)
true_or_r true b t = tt
true_or_r false b t = t

pub says_or : {a b : Bool} {P Q : Type 0} → Says a P → Says b Q → Says (a || b) (P ⊎ Q)
says_or {a} {b} {P} {Q} s r =
    record {
      true_so = λ t. elim (or_true a b t) [ inl x ↦ inl (s.true_so x) | inr y ↦ inr (r.true_so y) ];
      so_true = λ p. elim p [ inl x ↦ true_or_l a b (s.so_true x) | inr y ↦ true_or_r a b (r.so_true y) ];
    }

pub says_same : (a b : List ℕ) → Says (same a b) (a ≡ b)
says_same [] [] = record { true_so = λ t. refl; so_true = λ e. tt }
says_same [] (y ∷ ys) = record { true_so = λ t. absurd t; so_true = λ e. nil≢cons e }
says_same (x ∷ xs) [] = record { true_so = λ t. absurd t; so_true = λ e. cons≢nil e }
says_same (x ∷ xs) (y ∷ ys) =
    let s = says-and (says_eq x y) (says_same xs ys) in
    record {
      true_so = λ t. cc ((s.true_so t).0, (s.true_so t).1);
      so_true = λ e. s.so_true (head-eq_of_cons-eq e, tail-eq_of_cons-eq e);
    }

pub says_all {ℓ} : {A : Type ℓ} (p : A → Bool) (P : A → Type 0) → ((a : A) → Says (p a) (P a)) → (l : List A) → Says (all p l) (All P l)
says_all p P s [] = record { true_so = λ t. tt; so_true = λ t. tt }
says_all p P s (x ∷ xs) = says-and (s x) (says_all p P s xs)

pub all_from_so : (p : ℕ → Bool) (a n : ℕ) → T (all_from p a n) → (i : ℕ) → a ≤ i → i < a + n → T (p i)
all_from_so p a zero t i h g = absurd (omega arith)
all_from_so p a (suc n) t i h g =
    elim (eq_or a i) [
      | inl e ↦ subst (λ (j : ℕ). T (p j)) e (and_true (p a) (all_from p (suc a) n) t).0
      | inr ne ↦ all_from_so p (suc a) n (and_true (p a) (all_from p (suc a) n) t).1 i (omega arith) (omega arith)
    ]

pub so_all_from : (p : ℕ → Bool) (a n : ℕ) → ((i : ℕ) → a ≤ i → i < a + n → T (p i)) → T (all_from p a n)
so_all_from p a zero f = tt
so_all_from p a (suc n) f =
    true_and (p a) (all_from p (suc a) n) (f a (omega arith) (omega arith)) (so_all_from p (suc a) n (λ i h g. f i (omega arith) (omega arith)))

pub says-all_from : (p : ℕ → Bool) (P : ℕ → Type 0) → ((i : ℕ) → Says (p i) (P i)) → (a n : ℕ) → Says (all_from p a n) ((i : ℕ) → a ≤ i → i < a + n → P i)
says-all_from p P s a n =
    record {
      true_so = λ t i h g. (s i).true_so (all_from_so p a n t i h g);
      so_true = λ f. so_all_from p a n (λ i h g. (s i).so_true (f i h g));
    }

pub ruleset says = (says-le, says-lt, says_eq, says-not, says-and, says_and3, says_and4, says_or, says_same)

pub is_true : (b : Bool) → T b → b ≡ true
is_true true t = refl
is_true false t = absurd t

-- two tests of which each passes where the other does are equal
pub bool_alike : (a b : Bool) → (T a → T b) → (T b → T a) → a ≡ b
bool_alike true true f g = refl
bool_alike true false f g = absurd (f tt)
bool_alike false true f g = absurd (g tt)
bool_alike false false f g = refl

-- two tests that say the same are equal; the test itself from what it says
pub says_alike : {a b : Bool} {P Q : Type 0} → Says a P → Says b Q → (P → Q) → (Q → P) → a ≡ b
says_alike {a} {b} s r f g = bool_alike a b (λ t. r.so_true (f (s.true_so t))) (λ t. s.so_true (g (r.true_so t)))

pub says_true : {b : Bool} {P : Type 0} → Says b P → P → b ≡ true
says_true {b} s p = is_true b (s.so_true p)

pub true_says : {b : Bool} {P : Type 0} → Says b P → b ≡ true → P
true_says s e = s.true_so (rw e tt)

pub says_false : {b : Bool} {P : Type 0} → Says b P → (P → ⊥) → b ≡ false
says_false {b} s n = go b (λ t. n (s.true_so t))
  where
    go : (x : Bool) → (T x → ⊥) → x ≡ false
    go true f = absurd (f tt)
    go false f = refl
