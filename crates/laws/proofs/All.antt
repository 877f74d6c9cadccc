-- Laws on `All`: elements taken out, set, mapped, joined, and dropped.
-- Assumes nothing.
use Prim.Native.Nat.{suc, zero, ℕ}
use mathlib.Core.List.{List, [], ◌++◌, ◌∷◌}
use lib.ListN.{drop, get_or, set, take}
use Rattle.block.specs.Lists.{All}

pub All-get_or : {A : Type 0} (P : A → Type 0) (l : List A) (i : ℕ) (d : A) → All P l → P d → P (get_or l i d)
All-get_or P [] i d a p = p
All-get_or P (x ∷ xs) zero d a p = a.0
All-get_or P (x ∷ xs) (suc i) d a p = All-get_or P xs i d a.1 p

pub All-set : {A : Type 0} (P : A → Type 0) (l : List A) (i : ℕ) (v : A) → All P l → P v → All P (set l i v)
All-set P [] i v a p = tt
All-set P (x ∷ xs) zero v a p = (p, a.1)
All-set P (x ∷ xs) (suc i) v a p = (a.0, All-set P xs i v a.1 p)

pub All-map : {A : Type 0} (P Q : A → Type 0) (l : List A) → ((x : A) → P x → Q x) → All P l → All Q l
All-map P Q [] f a = tt
All-map P Q (x ∷ xs) f a = (f x a.0, All-map P Q xs f a.1)

pub All-snoc : {A : Type 0} (P : A → Type 0) (l : List A) (x : A) → All P l → P x → All P (l ++ (x ∷ []))
All-snoc P [] x a p = (p, tt)
All-snoc P (y ∷ l) x a p = (a.0, All-snoc P l x a.1 p)

module _ {A : Type 0} (P : A → Type 0) where
  pub all_append : (l k : List A) → All P l → All P k → All P (l ++ k)
  all_append [] k a b = b
  all_append (x ∷ l) k a b = (a.0, all_append l k a.1 b)

  pub all_left : (l k : List A) → All P (l ++ k) → All P l
  all_left [] k a = tt
  all_left (x ∷ l) k a = (a.0, all_left l k a.1)

  pub all_right : (l k : List A) → All P (l ++ k) → All P k
  all_right [] k a = a
  all_right (x ∷ l) k a = all_right l k a.1

  pub all_take : (n : ℕ) (l : List A) → All P l → All P (take n l)
  all_take zero l a = tt
  all_take (suc n) [] a = tt
  all_take (suc n) (x ∷ l) a = (a.0, all_take n l a.1)

  pub all_drop : (n : ℕ) (l : List A) → All P l → All P (drop n l)
  all_drop zero l a = a
  all_drop (suc n) [] a = tt
  all_drop (suc n) (x ∷ l) a = all_drop n l a.1
