-- Laws on Bools, and on rows: of `cond`, `rows`, `some-row`, `set`; and which rows a mask of zero chooses.
-- Assumes nothing.
use Prim.Native.Nat.{◌%◌, ◌+◌, ◌<◌, ◌^◌, suc, zero, ℕ}
use mathlib.Core.Bool.{Bool, ◌&&◌, ◌||◌, cond, false, not, or-true, true}
use mathlib.Core.List.{List, [], ◌∷◌}
use mathlib.Core.Path.{◌≡◌, ap, ap₂, refl, sym}
use native.Mathlib.Nat.{add-suc, add-zero, suc-add, zero-add, zero-div}
use native.Mathlib.Omega.{arith}
use lib.Dec.{T, eqb}
use lib.ListN.{get_or, length, replicate, set}
use Rattle.model.specs.Machine.{chosen}
use Rattle.model.specs.Rows.{rows, some-row}

module _ {A : Type 0} where
  pub cond-any : (P : A → Type 0) (b : Bool) {x y : A} → (b ≡ true → P x) → (b ≡ false → P y) → P (cond b x y)
  cond-any P true f g = f refl
  cond-any P false f g = g refl

  pub cond_same : (b : Bool) (x : A) → cond b x x ≡ x
  cond_same true x = refl
  cond_same false x = refl

pub or_false : (a b : Bool) → (a || b) ≡ false → (a ≡ false) × (b ≡ false)
or_false true b e = (e, cc)
or_false false b e = (refl, e)

pub and_false : (a b : Bool) → (a && b) ≡ false → a ≡ true → b ≡ false
and_false true b e t = e
and_false false b e t = cc

pub and-nothing : (a : Bool) → (a && false) ≡ false
and-nothing true = refl
and-nothing false = refl

pub chosen_none : (i : ℕ) → chosen 0 i ≡ false
chosen_none i = ap (λ (b : ℕ). eqb (b % 2) 1) (zero-div (2 ^ i))

pub is_t : (b : Bool) → not b ≡ false → T b
is_t true e = tt
is_t false e = let z : ◌≡◌ {A = ℕ} 0 1 = cc in absurd (omega arith)

module _ {A B : Type 0} where
  pub length-rows : (f : ℕ → A → B) (k : ℕ) (l : List A) → length (rows f k l) ≡ length l
  length-rows f k [] = refl
  length-rows f k (a ∷ l) = ap suc (length-rows f (suc k) l)

module _ {A B : Type 0} (P : B → Type 0) (f : ℕ → A → B) (d : A) (d' : B) where
  rows-any_from : (k : ℕ) (l : List A) (i : ℕ) → P d' → P (f (k + i) (get_or l i d)) → P (get_or (rows f k l) i d')
  rows-any_from k [] i p q = p
  rows-any_from k (a ∷ l) zero p q = rw add-zero at q
  rows-any_from k (a ∷ l) (suc i) p q = rows-any_from (suc k) l i p (rw (add-suc, ← suc-add) at q)

  pub rows-any : (l : List A) (i : ℕ) → P d' → P (f i (get_or l i d)) → P (get_or (rows f 0 l) i d')
  rows-any l i p q = rows-any_from 0 l i p (rw zero-add q)

module _ {A B : Type 0} (f : ℕ → A → B) (d : A) (d' : B) where
  rows_at_from : (k : ℕ) (l : List A) (i : ℕ) → i < length l → get_or (rows f k l) i d' ≡ f (k + i) (get_or l i d)
  rows_at_from k [] i h = absurd (omega arith)
  rows_at_from k (a ∷ l) zero h = rw add-zero
  rows_at_from k (a ∷ l) (suc i) h = rw (add-suc, ← suc-add) (rows_at_from (suc k) l i (omega arith))

  pub rows_at : (l : List A) (i : ℕ) → i < length l → get_or (rows f 0 l) i d' ≡ f i (get_or l i d)
  rows_at l i h = rw zero-add at (rows_at_from 0 l i h)

module _ {A B : Type 0} (f : ℕ → A → B) (d : A) (d' : B) (e : (i : ℕ) → f i d ≡ d') where
  rows-get_from : (k : ℕ) (l : List A) (i : ℕ) → get_or (rows f k l) i d' ≡ f (k + i) (get_or l i d)
  rows-get_from k [] i = sym (e (k + i))
  rows-get_from k (a ∷ l) zero = rw add-zero
  rows-get_from k (a ∷ l) (suc i) = rw (add-suc, ← suc-add) (rows-get_from (suc k) l i)

  pub rows_get : (l : List A) (i : ℕ) → get_or (rows f 0 l) i d' ≡ f i (get_or l i d)
  rows_get l i = rw zero-add at (rows-get_from 0 l i)

module _ {A : Type 0} (f : ℕ → A → Bool) (d : A) (e : (i : ℕ) → f i d ≡ false) where
  no_row_from : (k : ℕ) (l : List A) (i : ℕ) → some-row f k l ≡ false → f (k + i) (get_or l i d) ≡ false
  no_row_from k [] i n = e (k + i)
  no_row_from k (a ∷ l) zero n = rw add-zero (or_false (f k a) (some-row f (suc k) l) n).0
  no_row_from k (a ∷ l) (suc i) n = rw (add-suc, ← suc-add) (no_row_from (suc k) l i (or_false (f k a) (some-row f (suc k) l) n).1)

  pub no_row : (l : List A) (i : ℕ) → some-row f 0 l ≡ false → f i (get_or l i d) ≡ false
  no_row l i n = rw zero-add at (no_row_from 0 l i n)

module _ {A : Type 0} (f : ℕ → A → Bool) (d : A) where
  pub no_rows : (k : ℕ) (l : List A) → ((i : ℕ) → i < length l → f (k + i) (get_or l i d) ≡ false) → some-row f k l ≡ false
  no_rows k [] e = refl
  no_rows k (a ∷ l) e =
      let p : f k a ≡ false = rw add-zero at (e 0 (omega arith)) in
      ap₂ ◌||◌ p (no_rows (suc k) l (λ i h. let s : k + suc i ≡ suc k + i = omega arith in rw s at (e (suc i) (omega arith))))

  -- a row that passes the test, where some row does
  row-some_from : (k : ℕ) (l : List A) → some-row f k l ≡ true → (i : ℕ) × (i < length l) × (f (k + i) (get_or l i d) ≡ true)
  row-some_from k [] e = let z : ◌≡◌ {A = ℕ} 0 1 = cc in absurd (omega arith)
  row-some_from k (a ∷ l) e = go (f k a) refl e (λ q. row-some_from (suc k) l q)
    where
      go : (b : Bool) → f k a ≡ b → (b || some-row f (suc k) l) ≡ true → (some-row f (suc k) l ≡ true → (i : ℕ) × (i < length l) × (f (suc k + i) (get_or l i d) ≡ true))
          → (i : ℕ) × (i < length (a ∷ l)) × (f (k + i) (get_or (a ∷ l) i d) ≡ true)
      go true z e r = (0, omega arith, rw add-zero z)
      go false z e r = let q = r e in (suc q.0, omega (arith, q.1), rw (add-suc, ← suc-add) q.2)

  pub row-some : (l : List A) → some-row f 0 l ≡ true → (i : ℕ) × (i < length l) × (f i (get_or l i d) ≡ true)
  row-some l e = let q = row-some_from 0 l e in (q.0, q.1, rw zero-add at q.2)

  -- and back
  some-row_from : (k : ℕ) (l : List A) (i : ℕ) → i < length l → f (k + i) (get_or l i d) ≡ true → some-row f k l ≡ true
  some-row_from k [] i h e = absurd (omega arith)
  some-row_from k (a ∷ l) zero h e = rw (rw add-zero at e)
  some-row_from k (a ∷ l) (suc i) h e = rw (some-row_from (suc k) l i (omega arith) (rw (add-suc, ← suc-add) at e)) (or-true (f k a))

  pub some-row_at : (l : List A) (i : ℕ) → i < length l → f i (get_or l i d) ≡ true → some-row f 0 l ≡ true
  some-row_at l i h e = some-row_from 0 l i h (rw zero-add e)

module _ {A : Type 0} where
  pub set-any : (P : A → Type 0) (l : List A) (j i : ℕ) {e : A} (d : A) → (i ≡ j → P e) → P (get_or l i d) → P (get_or (set l j e) i d)
  set-any P [] j i d p q = q
  set-any P (x ∷ l) zero zero d p q = p refl
  set-any P (x ∷ l) zero (suc i) d p q = q
  set-any P (x ∷ l) (suc j) zero d p q = q
  set-any P (x ∷ l) (suc j) (suc i) d p q = set-any P l j i d (λ e. p (ap suc e)) q

  pub replicate-any : (P : A → Type 0) (n i : ℕ) (a d : A) → P a → P d → P (get_or (replicate n a) i d)
  replicate-any P zero i a d p q = q
  replicate-any P (suc n) zero a d p q = p
  replicate-any P (suc n) (suc i) a d p q = replicate-any P n i a d p q
