-- The lines of a commit through the record: which of them holds, and when a commit's own are left.
-- Assumes nothing.
use Prim.Native.Nat.{ℕ}
use mathlib.Core.Bool.{Bool, ◌&&◌, ◌||◌, cond, false, not, true}
use mathlib.Core.List.{List}
use mathlib.Core.Option.{Option, some}
use mathlib.Core.Path.{◌≡◌, ap, refl}
use native.Mathlib.Omega.{arith}
use borrow.Author.Tests.{eq-eqb, ne_eqb}
use lib.Dec.{eqb}
use lib.ListN.{drop}
use Rattle.model.specs.Machine.{Commits, Side}
use Rattle.model.specs.Refusals.{conditions, first_of}
use Rattle.model.specs.Run.{own_conditions}
use Rattle.turns.specs.InTurn.{in_turn_lines, own_in_turn}
use Rattle.turns.specs.Turns.{holder, in_form, queue_of}

module _ (r : List ℕ) (d : Side) (stamp mask : ℕ) where
  -- 7: the mask is zero, or the record isn't in form
  pub none-chosen : mask ≡ 0 → first_of (in_turn_lines r d stamp mask) ≡ some 7
  none-chosen e = simp (eq-eqb mask 0 e)

  pub out_of_form : in_form r ≡ false → first_of (in_turn_lines r d stamp mask) ≡ some 7
  out_of_form e = go (eqb mask 0) (in_form r) e (cond (not (eqb (holder (queue_of r)) d.seat)) (some 15) (first_of (conditions d (Commits stamp mask))))
    where
      go : (m f : Bool) → f ≡ false → (o : Option ℕ) → cond (m || not f) (some 7) o ≡ some 7
      go true f w o = refl
      go false f w o = ap (λ (f : Bool). cond (not f) (some 7) o) w

  -- 15: another seat
  pub not_holding : (mask ≡ 0 → ⊥) → in_form r ≡ true → (holder (queue_of r) ≡ d.seat → ⊥) → first_of (in_turn_lines r d stamp mask) ≡ some 15
  not_holding m f n = simp (ne_eqb mask 0 m, f, ne_eqb (holder (queue_of r)) d.seat n)

  -- by the holder: a commit's own lines are left
  pub by_holder : (in_form r && eqb (holder (queue_of r)) d.seat) ≡ true → first_of (in_turn_lines r d stamp mask) ≡ first_of (conditions d (Commits stamp mask))
  by_holder e = go (in_form r) (eqb (holder (queue_of r)) d.seat) (eqb mask 0) e (first_of (drop 1 (conditions d (Commits stamp mask))))
    where
      go : (f t m : Bool) → (f && t) ≡ true → (o : Option ℕ) → cond (m || not f) (some 7) (cond (not t) (some 15) (cond m (some 7) o)) ≡ cond m (some 7) o
      go true true true e o = refl
      go true true false e o = refl
      go true false m e o = let z : ◌≡◌ {A = ℕ} 0 1 = cc in absurd (omega arith)
      go false t m e o = let z : ◌≡◌ {A = ℕ} 0 1 = cc in absurd (omega arith)

  -- otherwise it is refused
  by_another : (in_form r && eqb (holder (queue_of r)) d.seat) ≡ false → (n : ℕ) × (first_of (in_turn_lines r d stamp mask) ≡ some n)
  by_another e = go (in_form r) (eqb (holder (queue_of r)) d.seat) (eqb mask 0) e (first_of (conditions d (Commits stamp mask)))
    where
      go : (f t m : Bool) → (f && t) ≡ false → (o : Option ℕ) → (n : ℕ) × (cond (m || not f) (some 7) (cond (not t) (some 15) o) ≡ some n)
      go true true m e o = let z : ◌≡◌ {A = ℕ} 0 1 = cc in absurd (omega arith)
      go true false true e o = (7, refl)
      go true false false e o = (15, refl)
      go false t true e o = (7, refl)
      go false t false e o = (7, refl)

  -- 14 stands before these lines as before a commit's own
  pub own_by_holder : (in_form r && eqb (holder (queue_of r)) d.seat) ≡ true → first_of (own_in_turn r d stamp mask) ≡ first_of (own_conditions d (Commits stamp mask))
  own_by_holder e = ap (λ (o : Option ℕ). cond (not (eqb d.tail 0)) (some 14) o) (by_holder e)

  pub own_by_another : (in_form r && eqb (holder (queue_of r)) d.seat) ≡ false → (n : ℕ) × (first_of (own_in_turn r d stamp mask) ≡ some n)
  own_by_another e = go (not (eqb d.tail 0)) (by_another e)
    where
      go : (t : Bool) → (n : ℕ) × (first_of (in_turn_lines r d stamp mask) ≡ some n) → (n : ℕ) × (cond t (some 14) (first_of (in_turn_lines r d stamp mask)) ≡ some n)
      go true p = (14, refl)
      go false p = p
