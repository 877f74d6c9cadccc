-- The flags of the chosen entries: those that are not left to visit are right.
-- Assumes nothing.
use Prim.Native.Nat.{◌-◌, ◌<◌, ◌^◌, ℕ}
use mathlib.Core.Bool.{Bool, cond, false, not, true}
use mathlib.Core.List.{List}
use mathlib.Core.Logic.{inl, inr}
use mathlib.Core.Path.{◌∙◌, ◌≡◌, ap, refl, subst, sym}
use native.Mathlib.Omega.{arith}
use lib.Dec.{eqb}
use lib.ListN.{get_or, length, length-set, replicate, set}
use lib.Seq.{get_or-set_other, get_or-set_same}
use Rattle.block.proofs.Says.{eq_or}
use Rattle.model.specs.Calls.{side_in}
use Rattle.model.specs.Entry.{Entry, added, copied, deleted, empty, normal}
use Rattle.model.specs.History.{Bytes, is_bytes, sheet}
use Rattle.model.specs.Machine.{chosen, entry}
use Rattle.model.specs.Store.{store_history}
use Rattle.commits.specs.Outcome.{RightAt, RightFlags}
use Rattle.entries.specs.View.{entry_in}
use Rattle.filing.specs.Inner.{altered, source_block}
use Rattle.laws.proofs.Rows.{chosen_none}
use Rattle.masks.proofs.Bits.{chosen-other}
use Rattle.masks.specs.Chosen.{Lowest}
use mir.Val.{bool_byte}

-- a test as a byte
pub flag_byte : {a b : Bool} → a ≡ b → bool_byte a ≡ cond b 1 0
flag_byte {b = b} e = ap bool_byte e ∙ by b
  where
    by : (b : Bool) → bool_byte b ≡ cond b 1 0
    by true = refl
    by false = refl

flag_so : (b : Bool) {n : ℕ} → n ≡ cond (not b) 1 0 → b ≡ eqb n 0
flag_so true q = rw q
flag_so false q = rw q

module _ (store : Bytes) (i : ℕ) where
  -- a flag of 1 where an entry is altered, else 0, and the block of its source are right
  right_at : (e : Entry) {n p : ℕ} → n ≡ cond (altered (store_history store) i e) 1 0 → p ≡ source_block store e → RightAt store i e n p
  right_at empty q w = tt
  right_at (normal b x) {n} q w = ap not (flag_so (is_bytes x (sheet (store_history store) b i)) q)
  right_at (added x) q w = tt
  right_at (deleted b) q w = tt
  right_at (copied s r x) {n} q w = (flag_so (is_bytes x (sheet (store_history store) r s)) q, w)

-- the flags and the places are right for the chosen sheets that are not left in m
pub record Noting (store copy : Bytes) (mask : ℕ) (changed places : List ℕ) (m : ℕ) : Type 0 where
  pub flags : length changed ≡ 32
  pub spots : length places ≡ 32
  pub each : (i : ℕ) → i < 32 → chosen mask i ≡ true → chosen m i ≡ false → RightAt store i (entry (side_in store copy) i) (get_or changed i 0) (get_or places i 0)

module _ (store copy : Bytes) (mask : ℕ) where
  pub noting_starts : mask < 2 ^ 32 → Noting store copy mask (replicate 32 0) (replicate 32 0) mask
  noting_starts g = record { flags = refl; spots = refl; each = λ i g on off. let z : ◌≡◌ {A = ℕ} 0 1 = cc (on, off) in absurd (omega arith) }

  module _ {changed places : List ℕ} {m : ℕ} (N : Noting store copy mask changed places m) where
    -- sheet t is noted
    pub noting_next : {t n p : ℕ} → Lowest m t → t < 32 → n ≡ cond (altered (store_history store) t (entry_in copy t)) 1 0 → p ≡ source_block store (entry_in copy t)
        → Noting store copy mask (set changed t n) (set places t p) (m - 2 ^ t)
    noting_next {t} {n} {p} L g q w = record {
      flags = length-set changed t n ∙ N.flags;
      spots = length-set places t p ∙ N.spots;
      each = λ i gi on off. elim (eq_or i t) [
        | inl e ↦ subst (λ (i : ℕ). RightAt store i (entry_in copy i) (get_or (set changed t n) i 0) (get_or (set places t p) i 0)) (sym e)
            (right_at store t (entry_in copy t) (get_or-set_same changed t n 0 (omega (arith, N.flags)) ∙ q) (get_or-set_same places t p 0 (omega (arith, N.spots)) ∙ w))
        | inr ne ↦ (
            let a : get_or (set changed t n) i 0 ≡ get_or changed i 0 = get_or-set_other changed t i n 0 ne in
            let b : get_or (set places t p) i 0 ≡ get_or places i 0 = get_or-set_other places t i p 0 ne in
            rw (a, b) (N.each i gi on (sym (chosen-other L i ne) ∙ off))
            )
      ];
    }

    -- nothing is left
    pub noting_ends : m ≡ 0 → RightFlags store copy mask changed places
    noting_ends z = record { flags = N.flags; spots = N.spots; each = λ i g on. N.each i g on (ap (λ (n : ℕ). chosen n i) z ∙ chosen_none i) }
