-- What the check is worth: the sums fit their fields, sealing seals one block and no other, and one changed byte is noticed.
-- Assumes nothing.
use Prim.Native.Nat.{ℕ, ◌+◌, ◌-◌, ◌%◌, ◌/◌, ◌≤◌, ◌<◌}
use mathlib.Core.Path.{◌≡◌, sym, ap, ◌∙◌}
use mathlib.Core.Bool.{true, false}
use mathlib.Core.List.{List, [], ◌∷◌}
use mathlib.Core.Logic.{inl, inr}
use native.Mathlib.Omega.{arith}
use lib.ListN.{length, get_or, set, take, drop, length-take}
use lib.Seq.{take_at, drop_at, length-take-le, get_or-take, get_or-drop, get_or-set_same, take-set-le, take-set-lt, drop-set-lt}
use Rattle.block.specs.Check.{sums, checks_of, sealed, seal_of}
use Rattle.block.specs.Buffer.{block_at, seal_at}
use Rattle.block.proofs.Says.{lt_or_ge, says_true, true_says, says_false}
use Rattle.block.proofs.Sealing.{says-sealed, sealed-size, seal_is, length_seal}
use Rattle.block.proofs.Parts.{block_size, seal_at_is, seal_at-not, put-leaves}
use Rattle.block.proofs.Damage.{same_checks}

pub sums-small : (a b : ℕ) (l : List ℕ) → a < 65_521 → b < 65_521 → ((sums a b l).0 < 65_521) × ((sums a b l).1 < 65_521)
sums-small a b [] h g = (h, g)
sums-small a b (x ∷ l) h g = sums-small ((a + x) % 65_521) ((b + (a + x) % 65_521) % 65_521) l (omega arith) (omega arith)

-- The two sums stay below the modulus, so that each fits its two bytes.
pub sums_fit : (l : List ℕ) {a b : ℕ} → sums 0 0 l ≡ (a, b) → (a < 65_521) × (b < 65_521)
sums_fit l e = rw e at (sums-small 0 0 l (omega arith) (omega arith))

-- A block whose check is written is sealed.
pub seal_seals : (l : List ℕ) → length l ≡ 512 → sealed (seal_of l) ≡ true
seal_seals l e =
    let p = take 508 l in
    let n : length p ≡ 508 = length-take-le 508 l (omega arith) in
    says_true (says-sealed (seal_of l)) (rw (seal_is l e, take_at p (checks_of p) 508 n, drop_at p (checks_of p) 508 n))

-- Writing the check of one block leaves every other block.
pub seal_leaves : (l : List ℕ) (i j : ℕ) → (i ≡ j → ⊥) → block_at (seal_at l j) i ≡ block_at l i
seal_leaves l i j ne =
    elim (lt_or_ge j (length l / 512)) [
      | inl h ↦ ap (λ (x : List ℕ). block_at x i) (seal_at_is l j h)
          ∙ put-leaves l (seal_of (block_at l j)) i j h (length_seal (block_at l j) ∙ block_size l j h) ne
      | inr h ↦ ap (λ (x : List ℕ). block_at x i) (sym (seal_at-not l j h))
    ]

pub seal_others : (l : List ℕ) (i j : ℕ) → (i ≡ j → ⊥) → sealed (block_at (seal_at l j) i) ≡ sealed (block_at l i)
seal_others l i j ne = ap sealed (seal_leaves l i j ne)

-- Any one byte of a sealed block changed, the four check bytes included, and the block is no longer sealed.
pub damage : (l : List ℕ) (k v : ℕ) → k < 512 → sealed l ≡ true → get_or l k 0 < 256 → v < 256 → (v ≡ get_or l k 0 → ⊥) → sealed (set l k v) ≡ false
damage l k v hk t hx hv ne =
    says_false (says-sealed (set l k v)) (λ d. ne (elim (lt_or_ge k 508) [ inl h ↦ body h d | inr h ↦ check h d ]))
  where
    e : checks_of (take 508 l) ≡ drop 508 l
    e = true_says (says-sealed l) t

    body : k < 508 → checks_of (take 508 (set l k v)) ≡ drop 508 (set l k v) → v ≡ get_or l k 0
    body h d =
        let x : get_or (take 508 l) k 0 ≡ get_or l k 0 = get_or-take 508 l k 0 h in
        same_checks (take 508 l) k v (omega (arith, sealed-size l e, length-take 508 l)) (omega arith) hv
        (ap checks_of (sym (take-set-lt 508 l k v h)) ∙ d ∙ drop-set-lt 508 l k v h ∙ sym e)
        ∙ x

    check : 508 ≤ k → checks_of (take 508 (set l k v)) ≡ drop 508 (set l k v) → v ≡ get_or l k 0
    check h d =
        let n : 508 + (k - 508) ≡ k = omega arith in
        let at : (m : List ℕ) → get_or (drop 508 m) (k - 508) 0 ≡ get_or m k 0 = λ m. get_or-drop 508 m (k - 508) 0 ∙ ap (λ (i : ℕ). get_or m i 0) n in
        sym (get_or-set_same l k v 0 (omega (arith, sealed-size l e)))
        ∙ sym (at (set l k v))
        ∙ ap (λ (m : List ℕ). get_or m (k - 508) 0) (sym d ∙ ap checks_of (take-set-le 508 l k v h) ∙ e)
        ∙ at l
