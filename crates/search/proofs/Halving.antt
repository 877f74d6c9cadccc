-- Where the halving ends: at or behind the bound of r. From there the way back over the commits up to r finds what the way back from the bound over all of them finds.
-- Assumes nothing.
use Prim.Native.Nat.{◌*◌, ◌+◌, ◌-◌, ◌<◌, ◌≤◌, suc, zero, ℕ}
use mathlib.Core.List.{List}
use mathlib.Core.Logic.{inl, inr}
use mathlib.Core.Path.{◌∙◌, ◌≡◌, ap, refl, subst, sym}
use native.Mathlib.Omega.{arith}
use borrow.Author.Tests.{le-ltb, lt-ltb}
use lib.ListN.{get_or, length}
use Rattle.block.proofs.Says.{lt_or_ge}
use Rattle.block.specs.Field.{two_at}
use Rattle.model.specs.Blocks.{Block, blank, commit, content, label, mark, parse}
use Rattle.model.specs.History.{Bytes, History, last}
use Rattle.model.specs.Store.{blocks_of, store_history}
use Rattle.search.proofs.Revisions.{Passed, after-label, count_more, era_end, era_mark, era_stated, passed, rev_at, rev_low, same-history, stating, used_low}
use Rattle.search.specs.Find.{Accepted, Bound, back, era_at, hit_in, in_block, nowhere}
use Rattle.search.specs.declared.Found.{Found}
use Rattle.shape.specs.Shape.{kind_of}
use Rattle.shape.specs.declared.BlockKind.TheVariants.{Commit, Mark}
use Rattle.store.proofs.Blocks.{block_at, lent}

-- ---- the way back over all commits

abbrev pub in_any : ℕ → Block → Found → Found
in_any i label older = older
in_any i (content r b) older = older
in_any i (commit r seat stamp ls) older = hit_in i r ls older
in_any i (mark m) older = older
in_any i blank older = older

unfoldable pub back_all : List Block → ℕ → ℕ → Found
back_all bs i zero = nowhere
back_all bs i (suc b) = in_any i (get_or bs b blank) (back_all bs i b)

-- what is no commit up to R is passed over
pub passed_over : (R i : ℕ) (b : Block) (older : Found) → (kind_of b ≡ Commit → R < stating b) → in_block R i b older ≡ older
passed_over R i label older h = refl
passed_over R i (content r b) older h = refl
passed_over R i (commit r s t ls) older h = rw (lt-ltb R r (h refl)) refl
passed_over R i (mark m) older h = refl
passed_over R i blank older h = refl

-- the others are looked at
looked_at : (R i : ℕ) (b : Block) (older : Found) → (kind_of b ≡ Commit → stating b ≤ R) → in_block R i b older ≡ in_any i b older
looked_at R i label older h = refl
looked_at R i (content r b) older h = refl
looked_at R i (commit r s t ls) older h = rw (le-ltb R r (h refl)) refl
looked_at R i (mark m) older h = refl
looked_at R i blank older h = refl

era_more : (bs : List Block) (p q : ℕ) → p ≤ q → era_at bs p ≤ era_at bs q
era_more bs p q h = omega (arith, count_more bs p q h)

module _ (s : Bytes) (n used : ℕ) (A : Accepted s n used) (r : ℕ) where
  P : Passed s used used
  P = passed s n used A

  abbrev bs : List Block
  bs = blocks_of used s

  pub halved_room : (1 ≤ used) × (used ≤ 4_096) × (used * 512 ≤ length s)
  halved_room = (used_low s used used P, P.few, P.whole)

  -- ---- the halving

  pub behind_end : r ≤ last (store_history s) → r < era_at bs used
  behind_end h = era_end s used used P r (subst (λ (x : History). r ≤ last x) (sym (same-history s n used A)) h)

  pub behind_later : (p v : ℕ) → 1 ≤ p → p < used → v ≡ two_at (lent s p) 4 → r < v → r < era_at bs p
  behind_later p v h g e l = omega (arith, rev_low s used used P p h g)

  -- ---- one block back

  module _ (p : ℕ) (h : 1 < p) (g : p ≤ used) (l : r < era_at bs p) where
    d : p - 1 + 1 ≡ p
    d = omega arith

    pub behind-mark : kind_of (parse (lent s (p - 1))) ≡ Mark → r < era_at bs (p - 1)
    behind-mark k =
        let e = era_mark bs (p - 1) (ap kind_of (block_at used (p - 1) s (omega arith)) ∙ k) in
        omega (arith, e, ap (era_at bs) d)

    bound_at : era_at bs (p - 1) ≤ r → Bound bs used r p
    bound_at m =
        record {
          low = omega arith;
          high = g;
          before = λ q x y. omega (arith, era_more bs q (p - 1) (omega arith));
          after = λ q x y. omega (arith, era_more bs p q x);
        }

    pub bound_here : (v : ℕ) → (kind_of (parse (lent s (p - 1))) ≡ Mark → ⊥) → v ≡ two_at (lent s (p - 1)) 4 → v ≤ r → Bound bs used r p
    bound_here v k e m = bound_at (omega (arith, rev_at s used used P (p - 1) (omega arith) (omega arith) k))

  pub bound-first : r < era_at bs 1 → Bound bs used r 1
  bound-first l = record { low = omega arith; high = used_low s used used P; before = λ q x y. absurd (omega arith); after = λ q x y. omega (arith, era_more bs 1 q x) }

  -- ---- the bound stands there or before

  pub bound_of : (p : ℕ) → 1 ≤ p → p ≤ used → r < era_at bs p → (b : ℕ) × Bound bs used r b × (b ≤ p)
  bound_of zero h g l = absurd (omega arith)
  bound_of (suc zero) h g l = (1, bound-first l, omega arith)
  bound_of (suc (suc p)) h g l =
      elim (lt_or_ge r (era_at bs (suc p))) [
        | inl e ↦ (let w = bound_of (suc p) (omega arith) (omega arith) e in (w.0, w.1, omega (arith, w.2)))
        | inr o ↦ (let e : suc (suc p) - 1 ≡ suc p = omega arith in (suc (suc p), bound_at (suc (suc p)) (omega arith) g l (omega (arith, ap (era_at bs) e)), omega arith))
      ]

  commit_era : (p : ℕ) → p < used → kind_of (get_or bs p blank) ≡ Commit → (1 ≤ p) × (stating (get_or bs p blank) ≡ era_at bs p)
  commit_era p g k = let h = after-label s used used P p k in (h, (era_stated s used used P p h g).1 (λ e. cc))

  module _ (i b : ℕ) (G : Bound bs used r b) where
    back_over : (k : ℕ) → b + k ≤ used → back r bs i (b + k) ≡ back r bs i b
    unfolding back
    back_over zero h = let e : b + 0 ≡ b = omega arith in ap (back r bs i) e
    back_over (suc k) h =
        let e : b + suc k ≡ suc (b + k) = omega arith in
        ap (back r bs i) e
        ∙ passed_over r i (get_or bs (b + k) blank) (back r bs i (b + k)) (λ c. let w = commit_era (b + k) (omega arith) c in omega (arith, w.1, G.after (b + k) (omega arith) (omega arith)))
        ∙ back_over k (omega arith)

    back-all : (p : ℕ) → p ≤ b → back r bs i p ≡ back_all bs i p
    unfolding back back_all
    back-all zero h = refl
    back-all (suc p) h =
        looked_at r i (get_or bs p blank) (back r bs i p) (λ c. let w = commit_era p (omega (arith, G.high)) c in omega (arith, w.1, G.before p w.0 (omega arith)))
        ∙ ap (in_any i (get_or bs p blank)) (back-all p (omega arith))

    -- THE STATEMENT
    pub back-bound : (e : ℕ) → b ≤ e → e ≤ used → back r bs i e ≡ back_all bs i b
    back-bound e h g = let d : b + (e - b) ≡ e = omega arith in ap (back r bs i) (sym d) ∙ back_over (e - b) (omega arith) ∙ back-all b (omega arith)
