-- The search back, one law for each way through a turn.
-- Assumes nothing.
use Prim.Native.Nat.{◌*◌, ◌+◌, ◌-◌, ◌<◌, ◌≤◌, suc, zero, ℕ}
use mathlib.Core.Bool.{Bool, ◌&&◌, cond, true}
use mathlib.Core.List.{List}
use mathlib.Core.Path.{◌∙◌, ◌≡◌, ap, ap₂, refl, subst, sym}
use native.Mathlib.Omega.{arith}
use borrow.Author.Tests.{le-ltb}
use lib.Dec.{T, ltb}
use lib.ListN.{drop, get_or, take}
use lib.Seq.{drop-drop}
use Rattle.block.proofs.Says.{and_true}
use Rattle.block.specs.Field.{two_at}
use Rattle.block.specs.Lists.{all, same}
use Rattle.model.specs.Blocks.{Block, FitsBlock, blank, fields_of, fits_block, parse, parse_lines}
use Rattle.model.specs.Codec.{padded, parts, shaped}
use Rattle.model.specs.Log.{marks, marks_ok}
use Rattle.model.specs.Pass.{log_all, ok}
use Rattle.model.specs.Store.{blocks_of, lawful}
use Rattle.laws.proofs.BlockCodes.{block_coded}
use Rattle.search.proofs.Halving.{passed_over}
use Rattle.search.proofs.Revisions.{stating}
use Rattle.search.specs.Find.{back, hit_in, in_block, nowhere}
use Rattle.shape.proofs.Shapes.{length-parse}
use Rattle.shape.specs.Shape.{kind_of}
use Rattle.shape.specs.declared.BlockKind.TheVariants.{Commit}
use Rattle.store.proofs.Blocks.{block_at, lent, lent_is}
use Rattle.store.proofs.PassLaws.{commit_of, parse-commit}

all_part : (f : List ℕ → Bool) (n p : ℕ) (s : List ℕ) → T (all f (parts n s)) → p < n → T (f (take 512 (drop (p * 512) s)))
all_part f zero p s t h = absurd (omega arith)
all_part f (suc n) zero s t h = (and_true (f (take 512 s)) (all f (parts n (drop 512 s))) t).0
all_part f (suc n) (suc p) s t h =
    let e : 512 + p * 512 ≡ suc p * 512 = omega arith in
    subst (λ (x : List ℕ). T (f (take 512 x))) (drop-drop (p * 512) 512 s ∙ ap (λ (k : ℕ). drop k s) e)
    (all_part f n p (drop 512 s) (and_true (f (take 512 s)) (all f (parts n (drop 512 s))) t).1 (omega arith))

-- a commit block of an accepted store has at most 32 changes
pub few-changes : (n p : ℕ) (s : List ℕ) → lawful n s ≡ true → p < n → kind_of (parse (lent s p)) ≡ Commit → two_at (lent s p) 2 ≤ 32
unfolding lawful shaped
few-changes n p s e h k =
    let l = lent s p in
    let t = (and_true (all (shaped fields_of parse fits_block) (parts n s)) (ok (blocks_of n s) && marks_ok (marks (log_all (blocks_of n s)))) (subst T (sym e) tt)).0 in
    let u : T (shaped fields_of parse fits_block l) = subst (λ (x : List ℕ). T (shaped fields_of parse fits_block x)) (sym (lent_is s p))
    (all_part (shaped fields_of parse fits_block) n p s t h) in
    let f = (block_coded.says (parse l)).true_so (and_true (fits_block (parse l)) (same (padded (fields_of (parse l))) (take 508 l)) u).0 in
    let g : FitsBlock (commit_of l) = subst FitsBlock (parse-commit l k) f in
    omega (arith, g.3.0, length-parse (two_at l 2) (drop 16 l))

-- ---- the search

pub back_none : (R : ℕ) (bs : List Block) (i p : ℕ) → p ≤ 0 → back R bs i p ≡ nowhere
unfolding back
back_none R bs i zero h = refl
back_none R bs i (suc p) h = absurd (omega arith)

back_step : (R : ℕ) (bs : List Block) (i p : ℕ) → 0 < p → back R bs i p ≡ in_block R i (get_or bs (p - 1) blank) (back R bs i (p - 1))
unfolding back
back_step R bs i zero h = absurd (omega arith)
back_step R bs i (suc p) h = let e : p ≡ suc p - 1 = omega arith in ap (λ (x : ℕ). in_block R i (get_or bs x blank) (back R bs i x)) e

module _ (R n : ℕ) (s : List ℕ) (i p : ℕ) (some : 0 < p) (h : p ≤ n) where
  into : back R (blocks_of n s) i p ≡ in_block R i (parse (lent s (p - 1))) (back R (blocks_of n s) i (p - 1))
  into = back_step R (blocks_of n s) i p some ∙ ap (λ (b : Block). in_block R i b (back R (blocks_of n s) i (p - 1))) (block_at n (p - 1) s (omega arith))

  -- no commit, or one after R
  pub back-skip : (kind_of (parse (lent s (p - 1))) ≡ Commit → R < two_at (lent s (p - 1)) 4) → back R (blocks_of n s) i p ≡ back R (blocks_of n s) i (p - 1)
  back-skip k =
      let l = lent s (p - 1) in
      into ∙ passed_over R i (parse l) (back R (blocks_of n s) i (p - 1)) (λ e. subst (λ (x : Block). R < stating x) (sym (parse-commit l e)) (k e))

  -- a commit up to R
  pub back_into : (r m : ℕ) → kind_of (parse (lent s (p - 1))) ≡ Commit → r ≡ two_at (lent s (p - 1)) 4 → m ≡ two_at (lent s (p - 1)) 2 → r ≤ R
      → back R (blocks_of n s) i p ≡ hit_in i r (parse_lines m (drop 16 (lent s (p - 1)))) (back R (blocks_of n s) i (p - 1))
  back_into r m k er em g =
      let l = lent s (p - 1) in
      into
      ∙ ap (λ (b : Block). in_block R i b (back R (blocks_of n s) i (p - 1))) (parse-commit l k)
      ∙ ap₂ (λ (x y : ℕ). cond (ltb R x) (back R (blocks_of n s) i (p - 1)) (hit_in i x (parse_lines y (drop 16 l)) (back R (blocks_of n s) i (p - 1)))) (sym er) (sym em)
      ∙ rw (le-ltb R r g) refl
