-- The changes of a commit block one after the other, and what is known once they are laid.
-- Assumes nothing.
use Prim.Native.Nat.{◌*◌, ◌+◌, ◌<◌, ◌≤◌, suc, zero, ℕ}
use mathlib.Core.Bool.{Bool, ◌&&◌, and_assoc, false, true}
use mathlib.Core.List.{List}
use mathlib.Core.Logic.{inl, inr, ◌⊎◌}
use mathlib.Core.Path.{◌∙◌, ◌≡◌, ap, subst, sym}
use native.Mathlib.Omega.{arith}
use borrow.Author.Tests.{le-leb, lt-leb}
use lib.Dec.{T, eqb, leb}
use lib.ListN.{drop, get_or, length}
use lib.Seq.{get_or-drop}
use Rattle.block.specs.Field.{two_at}
use Rattle.block.specs.Lists.{All, all, all_from}
use Rattle.model.specs.Blocks.{parse_lines}
use Rattle.model.specs.Layout.{Rule, Table, pointed}
use Rattle.model.specs.Pass.{laid, none_twice, rule}
use Rattle.laws.proofs.Acceptance.{says-laid}
use Rattle.shape.proofs.Shapes.{length-parse}
use Rattle.shape.specs.Rows.{Growable}

module _ (look : ℕ → List ℕ) (at k : ℕ) (tables : List Table) (seat : ℕ) where
  -- the tests of a commit block in the code's order, where m is the number of changes that was read
  pub laid_is : (m : ℕ) (b : List ℕ) → m ≡ two_at b 2
      → laid look at k tables seat (parse_lines (two_at b 2) (drop 16 b))
      ≡ (leb 1 seat && (leb seat 4 && (leb 1 m && (leb m 32
      && (all (rule look at k tables) (parse_lines m (drop 16 b)) && (none_twice (parse_lines m (drop 16 b))
      && all_from (λ (p : ℕ). eqb (pointed p (parse_lines m (drop 16 b))) 1) at k))))))
  unfolding laid
  laid_is m b e =
      ap (λ (x : ℕ). laid look at k tables seat (parse_lines x (drop 16 b))) (sym e)
      ∙ ap (λ (x : ℕ). leb 1 seat && (leb seat 4 && (leb 1 x && (leb x 32
      && (all (rule look at k tables) (parse_lines m (drop 16 b)) && (none_twice (parse_lines m (drop 16 b))
      && all_from (λ (p : ℕ). eqb (pointed p (parse_lines m (drop 16 b))) 1) at k)))))) (length-parse m (drop 16 b))

  module _ (m : ℕ) (b : List ℕ) (e : m ≡ two_at b 2) where
    -- a seat or a number of changes that is none
    pub laid_out : (seat < 1) ⊎ (((1 ≤ seat) × (4 < seat)) ⊎ (((1 ≤ seat) × (seat ≤ 4) × (m < 1)) ⊎ ((1 ≤ seat) × (seat ≤ 4) × (1 ≤ m) × (32 < m))))
        → laid look at k tables seat (parse_lines (two_at b 2) (drop 16 b)) ≡ false
    laid_out (inl h) = laid_is m b e ∙ rw (lt-leb 1 seat h)
    laid_out (inr (inl h)) = laid_is m b e ∙ rw (le-leb 1 seat h.0, lt-leb seat 4 h.1)
    laid_out (inr (inr (inl h))) = laid_is m b e ∙ rw (le-leb 1 seat h.0, le-leb seat 4 h.1, lt-leb 1 m h.2)
    laid_out (inr (inr (inr h))) = laid_is m b e ∙ rw (le-leb 1 seat h.0, le-leb seat 4 h.1, le-leb 1 m h.2, lt-leb m 32 h.3)

    pub laid_rest : (both : Bool) → both ≡ (all (rule look at k tables) (parse_lines m (drop 16 b)) && none_twice (parse_lines m (drop 16 b)))
        → 1 ≤ seat → seat ≤ 4 → 1 ≤ m → m ≤ 32
        → laid look at k tables seat (parse_lines (two_at b 2) (drop 16 b)) ≡ (both && all_from (λ (p : ℕ). eqb (pointed p (parse_lines m (drop 16 b))) 1) at k)
    laid_rest both r h g i j =
        let C = all_from (λ (p : ℕ). eqb (pointed p (parse_lines m (drop 16 b))) 1) at k in
        laid_is m b e ∙ rw (le-leb 1 seat h, le-leb seat 4 g, le-leb 1 m i, le-leb m 32 j)
        (sym (and_assoc (all (rule look at k tables) (parse_lines m (drop 16 b))) (none_twice (parse_lines m (drop 16 b))) C) ∙ ap (λ (x : Bool). x && C) (sym r))

  sheets-low : (m : ℕ) (t : List ℕ) → All (Rule look at k tables) (parse_lines m t) → (j : ℕ) → j < m → get_or t (8 * j) 0 < 32
  sheets-low zero t u j h = absurd (omega arith)
  sheets-low (suc m) t u zero h = u.0.0
  sheets-low (suc m) t u (suc j) h =
      let e : 8 + 8 * j ≡ 8 * suc j = omega arith in
      subst (λ (x : ℕ). x < 32) (get_or-drop 8 t (8 * j) 0 ∙ ap (λ (x : ℕ). get_or t x 0) e) (sheets-low m (drop 8 t) u.1 j (omega arith))

  -- what growing the table asks
  pub laid_grows : (tab b : List ℕ) (r m : ℕ) → 1 ≤ r → 32 * r + 32 ≤ length tab → length b ≡ 512
      → m ≡ two_at b 2 → laid look at k tables seat (parse_lines (two_at b 2) (drop 16 b)) ≡ true → Growable tab r b 16 m
  laid_grows tab b r m some room size e t =
      let u : laid look at k tables seat (parse_lines m (drop 16 b)) ≡ true = ap (λ (x : ℕ). laid look at k tables seat (parse_lines x (drop 16 b))) e ∙ t in
      let p = (says-laid look at k tables seat (parse_lines m (drop 16 b))).true_so (subst T (sym u) tt) in
      let few : m ≤ 32 = omega (arith, p.1.1.1.0, length-parse m (drop 16 b)) in
      record {
        some = some;
        room = room;
        lines = omega arith;
        few = few;
        sheets = λ j h. subst (λ (x : ℕ). x < 32) (get_or-drop 16 b (8 * j) 0) (sheets-low m (drop 16 b) p.1.1.1.1.0 j h);
        once = p.1.1.1.1.1.0;
      }
