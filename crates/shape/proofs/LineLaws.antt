-- What is left of the changes of a commit block after one more, and the fields of one change in the block's bytes.
-- Assumes nothing.
use Prim.Native.Nat.{◌*◌, ◌+◌, ◌-◌, ◌<◌, ◌≤◌, suc, ℕ}
use mathlib.Core.List.{List, [], ◌∷◌}
use mathlib.Core.Path.{◌∙◌, ◌≡◌, ap, sym}
use native.Mathlib.Omega.{arith}
use borrow.Author.Tests.{eq-eqb, ne_eqb}
use lib.ListN.{drop, get_or}
use lib.Seq.{drop-drop, get_or-drop}
use Rattle.block.specs.Field.{two_at}
use Rattle.model.specs.Blocks.{parse_line, parse_lines}
use Rattle.model.specs.Layout.{pointed}
use Rattle.shape.specs.Lines.{left}

pub left_step : (s : List ℕ) (base m j : ℕ) → j < m → left s base m j ≡ parse_line (drop (base + 8 * j) s) ∷ left s base m (j + 1)
left_step s base m j h =
    let e : m - j ≡ suc (m - (j + 1)) = omega arith in
    let d : base + 8 * j + 8 ≡ base + 8 * (j + 1) = omega arith in
    ap (λ (n : ℕ). parse_lines n (drop (base + 8 * j) s)) e
    ∙ ap (λ (x : List ℕ). parse_line (drop (base + 8 * j) s) ∷ parse_lines (m - (j + 1)) x) (drop-drop 8 (base + 8 * j) s ∙ ap (λ (n : ℕ). drop n s) d)

pub left-all : (s : List ℕ) (base m : ℕ) → left s base m 0 ≡ parse_lines m (drop base s)
left-all s base m =
    let e : m - 0 ≡ m = omega arith in
    let d : base + 8 * 0 ≡ base = omega arith in
    rw (e, d)

pub left-none : (s : List ℕ) (base m j : ℕ) → m ≤ j → left s base m j ≡ []
left-none s base m j h = let e : m - j ≡ 0 = omega arith in rw e

two-drop : (s : List ℕ) (b i : ℕ) → two_at (drop b s) i ≡ get_or s (b + i) 0 + 256 * get_or s (b + suc i) 0
two-drop s b i = rw (get_or-drop b s i 0, get_or-drop b s (suc i) 0)

pub block_of : (s : List ℕ) (b : ℕ) → (parse_line (drop b s)).block ≡ two_at s (b + 2)
block_of s b =
    let e : b + 3 ≡ suc (b + 2) = omega arith in
    two-drop s b 2 ∙ ap (λ (n : ℕ). get_or s (b + 2) 0 + 256 * get_or s n 0) e

pub sheet_of : (s : List ℕ) (b : ℕ) → (parse_line (drop b s)).sheet ≡ get_or s b 0
sheet_of s b = get_or-drop b s 0 0 ∙ (let e : b + 0 ≡ b = omega arith in ap (λ (n : ℕ). get_or s n 0) e)

pub pointed_hit : (s : List ℕ) (base m j p : ℕ) → j < m → two_at s (base + 8 * j + 2) ≡ p → pointed p (left s base m j) ≡ suc (pointed p (left s base m (j + 1)))
pointed_hit s base m j p h e = rw (left_step s base m j h, eq-eqb (parse_line (drop (base + 8 * j) s)).block p (block_of s (base + 8 * j) ∙ e))

pub pointed_miss : (s : List ℕ) (base m j p : ℕ) → j < m → (two_at s (base + 8 * j + 2) ≡ p → ⊥) → pointed p (left s base m j) ≡ pointed p (left s base m (j + 1))
pointed_miss s base m j p h e = rw (left_step s base m j h, ne_eqb (parse_line (drop (base + 8 * j) s)).block p (λ q. e (sym (block_of s (base + 8 * j)) ∙ q)))
