-- One turn of the loop over the changes of a commit block.
-- Assumes nothing.
use Prim.Native.Nat.{◌*◌, ◌+◌, ◌-◌, ◌<◌, ◌≤◌, suc, ℕ}
use mathlib.Core.Bool.{Bool, ◌&&◌, true}
use mathlib.Core.List.{List}
use mathlib.Core.Path.{◌∙◌, ◌≡◌, ap}
use native.Mathlib.Omega.{arith}
use lib.Dec.{eqb, leb}
use lib.ListN.{drop, get_or}
use lib.Seq.{drop-drop, get_or-drop}
use Rattle.std.proofs.lemmas.Bool.Decides.{nat_tests}
use Rattle.shape.specs.Shape.{lines_ok}

-- the changes that are left, after j
abbrev pub lines_left : List ℕ → ℕ → ℕ → Bool
lines_left s m j = lines_ok (m - j) (drop (16 + 8 * j) s)

pub lines_step : (s : List ℕ) (m j : ℕ) → j < m
    → lines_left s m j ≡ (leb 1 (get_or s (16 + 8 * j + 1) 0) && (leb (get_or s (16 + 8 * j + 1) 0) 4 && (eqb (get_or s (16 + 8 * j + 5) 0) 0 && lines_left s m (j + 1))))
lines_step s m j h =
    let e : m - j ≡ suc (m - (j + 1)) = omega arith in
    let d : 16 + 8 * j + 8 ≡ 16 + 8 * (j + 1) = omega arith in
    ap (λ (n : ℕ). lines_ok n (drop (16 + 8 * j) s)) e
    ∙ rw (get_or-drop (16 + 8 * j) s 1 0, get_or-drop (16 + 8 * j) s 5 0, drop-drop 8 (16 + 8 * j) s, d)

pub lines_none : (s : List ℕ) (m j : ℕ) → m ≤ j → lines_left s m j ≡ true
lines_none s m j h = let e : m - j ≡ 0 = omega arith in rw e

pub lines_all : (s : List ℕ) (m : ℕ) → lines_left s m 0 ≡ lines_ok m (drop 16 s)
lines_all s m =
    let e : m - 0 ≡ m = omega arith in
    let d : 16 + 8 * 0 ≡ 16 = omega arith in
    rw (e, d)

pub ruleset lines_law = (lines_step, lines_none, lines_all, nat_tests)
