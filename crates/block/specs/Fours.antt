-- The two sums worked out four bytes at a step, as the code does it; `proofs/Fours` has them equal to the sums of `Check`.
-- Assumes nothing.
use Rattle.std.specs.Prelude.{ℕ, zero, suc, ◌+◌, ◌*◌, List, get_or, drop}

-- the four bytes from k on: the first and third in one number, the third 65,536 times; the second and fourth likewise; all four
abbrev pub even_at : List ℕ → ℕ → ℕ
even_at l k = get_or l k 0 + 65_536 * get_or l (k + 2) 0

abbrev pub odd_at : List ℕ → ℕ → ℕ
odd_at l k = get_or l (k + 1) 0 + 65_536 * get_or l (k + 3) 0

abbrev pub all_at : List ℕ → ℕ → ℕ
all_at l k = get_or l k 0 + get_or l (k + 1) 0 + get_or l (k + 2) 0 + get_or l (k + 3) 0

-- the first sum, from the sums of the bytes at each of the four places in a step
abbrev pub first : ℕ → ℕ → ℕ → ℕ → ℕ
first p0 p1 p2 p3 = p0 + p1 + p2 + p3

-- the second, in which a byte counts once for each byte from it to the end: four times for each later step (w), and as often as its own step has bytes from it on
abbrev pub second : ℕ → ℕ → ℕ → ℕ → ℕ → ℕ
second p0 p1 p2 p3 w = 4 * w + 4 * p0 + 3 * p1 + 2 * p2 + p3

-- both over n steps, not reduced
abbrev pub fours : ℕ → ℕ → ℕ → ℕ → ℕ → ℕ → List ℕ → ℕ × ℕ
fours p0 p1 p2 p3 w zero l = (first p0 p1 p2 p3, second p0 p1 p2 p3 w)
fours p0 p1 p2 p3 w (suc n) l =
    let x0 = get_or l 0 0 in
    let x1 = get_or l 1 0 in
    let x2 = get_or l 2 0 in
    let x3 = get_or l 3 0 in
    fours (p0 + x0) (p1 + x1) (p2 + x2) (p3 + x3) (w + n * (x0 + x1 + x2 + x3)) n (drop 4 l)
