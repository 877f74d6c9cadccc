-- The two sums four bytes at a step are the sums byte by byte.
-- Assumes nothing.
use Prim.Native.Nat.{ℕ, zero, suc, ◌+◌, ◌-◌, ◌*◌, ◌/◌, ◌%◌, ◌≤◌, ◌<◌, min}
use mathlib.Core.Path.{◌≡◌, refl, sym, ap, ap₂, ◌∙◌}
use mathlib.Core.List.{List, [], ◌∷◌}
use mathlib.Core.Logic.{inl, inr}
use native.Mathlib.Nat.{mul-add, mul-le-mul, mul-zero, suc-mul}
use native.Mathlib.Omega.{arith}
use lib.ListN.{length, get_or, take, drop, length-take, length-drop}
use lib.Seq.{take_all, drop-drop, get_or-drop}
use Rattle.block.specs.Check.{sums}
use Rattle.block.specs.Fours.{even_at, odd_at, all_at, first, second, fours}
use Rattle.block.proofs.Says.{lt_or_ge}
use Rattle.block.proofs.Turns.{sums_byte}

-- four bytes more: the second sum takes the first of before four times
sums-four : (a b x0 x1 x2 x3 : ℕ) (l : List ℕ)
    → sums (a % 65_521) (b % 65_521) (x0 ∷ x1 ∷ x2 ∷ x3 ∷ l) ≡ sums ((a + (x0 + x1 + x2 + x3)) % 65_521) ((b + (4 * a + 4 * x0 + 3 * x1 + 2 * x2 + x3)) % 65_521) l
sums-four a b x0 x1 x2 x3 l =
    let a1 = a + x0 in
    let b1 = b + a1 in
    let a2 = a1 + x1 in
    let b2 = b1 + a2 in
    let a3 = a2 + x2 in
    let b3 = b2 + a3 in
    let p : a3 + x3 ≡ a + (x0 + x1 + x2 + x3) = omega arith in
    let q : b3 + (a3 + x3) ≡ b + (4 * a + 4 * x0 + 3 * x1 + 2 * x2 + x3) = omega arith in
    sums_byte a b x0 (x1 ∷ x2 ∷ x3 ∷ l) ∙ sums_byte a1 b1 x1 (x2 ∷ x3 ∷ l) ∙ sums_byte a2 b2 x2 (x3 ∷ l) ∙ sums_byte a3 b3 x3 l
    ∙ ap₂ (λ (u v : ℕ). sums (u % 65_521) (v % 65_521) l) p q

-- the first four of a list
four-cons : (l : List ℕ) → 4 ≤ length l → l ≡ get_or l 0 0 ∷ get_or l 1 0 ∷ get_or l 2 0 ∷ get_or l 3 0 ∷ drop 4 l
four-cons [] h = absurd (omega arith)
four-cons (x0 ∷ []) h = absurd (omega arith)
four-cons (x0 ∷ x1 ∷ []) h = absurd (omega arith)
four-cons (x0 ∷ x1 ∷ x2 ∷ []) h = absurd (omega arith)
four-cons (x0 ∷ x1 ∷ x2 ∷ x3 ∷ l) h = refl

-- The law of the four-byte step. Over the first 4 n bytes of a list, n steps come to what the definition gives byte by byte. Before them w has the bytes so far already
-- counted for these n steps, which b has not.
pub fours-sums : (n : ℕ) (l : List ℕ) (p0 p1 p2 p3 w b : ℕ) → 4 * n ≤ length l → b + 4 * (n * first p0 p1 p2 p3) ≡ second p0 p1 p2 p3 w
    → sums (first p0 p1 p2 p3 % 65_521) (b % 65_521) l ≡ sums ((fours p0 p1 p2 p3 w n l).0 % 65_521) ((fours p0 p1 p2 p3 w n l).1 % 65_521) (drop (4 * n) l)
fours-sums zero l p0 p1 p2 p3 w b h e =
    let f : b ≡ second p0 p1 p2 p3 w = omega arith in
    rw f
fours-sums (suc n) l p0 p1 p2 p3 w b h e =
    let x0 = get_or l 0 0 in
    let x1 = get_or l 1 0 in
    let x2 = get_or l 2 0 in
    let x3 = get_or l 3 0 in
    let a = first p0 p1 p2 p3 in
    let t = x0 + x1 + x2 + x3 in
    let ea : a + t ≡ first (p0 + x0) (p1 + x1) (p2 + x2) (p3 + x3) = omega arith in
    let eb : (b + (4 * a + 4 * x0 + 3 * x1 + 2 * x2 + x3)) + 4 * (n * first (p0 + x0) (p1 + x1) (p2 + x2) (p3 + x3)) ≡ second (p0 + x0) (p1 + x1) (p2 + x2) (p3 + x3) (w + n * t) =
    omega (arith, e, suc-mul n a, ap (λ (k : ℕ). n * k) (sym ea) ∙ mul-add n a t) in
    let left : 4 + 4 * n ≡ 4 * suc n = omega arith in
    ap (sums (a % 65_521) (b % 65_521)) (four-cons l (omega arith))
    ∙ sums-four a b x0 x1 x2 x3 (drop 4 l)
    ∙ ap (λ (u : ℕ). sums (u % 65_521) ((b + (4 * a + 4 * x0 + 3 * x1 + 2 * x2 + x3)) % 65_521) (drop 4 l)) ea
    ∙ fours-sums n (drop 4 l) (p0 + x0) (p1 + x1) (p2 + x2) (p3 + x3) (w + n * t) (b + (4 * a + 4 * x0 + 3 * x1 + 2 * x2 + x3)) (omega (arith, length-drop 4 l)) eb
    ∙ ap (λ (m : List ℕ). sums ((fours p0 p1 p2 p3 w (suc n) l).0 % 65_521) ((fours p0 p1 p2 p3 w (suc n) l).1 % 65_521) m)
    (drop-drop (4 * n) 4 l ∙ ap (λ (k : ℕ). drop k l) left)

-- After the whole steps of the first 508 bytes, m is where the bytes that fill no step begin.
pub after-fours : (l : List ℕ) (end m a b : ℕ) → end ≡ min (length l) 508 → m ≡ end - end % 4 → fours 0 0 0 0 0 (length (take end l) / 4) (take end l) ≡ (a, b)
    → sums (a % 65_521) (b % 65_521) (take (length (take end l) - m) (drop m (take end l))) ≡ sums 0 0 (take 508 l)
after-fours l end m a b e em f =
    let body = take end l in
    let n = length body / 4 in
    let size : length body ≡ end = omega (arith, length-take end l) in
    let steps : m ≡ 4 * n = omega arith in
    ap (sums (a % 65_521) (b % 65_521)) (take_all (length body - m) (drop m body) (omega (arith, length-drop m body)) ∙ ap (λ (k : ℕ). drop k body) steps)
    ∙ ap (λ (t : ℕ × ℕ). sums (t.0 % 65_521) (t.1 % 65_521) (drop (4 * n) body)) (sym f)
    ∙ sym (fours-sums n body 0 0 0 0 0 0 (omega arith) (omega (arith, mul-zero n)))
    ∙ ap (sums 0 0) (elim (lt_or_ge (length l) 508) [
      | inl h ↦ take_all end l (omega arith) ∙ sym (take_all 508 l (omega arith))
      | inr h ↦ (let same : end ≡ 508 = omega arith in ap (λ (k : ℕ). take k l) same)
    ])

-- one step, as the definition has it
fours-next : (l : List ℕ) (n i p0 p1 p2 p3 w : ℕ) → 0 < n
    → fours p0 p1 p2 p3 w n (drop i l)
    ≡ fours (p0 + get_or l i 0) (p1 + get_or l (i + 1) 0) (p2 + get_or l (i + 2) 0) (p3 + get_or l (i + 3) 0)
    (w + (n - 1) * all_at l i) (n - 1) (drop (i + 4) l)
fours-next l n i p0 p1 p2 p3 w more =
    let less : n ≡ suc (n - 1) = omega arith in
    let z : i + 0 ≡ i = omega arith in
    let at : (j : ℕ) → get_or (drop i l) j 0 ≡ get_or l (i + j) 0 = λ j. get_or-drop i l j 0 in
    let f : get_or (drop i l) 0 0 ≡ get_or l i 0 = at 0 ∙ ap (λ (j : ℕ). get_or l j 0) z in
    ap (λ (m : ℕ). fours p0 p1 p2 p3 w m (drop i l)) less ∙ cc (f, at 1, at 2, at 3, drop-drop 4 i l)

-- Two of the four sums in one number, the second counted 65,536 times, each no more than i steps can give.
abbrev pub Pair : ℕ → ℕ → Type 0
Pair e i = (e % 65_536 ≤ 255 * i) × (e / 65_536 ≤ 255 * i)

-- in d a byte more for each
module _ (e d x y : ℕ) (adds : d ≡ x + 65_536 * y) (h : e % 65_536 + x < 65_536) where
  low_more : (e + d) % 65_536 ≡ e % 65_536 + x
  low_more = rw adds (omega arith)

  high_more : (e + d) / 65_536 ≡ e / 65_536 + y
  high_more = rw adds (omega arith)

pub pair_grows : (e d x y i : ℕ) → d ≡ x + 65_536 * y → x < 256 → y < 256 → i < 127 → Pair e i → (e + d < 4_294_967_296) × Pair (e + d) (i + 1)
pair_grows e d x y i adds hx hy few p =
    let room : e % 65_536 + x < 65_536 = omega (arith, p.0) in
    (omega (arith, p.0, p.1), (omega (arith, p.0, low_more e d x y adds room), omega (arith, p.1, high_more e d x y adds room)))

-- One turn of the loop over the steps: what is left from byte i on. `even` and `odd` have two of the four sums each, and y, z and t are what the step adds.
pub fours-turn : (l : List ℕ) (n i even odd w : ℕ) {y z t : ℕ} → y ≡ even_at l i → z ≡ odd_at l i → t ≡ all_at l i → even % 65_536 + get_or l i 0 < 65_536
    → odd % 65_536 + get_or l (i + 1) 0 < 65_536 → 0 < n
    → fours (even % 65_536) (odd % 65_536) (even / 65_536) (odd / 65_536) w n (drop i l)
    ≡ fours ((even + y) % 65_536) ((odd + z) % 65_536) ((even + y) / 65_536) ((odd + z) / 65_536) (w + (n - 1) * t) (n - 1) (drop (i + 4) l)
fours-turn l n i even odd w {y} {z} {t} ey ez et h g more =
    fours-next l n i (even % 65_536) (odd % 65_536) (even / 65_536) (odd / 65_536) w more
    ∙ cc (
      low_more even y (get_or l i 0) (get_or l (i + 2) 0) ey h,
      high_more even y (get_or l i 0) (get_or l (i + 2) 0) ey h,
      low_more odd z (get_or l (i + 1) 0) (get_or l (i + 3) 0) ez g,
      high_more odd z (get_or l (i + 1) 0) (get_or l (i + 3) 0) ez g,
      et,
    )

-- What a turn of the loop keeps. After i of n steps `even` and `odd` have two of the four sums each, and w all bytes; y, z and t are what the next step adds.
pub fours-kept : (l : List ℕ) (n i even odd w : ℕ) {y z t : ℕ} → (y ≡ even_at l (4 * i)) × (z ≡ odd_at l (4 * i)) × (t ≡ all_at l (4 * i)) × (t ≤ 1020)
    → ((k : ℕ) → get_or l k 0 < 256) → i < n → n ≤ 127 → Pair even i → Pair odd i → w ≤ 128_520 * i
    → Pair (even + y) (i + 1)
    × Pair (odd + z) (i + 1)
    × (w + (n - 1 - i) * t ≤ 128_520 * (i + 1))
    × (fours (even % 65_536) (odd % 65_536) (even / 65_536) (odd / 65_536) w (n - i) (drop (4 * i) l)
    ≡ fours ((even + y) % 65_536) ((odd + z) % 65_536) ((even + y) / 65_536) ((odd + z) / 65_536) (w + (n - 1 - i) * t) (n - (i + 1)) (drop (4 * (i + 1)) l))
fours-kept l n i even odd w {y} {z} {t} r bytes more few p q hw =
    let k = 4 * i in
    let x0 = get_or l k 0 in
    let x1 = get_or l (k + 1) 0 in
    let x2 = get_or l (k + 2) 0 in
    let x3 = get_or l (k + 3) 0 in
    let h : even % 65_536 + x0 < 65_536 = omega (arith, p.0, bytes k) in
    let g : odd % 65_536 + x1 < 65_536 = omega (arith, q.0, bytes (k + 1)) in
    let counted : (n - 1 - i) * t ≤ 128_520 = mul-le-mul {n₂ = 126} {m₂ = 1020} (omega arith) r.3 in
    let one : n - i - 1 ≡ n - (i + 1) = omega arith in
    let two : n - 1 - i ≡ n - (i + 1) = omega arith in
    let next : 4 * i + 4 ≡ 4 * (i + 1) = omega arith in (
      (pair_grows even y x0 x2 i r.0 (bytes k) (bytes (k + 2)) (omega arith) p).1,
      (pair_grows odd z x1 x3 i r.1 (bytes (k + 1)) (bytes (k + 3)) (omega arith) q).1,
      omega arith,
      fours-turn l (n - i) k even odd w r.0 r.1 r.2 h g (omega arith) ∙ cc (one, two, next),
    )
