-- Where a tail stands: the numbers of Store's tests, on bytes that are some blocks, loose content blocks, at most one block of junk, and zeros.
-- Assumes nothing.
use Prim.Native.Nat.{◌*◌, ◌+◌, ◌-◌, ◌<◌, ◌≤◌, suc, zero, ℕ}
use mathlib.Core.Bool.{Bool, ◌&&◌, ◌||◌, cond, false, not, true}
use mathlib.Core.List.{List, [], ◌++◌, ◌∷◌, append_assoc, map}
use mathlib.Core.Logic.{inl, inr}
use mathlib.Core.Path.{◌∙◌, ◌≡◌, ap, ap₂, refl, subst, sym}
use native.Mathlib.Omega.{arith}
use borrow.Author.Tests.{lt-leb, ne_eqb}
use lib.Dec.{T, eqb, leb}
use lib.ListN.{drop, get_or, length, length-drop, replicate, take, take-append-drop}
use lib.Seq.{drop-append-add, drop_at, length-take-le, take_at}
use Rattle.block.proofs.Says.{eq_or, is_true}
use Rattle.block.specs.Buffer.{block_at}
use Rattle.block.specs.Check.{checks_of, is_zero, sealed}
use Rattle.block.specs.Lists.{All, all}
use Rattle.model.specs.Blocks.{Block, FitsBlock, blank, commit, content, fields_of, fits_block, label, mark, parse}
use Rattle.model.specs.Codec.{encode, joined, padded, parts}
use Rattle.model.specs.History.{Bytes}
use Rattle.model.specs.Log.{released}
use Rattle.model.specs.Pass.{is_blank}
use Rattle.model.specs.Store.{blocks_of, filled_in, on_stem, stem, whole_by, whole_in}
use Rattle.model.specs.Tail.{Junk}
use Rattle.laws.proofs.All.{All-get_or}
use Rattle.laws.proofs.BlockCodes.{block_coded}
use Rattle.laws.proofs.Codec.{length-encode, so_parts, so_passes}
use Rattle.laws.proofs.WorkCopy.{length-joined}

-- ---- the last block that isn't all zero

pub filled_is : (n m : ℕ) (l : List ℕ) → m ≤ n → ((p : ℕ) → m ≤ p → p < n → is_zero (block_at l p) ≡ true) → (1 ≤ m → is_zero (block_at l (m - 1)) ≡ false) → filled_in n l ≡ m
unfolding filled_in
filled_is zero m l h z e = omega arith
filled_is (suc n) m l h z e =
    elim (eq_or m (suc n)) [
      | inl q ↦
          let w : m - 1 ≡ n = omega arith in
          let f : is_zero (block_at l n) ≡ false = subst (λ (k : ℕ). is_zero (block_at l k) ≡ false) w (e (omega arith)) in
          ap (λ (t : Bool). cond t (filled_in n l) (suc n)) f ∙ sym q
      | inr o ↦
          let t : is_zero (block_at l n) ≡ true = z n (omega arith) (omega arith) in
          ap (λ (t : Bool). cond t (filled_in n l) (suc n)) t ∙ filled_is n m l (omega arith) (λ p g k. z p g (omega arith)) e
    ]

-- a block's bytes are all zero exactly where it is blank
pub zero-block : (b : Block) → is_zero (encode fields_of b) ≡ is_blank b
unfolding encode padded checks_of
zero-block label = refl
zero-block (content r x) = refl
zero-block (commit r s t ls) = refl
zero-block (mark (released r s t)) = refl
zero-block blank = refl

pub zeros-block : encode fields_of blank ≡ replicate 512 0
unfolding encode padded checks_of
zeros-block = refl

zero-sealed : sealed (replicate 512 0) ≡ true
unfolding sealed checks_of
zero-sealed = refl

-- all zero, so as many zeros as there are
pub all-zeros : (l : List ℕ) → is_zero l ≡ true → l ≡ replicate (length l) 0
all-zeros [] e = refl
all-zeros (zero ∷ l) e = ap (λ (x : List ℕ). 0 ∷ x) (all-zeros l e)
all-zeros (suc x ∷ l) e =
    let f : eqb (suc x) 0 ≡ false = ne_eqb (suc x) 0 (λ q. omega arith) in
    let g : false ≡ true = ap (λ (t : Bool). t && is_zero l) (sym f) ∙ e in
    let z : ◌≡◌ {A = ℕ} 0 1 = cc in
    absurd (omega arith)

zeros-zero : (n : ℕ) → is_zero (replicate n 0) ≡ true
zeros-zero zero = refl
zeros-zero (suc n) = zeros-zero n

-- junk is not all zero: the check of a zero block is right
pub junk-there : (b : Bytes) → Junk b → is_zero b ≡ false
junk-there b J = go (is_zero b) refl
  where
    go : (t : Bool) → is_zero b ≡ t → t ≡ false
    go true e =
        let q : b ≡ replicate 512 0 = all-zeros b e ∙ ap (λ (n : ℕ). replicate n 0) J.size in
        let s : sealed b ≡ true = ap sealed q ∙ zero-sealed in
        sym s ∙ J.wrong
    go false e = refl

-- ---- blocks at the start of some bytes

pub parts-front : (m : ℕ) (a x : List ℕ) → length a ≡ m * 512 → parts m (a ++ x) ≡ parts m a
parts-front zero a x e = refl
parts-front (suc m) a x e =
    let t : a ++ x ≡ take 512 a ++ (drop 512 a ++ x) = ap (λ (y : List ℕ). y ++ x) (sym (take-append-drop 512 a)) ∙ append_assoc (take 512 a) (drop 512 a) x in
    let n : length (take 512 a) ≡ 512 = length-take-le 512 a (omega arith) in
    ap₂ (λ (y z : List ℕ). y ∷ parts m z) (ap (take 512) t ∙ take_at (take 512 a) (drop 512 a ++ x) 512 n) (ap (drop 512) t ∙ drop_at (take 512 a) (drop 512 a ++ x) 512 n)
    ∙ ap (λ (z : List (List ℕ)). take 512 a ∷ z) (parts-front m (drop 512 a) x (simp length-drop (omega arith)))

-- the same of the bytes of blocks
pub parts_prefix : (bs : List Block) (rest : List ℕ) → parts (length bs) (joined fields_of bs ++ rest) ≡ parts (length bs) (joined fields_of bs)
parts_prefix bs rest = parts-front (length bs) (joined fields_of bs) rest (length-joined fields_of bs)

pub blocks_prefix : (bs : List Block) (rest : List ℕ) → All FitsBlock bs → blocks_of (length bs) (joined fields_of bs ++ rest) ≡ bs
unfolding blocks_of
blocks_prefix bs rest a = ap (map parse) (parts_prefix bs rest) ∙ (so_parts fields_of parse fits_block FitsBlock block_coded bs a).2

-- block p of what follows n blocks
pub block-after : (a x : List ℕ) (n p : ℕ) → length a ≡ n * 512 → block_at (a ++ x) (n + p) ≡ block_at x p
block-after a x n p e =
    let w : 512 * (n + p) ≡ length a + 512 * p = omega arith in
    ap (λ (k : ℕ). take 512 (drop k (a ++ x))) w ∙ ap (take 512) (drop-append-add a x (512 * p))

pub block-before : (bs : List Block) (rest : List ℕ) (p : ℕ) → p < length bs → block_at (joined fields_of bs ++ rest) p ≡ encode fields_of (get_or bs p blank)
block-before [] rest p h = absurd (omega arith)
block-before (b ∷ bs) rest zero h =
    ap (take 512) (append_assoc (encode fields_of b) (joined fields_of bs) rest) ∙ take_at (encode fields_of b) (joined fields_of bs ++ rest) 512 (length-encode fields_of b)
block-before (b ∷ bs) rest (suc p) h =
    let n : length (encode fields_of b) ≡ 1 * 512 = length-encode fields_of b in
    let s : suc p ≡ 1 + p = omega arith in
    ap (λ (k : ℕ). block_at ((encode fields_of b ++ joined fields_of bs) ++ rest) k) s
    ∙ ap (λ (l : List ℕ). block_at l (1 + p)) (append_assoc (encode fields_of b) (joined fields_of bs) rest)
    ∙ block-after (encode fields_of b) (joined fields_of bs ++ rest) 1 p n ∙ block-before bs rest p (omega arith)

take-zeros : (k n : ℕ) → k ≤ n → take {A = ℕ} k (replicate n 0) ≡ replicate k 0
take-zeros zero n h = refl
take-zeros (suc k) zero h = absurd (omega arith)
take-zeros (suc k) (suc n) h = ap (λ (x : List ℕ). 0 ∷ x) (take-zeros k n (omega arith))

drop-zeros : (k n : ℕ) → k ≤ n → drop {A = ℕ} k (replicate n 0) ≡ replicate (n - k) 0
drop-zeros zero n h = let e : n - 0 ≡ n = omega arith in ap (λ (m : ℕ). replicate m 0) (sym e)
drop-zeros (suc k) zero h = absurd (omega arith)
drop-zeros (suc k) (suc n) h = let e : suc n - suc k ≡ n - k = omega arith in drop-zeros k n (omega arith) ∙ ap (λ (m : ℕ). replicate m 0) (sym e)

pub zero_at : (z p : ℕ) → p < z → is_zero (block_at (replicate (512 * z) 0) p) ≡ true
zero_at z p h =
    ap (λ (x : List ℕ). is_zero (take 512 x)) (drop-zeros (512 * p) (512 * z) (omega arith))
    ∙ ap is_zero (take-zeros 512 (512 * z - 512 * p) (omega arith)) ∙ zeros-zero 512

-- ---- the blocks before the loose ones

stem-contents : (r : ℕ) (cs : List Bytes) → stem (map (content r) cs) ≡ []
stem-contents r [] = refl
stem-contents r (c ∷ cs) = ap (on_stem (content r c)) (stem-contents r cs)

pub stem-append : (fr : List Block) (r : ℕ) (cs : List Bytes) → stem (fr ++ map (content r) cs) ≡ stem fr
stem-append [] r cs = stem-contents r cs
stem-append (b ∷ fr) r cs = ap (on_stem b) (stem-append fr r cs)

-- ---- THE PIECES: used blocks, loose content blocks, junk, zeros

-- the last of some blocks, none of them blank
last-there : (w : List Block) (rest : List ℕ) → T (all (λ b. not (is_blank b)) w) → 1 ≤ length w → is_zero (block_at (joined fields_of w ++ rest) (length w - 1)) ≡ false
last-there w rest nb h =
    ap is_zero (block-before w rest (length w - 1) (omega arith)) ∙ zero-block (get_or w (length w - 1) blank) ∙ each w (length w - 1) nb (omega arith)
  where
    each : (w : List Block) (p : ℕ) → T (all (λ b. not (is_blank b)) w) → p < length w → is_blank (get_or w p blank) ≡ false
    each [] p nb h = absurd (omega arith)
    each (label ∷ w) zero nb h = refl
    each (content r b ∷ w) zero nb h = refl
    each (commit r s t ls ∷ w) zero nb h = refl
    each (mark m ∷ w) zero nb h = refl
    each (blank ∷ w) zero nb h = absurd nb
    each (label ∷ w) (suc p) nb h = each w p nb (omega arith)
    each (content r b ∷ w) (suc p) nb h = each w p nb (omega arith)
    each (commit r s t ls ∷ w) (suc p) nb h = each w p nb (omega arith)
    each (mark m ∷ w) (suc p) nb h = each w p nb (omega arith)
    each (blank ∷ w) (suc p) nb h = absurd nb

pub seals : (b : Block) → FitsBlock b → sealed (encode fields_of b) ≡ true
seals b f = is_true (sealed (encode fields_of b)) (so_passes fields_of parse fits_block FitsBlock block_coded (encode fields_of b) b f refl).0

-- w are the whole blocks; either nothing follows but zeros, or junk
module _ (w : List Block) (z : ℕ) (nb : T (all (λ b. not (is_blank b)) w)) (some : 1 ≤ length w) (fit : All FitsBlock w) where
  abbrev bare_rest : List ℕ
  bare_rest = replicate (512 * z) 0

  size : length (joined fields_of w) ≡ length w * 512
  size = length-joined fields_of w

  pub filled-bare : filled_in (length w + z) (joined fields_of w ++ bare_rest) ≡ length w
  filled-bare =
      filled_is (length w + z) (length w) (joined fields_of w ++ bare_rest) (omega arith)
      (λ p g k. let e : length w + (p - length w) ≡ p = omega arith in
      subst (λ (q : ℕ). is_zero (block_at (joined fields_of w ++ bare_rest) q) ≡ true) e
      (ap is_zero (block-after (joined fields_of w) bare_rest (length w) (p - length w) size) ∙ zero_at z (p - length w) (omega arith)))
      (λ h. last-there w bare_rest nb some)

  last-sealed : sealed (block_at (joined fields_of w ++ bare_rest) (length w - 1)) ≡ true
  last-sealed =
      ap sealed (block-before w bare_rest (length w - 1) (omega arith)) ∙ seals (get_or w (length w - 1) blank) (All-get_or FitsBlock w (length w - 1) blank fit tt)

  or_yes : (a b : Bool) → b ≡ true → (a || b) ≡ true
  or_yes true b e = refl
  or_yes false b e = e

  pub whole-bare : whole_in (length w + z) (joined fields_of w ++ bare_rest) ≡ length w
  unfolding whole_in
  whole-bare =
      ap (λ (f : ℕ). whole_by f (joined fields_of w ++ bare_rest)) filled-bare
      ∙ ap (λ (t : Bool). cond t (length w) (length w - 1)) (or_yes (leb (length w) 1) _ last-sealed)

  module _ (j : Bytes) (J : Junk j) where
    abbrev l : List ℕ
    l = joined fields_of w ++ (j ++ bare_rest)

    junk_at : block_at l (length w + 0) ≡ j
    junk_at = block-after (joined fields_of w) (j ++ bare_rest) (length w) 0 size ∙ take_at j bare_rest 512 J.size

    pub filled-junk : filled_in (length w + suc z) l ≡ suc (length w)
    filled-junk =
        filled_is (length w + suc z) (suc (length w)) l (omega arith)
        (λ p g k. let e : length w + (1 + (p - length w - 1)) ≡ p = omega arith in
        let o : length j ≡ 1 * 512 = J.size in
        subst (λ (q : ℕ). is_zero (block_at l q) ≡ true) e
        (ap is_zero (block-after (joined fields_of w) (j ++ bare_rest) (length w) (1 + (p - length w - 1)) size ∙ block-after j bare_rest 1 (p - length w - 1) o) ∙ zero_at z (p - length w - 1) (omega arith)))
        (λ h. let e : length w + 0 ≡ suc (length w) - 1 = omega arith in
        subst (λ (q : ℕ). is_zero (block_at l q) ≡ false) e (ap is_zero junk_at ∙ junk-there j J))

    pub whole-junk : whole_in (length w + suc z) l ≡ length w
    unfolding whole_in
    whole-junk =
        let e : length w + 0 ≡ suc (length w) - 1 = omega arith in
        let s : sealed (block_at l (suc (length w) - 1)) ≡ false = subst (λ (q : ℕ). sealed (block_at l q) ≡ false) e (ap sealed junk_at ∙ J.wrong) in
        let f : leb (suc (length w)) 1 ≡ false = lt-leb (suc (length w)) 1 (omega arith) in
        ap (λ (f : ℕ). whole_by f l) filled-junk
        ∙ ap₂ (λ (a b : Bool). cond (a || b) (suc (length w)) (suc (length w) - 1)) f s ∙ omega arith
