-- And back: a store that passes the tests is one with a tail, of what is read.
-- Assumes nothing.
use Prim.Native.Nat.{◌*◌, ◌+◌, ◌-◌, ◌<◌, ◌≤◌, suc, zero, ℕ}
use mathlib.Core.Bool.{Bool, ◌&&◌, ◌||◌, and_assoc, and-true as and_right, cond, false, true}
use mathlib.Core.List.{List, [], ◌++◌, ◌∷◌, append_assoc, append-nil, map}
use mathlib.Core.Logic.{◌⊎◌, inl, inr}
use mathlib.Core.Path.{◌∙◌, ◌≡◌, ap, ap₂, refl, subst, subst₂, sym}
use native.Mathlib.Omega.{arith}
use borrow.Author.Tests.{leb-false, leb-true, lt-leb}
use lib.Dec.{T, eqb, eqb→eq, leb}
use lib.ListN.{drop, drop_of_length-le, length, length-append, length-drop, length-map, length-replicate, replicate, replicate-append-replicate, take, take-append-drop}
use lib.Seq.{drop-drop, length-take-le, take_at}
use Rattle.block.proofs.Says.{and_true, eq_or, is_true}
use Rattle.block.proofs.Writing.{written_at}
use Rattle.block.specs.Buffer.{block_at}
use Rattle.block.specs.Check.{is_zero, sealed}
use Rattle.block.specs.Lists.{All, all}
use Rattle.block.specs.Write.{written}
use Rattle.model.specs.Blocks.{Block, FitsBlock, blank, commit, content, fields_of, fits_block, held, label, mark, parse}
use Rattle.model.specs.Codec.{joined, parts, shaped}
use Rattle.model.specs.History.{Bytes, History, last}
use Rattle.model.specs.Store.{bare_in, blank_from, blocks_of, carries, checked, checked_but, counted_by, filled_in, front, history_of, lawful, lawful_but, on_stem, stem, stem_in, tail_by, whole_by, whole_in}
use Rattle.model.specs.Tail.{Junk, Stored, Tailed, flat, tail_bytes}
use Rattle.laws.proofs.All.{all_append, all_left, all_right}
use Rattle.laws.proofs.BlockCodes.{block_coded}
use Rattle.laws.proofs.Codec.{length-parts, parts_so, so_parts}
use Rattle.laws.proofs.Holding.{accepted-holds}
use Rattle.laws.proofs.Parts.{joined-append}
use Rattle.laws.proofs.Tailing.{flat-size, joined-blank}
use Rattle.laws.proofs.Tails.{all-zeros, blocks_prefix, parts-front, parts_prefix}
use Rattle.laws.proofs.WorkCopy.{length-joined}
use Rattle.laws.proofs.Writing.{blocks-back}

-- ---- the last block that isn't all zero

pub filled-low : (n : ℕ) (l : List ℕ) → filled_in n l ≤ n
unfolding filled_in
filled-low zero l = omega arith
filled-low (suc n) l = go (is_zero (block_at l n)) (filled-low n l)
  where
    go : (t : Bool) → filled_in n l ≤ n → cond t (filled_in n l) (suc n) ≤ suc n
    go true h = omega arith
    go false h = omega arith

pub filled_zero : (n : ℕ) (l : List ℕ) (p : ℕ) → filled_in n l ≤ p → p < n → is_zero (block_at l p) ≡ true
unfolding filled_in
filled_zero zero l p h g = absurd (omega arith)
filled_zero (suc n) l p h g = go (is_zero (block_at l n)) refl h (λ k m. filled_zero n l p k m)
  where
    go : (t : Bool) → is_zero (block_at l n) ≡ t → cond t (filled_in n l) (suc n) ≤ p → (filled_in n l ≤ p → p < n → is_zero (block_at l p) ≡ true) → is_zero (block_at l p) ≡ true
    go true e k ih =
        elim (eq_or p n) [
          | inl q ↦ ap (λ (x : ℕ). is_zero (block_at l x)) q ∙ e
          | inr o ↦ ih k (omega arith)
        ]
    go false e k ih = absurd (omega arith)

-- blocks that are all zero up to the end are zeros
drop-zero : (d f n : ℕ) (l : List ℕ) → length l ≡ n * 512 → f + d ≡ n → ((p : ℕ) → f ≤ p → p < n → is_zero (block_at l p) ≡ true) → drop (512 * f) l ≡ replicate (512 * d) 0
drop-zero zero f n l e s z = drop_of_length-le l {i = 512 * f} (omega arith)
drop-zero (suc d) f n l e s z =
    let size : length (block_at l f) ≡ 512 = length-take-le 512 (drop (512 * f) l) (simp length-drop (omega arith)) in
    let b : block_at l f ≡ replicate 512 0 = all-zeros (block_at l f) (z f (omega arith) (omega arith)) ∙ ap (λ (k : ℕ). replicate {A = ℕ} k 0) size in
    let k : 512 * f + 512 ≡ 512 * suc f = omega arith in
    let t : drop 512 (drop (512 * f) l) ≡ replicate (512 * d) 0 =
    drop-drop 512 (512 * f) l ∙ ap (λ (x : ℕ). drop x l) k ∙ drop-zero d (suc f) n l e (omega arith) (λ p g q. z p (omega arith) q) in
    let c : 512 + 512 * d ≡ 512 * suc d = omega arith in
    sym (take-append-drop 512 (drop (512 * f) l)) ∙ ap₂ (λ (x y : List ℕ). x ++ y) b t ∙ replicate-append-replicate 512 (512 * d) 0 ∙ ap (λ (x : ℕ). replicate {A = ℕ} x 0) c

-- ---- the stem

pub stem_split : (w : List Block) → stem w ++ drop (length (stem w)) w ≡ w
stem_split [] = refl
stem_split (b ∷ w) = go b (stem w) (stem_split w)
  where
    go : (b : Block) (s : List Block) → s ++ drop (length s) w ≡ w → on_stem b s ++ drop (length (on_stem b s)) (b ∷ w) ≡ b ∷ w
    go label [] e = refl
    go (content r x) [] e = refl
    go (commit r s t ls) [] e = refl
    go (mark m) [] e = refl
    go blank [] e = refl
    go b (c ∷ cs) e = ap (λ (x : List Block). b ∷ x) e

held_back : (r : ℕ) (xs : List Block) → T (all (carries r) xs) → map (content r) (map held xs) ≡ xs
held_back r [] t = refl
held_back r (label ∷ xs) t = absurd t
held_back r (content q b ∷ xs) t =
    let p = and_true (eqb q r) (all (carries r) xs) t in
    ap₂ (λ (k : ℕ) (ys : List Block). content k b ∷ ys) (sym (eqb→eq q r p.0)) (held_back r xs p.1)
held_back r (commit q s u ls ∷ xs) t = absurd t
held_back r (mark m ∷ xs) t = absurd t
held_back r (blank ∷ xs) t = absurd t

-- ---- the whole blocks

parts-take : (m : ℕ) (l : List ℕ) → m * 512 ≤ length l → parts m (take (512 * m) l) ≡ parts m l
parts-take m l h =
    sym (parts-front m (take (512 * m) l) (drop (512 * m) l) (omega (arith, length-take-le (512 * m) l (omega arith)))) ∙ ap (parts m) (take-append-drop (512 * m) l)

parts_last : (g : List ℕ → Bool) (k : ℕ) (l : List ℕ) → all g (parts (suc k) l) ≡ (all g (parts k l) && g (block_at l k))
parts_last g zero l = and_right (g (take 512 l))
parts_last g (suc k) l =
    let c : 512 + 512 * k ≡ 512 * suc k = omega arith in
    let d : block_at (drop 512 l) k ≡ block_at l (suc k) = ap (take 512) (drop-drop (512 * k) 512 l ∙ ap (λ (x : ℕ). drop x l) c) in
    ap (λ (t : Bool). g (take 512 l) && t) (parts_last g k (drop 512 l) ∙ ap (λ (b : List ℕ). all g (parts k (drop 512 l)) && g b) d)
    ∙ sym (and_assoc (g (take 512 l)) (all g (parts k (drop 512 l))) (g (block_at l (suc k))))

-- ---- THE STATEMENT, the other way

pub fits-held : (r : ℕ) (cs : List Bytes) → All FitsBlock (map (content r) cs) → All (λ (c : Bytes). FitsBlock (content r c)) cs
fits-held r [] a = tt
fits-held r (c ∷ cs) a = (a.0, fits-held r cs a.1)

fits-blanks : (z : ℕ) → All FitsBlock (replicate z blank)
fits-blanks zero = tt
fits-blanks (suc z) = (tt, fits-blanks z)

pub all-blanks : (z : ℕ) → All (λ (b : Block). b ≡ blank) (replicate z blank)
all-blanks zero = tt
all-blanks (suc z) = (refl, all-blanks z)

-- what `whole_by` leaves: all of the f blocks, or all but the last, whose check is wrong
abbrev Whole : ℕ → List ℕ → ℕ → Type 0
Whole f l m = ((m ≡ f) × ((f ≤ 1) ⊎ (sealed (block_at l (f - 1)) ≡ true))) ⊎ ((suc m ≡ f) × ((1 ≤ m) × (sealed (block_at l m) ≡ false)))

whole_so : (f : ℕ) (l : List ℕ) → Whole f l (whole_by f l)
whole_so f l = go (leb f 1) refl (sealed (block_at l (f - 1))) refl
  where
    go : (a : Bool) → leb f 1 ≡ a → (b : Bool) → sealed (block_at l (f - 1)) ≡ b → Whole f l (cond (a || b) f (f - 1))
    go true p b q = inl (refl, inl (leb-true f 1 p))
    go false p true q = inl (refl, inr q)
    go false p false q = let w = leb-false f 1 p in inr (omega arith, (omega arith, q))

is_so : {b : Bool} → b ≡ true → T b
is_so {b} q = subst T (sym q) tt

-- so the checks of the whole blocks are right
sealed-whole : (f m : ℕ) (l : List ℕ) → checked (counted_by f) l ≡ true → Whole f l m → T (all sealed (parts m l))
unfolding checked
sealed-whole f m l c (inr w) =
    let g : leb f 1 ≡ false = lt-leb f 1 (omega (arith, w.0, w.1.0)) in
    let e : counted_by f ≡ m = ap (λ (b : Bool). cond b f (f - 1)) g ∙ omega (arith, w.0) in
    is_so (ap (λ (k : ℕ). all sealed (parts k l)) (sym e) ∙ c)
sealed-whole f m l c (inl w) = go (leb f 1) refl
  where
    go : (b : Bool) → leb f 1 ≡ b → T (all sealed (parts m l))
    go true g =
        let e : counted_by f ≡ m = ap (λ (b : Bool). cond b f (f - 1)) g ∙ sym w.0 in
        is_so (ap (λ (k : ℕ). all sealed (parts k l)) (sym e) ∙ c)
    go false g =
        let e : counted_by f ≡ f - 1 = ap (λ (b : Bool). cond b f (f - 1)) g in
        let n : suc (f - 1) ≡ m = omega (arith, leb-false f 1 g, w.0) in
        let s : sealed (block_at l (f - 1)) ≡ true = elim w.1 [ inl x ↦ absurd (omega (arith, leb-false f 1 g)) | inr x ↦ x ] in
        is_so (ap (λ (k : ℕ). all sealed (parts k l)) (sym n) ∙ parts_last sealed (f - 1) l ∙ ap₂ (λ (x y : Bool). x && y) (ap (λ (k : ℕ). all sealed (parts k l)) (sym e) ∙ c) s)

-- the whole blocks have the shapes of what their first bytes say
abbrev pub shaped_in : ℕ → List ℕ → Bool
shaped_in n l = all (shaped fields_of parse fits_block) (parts (whole_in n l) l)

-- the tests for refusal 3, one by one
record Tests (n : ℕ) (l : List ℕ) : Type 0 where
  bare : T (lawful n (bare_in n l))
  before : T (eqb (length (front (blocks_of n (bare_in n l)))) (stem_in n l))
  shapes : T (shaped_in n l)
  next : T (all (carries (suc (last (history_of n (bare_in n l))))) (drop (stem_in n l) (blocks_of (whole_in n l) l)))
  few : T (leb (whole_in n l - stem_in n l) 32)

tests_so : (n : ℕ) (l : List ℕ) → lawful_but n l ≡ true → Tests n l
unfolding lawful_but
tests_so n l L =
    let m = whole_in n l in
    let u = stem_in n l in
    let B = blocks_of n (bare_in n l) in
    let c : Bool = all (carries (suc (last (history_of n (bare_in n l))))) (drop u (blocks_of m l)) in
    let p = and_true (lawful n (bare_in n l)) (tail_by n l m u (bare_in n l)) (is_so L) in
    let q = and_true (eqb (length (front B)) u) (shaped_in n l && (c && leb (m - u) 32)) p.1 in
    let s = and_true (shaped_in n l) (c && leb (m - u) 32) q.1 in
    let t = and_true c (leb (m - u) 32) s.1 in
    record { bare = p.0; before = q.0; shapes = s.0; next = t.0; few = t.1 }

pub shapes_so : (n : ℕ) (l : List ℕ) → lawful_but n l ≡ true → T (shaped_in n l)
shapes_so n l L = (tests_so n l L).shapes

module _ (n : ℕ) (l : List ℕ) (size : length l ≡ n * 512) (C : checked_but n l ≡ true) (S : T (shaped_in n l)) where
  abbrev f : ℕ
  f = filled_in n l

  abbrev m : ℕ
  m = whole_in n l

  abbrev u : ℕ
  u = stem_in n l

  abbrev bare : List ℕ
  bare = bare_in n l

  abbrev h : History
  h = history_of n bare

  abbrev r : ℕ
  r = suc (last h)

  abbrev w : List Block
  w = blocks_of m l

  parted : Whole f l m
  unfolding whole_in
  parted = whole_so f l

  whole-low : m ≤ f
  whole-low = elim parted [ inl x ↦ omega (arith, x.0) | inr x ↦ omega (arith, x.0) ]

  fits_in : m * 512 ≤ length l
  fits_in = omega (arith, whole-low, filled-low n l)

  -- the whole blocks are blocks that fit, and their bytes
  blocks : All FitsBlock w × (joined fields_of w ≡ take (512 * m) l)
  unfolding blocks_of checked_but
  blocks =
      let e = parts-take m l fits_in in
      let s : T (all sealed (parts m (take (512 * m) l))) = subst (λ (x : List (List ℕ)). T (all sealed x)) (sym e) (sealed-whole f m l C parted) in
      let t : T (all (shaped fields_of parse fits_block) (parts m (take (512 * m) l))) = subst (λ (x : List (List ℕ)). T (all (shaped fields_of parse fits_block) x)) (sym e) S in
      let z : length (take (512 * m) l) ≡ m * 512 = length-take-le (512 * m) l (omega (arith, fits_in)) ∙ omega arith in
      subst (λ (x : List (List ℕ)). All FitsBlock (map parse x) × (joined fields_of (map parse x) ≡ take (512 * m) l)) e
      (parts_so fields_of parse fits_block FitsBlock block_coded m (take (512 * m) l) z s t)

  w_size : length w ≡ m
  unfolding blocks_of
  w_size = length-parts fields_of parse fits_block FitsBlock block_coded m l

  split : stem w ++ drop u w ≡ w
  unfolding stem_in
  split = stem_split w

  stem-size : length (stem w) ≡ u
  unfolding stem_in
  stem-size = refl

  sizes : u + length (drop u w) ≡ m
  sizes = omega (arith, sym (length-append (stem w) (drop u w)) ∙ ap length split, stem-size, w_size)

  both-fit : All FitsBlock (stem w ++ drop u w)
  both-fit = subst (All FitsBlock) (sym split) blocks.0

  -- junk, or none; and zeros
  abbrev End : List Bytes → Type 0
  End js = (length js ≤ 1) × All Junk js × (m + length js ≡ f) × (drop (512 * m) l ≡ flat js ++ replicate (512 * (n - f)) 0)

  zeros-after : drop (512 * f) l ≡ replicate (512 * (n - f)) 0
  zeros-after = drop-zero (n - f) f n l size (omega (arith, filled-low n l)) (filled_zero n l)

  end : (js : List Bytes) × End js
  end = elim parted [
    | inl x ↦ ([], (omega arith, tt, omega (arith, x.0), ap (λ (k : ℕ). drop (512 * k) l) x.0 ∙ zeros-after))
    | inr x ↦ (
      block_at l m ∷ [],
      (
        omega arith,
        (record { size = length-take-le 512 (drop (512 * m) l) (simp length-drop (omega (arith, x.0, filled-low n l))); wrong = x.1.1 }, tt),
        omega (arith, x.0),
        (let k : 512 * m + 512 ≡ 512 * f = omega (arith, x.0) in
            sym (take-append-drop 512 (drop (512 * m) l))
            ∙ ap₂ (λ (a b : List ℕ). a ++ b) (sym (append-nil (block_at l m))) (drop-drop 512 (512 * m) l ∙ ap (λ (y : ℕ). drop y l) k ∙ zeros-after)),
      ),
    )
  ]

  abbrev js : List Bytes
  js = end.0

  -- the bytes, piece by piece
  first_is : take (512 * m) l ≡ joined fields_of (stem w) ++ joined fields_of (drop u w)
  first_is = sym blocks.1 ∙ ap (joined fields_of) (sym split) ∙ joined-append fields_of (stem w) (drop u w)

  st_size : length (joined fields_of (stem w)) ≡ 512 * u
  st_size = omega (arith, length-joined fields_of (stem w), stem-size)

  store_is : l ≡ joined fields_of (stem w) ++ (joined fields_of (drop u w) ++ (flat js ++ replicate (512 * (n - f)) 0))
  store_is =
      sym (take-append-drop (512 * m) l) ∙ ap₂ (λ (a b : List ℕ). a ++ b) first_is end.1.3
      ∙ append_assoc (joined fields_of (stem w)) (joined fields_of (drop u w)) (flat js ++ replicate (512 * (n - f)) 0)

  bare_is : bare ≡ joined fields_of (stem w) ++ replicate (512 * (n - u)) 0
  unfolding bare_in blank_from
  bare_is =
      let e : length l - 512 * u ≡ 512 * (n - u) = omega (arith, size) in
      ap₂ (λ (a : List ℕ) (k : ℕ). a ++ replicate {A = ℕ} k 0)
      (ap (take (512 * u)) store_is ∙ take_at (joined fields_of (stem w)) (joined fields_of (drop u w) ++ (flat js ++ replicate (512 * (n - f)) 0)) (512 * u) st_size) e

  room : u ≤ n
  room = omega (arith, sizes, whole-low, filled-low n l)

  -- the store without its tail
  abbrev all_w : List Block
  all_w = stem w ++ replicate (n - u) blank

  bare-blocks : joined fields_of all_w ≡ bare
  bare-blocks =
      joined-append fields_of (stem w) (replicate (n - u) blank)
      ∙ ap (λ (x : List ℕ). joined fields_of (stem w) ++ x) (joined-blank (replicate (n - u) blank) (all-blanks (n - u)) ∙ ap (λ (k : ℕ). replicate {A = ℕ} (512 * k) 0) (length-replicate (n - u) blank))
      ∙ sym bare_is

  all-size : length all_w ≡ n
  all-size = omega (arith, length-append (stem w) (replicate (n - u) blank), length-replicate (n - u) blank, stem-size, room)

  bare-fits : All FitsBlock all_w
  bare-fits = all_append FitsBlock (stem w) (replicate (n - u) blank) (all_left FitsBlock (stem w) (drop u w) both-fit) (fits-blanks (n - u))

  bare_parts : T (all sealed (parts n bare)) × T (all (shaped fields_of parse fits_block) (parts n bare))
  bare_parts =
      let p = so_parts fields_of parse fits_block FitsBlock block_coded all_w bare-fits in
      subst₂ (λ (k : ℕ) (x : List ℕ). T (all sealed (parts k x)) × T (all (shaped fields_of parse fits_block) (parts k x))) all-size bare-blocks (p.0, p.1)

  bare-sealed : T (checked n bare)
  unfolding checked
  bare-sealed = bare_parts.0

  pub bare-shaped : T (all (shaped fields_of parse fits_block) (parts n (bare_in n l)))
  bare-shaped = bare_parts.1

  -- the blocks that are read: those before the tail, and blank ones
  pub bare-stem : blocks_of n (bare_in n l) ≡ stem (blocks_of (whole_in n l) l) ++ replicate (n - stem_in n l) blank
  bare-stem = ap (blocks_of n) (sym bare-blocks) ∙ blocks-back n all_w all-size bare-fits

  -- the first are the store's own, and have their shapes
  pub front-shaped : T (all (shaped fields_of parse fits_block) (parts (stem_in n l) l))
  front-shaped =
      let a = all_left FitsBlock (stem w) (drop u w) both-fit in
      let rest = joined fields_of (drop u w) ++ (flat js ++ replicate (512 * (n - f)) 0) in
      let e : parts u l ≡ parts (length (stem w)) (joined fields_of (stem w)) = ap₂ parts (sym stem-size) store_is ∙ parts_prefix (stem w) rest in
      subst (λ (x : List (List ℕ)). T (all (shaped fields_of parse fits_block) x)) (sym e) (so_parts fields_of parse fits_block FitsBlock block_coded (stem w) a).1

  pub blocks_split : blocks_of n bare ≡ blocks_of u l ++ replicate (n - u) blank
  blocks_split =
      let a = all_left FitsBlock (stem w) (drop u w) both-fit in
      let rest = joined fields_of (drop u w) ++ (flat js ++ replicate (512 * (n - f)) 0) in
      bare-stem ∙ ap (λ (x : List Block). x ++ replicate (n - u) blank) (sym (ap₂ blocks_of (sym stem-size) store_is ∙ blocks_prefix (stem w) rest a))

  bare-size : length bare ≡ n * 512
  bare-size = ap length (sym bare-blocks) ∙ length-joined fields_of all_w ∙ ap (λ (k : ℕ). k * 512) all-size

  module _ (L : lawful_but n l ≡ true) where
    tests : Tests n l
    tests = tests_so n l L

    abbrev cs : List Bytes
    cs = map held (drop u w)

    loose_is : map (content r) cs ≡ drop u w
    loose_is = held_back r (drop u w) tests.next

    cs_size : u + length cs ≡ m
    cs_size = omega (arith, length-map (drop u w) held, sizes)

    pub stored-bare : Stored n bare h u
    stored-bare = record { holds = accepted-holds n bare bare-size bare-sealed tests.bare; uses = eqb→eq (length (front (blocks_of n bare))) u tests.before }

    pub accepted_tailed : Tailed n l h u (f - u)
    accepted_tailed =
        let zs : List ℕ = replicate (512 * (n - f)) 0 in
        let t : ℕ = f - u in
        let s : length cs + length js ≡ t = omega (arith, cs_size, end.1.2) in
        let d : joined fields_of (drop u w) ≡ joined fields_of (map (content r) cs) = ap (joined fields_of) (sym loose_is) in
        let k : 512 * (n - u) ≡ 512 * t + 512 * (n - f) = omega (arith, cs_size, end.1.2, filled-low n l) in
        let z : length (tail_bytes r cs js) ≡ 512 * t =
        omega (arith, length-append (joined fields_of (map (content r) cs)) (flat js), length-joined fields_of (map (content r) cs), length-map cs (content r), flat-size js end.1.1, s) in
        record {
          bare = bare;
          stored = stored-bare;
          contents = cs;
          junk = js;
          tail = record {
            few = omega (arith, leb-true (m - u) 32 (is_true (leb (m - u) 32) tests.few), cs_size);
            fits = fits-held r cs (subst (All FitsBlock) (sym loose_is) (all_right FitsBlock (stem w) (drop u w) both-fit));
            one = end.1.0;
            junk = end.1.1;
          };
          size = s;
          room = omega (arith, cs_size, end.1.2, filled-low n l);
          bytes =
              store_is ∙ ap (λ (x : List ℕ). joined fields_of (stem w) ++ x) (ap (λ (x : List ℕ). x ++ (flat js ++ zs)) d ∙ sym (append_assoc (joined fields_of (map (content r) cs)) (flat js) zs))
              ∙ sym (written_at (512 * u) (joined fields_of (stem w)) (replicate (512 * t) 0) (tail_bytes r cs js) zs st_size (length-replicate {A = ℕ} (512 * t) 0 ∙ sym z))
              ∙ ap (written (512 * u) (tail_bytes r cs js)) (ap (λ (x : List ℕ). joined fields_of (stem w) ++ x) (replicate-append-replicate (512 * t) (512 * (n - f)) 0 ∙ ap (λ (x : ℕ). replicate {A = ℕ} x 0) (sym k)) ∙ sym bare_is);
        }
