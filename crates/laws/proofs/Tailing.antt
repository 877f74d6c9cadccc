-- A store with a tail passes the tests, and what is read is what it was made of.
-- Assumes nothing.
use Prim.Native.Nat.{◌*◌, ◌+◌, ◌-◌, ◌<◌, ◌≤◌, suc, zero, ℕ}
use mathlib.Core.Bool.{Bool, ◌&&◌, cond, false, not, true}
use mathlib.Core.List.{List, [], ◌++◌, ◌∷◌, append_assoc, append-nil, map}
use mathlib.Core.Path.{◌∙◌, ◌≡◌, ap, ap₂, refl, subst, sym}
use native.Mathlib.Omega.{arith}
use borrow.Author.Tests.{eq-eqb, le-leb, leb-false, leb-true}
use lib.Dec.{T, eqb, eqb→eq, leb}
use lib.ListN.{drop, length, length-append, length-map, length-replicate, replicate, replicate-append-replicate, take}
use lib.Seq.{drop_at, take_at}
use Rattle.block.proofs.Says.{and_true, is_true, true_and}
use Rattle.block.proofs.Writing.{written_at, length-written}
use Rattle.block.specs.Check.{sealed}
use Rattle.block.specs.Lists.{All, all}
use Rattle.block.specs.Write.{written}
use Rattle.model.specs.Blocks.{Block, FitsBlock, blank, bytes_at, commit, content, fields_of, fits_block, label, mark, parse}
use Rattle.model.specs.Codec.{encode, joined, parts, shaped}
use Rattle.model.specs.History.{Bytes, History, last}
use Rattle.model.specs.Layout.{Table}
use Rattle.model.specs.Pass.{grown, is_blank, laid, ok, ok_from, stands}
use Rattle.model.specs.Store.{bare_in, blank_from, blanks, blocks_of, carries, checked, checked_but, counted_by, filled_in, front, history_of, lawful, lawful_but, lawful_by, on_stem, stem, stem_in, whole_in}
use Rattle.model.specs.Tail.{Junk, Tailed, flat, tail_bytes}
use Rattle.model.specs.Log.{Mark}
use Rattle.laws.proofs.Acceptance.{lays_accepted}
use Rattle.laws.proofs.All.{all_append, all_left}
use Rattle.laws.proofs.BlockCodes.{block_coded}
use Rattle.laws.proofs.Codec.{length-encode, so_parts}
use Rattle.laws.proofs.Holding.{holds-accepted}
use Rattle.laws.proofs.Parts.{joined-append}
use Rattle.laws.proofs.Tails.{blocks_prefix, filled-bare, filled-junk, parts_prefix, seals, stem-append, whole-bare, whole-junk, zeros-block}
use Rattle.laws.proofs.WorkCopy.{length-joined}
use Rattle.laws.proofs.Writing.{Blocks, blank-rest, front-blanks, holds-blocks, no_blank, some-used}

-- ---- the used blocks end in no content block

no_more : (look : ℕ → List ℕ) (at k : ℕ) (tables : List Table) (bl : List Block) → All (λ (b : Block). b ≡ blank) bl → T (ok_from look at k tables bl) → k ≡ 0
unfolding ok_from
no_more look at k tables [] a t = eqb→eq k 0 t
no_more look at k tables (b ∷ bl) a t =
    let u : T (ok_from look at k tables (blank ∷ bl)) = subst (λ (x : Block). T (ok_from look at k tables (x ∷ bl))) a.0 t in
    eqb→eq k 0 (and_true (eqb k 0) (all is_blank bl) u).0

on_content : (r : ℕ) (b : List ℕ) (fr : List Block) → 1 ≤ length fr → on_stem (content r b) fr ≡ content r b ∷ fr
on_content r b [] h = absurd (omega arith)
on_content r b (c ∷ cs) h = refl

on_commit : (r s t : ℕ) (ls : _) (fr : List Block) → on_stem (commit r s t ls) fr ≡ commit r s t ls ∷ fr
on_commit r s t ls [] = refl
on_commit r s t ls (c ∷ cs) = refl

on_mark : (m : Mark) (fr : List Block) → on_stem (mark m) fr ≡ mark m ∷ fr
on_mark m [] = refl
on_mark m (c ∷ cs) = refl

pub on_label : (fr : List Block) → on_stem label fr ≡ label ∷ fr
on_label [] = refl
on_label (c ∷ cs) = refl

stem-front : (look : ℕ → List ℕ) (at k : ℕ) (tables : List Table) (fr bl : List Block) → All (λ (b : Block). b ≡ blank) bl → T (all (λ b. not (is_blank b)) fr)
    → T (ok_from look at k tables (fr ++ bl)) → (stem fr ≡ fr) × (1 ≤ k → 1 ≤ length fr)
unfolding ok_from
stem-front look at k tables [] bl a nb t = (refl, λ h. absurd (omega (arith, no_more look at k tables bl a t)))
stem-front look at k tables (label ∷ fr) bl a nb t = absurd t
stem-front look at k tables (content r b ∷ fr) bl a nb t =
    let i = stem-front look at (suc k) tables fr bl a nb (and_true (eqb r (length tables)) (ok_from look at (suc k) tables (fr ++ bl)) t).1 in
    (ap (on_stem (content r b)) i.0 ∙ on_content r b fr (i.1 (omega arith)), λ h. omega arith)
stem-front look at k tables (commit r s q ls ∷ fr) bl a nb t =
    let p = (and_true (eqb r (length tables)) (laid look at k tables s ls && ok_from look (suc (at + k)) 0 (grown tables ls) (fr ++ bl)) t).1 in
    let i = stem-front look (suc (at + k)) 0 (grown tables ls) fr bl a nb (and_true (laid look at k tables s ls) (ok_from look (suc (at + k)) 0 (grown tables ls) (fr ++ bl)) p).1 in
    (ap (on_stem (commit r s q ls)) i.0 ∙ on_commit r s q ls fr, λ h. omega arith)
stem-front look at k tables (mark m ∷ fr) bl a nb t =
    let p = (and_true (eqb k 0) (stands tables m && ok_from look (suc at) 0 tables (fr ++ bl)) t).1 in
    let i = stem-front look (suc at) 0 tables fr bl a nb (and_true (stands tables m) (ok_from look (suc at) 0 tables (fr ++ bl)) p).1 in
    (ap (on_stem (mark m)) i.0 ∙ on_mark m fr, λ h. omega arith)
stem-front look at k tables (blank ∷ fr) bl a nb t = absurd nb

pub stem-used : (bs : List Block) → T (ok bs) → stem (front bs) ≡ front bs
unfolding ok
stem-used [] t = refl
stem-used (label ∷ bs) t =
    let b : T (ok (label ∷ bs)) = t in
    let e = front-blanks bs in
    let u : T (ok_from (bytes_at (label ∷ bs)) 1 0 (replicate 32 0 ∷ []) (front bs ++ blanks bs)) =
    subst (λ (x : List Block). T (ok_from (bytes_at (label ∷ bs)) 1 0 (replicate 32 0 ∷ []) x)) (sym e) t in
    let i = stem-front (bytes_at (label ∷ bs)) 1 0 (replicate 32 0 ∷ []) (front bs) (blanks bs) (blank-rest (label ∷ bs) b) (no_blank bs) u in
    ap (on_stem label) i.0 ∙ on_label (front bs)
stem-used (content r b ∷ bs) t = absurd t
stem-used (commit r s q ls ∷ bs) t = absurd t
stem-used (mark m ∷ bs) t = absurd t
stem-used (blank ∷ bs) t = absurd t

-- blank blocks are zeros
pub joined-blank : (bl : List Block) → All (λ (b : Block). b ≡ blank) bl → joined fields_of bl ≡ replicate (512 * length bl) 0
joined-blank [] a = refl
joined-blank (b ∷ bl) a =
    let e : 512 * suc (length bl) ≡ 512 + 512 * length bl = omega arith in
    ap₂ (λ (x y : List ℕ). x ++ y) (ap (encode fields_of) a.0 ∙ zeros-block) (joined-blank bl a.1)
    ∙ replicate-append-replicate 512 (512 * length bl) 0 ∙ ap (λ (n : ℕ). replicate {A = ℕ} n 0) (sym e)

-- ---- THE STATEMENT, first way: what a tailed store is made of is what the tests find

pub flat-size : (js : List Bytes) → All Junk js → length (flat js) ≡ 512 * length js
flat-size [] a = refl
flat-size (j ∷ js) a = omega (arith, length-append j (flat js), a.0.size, flat-size js a.1)

not-blank-contents : (r : ℕ) (cs : List Bytes) → T (all (λ b. not (is_blank b)) (map (content r) cs))
not-blank-contents r [] = tt
not-blank-contents r (c ∷ cs) = not-blank-contents r cs

all_both : (f : Block → Bool) (a b : List Block) → T (all f a) → T (all f b) → T (all f (a ++ b))
all_both f [] b t u = u
all_both f (x ∷ a) b t u = let p = and_true (f x) (all f a) t in true_and (f x) (all f (a ++ b)) p.0 (all_both f a b p.1 u)

fits-map : (r : ℕ) (cs : List Bytes) → All (λ (c : Bytes). FitsBlock (content r c)) cs → All FitsBlock (map (content r) cs)
fits-map r [] a = tt
fits-map r (c ∷ cs) a = (a.0, fits-map r cs a.1)

carried : (r : ℕ) (cs : List Bytes) → all (carries r) (map (content r) cs) ≡ true
carried r [] = refl
carried r (c ∷ cs) = ap₂ (λ (a b : Bool). a && b) (eq-eqb r r refl) (carried r cs)

module _ (N : ℕ) (store : Bytes) (h : History) (used t : ℕ) (X : Tailed N store h used t) where
  abbrev bs : List Block
  bs = blocks_of N X.bare

  abbrev fr : List Block
  fr = front bs

  abbrev r : ℕ
  r = suc (last h)

  abbrev cs : List Bytes
  cs = X.contents

  abbrev js : List Bytes
  js = X.junk

  abbrev w : List Block
  w = fr ++ map (content r) cs

  B : Blocks N X.bare h bs
  B = holds-blocks N X.bare h X.stored.holds

  passed : T (ok bs)
  passed = (lays_accepted bs h B.lays).0

  used_is : length fr ≡ used
  used_is = X.stored.uses

  lengths : length fr + length (blanks bs) ≡ N
  lengths = sym (length-append fr (blanks bs)) ∙ ap length (front-blanks bs) ∙ B.count

  pub bare_is : X.bare ≡ joined fields_of fr ++ replicate (512 * (N - used)) 0
  bare_is =
      let e : length (blanks bs) ≡ N - used = omega (arith, lengths, used_is) in
      sym B.bytes ∙ ap (joined fields_of) (sym (front-blanks bs)) ∙ joined-append fields_of fr (blanks bs)
      ∙ ap (λ (x : List ℕ). joined fields_of fr ++ x) (joined-blank (blanks bs) (blank-rest bs passed) ∙ ap (λ (n : ℕ). replicate {A = ℕ} (512 * n) 0) e)

  pub fr_size : length (joined fields_of fr) ≡ 512 * used
  fr_size = omega (arith, length-joined fields_of fr, used_is)

  cs_size : length (joined fields_of (map (content r) cs)) ≡ 512 * length cs
  cs_size = omega (arith, length-joined fields_of (map (content r) cs), length-map cs (content r))

  tail-size : length (tail_bytes r cs js) ≡ 512 * t
  tail-size = omega (arith, length-append (joined fields_of (map (content r) cs)) (flat js), cs_size, flat-size js X.tail.junk, X.size)

  abbrev zs : List ℕ
  zs = replicate (512 * (N - used - t)) 0

  -- the store, piece by piece
  store_is : store ≡ joined fields_of w ++ (flat js ++ zs)
  store_is =
      let m : 512 * (N - used) ≡ 512 * t + 512 * (N - used - t) = omega (arith, X.room) in
      X.bytes
      ∙ ap (written (512 * used) (tail_bytes r cs js)) (bare_is ∙ ap (λ (x : List ℕ). joined fields_of fr ++ x) (ap (λ (n : ℕ). replicate {A = ℕ} n 0) m ∙ sym (replicate-append-replicate (512 * t) (512 * (N - used - t)) 0)))
      ∙ written_at (512 * used) (joined fields_of fr) (replicate (512 * t) 0) (tail_bytes r cs js) zs fr_size (length-replicate (512 * t) 0 ∙ sym tail-size)
      ∙ ap (λ (x : List ℕ). joined fields_of fr ++ x) (append_assoc (joined fields_of (map (content r) cs)) (flat js) zs)
      ∙ sym (append_assoc (joined fields_of fr) (joined fields_of (map (content r) cs)) (flat js ++ zs))
      ∙ ap (λ (x : List ℕ). x ++ (flat js ++ zs)) (sym (joined-append fields_of fr (map (content r) cs)))

  none-blank : T (all (λ b. not (is_blank b)) w)
  none-blank = all_both (λ b. not (is_blank b)) fr (map (content r) cs) (no_blank bs) (not-blank-contents r cs)

  w_size : length w ≡ used + length cs
  w_size = omega (arith, length-append fr (map (content r) cs), length-map cs (content r), used_is)

  some_w : 1 ≤ length w
  some_w = omega (arith, w_size, used_is, some-used bs h B.lays)

  fits_w : All FitsBlock w
  fits_w =
      all_append FitsBlock fr (map (content r) cs) (all_left FitsBlock fr (blanks bs) (subst (All FitsBlock) (sym (front-blanks bs)) B.fit))
      (fits-map r cs X.tail.fits)

  -- the two ways of its end
  ends : (ks : List Bytes) → length ks ≤ 1 → All Junk ks → length cs + length ks ≡ t
      → (filled_in N (joined fields_of w ++ (flat ks ++ zs)) ≡ used + t) × (whole_in N (joined fields_of w ++ (flat ks ++ zs)) ≡ length w)
  ends [] few a e =
      let n : length w + (N - used - t) ≡ N = omega (arith, w_size, X.room) in
      let f = filled-bare w (N - used - t) none-blank some_w fits_w in
      let g = whole-bare w (N - used - t) none-blank some_w fits_w in
      (ap (λ (k : ℕ). filled_in k (joined fields_of w ++ zs)) (sym n) ∙ f ∙ omega (arith, w_size), ap (λ (k : ℕ). whole_in k (joined fields_of w ++ zs)) (sym n) ∙ g)
  ends (j ∷ []) few a e =
      let n : length w + suc (N - used - t) ≡ N = omega (arith, w_size, X.room) in
      let q : joined fields_of w ++ ((j ++ []) ++ zs) ≡ joined fields_of w ++ (j ++ zs) = ap (λ (x : List ℕ). joined fields_of w ++ (x ++ zs)) (append-nil j) in
      let f = filled-junk w (N - used - t) none-blank some_w fits_w j a.0 in
      let g = whole-junk w (N - used - t) none-blank some_w fits_w j a.0 in (
        ap (filled_in N) q ∙ ap (λ (k : ℕ). filled_in k (joined fields_of w ++ (j ++ zs))) (sym n) ∙ f ∙ omega (arith, w_size),
        ap (whole_in N) q ∙ ap (λ (k : ℕ). whole_in k (joined fields_of w ++ (j ++ zs))) (sym n) ∙ g,
      )
  ends (j ∷ (k ∷ ks)) few a e = absurd (omega arith)

  pub filled-tail : filled_in N store ≡ used + t
  filled-tail = ap (filled_in N) store_is ∙ (ends js X.tail.one X.tail.junk X.size).0

  pub whole-tail : whole_in N store ≡ length w
  whole-tail = ap (whole_in N) store_is ∙ (ends js X.tail.one X.tail.junk X.size).1

  blocks_w : blocks_of (length w) store ≡ w
  blocks_w = ap (blocks_of (length w)) store_is ∙ blocks_prefix w (flat js ++ zs) fits_w

  pub stem-tail : stem_in N store ≡ used
  unfolding stem_in
  stem-tail =
      ap (λ (m : ℕ). length (stem (blocks_of m store))) whole-tail ∙ ap (λ (x : List Block). length (stem x)) blocks_w
      ∙ ap length (stem-append fr r cs ∙ stem-used bs passed) ∙ used_is

  pub length-store : length store ≡ 512 * N
  length-store = ap length X.bytes ∙ length-written (512 * used) (tail_bytes r cs js) X.bare ∙ ap length (sym B.bytes) ∙ omega (arith, length-joined fields_of bs, B.count)

  -- the used blocks stand first
  pub front_is : store ≡ joined fields_of (front (blocks_of N X.bare)) ++ (joined fields_of (map (content (suc (last h))) X.contents) ++ (flat X.junk ++ replicate (512 * (N - used - t)) 0))
  front_is =
      store_is ∙ ap (λ (x : List ℕ). x ++ (flat js ++ zs)) (joined-append fields_of fr (map (content r) cs))
      ∙ append_assoc (joined fields_of fr) (joined fields_of (map (content r) cs)) (flat js ++ zs)

  -- "as if the tail were zero blocks"
  pub bare-tail : bare_in N store ≡ X.bare
  unfolding bare_in blank_from
  bare-tail =
      let J = joined fields_of (map (content r) cs) in
      let e : 512 * N - 512 * used ≡ 512 * (N - used) = omega arith in
      let s : store ≡ joined fields_of fr ++ (J ++ (flat js ++ zs)) =
      store_is ∙ ap (λ (x : List ℕ). x ++ (flat js ++ zs)) (joined-append fields_of fr (map (content r) cs)) ∙ append_assoc (joined fields_of fr) J (flat js ++ zs) in
      ap (λ (m : ℕ). take (512 * m) store ++ replicate (length store - 512 * m) 0) stem-tail
      ∙ ap₂ (λ (x : List ℕ) (m : ℕ). take (512 * used) x ++ replicate (m - 512 * used) 0) s length-store
      ∙ ap₂ (λ (x : List ℕ) (m : ℕ). x ++ replicate m 0) (take_at (joined fields_of fr) (J ++ (flat js ++ zs)) (512 * used) fr_size) e
      ∙ sym bare_is

  -- refusal 2 does not hold
  sealed-first : (m : ℕ) (v : List Block) (x : List ℕ) → All FitsBlock v → m ≤ length v → checked m (joined fields_of v ++ x) ≡ true
  unfolding checked
  sealed-first zero v x f g = refl
  sealed-first (suc m) [] x f g = absurd (omega arith)
  sealed-first (suc m) (b ∷ v) x f g =
      let E = encode fields_of b in
      let Y = joined fields_of v in
      let n : length E ≡ 512 = length-encode fields_of b in
      let a : (E ++ Y) ++ x ≡ E ++ (Y ++ x) = append_assoc E Y x in
      ap₂ (λ (y z : List ℕ). sealed y && all sealed (parts m z)) (ap (take 512) a ∙ take_at E (Y ++ x) 512 n) (ap (drop 512) a ∙ drop_at E (Y ++ x) 512 n)
      ∙ ap₂ (λ (a b : Bool). a && b) (seals b f.0) (sealed-first m v x f.1 (omega arith))

  counted_low : (f : ℕ) → f ≤ length w + 1 → (f ≡ length w + 1 → 1 < f) → counted_by f ≤ length w
  counted_low f g k = go (leb f 1) refl
    where
      go : (b : Bool) → leb f 1 ≡ b → cond b f (f - 1) ≤ length w
      go true e = omega (arith, leb-true f 1 e, some_w)
      go false e = omega (arith, leb-false f 1 e)

  pub checked-tail : checked_but N store ≡ true
  unfolding checked_but
  checked-tail =
      let c : used + t ≤ length w + 1 = omega (arith, w_size, X.size, X.tail.one) in
      ap₂ (λ (f : ℕ) (s : List ℕ). checked (counted_by f) s) filled-tail store_is
      ∙ sealed-first (counted_by (used + t)) w (flat js ++ zs) fits_w (counted_low (used + t) c (λ q. omega (arith, some_w)))

  -- nor does refusal 3
  A : T (checked N X.bare) × T (lawful N X.bare) × (history_of N X.bare ≡ h)
  A = holds-accepted N X.bare h X.stored.holds

  pub lawful-tail : lawful_but N store ≡ true
  unfolding lawful_but
  lawful-tail =
      let s : all (shaped fields_of parse fits_block) (parts (length w) store) ≡ true =
      ap (λ (x : List ℕ). all (shaped fields_of parse fits_block) (parts (length w) x)) store_is ∙ ap (all (shaped fields_of parse fits_block)) (parts_prefix w (flat js ++ zs))
      ∙ is_true (all (shaped fields_of parse fits_block) (parts (length w) (joined fields_of w))) (so_parts fields_of parse fits_block FitsBlock block_coded w fits_w).1 in
      let d : drop used w ≡ map (content r) cs = drop_at fr (map (content r) cs) used used_is in
      let c : all (carries (suc (last (history_of N X.bare)))) (drop used (blocks_of (length w) store)) ≡ true =
      ap₂ (λ (g : History) (v : List Block). all (carries (suc (last g))) (drop used v)) A.2 blocks_w ∙ ap (all (carries r)) d ∙ carried r cs in
      let few : leb (length w - used) 32 ≡ true = le-leb (length w - used) 32 (omega (arith, w_size, X.tail.few)) in
      (λ i. lawful_by N store (whole-tail i) (stem-tail i) (bare-tail i))
      ∙ ap₂ (λ (a b : Bool). a && b) (is_true (lawful N X.bare) A.1)
      (ap₂ (λ (a b : Bool). a && b) (eq-eqb (length (front (blocks_of N X.bare))) used used_is) (ap₂ (λ (a b : Bool). a && b) s (ap₂ (λ (a b : Bool). a && b) c few)))

  -- and the history is h
  pub history-tail : history_of N (bare_in N store) ≡ h
  history-tail = ap (history_of N) bare-tail ∙ A.2
