-- A tail that was cleared in part, and a commit that was written in part, are tails.
-- Assumes nothing.
use Prim.Native.Nat.{◌*◌, ◌+◌, ◌-◌, ◌<◌, ◌≤◌, suc, zero, ℕ}
use mathlib.Core.Bool.{Bool, cond, false, true}
use mathlib.Core.List.{List, [], ◌++◌, ◌∷◌, append_assoc, append-nil, map}
use mathlib.Core.Logic.{inl, inr}
use mathlib.Core.Path.{◌∙◌, ◌≡◌, ap, ap₂, refl, subst, sym}
use native.Mathlib.Omega.{arith}
use lib.Dec.{lit≤}
use lib.ListN.{drop, length, length-append, length-drop, length-map, length-replicate, replicate, replicate-append-replicate, take}
use lib.Seq.{length-take-le, take-add, take-append-add, take-append-le, take_at}
use Rattle.block.proofs.Says.{lt_or_ge}
use Rattle.block.proofs.Writing.{length-written, written_at, written_both, written_mid}
use Rattle.block.specs.Buffer.{with_block}
use Rattle.block.specs.Lists.{All}
use Rattle.block.specs.Write.{written}
use Rattle.model.specs.Blocks.{Block, FitsBlock, commit, content, fields_of}
use Rattle.model.specs.Codec.{encode, joined}
use Rattle.model.specs.History.{Bytes, Change, Commit, History, add, change, copy, delete, is_bytes, last, nothing, sheet}
use Rattle.model.specs.Invariant.{Made}
use Rattle.model.specs.Machine.{blocks_for, content_of}
use Rattle.model.specs.Pass.{tables_of}
use Rattle.model.specs.Rows.{total}
use Rattle.model.specs.Store.{blank_from, blanks, blocks_of, front}
use Rattle.model.specs.Tail.{Junk, Stored, Tail, Tailed, flat, tail_bytes}
use Rattle.model.specs.Writing.{new_blocks, new_contents, new_lines}
use Rattle.laws.proofs.All.{all_left, all_right, all_take}
use Rattle.laws.proofs.Codec.{length-encode}
use Rattle.laws.proofs.Tailing.{bare_is, flat-size, fr_size, front_is, length-store}
use Rattle.laws.proofs.Untailing.{fits-held}
use Rattle.laws.proofs.WorkCopy.{length-joined}
use Rattle.laws.proofs.Writing.{Blocks, contents, holds-blocks, new_tables, written-fits}

-- the first m of a tail's content blocks
pub take-contents : (r : ℕ) (cs js : List Bytes) (m : ℕ) → m ≤ length cs → take (512 * m) (tail_bytes r cs js) ≡ tail_bytes r (take m cs) []
take-contents r cs js zero h = refl
take-contents r [] js (suc m) h = absurd (omega arith)
take-contents r (c ∷ cs) js (suc m) h =
    let E = encode fields_of (content r c) in
    let e : 512 * suc m ≡ length E + 512 * m = omega (arith, length-encode fields_of (content r c)) in
    let s : (E ++ joined fields_of (map (content r) cs)) ++ flat js ≡ E ++ tail_bytes r cs js = append_assoc E (joined fields_of (map (content r) cs)) (flat js) in
    ap₂ take e s ∙ take-append-add E (tail_bytes r cs js) (512 * m) ∙ ap (λ (x : List ℕ). E ++ x) (take-contents r cs js m (omega arith))
    ∙ sym (append_assoc E (joined fields_of (map (content r) (take m cs))) [])

pub tail-length : (r : ℕ) (cs js : List Bytes) → All Junk js → length (tail_bytes r cs js) ≡ 512 * (length cs + length js)
tail-length r cs js a =
    omega (arith, length-append (joined fields_of (map (content r) cs)) (flat js), length-joined fields_of (map (content r) cs), length-map cs (content r), flat-size js a)

-- a block put in its place is a run written there
pub block_written : (l : List ℕ) (p : ℕ) (b : List ℕ) → length b ≡ 512 → 512 * p + 512 ≤ length l → with_block l p b ≡ written (512 * p) b l
block_written l p b n g =
    let e : 512 * p + 512 ≡ 512 * p + length b = omega arith in
    ap (λ (k : ℕ). take (512 * p) l ++ (b ++ drop k l)) e ∙ sym (written_mid (512 * p) b l (omega arith))

module _ (N : ℕ) (store : Bytes) (h : History) (used t : ℕ) (X : Tailed N store h used t) where
  abbrev fr : List Block
  fr = front (blocks_of N X.bare)

  abbrev r : ℕ
  r = suc (last h)

  abbrev tb : List ℕ
  tb = tail_bytes r X.contents X.junk

  -- another tail in the place of this one
  pub other-tail : (cs js : List Bytes) (m : ℕ) → Tail r cs js → length cs + length js ≡ m → used + m ≤ N
      → (other : Bytes) → other ≡ joined fields_of fr ++ (tail_bytes r cs js ++ replicate (512 * (N - used - m)) 0) → (Y : Tailed N other h used m) × (Y.bare ≡ X.bare)
  other-tail cs js m T s g other e =
      let k : 512 * (N - used) ≡ 512 * m + 512 * (N - used - m) = omega arith in
      let n : length (tail_bytes r cs js) ≡ 512 * m = tail-length r cs js T.junk ∙ ap (λ (x : ℕ). 512 * x) s in
      let b : X.bare ≡ joined fields_of fr ++ (replicate (512 * m) 0 ++ replicate (512 * (N - used - m)) 0) =
      bare_is N store h used t X ∙ ap (λ (x : List ℕ). joined fields_of fr ++ x) (ap (λ (x : ℕ). replicate {A = ℕ} x 0) k ∙ sym (replicate-append-replicate (512 * m) (512 * (N - used - m)) 0)) in (
        record {
          bare = X.bare;
          stored = X.stored;
          contents = cs;
          junk = js;
          tail = T;
          size = s;
          room = g;
          bytes =
              e ∙ sym (ap (written (512 * used) (tail_bytes r cs js)) b
              ∙ written_at (512 * used) (joined fields_of fr) (replicate (512 * m) 0) (tail_bytes r cs js) (replicate (512 * (N - used - m)) 0) (fr_size N store h used t X) (length-replicate {A = ℕ} (512 * m) 0 ∙ sym n));
        },
        refl,
      )

  -- the store, as the used blocks, the tail and zeros
  store_is : store ≡ joined fields_of fr ++ (tb ++ replicate (512 * (N - used - t)) 0)
  store_is =
      front_is N store h used t X
      ∙ ap (λ (x : List ℕ). joined fields_of fr ++ x) (sym (append_assoc (joined fields_of (map (content r) X.contents)) (flat X.junk) (replicate (512 * (N - used - t)) 0)))

  tb_size : length tb ≡ 512 * t
  tb_size = tail-length r X.contents X.junk X.tail.junk ∙ ap (λ (x : ℕ). 512 * x) X.size

  -- zeros from a block of the tail on
  blank_is : (m : ℕ) → m ≤ t → blank_from (used + m) store ≡ joined fields_of fr ++ (take (512 * m) tb ++ replicate (512 * (N - used - m)) 0)
  unfolding blank_from
  blank_is m g =
      let e : 512 * (used + m) ≡ length (joined fields_of fr) + 512 * m = omega (arith, fr_size N store h used t X) in
      let z : length store - 512 * (used + m) ≡ 512 * (N - used - m) = omega (arith, length-store N store h used t X) in
      ap₂ (λ (x : List ℕ) (k : ℕ). x ++ replicate {A = ℕ} k 0)
      (ap₂ take e store_is ∙ take-append-add (joined fields_of fr) (tb ++ replicate (512 * (N - used - t)) 0) (512 * m)
      ∙ ap (λ (x : List ℕ). joined fields_of fr ++ x) (take-append-le (512 * m) tb (replicate (512 * (N - used - t)) 0) (omega (arith, tb_size)))) z
      ∙ append_assoc (joined fields_of fr) (take (512 * m) tb) (replicate (512 * (N - used - m)) 0)

  -- with other tails the store stays of one kin: it has the same bytes without its tail
  pub cleared_kin : (m : ℕ) → m ≤ t → (Y : Tailed N (blank_from (used + m) store) h used m) × (Y.bare ≡ X.bare)
  cleared_kin m g =
      elim (lt_or_ge m t) [
        | inl o ↦
            let few : m ≤ length X.contents = omega (arith, X.size, X.tail.one) in
            let n : length (take m X.contents) ≡ m = length-take-le m X.contents few in
            other-tail (take m X.contents) [] m
            (record { few = omega (arith, X.tail.few); fits = all_take (λ (c : Bytes). FitsBlock (content r c)) m X.contents X.tail.fits; one = lit≤ tt; junk = tt })
            (omega arith) (omega (arith, X.room)) (blank_from (used + m) store)
            (blank_is m g ∙ ap (λ (x : List ℕ). joined fields_of fr ++ (x ++ replicate {A = ℕ} (512 * (N - used - m)) 0)) (take-contents r X.contents X.junk m few))
        | inr o ↦
            let q : t ≡ m = omega arith in
            let whole : take (512 * t) tb ≡ tb = ap (take (512 * t)) (sym (append-nil tb)) ∙ take_at tb [] (512 * t) tb_size in
            subst (λ (m : ℕ). (Y : Tailed N (blank_from (used + m) store) h used m) × (Y.bare ≡ X.bare)) q
            (other-tail X.contents X.junk t X.tail X.size X.room (blank_from (used + t) store)
            (blank_is t (let z : t ≤ t = omega arith in z) ∙ ap (λ (x : List ℕ). joined fields_of fr ++ (x ++ replicate {A = ℕ} (512 * (N - used - t)) 0)) whole))
      ]

  -- nothing of it cleared
  pub blank-all : blank_from (used + t) store ≡ store
  blank-all =
      let whole : take (512 * t) tb ≡ tb = ap (take (512 * t)) (sym (append-nil tb)) ∙ take_at tb [] (512 * t) tb_size in
      blank_is t (let z : t ≤ t = omega arith in z) ∙ ap (λ (x : List ℕ). joined fields_of fr ++ (x ++ replicate {A = ℕ} (512 * (N - used - t)) 0)) whole ∙ sym store_is

  -- and junk in the place of the block that is being cleared
  pub junk_kin : (m : ℕ) → m < t → (b : Bytes) → Junk b → (Y : Tailed N (with_block (blank_from (used + suc m) store) (used + m) b) h used (suc m)) × (Y.bare ≡ X.bare)
  junk_kin m g b J =
      let few : m ≤ length X.contents = omega (arith, X.size, X.tail.one) in
      let n : length (take m X.contents) ≡ m = length-take-le m X.contents few in
      let J₁ = joined fields_of fr in
      let a : Bytes = blank_from (used + suc m) store in
      let zs : List ℕ = replicate (512 * (N - used - suc m)) 0 in
      let first : take (512 * m) tb ≡ tail_bytes r (take m X.contents) [] = take-contents r X.contents X.junk m few in
      let size : length a ≡ 512 * N = ap length (blank_is (suc m) (omega arith)) ∙ (let p = length-append J₁ (take (512 * suc m) tb ++ zs) in let q = length-append (take (512 * suc m) tb) zs in let l = length-take-le (512 * suc m) tb (omega (arith, tb_size)) in let z : length zs ≡ 512 * (N - used - suc m) = length-replicate {A = ℕ} (512 * (N - used - suc m)) 0 in omega (arith, p, q, l, z, fr_size N store h used t X, X.room)) in
      let split : take (512 * suc m) tb ≡ take (512 * m) tb ++ take 512 (drop (512 * m) tb) = (let k : 512 * suc m ≡ 512 * m + 512 = omega arith in ap (λ (x : ℕ). take x tb) k ∙ take-add (512 * m) 512 tb) in
      let o : length (take 512 (drop (512 * m) tb)) ≡ 512 = length-take-le 512 (drop (512 * m) tb) (simp length-drop (omega (arith, tb_size))) in
      let f : length (J₁ ++ take (512 * m) tb) ≡ 512 * (used + m) = length-append J₁ (take (512 * m) tb) ∙ omega (arith, fr_size N store h used t X, length-take-le (512 * m) tb (omega (arith, tb_size))) in
      let s : a ≡ (J₁ ++ take (512 * m) tb) ++ (take 512 (drop (512 * m) tb) ++ zs) =
      blank_is (suc m) (omega arith) ∙ ap (λ (x : List ℕ). J₁ ++ (x ++ zs)) split ∙ ap (λ (x : List ℕ). J₁ ++ x) (append_assoc (take (512 * m) tb) (take 512 (drop (512 * m) tb)) zs)
      ∙ sym (append_assoc J₁ (take (512 * m) tb) (take 512 (drop (512 * m) tb) ++ zs)) in
      other-tail (take m X.contents) (b ∷ []) (suc m)
      (record { few = omega (arith, X.tail.few); fits = all_take (λ (c : Bytes). FitsBlock (content r c)) m X.contents X.tail.fits; one = lit≤ tt; junk = (J, tt) })
      (omega arith) (omega (arith, X.room)) (with_block a (used + m) b)
      (block_written a (used + m) b J.size (omega (arith, size, X.room)) ∙ ap (written (512 * (used + m)) b) s
      ∙ written_at (512 * (used + m)) (J₁ ++ take (512 * m) tb) (take 512 (drop (512 * m) tb)) b zs f (o ∙ sym J.size)
      ∙ append_assoc J₁ (take (512 * m) tb) (b ++ zs) ∙ ap (λ (x : List ℕ). J₁ ++ (x ++ (b ++ zs))) first
      ∙ ap (λ (x : List ℕ). J₁ ++ x) (ends (joined fields_of (map (content r) (take m X.contents))) b zs))
    where
      ends : (a b z : List ℕ) → (a ++ []) ++ (b ++ z) ≡ (a ++ (b ++ [])) ++ z
      ends a b z = ap (λ (x : List ℕ). x ++ (b ++ z)) (append-nil a) ∙ sym (append_assoc a b z) ∙ ap (λ (x : List ℕ). (a ++ x) ++ z) (sym (append-nil b))

-- ---- a commit, written in part

take-map : (f : List ℕ → Block) (m : ℕ) (l : List Bytes) (x : Block) → m ≤ length l → take m (map f l ++ (x ∷ [])) ≡ map f (take m l)
take-map f zero l x h = refl
take-map f (suc m) [] x h = absurd (omega arith)
take-map f (suc m) (c ∷ l) x h = ap (λ (y : List Block). f c ∷ y) (take-map f m l x (omega arith))

pub few-contents : (h : History) (cs : List Change) → total (content_of h) cs ≤ length cs
few-contents h [] = omega arith
few-contents h (nothing ∷ cs) = omega (arith, few-contents h cs)
few-contents h (add x ∷ cs) = omega (arith, few-contents h cs)
few-contents h (change x ∷ cs) = omega (arith, few-contents h cs)
few-contents h (delete ∷ cs) = omega (arith, few-contents h cs)
few-contents h (copy s v x ∷ cs) = go (is_bytes x (sheet h v s)) (few-contents h cs)
  where
    go : (t : Bool) → total (content_of h) cs ≤ length cs → cond t 0 1 + total (content_of h) cs ≤ suc (length cs)
    go true e = omega arith
    go false e = omega arith

module _ (N : ℕ) (store : Bytes) (h : History) (used : ℕ) (c : Commit) (many : N ≤ 4_096) (short : last h < 65_535) (S : Stored N store h used) (M : Made h c)
    (room : used + blocks_for h c.changes ≤ N)
  where
    abbrev bs : List Block
    bs = blocks_of N store

    abbrev cs : List Bytes
    cs = new_contents (front bs) (blanks bs) c

    abbrev writes : List Block
    writes = new_blocks (front bs) (blanks bs) c []

    B : Blocks N store h bs
    B = holds-blocks N store h S.holds

    few : length bs ≤ 4_096
    few = omega (arith, B.count)

    fits-room : length (front bs) + blocks_for h c.changes ≤ length bs
    fits-room = omega (arith, B.count, S.uses, room)

    pub content-count : length cs ≡ total (content_of h) c.changes
    content-count = contents bs h c few B.fit B.lays M short fits-room

    pub write_count_lem : length writes ≡ blocks_for h c.changes
    write_count_lem =
        let R = length (tables_of (front bs)) in
        length-append (map (content R) cs) (commit R c.seat c.stamp (new_lines (front bs) (blanks bs) c) ∷ []) ∙ omega (arith, length-map cs (content R), content-count)

    pub next : length (tables_of (front bs)) ≡ suc (last h)
    next = new_tables bs h c few B.fit B.lays M short fits-room

    -- the contents fit
    fits_cs : All (λ (x : Bytes). FitsBlock (content (suc (last h)) x)) cs
    fits_cs =
        let R = length (tables_of (front bs)) in
        let rest = commit R c.seat c.stamp (new_lines (front bs) (blanks bs) c) ∷ drop (suc (length cs)) (blanks bs) in
        let w : All FitsBlock (front bs ++ (map (content R) cs ++ rest)) = written-fits bs h c few B.fit B.lays M short fits-room in
        fits-held (suc (last h)) cs (subst (λ (r : ℕ). All FitsBlock (map (content r) cs)) next
        (all_left FitsBlock (map (content R) cs) rest (all_right FitsBlock (front bs) (map (content R) cs ++ rest) w)))

    first-writes : (j : ℕ) → j ≤ length cs → joined fields_of (take j writes) ≡ joined fields_of (map (content (suc (last h))) (take j cs))
    first-writes j g =
        let R = length (tables_of (front bs)) in
        ap (joined fields_of) (take-map (content R) j cs (commit R c.seat c.stamp (new_lines (front bs) (blanks bs) c)) g)
        ∙ ap (λ (r : ℕ). joined fields_of (map (content r) (take j cs))) next

    abbrev after : ℕ → Bytes
    after j = written (512 * used) (joined fields_of (take j writes)) store

    some : (js : List Bytes) (j : ℕ) → j ≤ length cs → length js ≤ 1 → All Junk js → Tail (suc (last h)) (take j cs) js
    some js j g o a = record {
      few = omega (arith, length-take-le j cs g, content-count, few-contents h c.changes, M.wide);
      fits = all_take (λ (x : Bytes). FitsBlock (content (suc (last h)) x)) j cs fits_cs;
      one = o;
      junk = a;
    }

    -- after j writes, short of the last
    pub cut_stored : (j : ℕ) → j ≤ length cs → Tailed N (after j) h used j
    cut_stored j g = record {
      bare = store;
      stored = S;
      contents = take j cs;
      junk = [];
      tail = some [] j g (lit≤ tt) tt;
      size = omega (arith, length-take-le j cs g);
      room = omega (arith, content-count);
      bytes = ap (λ (x : List ℕ). written (512 * used) x store) (first-writes j g ∙ sym (append-nil (joined fields_of (map (content (suc (last h))) (take j cs)))));
    }

    -- and with junk in the place of the next
    pub cut_junk : (j : ℕ) → j ≤ length cs → (b : Bytes) → Junk b → Tailed N (with_block (after j) (used + j) b) h used (suc j)
    cut_junk j g b J =
        let J' = joined fields_of (map (content (suc (last h))) (take j cs)) in
        let n : length J' ≡ 512 * j = omega (arith, length-joined fields_of (map (content (suc (last h))) (take j cs)), length-map (take j cs) (content (suc (last h))), length-take-le j cs g) in
        let e : 512 * (used + j) ≡ 512 * used + length J' = omega arith in
        let size : length (after j) ≡ 512 * N = length-written (512 * used) (joined fields_of (take j writes)) store ∙ ap length (sym B.bytes) ∙ omega (arith, length-joined fields_of bs, B.count) in
        record {
          bare = store;
          stored = S;
          contents = take j cs;
          junk = b ∷ [];
          tail = some (b ∷ []) j g (lit≤ tt) (J, tt);
          size = omega (arith, length-take-le j cs g);
          room = omega (arith, content-count);
          bytes =
              block_written (after j) (used + j) b J.size (omega (arith, size, content-count))
              ∙ ap₂ (λ (k : ℕ) (x : List ℕ). written k b (written (512 * used) x store)) e (first-writes j g)
              ∙ sym (written_both (512 * used) J' b store) ∙ ap (λ (x : List ℕ). written (512 * used) (J' ++ x) store) (sym (append-nil b));
        }

    pub cut_bare : (j : ℕ) (g : j ≤ length cs) → (cut_stored j g).bare ≡ store
    unfolding cut_stored
    cut_bare j g = refl

    pub junk-bare : (j : ℕ) (g : j ≤ length cs) (b : Bytes) (J : Junk b) → (cut_junk j g b J).bare ≡ store
    unfolding cut_junk
    junk-bare j g b J = refl
