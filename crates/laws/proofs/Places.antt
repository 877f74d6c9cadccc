-- The place that read and show answer: the bytes that stand there are the sheet's.
-- Assumes nothing.
use Prim.Native.Nat.{◌*◌, ◌+◌, ◌<◌, ◌≤◌, suc, zero, ℕ}
use mathlib.Core.Bool.{Bool, cond, false, true}
use mathlib.Core.List.{List, [], ◌++◌, ◌∷◌, append_assoc, map}
use mathlib.Core.Option.{none, some}
use mathlib.Core.Path.{◌∙◌, ◌≡◌, ap, ap₂, refl, subst, sym}
use native.Mathlib.Omega.{arith}
use borrow.Author.Tests.{leb-false, leb-true}
use lib.Dec.{eqb, leb, lit≤}
use lib.ListN.{get_or-eq_default, get_or-map, drop, get_or, length, length-drop, length-map, take}
use lib.Seq.{drop-append-add, drop-append-le, take-append-le, take-append_seam}
use Rattle.block.specs.Check.{checks_of}
use Rattle.block.specs.Lists.{All}
use Rattle.model.specs.Blocks.{Block, FitsBlock, blank, bytes_at, commit, content, fields_of, held, label, mark}
use Rattle.model.specs.Calls.{block_place, heard, in_copy, in_store, store_conditions}
use Rattle.model.specs.Codec.{encode, joined, padded}
use Rattle.model.specs.Entry.{Entry, added, copied, deleted, empty, normal, own_bytes}
use Rattle.model.specs.History.{Bytes, History, Tree, last, sheet, tree}
use Rattle.model.specs.Layout.{Lays, Table}
use Rattle.model.specs.Machine.{bytes}
use Rattle.model.specs.Log.{released}
use Rattle.model.specs.Pass.{tables_of}
use Rattle.model.specs.Refusals.{first_of}
use Rattle.model.specs.Store.{block_count, block_used, blocks_of, front, store_blocks, store_history, tail_of, used_of}
use Rattle.model.specs.Tail.{Tailed}
use Rattle.model.specs.WorkCopy.{CopyBlock, FitsCopyBlock, HoldsCopy, copy_fields, entry_block, entry_bytes, seat_block}
use Rattle.laws.proofs.Acceptance.{lays_accepted}
use Rattle.laws.proofs.All.{All-get_or}
use Rattle.laws.proofs.BlockCodes.{block_coded}
use Rattle.laws.proofs.Bridge.{tables_trail}
use Rattle.laws.proofs.Codec.{length-encode, padded_split}
use Rattle.laws.proofs.EntryCodes.{copy_coded}
use Rattle.laws.proofs.Tables.{slot, slot_at, tables_trees}
use Rattle.laws.proofs.Writing.{holds-blocks, tables_used, user_below}
use Rattle.laws.proofs.Store.{bare-held, count_held, taken_tailed}
use Rattle.laws.proofs.Tailing.{bare_is, fr_size, front_is}

-- from byte 16 of part p of a buffer on
module _ {A : Type 0} (fields : A → List ℕ) where
  part_from : (rs : List A) (p : ℕ) (d : A) → p < length rs
      → (rest : List ℕ) × (drop (512 * p + 16) (joined fields rs) ≡ drop 16 (encode fields (get_or rs p d)) ++ rest)
  part_from [] p d h = absurd (omega arith)
  part_from (r ∷ rs) zero d h =
      (joined fields rs, drop-append-le 16 (encode fields r) (joined fields rs) (let e : length (encode fields r) ≡ 512 = length-encode fields r in omega (arith, e)))
  part_from (r ∷ rs) (suc p) d h =
      let q = part_from rs p d (omega arith) in
      let e : 512 * suc p + 16 ≡ length (encode fields r) + (512 * p + 16) = (let l : length (encode fields r) ≡ 512 = length-encode fields r in omega (arith, l)) in
      (q.0, ap (λ (n : ℕ). drop n (encode fields r ++ joined fields rs)) e ∙ drop-append-add (encode fields r) (joined fields rs) (512 * p + 16) ∙ q.1)

-- bytes x from byte 16 on, whatever follows
seam : (x y z rest : List ℕ) → take (length x) (((x ++ y) ++ z) ++ rest) ≡ x
seam x y z rest = ap (take (length x)) (append_assoc (x ++ y) z rest ∙ append_assoc x y (z ++ rest)) ∙ take-append_seam x (y ++ (z ++ rest))

block_body : (b : Block) → FitsBlock b → (rest : List ℕ) → take (length (held b)) (drop 16 (encode fields_of b) ++ rest) ≡ held b
unfolding encode
block_body label f rest = refl
block_body (content r x) f rest =
    let s = padded_split (fields_of (content r x)) (block_coded.short (content r x) f) in
    ap (λ (l : List ℕ). take (length x) (drop 16 (l ++ checks_of (padded (fields_of (content r x)))) ++ rest)) s.1
    ∙ seam x s.0 (checks_of (padded (fields_of (content r x)))) rest
block_body (commit r seat stamp ls) f rest = refl
block_body (mark (released r seat stamp)) f rest = refl
block_body blank f rest = refl

entry_body : (state base source revision : ℕ) (x : List ℕ) → length (entry_bytes state base source revision x) ≤ 508 → (rest : List ℕ)
    → take (length x) (drop 16 (padded (entry_bytes state base source revision x) ++ checks_of (padded (entry_bytes state base source revision x))) ++ rest) ≡ x
entry_body state base source revision x n rest =
    let f = entry_bytes state base source revision x in
    let s = padded_split f n in
    ap (λ (l : List ℕ). take (length x) (drop 16 (l ++ checks_of (padded f)) ++ rest)) s.1 ∙ seam x s.0 (checks_of (padded f)) rest

piece_body : (e : Entry) (x : Bytes) → own_bytes e ≡ some x → FitsCopyBlock (entry_block e) → (rest : List ℕ)
    → take (length x) (drop 16 (encode copy_fields (entry_block e)) ++ rest) ≡ x
unfolding encode
piece_body empty x q f rest = let z : ◌≡◌ {A = ℕ} 0 1 = cc in absurd (omega arith)
piece_body (normal b y) x q f rest =
    let e : y ≡ x = cc in
    subst (λ (w : Bytes). take (length w) (drop 16 (encode copy_fields (entry_block (normal b y))) ++ rest) ≡ w) e
    (entry_body 1 b 0 0 y (copy_coded.short (entry_block (normal b y)) f) rest)
piece_body (added y) x q f rest =
    let e : y ≡ x = cc in
    subst (λ (w : Bytes). take (length w) (drop 16 (encode copy_fields (entry_block (added y))) ++ rest) ≡ w) e
    (entry_body 2 0 0 0 y (copy_coded.short (entry_block (added y)) f) rest)
piece_body (deleted b) x q f rest = let z : ◌≡◌ {A = ℕ} 0 1 = cc in absurd (omega arith)
piece_body (copied s r y) x q f rest =
    let e : y ≡ x = cc in
    subst (λ (w : Bytes). take (length w) (drop 16 (encode copy_fields (entry_block (copied s r y))) ++ rest) ≡ w) e
    (entry_body 4 0 s r y (copy_coded.short (entry_block (copied s r y)) f) rest)

-- ---- in the store

pub store-place : (bs : List Block) (p : ℕ) → All FitsBlock bs → take (length (bytes_at bs p)) (drop (512 * p + 16) (joined fields_of bs)) ≡ bytes_at bs p
unfolding bytes_at
store-place bs p a = go (leb (suc p) (length bs)) refl
  where
    go : (t : Bool) → leb (suc p) (length bs) ≡ t → take (length (held (get_or bs p blank))) (drop (512 * p + 16) (joined fields_of bs)) ≡ held (get_or bs p blank)
    go true e =
        let q = part_from fields_of bs p blank (leb-true (suc p) (length bs) e) in
        ap (take (length (held (get_or bs p blank)))) q.1 ∙ block_body (get_or bs p blank) (All-get_or FitsBlock bs p blank a tt) q.0
    go false e =
        let o : get_or bs p blank ≡ blank = get_or-eq_default bs blank {n = p} (omega (arith, leb-false (suc p) (length bs) e)) in
        subst (λ (b : Block). take (length (held b)) (drop (512 * p + 16) (joined fields_of bs)) ≡ held b) (sym o) refl

slot_bytes : (look : ℕ → List ℕ) (p : ℕ) (x : Bytes) → slot look p ≡ some x → look p ≡ x
unfolding slot
slot_bytes look p x e = go (eqb p 0) e
  where
    go : (t : Bool) → cond t none (some (look p)) ≡ some x → look p ≡ x
    go true q = let z : ◌≡◌ {A = ℕ} 0 1 = cc in absurd (omega arith)
    go false q = cc

-- the block that a sheet of tree R uses holds its bytes
used-bytes : (bs : List Block) (h : History) (R i : ℕ) (x : Bytes) → Lays bs h → R ≤ last h → sheet h R i ≡ some x
    → bytes_at bs (get_or (get_or (tables_of bs) R []) i 0) ≡ x
used-bytes bs h R i x L le e =
    let a = lays_accepted bs h L in
    let t : map (slot (bytes_at bs)) (get_or (tables_of bs) R []) ≡ tree h R =
    ap (λ (ts : List Table). map (slot (bytes_at bs)) (get_or ts R [])) (tables_trail bs)
    ∙ tables_trees bs a.0 R (subst (λ (k : History). R ≤ length k) (sym a.1) le) ∙ ap (λ (k : History). tree k R) a.1 in
    slot_bytes (bytes_at bs) (get_or (get_or (tables_of bs) R []) i 0) x
    (sym (slot_at (bytes_at bs) (get_or (tables_of bs) R []) i) ∙ ap (λ (k : Tree). get_or k i none) t ∙ e)

held-short : (b : Block) → FitsBlock b → length (held b) ≤ 480
held-short label f = lit≤ tt
held-short (content r x) f = f.1
held-short (commit r seat stamp ls) f = lit≤ tt
held-short (mark m) f = lit≤ tt
held-short blank f = lit≤ tt

-- what stands in the first bytes does not hang on what follows them
same-front : (a x y : List ℕ) (q k : ℕ) → q + k ≤ length a → take k (drop q (a ++ x)) ≡ take k (drop q (a ++ y))
same-front a x y q k h =
    let g : k ≤ length (drop q a) = simp length-drop (omega arith) in
    ap (take k) (drop-append-le q a x (omega arith)) ∙ take-append-le k (drop q a) x g
    ∙ sym (ap (take k) (drop-append-le q a y (omega arith)) ∙ take-append-le k (drop q a) y g)

-- what a used block holds stands in the store; the tail is not looked at
block_held : (N : ℕ) (store : Bytes) (h : History) (used t : ℕ) (X : Tailed N store h used t) (p : ℕ) → p < used
    → take (length (bytes_at (blocks_of N X.bare) p)) (drop (512 * p + 16) store) ≡ bytes_at (blocks_of N X.bare) p
unfolding bytes_at
block_held N store h used t X p low =
    let bare : Bytes = X.bare in
    let B = holds-blocks N bare h X.stored.holds in
    let bs : List Block = blocks_of N bare in
    let short : length (bytes_at bs p) ≤ 480 = held-short (get_or bs p blank) (All-get_or FitsBlock bs p blank B.fit tt) in
    ap (λ (l : Bytes). take (length (bytes_at bs p)) (drop (512 * p + 16) l)) (front_is N store h used t X)
    ∙ same-front (joined fields_of (front bs)) _ _ (512 * p + 16) (length (bytes_at bs p)) (omega (arith, fr_size N store h used t X))
    ∙ ap (λ (l : Bytes). take (length (bytes_at bs p)) (drop (512 * p + 16) l)) (sym (bare_is N store h used t X) ∙ sym B.bytes)
    ∙ store-place bs p B.fit

pub taken-held : (store : Bytes) → first_of (store_conditions store) ≡ none → (p : ℕ) → p < used_of store
    → take (length (bytes_at (store_blocks store) p)) (drop (512 * p + 16) store) ≡ bytes_at (store_blocks store) p
taken-held store e p low =
    let X = taken_tailed store e in
    subst (λ (l : Bytes). take (length (bytes_at (blocks_of (block_count store) l) p)) (drop (512 * p + 16) store) ≡ bytes_at (blocks_of (block_count store) l) p)
    (sym (bare-held (block_count store) store (store_history store) (used_of store) (tail_of store) X))
    (block_held (block_count store) store (store_history store) (used_of store) (tail_of store) X p low)

-- THE STATEMENT for the store: what stands at the place of sheet i of tree R, whatever number v goes with it
pub heard-block : (N : ℕ) (store copy : Bytes) (h : History) (used t R i v : ℕ) (x : Bytes) → Tailed N store h used t → R ≤ last h → sheet h R i ≡ some x
    → heard store copy (block_place store (block_used store R i) v) ≡ bytes x v
heard-block N store copy h used t R i v x X le e =
    let bare : Bytes = X.bare in
    let B = holds-blocks N bare h X.stored.holds in
    let bs : List Block = blocks_of N bare in
    let p : ℕ = get_or (get_or (tables_of bs) R []) i 0 in
    let low : p < used = subst (λ (ts : List Table). get_or (get_or ts R []) i 0 < used) (tables_used bs h B.lays) (subst (λ (n : ℕ). get_or (get_or (tables_of (front bs)) R []) i 0 < n) X.stored.uses (user_below bs h B.lays R i)) in
    let seen : store_blocks store ≡ bs = ap₂ blocks_of (count_held N store h used t X) (bare-held N store h used t X) in
    ap (λ (y : List Block). heard store copy (in_store (512 * get_or (get_or (tables_of y) R []) i 0 + 16) (length (bytes_at y (get_or (get_or (tables_of y) R []) i 0))) v)) seen
    ∙ ap (λ (y : Bytes). bytes y v) (block_held N store h used t X p low ∙ used-bytes bs h R i x B.lays le e)

-- ---- in the working copy

pub heard-own : (store copy : Bytes) (k : ℕ) (es : List Entry) (i : ℕ) (x : Bytes) → HoldsCopy copy k es → i ≤ 31 → own_bytes (get_or es i empty) ≡ some x
    → heard store copy (in_copy (512 * (1 + i) + 16) (length x)) ≡ bytes x 0
unfolding HoldsCopy
heard-own store copy k es i x H le e =
    let ps : List CopyBlock = seat_block k ∷ map entry_block es in
    let s : 1 + i ≡ suc i = omega arith in
    let n : suc i < length ps = (let m = length-map es entry_block in omega (arith, m, H.0)) in
    let g : get_or (map entry_block es) i (entry_block empty) ≡ entry_block (get_or es i empty) = get_or-map entry_block es i empty in
    let q = part_from copy_fields ps (suc i) (entry_block empty) n in
    let f : FitsCopyBlock (entry_block (get_or es i empty)) = subst FitsCopyBlock g (All-get_or FitsCopyBlock (map entry_block es) i (entry_block empty) H.2 tt) in
    ap (λ (m : ℕ). bytes (take (length x) (drop (512 * m + 16) copy)) 0) s
    ∙ ap (λ (l : Bytes). bytes (take (length x) (drop (512 * suc i + 16) l)) 0) (sym H.3)
    ∙ ap (λ (l : Bytes). bytes (take (length x) l) 0) q.1
    ∙ ap (λ (r : CopyBlock). bytes (take (length x) (drop 16 (encode copy_fields r) ++ q.0)) 0) g
    ∙ ap (λ (y : Bytes). bytes y 0) (piece_body (get_or es i empty) x e f q.0)
