-- Where the tail of an accepted store stands: none of its blocks is all zero, and those after it are.
-- Assumes nothing.
use Prim.Native.Nat.{◌*◌, ◌+◌, ◌-◌, ◌/◌, ◌<◌, ◌≤◌, suc, zero, ℕ}
use mathlib.Core.Bool.{Bool, false, not, true}
use mathlib.Core.List.{List, [], ◌++◌, ◌∷◌, append_assoc, append-nil, map}
use mathlib.Core.Logic.{inl, inr}
use mathlib.Core.Path.{◌∙◌, ◌≡◌, ap, refl, subst, sym}
use native.Mathlib.Omega.{arith}
use borrow.Author.Tests.{eq-eqb, ne_eqb}
use lib.Dec.{eqb}
use lib.ListN.{drop, get_or, length, length-append, length-drop, length-map, replicate, take}
use lib.Seq.{drop-drop, take_at}
use Rattle.std.specs.List.{prefix_len}
use Rattle.block.proofs.Says.{eq_or, lt_or_ge}
use Rattle.block.specs.Buffer.{block_at}
use Rattle.block.specs.Check.{is_zero}
use Rattle.block.specs.Lists.{All}
use Rattle.model.specs.Blocks.{Block, blank, content, fields_of}
use Rattle.model.specs.Codec.{joined, parts}
use Rattle.model.specs.History.{Bytes, History, last}
use Rattle.model.specs.Pass.{is_blank}
use Rattle.model.specs.Store.{bare_in, bare_of, blank_from, block_count, blocks_of, front, store_history, tail_of}
use Rattle.model.specs.Tail.{Junk, Tailed, flat}
use Rattle.laws.proofs.Store.{taken_tailed, used-stem}
use Rattle.laws.proofs.Tailing.{filled-tail, flat-size, fr_size, front_is, length-store}
use Rattle.laws.proofs.Tails.{block-after, block-before, junk-there, zero-block}
use Rattle.laws.proofs.Untailing.{filled_zero}
use Rattle.laws.proofs.WorkCopy.{length-joined}
use Rattle.tails.specs.Taken.{Clearable, Taken}

content-there : (r : ℕ) (cs : List Bytes) (p : ℕ) → p < length cs → is_blank (get_or (map (content r) cs) p blank) ≡ false
content-there r [] p h = absurd (omega arith)
content-there r (c ∷ cs) zero h = refl
content-there r (c ∷ cs) (suc p) h = content-there r cs p (omega arith)

module _ (N : ℕ) (store : Bytes) (h : History) (used t : ℕ) (X : Tailed N store h used t) where
  abbrev fr : List ℕ
  fr = joined fields_of (front (blocks_of N X.bare))

  abbrev cs : List Block
  cs = map (content (suc (last h))) X.contents

  abbrev js : List Bytes
  js = X.junk

  abbrev zs : List ℕ
  zs = replicate (512 * (N - used - t)) 0

  fr_blocks : length fr ≡ used * 512
  fr_blocks = fr_size N store h used t X ∙ omega arith

  cs_blocks : length (joined fields_of cs) ≡ length X.contents * 512
  cs_blocks = length-joined fields_of cs ∙ ap (λ (k : ℕ). k * 512) (length-map X.contents (content (suc (last h))))

  junk-first : (ks : List Bytes) → length ks ≡ 1 → All Junk ks → is_zero (block_at (flat ks ++ zs) 0) ≡ false
  junk-first [] e a = absurd (omega arith)
  junk-first (k ∷ []) e a =
      ap (λ (x : List ℕ). is_zero (take 512 (x ++ zs))) (append-nil k) ∙ ap is_zero (take_at k zs 512 a.0.size) ∙ junk-there k a.0
  junk-first (k ∷ (l ∷ ks)) e a = absurd (omega arith)

  pub tail-there : (p : ℕ) → p < t → is_zero (block_at store (used + p)) ≡ false
  tail-there p g =
      ap (λ (l : List ℕ). is_zero (block_at l (used + p))) (front_is N store h used t X)
      ∙ ap is_zero (block-after fr (joined fields_of cs ++ (flat js ++ zs)) used p fr_blocks)
      ∙ elim (lt_or_ge p (length X.contents)) [
        | inl o ↦
            ap is_zero (block-before cs (flat js ++ zs) p (omega (arith, length-map X.contents (content (suc (last h))))))
            ∙ zero-block (get_or cs p blank) ∙ content-there (suc (last h)) X.contents p o
        | inr o ↦
            let e : p ≡ length X.contents + 0 = omega (arith, X.size, X.tail.one) in
            ap (λ (k : ℕ). is_zero (block_at (joined fields_of cs ++ (flat js ++ zs)) k)) e
            ∙ ap is_zero (block-after (joined fields_of cs) (flat js ++ zs) (length X.contents) 0 cs_blocks)
            ∙ junk-first js (omega (arith, X.size, X.tail.one)) X.tail.junk
      ]

  pub tail_past : (p : ℕ) → t ≤ p → used + p < N → is_zero (block_at store (used + p)) ≡ true
  tail_past p g k = filled_zero N store (used + p) (omega (arith, filled-tail N store h used t X)) k

  -- zeros from the end of the tail on change nothing
  pub blank_past : blank_from (used + t) store ≡ store
  unfolding blank_from
  blank_past =
      let A = fr ++ (joined fields_of cs ++ flat js) in
      let s : store ≡ A ++ zs =
      front_is N store h used t X ∙ sym (append_assoc fr (joined fields_of cs ++ flat js) zs ∙ ap (λ (x : List ℕ). fr ++ x) (append_assoc (joined fields_of cs) (flat js) zs)) in
      let n : length A ≡ 512 * (used + t) =
      omega (arith, length-append fr (joined fields_of cs ++ flat js), length-append (joined fields_of cs) (flat js), fr_blocks, cs_blocks, flat-size js X.tail.junk, X.size) in
      let z : length store - 512 * (used + t) ≡ 512 * (N - used - t) = omega (arith, length-store N store h used t X, X.room) in
      ap (λ (k : ℕ). take (512 * (used + t)) store ++ replicate {A = ℕ} k 0) z
      ∙ ap (λ (x : List ℕ). take (512 * (used + t)) x ++ zs) s ∙ ap (λ (x : List ℕ). x ++ zs) (take_at A zs (512 * (used + t)) n) ∙ sym s

-- ---- the parts from the first on that are not zero

counted : (n t : ℕ) (l : List ℕ) → t ≤ n → ((p : ℕ) → p < t → is_zero (block_at l p) ≡ false) → (t < n → is_zero (block_at l t) ≡ true)
    → prefix_len (λ b. not (is_zero b)) (parts n l) ≡ t
counted zero t l h f z = omega arith
counted (suc n) zero l h f z = rw (z (omega arith))
counted (suc n) (suc t) l h f z =
    let at : (p : ℕ) → block_at (drop 512 l) p ≡ block_at l (suc p) = λ p.
    let k : 512 + 512 * p ≡ 512 * suc p = omega arith in ap (take 512) (drop-drop (512 * p) 512 l) ∙ ap (λ (x : ℕ). take 512 (drop x l)) k in
    let rest = counted n t (drop 512 l) (omega arith) (λ p b. ap is_zero (at p) ∙ f (suc p) (omega arith)) (λ b. ap is_zero (at t) ∙ z (omega arith)) in
    rw (f 0 (omega arith)) (ap (λ (k : ℕ). 1 + k) rest ∙ omega arith)

-- ---- an accepted store

module _ (store : Bytes) (used : ℕ) (T : Taken store used) where
  X : Tailed (block_count store) store (store_history store) used (tail_of store)
  X = subst (λ (u : ℕ). Tailed (block_count store) store (store_history store) u (tail_of store)) (sym T.in_use) (taken_tailed store T.clear)

  pub tail_room : used + tail_of store ≤ block_count store
  tail_room = X.room

  stands : (p : ℕ) → p < tail_of store → is_zero (block_at store (used + p)) ≡ false
  stands p h = tail-there (block_count store) store (store_history store) used (tail_of store) X p h

  ends : used + tail_of store < block_count store → is_zero (block_at store (used + tail_of store)) ≡ true
  ends h = tail_past (block_count store) store (store_history store) used (tail_of store) X (tail_of store) (omega arith) h

  -- whether there is one
  pub tail_none : block_count store ≤ used → false ≡ not (eqb (tail_of store) 0)
  tail_none g = sym (rw (eq-eqb (tail_of store) 0 (omega (arith, tail_room))))

  pub tail_some : used < block_count store → {z : Bool} → z ≡ is_zero (block_at store used) → not z ≡ not (eqb (tail_of store) 0)
  tail_some g {z} e =
      elim (eq_or (tail_of store) 0) [
        | inl o ↦
            let k : used + tail_of store ≡ used = omega arith in
            rw (eq-eqb (tail_of store) 0 o) (ap not (e ∙ ap (λ (x : ℕ). is_zero (block_at store x)) (sym k) ∙ ends (omega arith)))
        | inr o ↦
            let k : used + 0 ≡ used = omega arith in
            rw (ne_eqb (tail_of store) 0 o) (ap not (e ∙ ap (λ (x : ℕ). is_zero (block_at store x)) (sym k) ∙ stands 0 (omega arith)))
      ]

  -- the blocks from block `used` on that are not zero
  pub tail_counted : (n : ℕ) → n ≡ length (drop (used * 512) store) / 512 → prefix_len (λ b. not (is_zero b)) (parts n (drop (used * 512) store)) ≡ tail_of store
  tail_counted n e =
      let rest = drop (used * 512) store in
      let at : (p : ℕ) → block_at rest p ≡ block_at store (used + p) = λ p.
      let k : used * 512 + 512 * p ≡ 512 * (used + p) = omega arith in
      ap (take 512) (drop-drop (512 * p) (used * 512) store) ∙ ap (λ (x : ℕ). take 512 (drop x store)) k in
      counted n (tail_of store) rest (omega (arith, tail_room, length-drop (used * 512) store))
      (λ p h. ap is_zero (at p) ∙ stands p h) (λ h. ap is_zero (at (tail_of store)) ∙ ends (omega (arith, length-drop (used * 512) store)))

  -- it can be cleared, and then the store is bare
  pub tail_clearable : Clearable store used (tail_of store)
  tail_clearable = record {
    room = omega (arith, tail_room);
    rest = blank_past (block_count store) store (store_history store) used (tail_of store) X;
  }

  pub cleared_bare : (n : ℕ) → n ≡ tail_of store → blank_from (used + (n - n)) store ≡ bare_of store
  unfolding bare_in
  cleared_bare n e =
      let k : used + (n - n) ≡ used = omega arith in
      ap (λ (x : ℕ). blank_from x store) (k ∙ T.in_use ∙ used-stem store T.clear)
