-- A commit cut at any write: the rule of Cut, proved.
-- Assumes nothing.
use Prim.Native.Nat.{◌*◌, ◌+◌, ◌-◌, ◌<◌, ◌^◌, ◌≤◌, suc, ℕ}
use mathlib.Core.Bool.{Bool, cond, false, true}
use mathlib.Core.List.{List, [], ◌++◌, ◌∷◌, append_assoc, append-nil, map}
use mathlib.Core.Logic.{inl, inr}
use mathlib.Core.Option.{Option, none, some}
use mathlib.Core.Path.{◌∙◌, ◌≡◌, ap, ap₂, refl, subst, sym}
use native.Mathlib.Omega.{arith}
use borrow.Author.Tests.{le-leb, lt-leb}
use lib.ListN.{drop, get_or, length, length-append, length-map, take, take-append-drop}
use lib.Seq.{drop-append-add, get_or_at, length-take-le, take_at, take-length, take-suc}
use Rattle.block.proofs.Says.{eq_or, lt_or_ge}
use Rattle.block.proofs.Writing.{length-written, written_at, written_both, written_none}
use Rattle.block.specs.Buffer.{block_at, with_block}
use Rattle.block.specs.Check.{is_zero, sealed}
use Rattle.block.specs.Lists.{All}
use Rattle.block.specs.Write.{written}
use Rattle.model.specs.Blocks.{Block, FitsBlock, blank, commit, content, fields_of}
use Rattle.model.specs.Calls.{Out, both_conditions, call, change_by, change_call, commit_call, commit_cut_call, commit_writes, out, refusal_of, side_in, stopped_by, store_conditions, written_from}
use Rattle.model.specs.Codec.{encode, joined}
use Rattle.model.specs.Cut.{CutCommit, FoundCommit, FoundCommitting, Writes, Written, commit_after, commit_block_at, commit_place, write_count}
use Rattle.model.specs.History.{Bytes, Commit, History, last}
use Rattle.model.specs.Invariant.{Made}
use Rattle.model.specs.Machine.{Answer, Commits, CommitsCut, Side, blocks_for, doing, new_commit, refused, stopped}
use Rattle.model.specs.Pass.{log_all, tables_of}
use Rattle.model.specs.Refusals.{Clear, conditions, first_of, tail_conditions}
use Rattle.model.specs.Log.{marks}
use Rattle.model.specs.Run.{own_conditions, side_by, side_step}
use Rattle.model.specs.Shows.{Accepted, Seen}
use Rattle.model.specs.Store.{bare_of, blanks, block_count, blocks_of, front, store_blocks, store_history, used_of}
use Rattle.model.specs.Tail.{Junk, Stored, Tailed}
use Rattle.model.specs.Writing.{new_blocks, new_contents, new_lines, with_commit}
use Rattle.laws.proofs.Accepted.{accepted-call, accepted-kept, accepted_seen, clear-accepted, others-accepted, seats}
use Rattle.laws.proofs.All.{all_right}
use Rattle.laws.proofs.Codec.{length-encode}
use Rattle.laws.proofs.Conditions.{clear, clear_first, none-holds, sized_so}
use Rattle.laws.proofs.Cuts.{label-used, restored, same-seats}
use Rattle.laws.proofs.Cutting.{block_written, content-count, cut_bare, cut_junk, cut_stored, few-contents, junk-bare, next, write_count_lem}
use Rattle.laws.proofs.Invariant.{Committable, KeptSide, committable, made-commit}
use Rattle.laws.proofs.Steps.{count_is, none-there, part_is, stored_now, writes_are}
use Rattle.laws.proofs.Store.{bare-held, clear-held, history-held, log-held, log-stored, stored_tailed, tailed_none}
use Rattle.laws.proofs.Parts.{joined-append}
use Rattle.laws.proofs.Tailing.{filled-tail}
use Rattle.laws.proofs.Tails.{seals, zero-block}
use Rattle.laws.proofs.Untailing.{filled_zero}
use Rattle.laws.proofs.WorkCopy.{length-joined}
use Rattle.laws.proofs.Writing.{Blocks, front-blanks, holds-blocks, written-fits}

-- block p of bytes in which it was put
pub block_of : (l : List ℕ) (p : ℕ) (b : List ℕ) → length b ≡ 512 → 512 * p ≤ length l → block_at (with_block l p b) p ≡ b
block_of l p b n g =
    let a : length (take (512 * p) l) ≡ 512 * p = length-take-le (512 * p) l g in
    let e : 512 * p ≡ length (take (512 * p) l) + 0 = omega arith in
    ap (λ (k : ℕ). take 512 (drop k (take (512 * p) l ++ (b ++ drop (512 * p + 512) l)))) e
    ∙ ap (take 512) (drop-append-add (take (512 * p) l) (b ++ drop (512 * p + 512) l) 0) ∙ take_at b (drop (512 * p + 512) l) 512 n

-- a run of blocks, one block at a time
module _ (store : Bytes) (u N : ℕ) (ws : List Block) (size : length store ≡ 512 * N) where
  abbrev wrote : ℕ → Bytes
  wrote n = written (512 * u) (joined fields_of (take n ws)) store

  wrote_size : (n : ℕ) → length (wrote n) ≡ 512 * N
  wrote_size n = length-written (512 * u) (joined fields_of (take n ws)) store ∙ size

  step-put : (n : ℕ) → n < length ws → u + n < N → wrote (suc n) ≡ with_block (wrote n) (u + n) (encode fields_of (get_or ws n blank))
  step-put n g r =
      let b : Block = get_or ws n blank in
      let J = joined fields_of (take n ws) in
      let k : 512 * u + length J ≡ 512 * (u + n) = omega (arith, length-joined fields_of (take n ws), length-take-le n ws (let z : n ≤ length ws = omega arith in z)) in
      ap (λ (x : List ℕ). written (512 * u) x store) (ap (joined fields_of) (take-suc ws n blank g) ∙ joined-append fields_of (take n ws) (b ∷ []) ∙ ap (λ (x : List ℕ). J ++ x) (append-nil (encode fields_of b)))
      ∙ written_both (512 * u) J (encode fields_of b) store ∙ ap (λ (x : ℕ). written x (encode fields_of b) (wrote n)) k
      ∙ sym (block_written (wrote n) (u + n) (encode fields_of b) (length-encode fields_of b) (omega (arith, wrote_size n)))

  step_block : (n : ℕ) → n < length ws → u + n < N → block_at (wrote (suc n)) (u + n) ≡ encode fields_of (get_or ws n blank)
  step_block n g r =
      ap (λ (x : Bytes). block_at x (u + n)) (step-put n g r) ∙ block_of (wrote n) (u + n) (encode fields_of (get_or ws n blank)) (length-encode fields_of (get_or ws n blank)) (omega (arith, wrote_size n))

  step-one : (n : ℕ) → n < length ws → u + n < N → wrote (suc n) ≡ with_block (wrote n) (u + n) (block_at (wrote (suc n)) (u + n))
  step-one n g r = step-put n g r ∙ ap (with_block (wrote n) (u + n)) (sym (step_block n g r))

pub longer : {A : Type 0} (l : List A) (x : A) → l ≡ l ++ (x ∷ []) → ⊥
longer l x e = omega (arith, ap length e, length-append l (x ∷ []))

module _ (store copy : Bytes) (stamp mask : ℕ) (ty : stamp < 2 ^ 32) (C : Clear (both_conditions store copy (Commits stamp mask))) where
  abbrev d : Side
  d = side_in store copy

  abbrev N : ℕ
  N = block_count store

  abbrev h : History
  h = store_history store

  abbrev u : ℕ
  u = used_of store

  abbrev c : Commit
  c = new_commit d stamp mask

  A : Accepted store copy
  A = (clear-accepted store copy (Commits stamp mask) C).0

  lines : first_of (conditions d (Commits stamp mask)) ≡ none
  lines = none-holds (conditions d (Commits stamp mask)) (clear-accepted store copy (Commits stamp mask) C).2

  own : first_of (own_conditions d (Commits stamp mask)) ≡ none
  own = clear_first (tail_conditions d (Commits stamp mask)) (conditions d (Commits stamp mask)) (clear-accepted store copy (Commits stamp mask) C).1 ∙ lines

  E : Seen N store copy d
  E = accepted_seen store copy A

  K : KeptSide d
  K = accepted-kept store copy A

  abbrev lo : 1 ≤ d.seat
  lo = (seats store copy A).0

  abbrev hi : d.seat ≤ 4
  hi = (seats store copy A).1

  sized : (length store ≡ N * 512) × (2 ≤ N) × (N ≤ 4_096)
  sized = sized_so store (clear (store_conditions store) A.store_taken).0

  S : Stored N store h u
  S = stored_now N store copy d E K lo hi (none-there N store copy d E K lo hi stamp mask 0 ty own)

  abbrev ws : List Block
  ws = new_blocks (front (blocks_of N store)) (blanks (blocks_of N store)) c []

  count : write_count store copy stamp mask ≡ blocks_for h c.changes
  count = count_is N store copy d E K lo hi stamp mask 0 ty own

  short : last h < 65_535
  short = omega (arith, K.used, K.room, sized.2)

  C' : Committable d stamp mask
  C' = committable d stamp mask lines lo hi ty

  M : Made h c
  M = made-commit d stamp mask K C'

  room : u + blocks_for h c.changes ≤ N
  room = omega (arith, C'.room)

  abbrev k : ℕ
  k = length (new_contents (front (blocks_of N store)) (blanks (blocks_of N store)) c)

  -- k + 1 writes
  ws_size : length ws ≡ suc k
  ws_size = write_count_lem N store h u c sized.2 short S M room ∙ omega (arith, content-count N store h u c sized.2 short S M room)

  writes-size : write_count store copy stamp mask ≡ suc k
  writes-size = count ∙ omega (arith, content-count N store h u c sized.2 short S M room)

  few-writes : write_count store copy stamp mask ≤ 33
  few-writes = omega (arith, count, few-contents h c.changes, M.wide)

  fits_all : u + suc k ≤ N
  fits_all = omega (arith, room, content-count N store h u c sized.2 short S M room)

  store-size : length store ≡ 512 * N
  store-size = omega (arith, sized.0)

  -- the calls with n
  cut_is : (n : ℕ) → commit_cut_call store copy stamp mask n ≡ stopped_by none store copy stamp mask n
  unfolding commit_cut_call refusal_of
  cut_is n = ap (λ (o : Option ℕ). stopped_by o store copy stamp mask n) (none-holds (both_conditions store copy (CommitsCut stamp mask n)) C)

  full_is : commit_call store copy stamp mask ≡ change_by none store copy (Commits stamp mask)
  unfolding change_call refusal_of
  full_is = ap (λ (o : Option ℕ). change_by o store copy (Commits stamp mask)) (none-holds (both_conditions store copy (Commits stamp mask)) C)

  part_cut : (n : ℕ) → n < write_count store copy stamp mask → commit_cut_call store copy stamp mask n ≡ out stopped (wrote store u N ws store-size n) copy
  part_cut n g =
      cut_is n
      ∙ ap (λ (b : Bool). cond b (change_by none store copy (Commits stamp mask)) (out stopped (written_from store (take n (commit_writes store copy stamp mask))) copy)) (lt-leb (write_count store copy stamp mask) n g)
      ∙ ap (λ (l : Bytes). out stopped l copy) (part_is N store copy d E K lo hi stamp mask n ty own)

  usual : (n : ℕ) → write_count store copy stamp mask ≤ n → commit_cut_call store copy stamp mask n ≡ commit_call store copy stamp mask
  usual n g =
      cut_is n
      ∙ ap (λ (b : Bool). cond b (change_by none store copy (Commits stamp mask)) (out stopped (written_from store (take n (commit_writes store copy stamp mask))) copy)) (le-leb (write_count store copy stamp mask) n g)
      ∙ sym full_is

  stops : (n : ℕ) → n < write_count store copy stamp mask → commit_cut_call store copy stamp mask n ≡ out stopped (commit_after store copy stamp mask n) copy
  stops n g = part_cut n g ∙ ap (λ (l : Bytes). out stopped l copy) (sym (ap (λ (o : Out). o.store) (part_cut n g)))

  -- the finished store is all the blocks written
  B : Blocks N store h (blocks_of N store)
  B = holds-blocks N store h S.holds

  done_is : (commit_call store copy stamp mask).store ≡ wrote store u N ws store-size (suc k)
  done_is =
      let bs = blocks_of N store in
      let fr = front bs in
      let bl = blanks bs in
      let rest = drop (suc k) bl in
      let R = length (tables_of fr) in
      let one : Block = commit R c.seat c.stamp (new_lines fr bl c) in
      let cs = new_contents fr bl c in
      let l : length fr + length bl ≡ N = sym (length-append fr bl) ∙ ap length (front-blanks bs) ∙ B.count in
      let n : length (take (suc k) bl) ≡ suc k = length-take-le (suc k) bl (omega (arith, l, S.uses, fits_all)) in
      let was : store ≡ joined fields_of fr ++ (joined fields_of (take (suc k) bl) ++ joined fields_of rest) =
      sym B.bytes ∙ ap (joined fields_of) (sym (front-blanks bs) ∙ ap (λ (x : List Block). fr ++ x) (sym (take-append-drop (suc k) bl))) ∙ joined-append fields_of fr (take (suc k) bl ++ rest)
      ∙ ap (λ (x : List ℕ). joined fields_of fr ++ x) (joined-append fields_of (take (suc k) bl) rest) in
      let whole : take (suc k) ws ≡ ws = ap (λ (x : ℕ). take x ws) (sym ws_size) ∙ take-length ws in
      let seen : store_blocks store ≡ bs = ap (blocks_of N) (bare_now ∙ refl) in
      ap (λ (o : Out). o.store) full_is ∙ ap (λ (x : List Block). joined fields_of (with_commit x c)) seen
      ∙ joined-append fields_of fr (map (content R) cs ++ (one ∷ rest))
      ∙ ap (λ (x : List ℕ). joined fields_of fr ++ x) (ap (joined fields_of) (sym (append_assoc (map (content R) cs) (one ∷ []) rest)) ∙ joined-append fields_of ws rest)
      ∙ sym (ap₂ (λ (x : List Block) (y : Bytes). written (512 * u) (joined fields_of x) y) whole was
      ∙ written_at (512 * u) (joined fields_of fr) (joined fields_of (take (suc k) bl)) (joined fields_of ws) (joined fields_of rest) (omega (arith, length-joined fields_of fr, S.uses))
      (omega (arith, length-joined fields_of (take (suc k) bl), length-joined fields_of ws, n, ws_size)))
    where
      bare_now : bare_of store ≡ store
      bare_now = bare-held N store h u 0 (stored_tailed N store h u S) ∙ tailed_none N store h u (stored_tailed N store h u S)

  after_is : (n : ℕ) → n ≤ suc k → commit_after store copy stamp mask n ≡ wrote store u N ws store-size n
  after_is n g =
      elim (lt_or_ge n (write_count store copy stamp mask)) [
        | inl o ↦ ap (λ (o : Out). o.store) (part_cut n o)
        | inr o ↦
            let e : suc k ≡ n = omega (arith, writes-size) in
            ap (λ (o : Out). o.store) (usual n o) ∙ done_is ∙ ap (wrote store u N ws store-size) e
      ]

  order : Writes store (commit_after store copy stamp mask) (write_count store copy stamp mask) (commit_place store copy stamp mask)
  order = record {
    starts = after_is 0 (omega arith) ∙ written_none (512 * u) store;
    each = λ n g.
        let a = after_is n (omega (arith, writes-size)) in
        let b = after_is (suc n) (omega (arith, writes-size)) in
        b ∙ step-one store u N ws store-size n (omega (arith, writes-size, ws_size)) (omega (arith, writes-size, fits_all)) ∙ sym (ap₂ (λ (x y : Bytes). with_block x (u + n) (block_at y (u + n))) a b);
    past = λ n g. omega arith;
    inside = λ n g. omega (arith, writes-size, fits_all);
    label = label-used N store h u S;
  }

  -- the commit block of the finished store
  abbrev the_block : Block
  the_block = commit (length (tables_of (front (blocks_of N store)))) c.seat c.stamp (new_lines (front (blocks_of N store)) (blanks (blocks_of N store)) c)

  place : commit_place store copy stamp mask (write_count store copy stamp mask - 1) ≡ u + k
  place = omega (arith, writes-size)

  new_block : commit_block_at store copy stamp mask (commit_call store copy stamp mask).store ≡ encode fields_of the_block
  new_block =
      let R = length (tables_of (front (blocks_of N store))) in
      let cs = new_contents (front (blocks_of N store)) (blanks (blocks_of N store)) c in
      let n : length (map (content R) cs) ≡ k = length-map cs (content R) in
      ap₂ (λ (p : ℕ) (l : Bytes). block_at l p) place done_is
      ∙ step_block store u N ws store-size k (omega (arith, ws_size)) (omega (arith, fits_all))
      ∙ ap (encode fields_of) (get_or_at (map (content R) cs) the_block [] blank k n)

  block-fits : FitsBlock the_block
  block-fits =
      let bs = blocks_of N store in
      let R = length (tables_of (front bs)) in
      let cs = new_contents (front bs) (blanks bs) c in
      let rest = the_block ∷ drop (suc k) (blanks bs) in
      let w : All FitsBlock (front bs ++ (map (content R) cs ++ rest)) =
      written-fits bs h c (omega (arith, B.count, sized.2)) B.fit B.lays M short (omega (arith, B.count, S.uses, room)) in
      (all_right FitsBlock (map (content R) cs) rest (all_right FitsBlock (front bs) (map (content R) cs ++ rest) w)).0

  -- a store found that has no new commit block
  abbrev Old : Bytes → Type 0
  Old f = commit_block_at store copy stamp mask f ≡ encode fields_of the_block → ⊥

  old_found : (f : Bytes) (m : ℕ) (Y : Tailed N f h u m) → Y.bare ≡ store → Old f → FoundCommit store copy stamp mask f
  old_found f m Y b o =
      let e = history-held N f h u m Y in
      let cl = clear-held N f h u m Y sized.1 sized.2 in
      record {
        accepted = none-holds (store_conditions f) cl;
        history = inl e;
        marks = ap marks (log-held N f h u m Y ∙ ap (λ (l : Bytes). log_all (blocks_of N l)) b ∙ sym (log-stored N store h u S));
        exactly = ((λ q. absurd (longer h c (sym e ∙ q))), (λ q. absurd (o (q ∙ new_block))));
        seats = λ other D. same-seats store f (none-holds (store_conditions f) cl) e other D;
        restored = λ n g s. restored n f g cl s;
        back = λ q. bare-held N f h u m Y ∙ b;
        whole = λ q. absurd (longer h c (sym e ∙ q));
      }

  -- short of the commit block its place is all zero
  zero-there : (f : Bytes) (m : ℕ) → Tailed N f h u m → m ≤ k → Old f
  zero-there f m Y g q =
      let z : is_zero (block_at f (u + k)) ≡ true = filled_zero N f (u + k) (omega (arith, filled-tail N f h u m Y)) (omega (arith, fits_all)) in
      let w : is_zero (block_at f (u + k)) ≡ false = ap (λ (p : ℕ). is_zero (block_at f p)) (sym place) ∙ ap is_zero q ∙ zero-block the_block in
      let y : true ≡ false = sym z ∙ w in
      let x : ◌≡◌ {A = ℕ} 0 1 = cc in
      omega arith

  whole-found : FoundCommit store copy stamp mask (commit_call store copy stamp mask).store
  whole-found =
      let f : Bytes = (commit_call store copy stamp mask).store in
      let r = accepted-call store copy A (Commits stamp mask) ty in
      let s : side_step d (Commits stamp mask) ≡ doing d (Commits stamp mask) = ap (λ (o : Option ℕ). side_by o d (Commits stamp mask)) own in
      let T : Seen N f (call store copy (Commits stamp mask)).copy (doing d (Commits stamp mask)).1 =
      subst (λ (x : Answer × Side). Seen N f (call store copy (Commits stamp mask)).copy x.1) s r.1 in
      let Y = T.stored in
      let e = history-held N f (h ++ (c ∷ [])) (d.used + blocks_for h c.changes) d.tail Y in
      let cl = clear-held N f (h ++ (c ∷ [])) (d.used + blocks_for h c.changes) d.tail Y sized.1 sized.2 in
      record {
        accepted = none-holds (store_conditions f) cl;
        history = inr e;
        marks = T.marked;
        exactly = ((λ q. refl), (λ q. e));
        seats = λ other D. others-accepted store copy other A D (Commits stamp mask) ty;
        restored = λ n g s. restored n f g cl s;
        back = λ q. absurd (longer h c (sym q ∙ e));
        whole = λ q. refl;
      }

  found : (f : Bytes) → FoundCommitting store copy stamp mask f → FoundCommit store copy stamp mask f
  found f F =
      let n = F.0 in
      let l : n ≤ k = omega (arith, writes-size, F.1) in
      elim F.2 [
        | inl e ↦ written-some n l (e ∙ after_is n (omega arith))
        | inr s ↦ elim s [
          | inl e ↦ elim (eq_or n k) [
            | inl q ↦
                let w : suc k ≡ suc n = omega arith in
                subst (FoundCommit store copy stamp mask) (sym (e ∙ after_is (suc n) (omega arith) ∙ ap (wrote store u N ws store-size) (sym w) ∙ sym done_is)) whole-found
            | inr o ↦ written-some (suc n) (omega arith) (e ∙ after_is (suc n) (omega arith))
          ]
          | inr j ↦ junk-some n l j.0 j.1 (j.2 ∙ ap (λ (x : Bytes). with_block x (u + n) j.0) (after_is n (omega arith)))
        ]
      ]
    where
      written-some : (m : ℕ) → m ≤ k → {f : Bytes} → f ≡ wrote store u N ws store-size m → FoundCommit store copy stamp mask f
      written-some m g {f} e =
          let Y = cut_stored N store h u c sized.2 short S M room m g in
          subst (FoundCommit store copy stamp mask) (sym e)
          (old_found (wrote store u N ws store-size m) m Y (cut_bare N store h u c sized.2 short S M room m g) (zero-there (wrote store u N ws store-size m) m Y g))

      junk-some : (m : ℕ) → m ≤ k → (b : Bytes) → Junk b → {f : Bytes} → f ≡ with_block (wrote store u N ws store-size m) (u + m) b → FoundCommit store copy stamp mask f
      junk-some m g b J {f} e =
          let l : Bytes = with_block (wrote store u N ws store-size m) (u + m) b in
          let Y = cut_junk N store h u c sized.2 short S M room m g b J in
          subst (FoundCommit store copy stamp mask) (sym e)
          (old_found l (suc m) Y (junk-bare N store h u c sized.2 short S M room m g b J) (elim (eq_or m k) [
            | inl q ↦ (λ w.
                let p : u + k ≡ u + m = omega arith in
                let there : block_at l (u + m) ≡ b = block_of (wrote store u N ws store-size m) (u + m) b J.size (omega (arith, wrote_size store u N ws store-size m, fits_all)) in
                let y : true ≡ false = sym (seals the_block block-fits) ∙ ap sealed (sym w) ∙ ap (λ (x : ℕ). sealed (block_at l x)) (place ∙ p) ∙ ap sealed there ∙ J.wrong in
                let x : ◌≡◌ {A = ℕ} 0 1 = cc in
                omega arith)
            | inr o ↦ zero-there l (suc m) Y (omega arith)
          ]))

  -- the content blocks, then the commit block
  writes : Written store copy stamp mask
  writes =
      let bs = blocks_of N store in
      record {
        contents = new_contents (front bs) (blanks bs) c;
        lines = new_lines (front bs) (blanks bs) c;
        blocks =
            writes_are N store copy d E K lo hi stamp mask 0 ty own
            ∙ ap (λ (r : ℕ). map (content r) (new_contents (front bs) (blanks bs) c) ++ (commit r c.seat stamp (new_lines (front bs) (blanks bs) c) ∷ [])) (next N store h u c sized.2 short S M room);
        after = λ n g. after_is n (omega (arith, writes-size)) ∙ sym (part_is N store copy d E K lo hi stamp mask n ty own);
      }

  pub cut_commit : CutCommit store copy stamp mask
  cut_commit = record { writes = writes; order = order; stops = stops; usual = usual; found = found }

-- 33 writes are enough for a commit
pub whole-commit : (store copy : Bytes) (stamp mask : ℕ) → stamp < 2 ^ 32 → commit_cut_call store copy stamp mask 33 ≡ commit_call store copy stamp mask
unfolding change_call commit_cut_call refusal_of
whole-commit store copy stamp mask ty = go (refusal_of store copy (Commits stamp mask)) refl
  where
    go : (o : Option ℕ) → refusal_of store copy (Commits stamp mask) ≡ o → commit_cut_call store copy stamp mask 33 ≡ commit_call store copy stamp mask
    go (some r) e = ap (λ (o : Option ℕ). stopped_by o store copy stamp mask 33) e ∙ sym (ap (λ (o : Option ℕ). change_by o store copy (Commits stamp mask)) e)
    go none e = let C = clear (both_conditions store copy (Commits stamp mask)) e in usual store copy stamp mask ty C 33 (few-writes store copy stamp mask ty C)

-- where a commit is refused, it is whatever n is
pub refuses : (store copy : Bytes) (stamp mask n r : ℕ) → (commit_call store copy stamp mask).says ≡ refused r → commit_cut_call store copy stamp mask n ≡ out (refused r) store copy
unfolding change_call commit_cut_call refusal_of
refuses store copy stamp mask n r e = go (refusal_of store copy (Commits stamp mask)) e
  where
    go : (o : Option ℕ) → (change_by o store copy (Commits stamp mask)).says ≡ refused r → stopped_by o store copy stamp mask n ≡ out (refused r) store copy
    go (some m) e = ap (λ (a : Answer). out a store copy) e
    go none e = let z : ◌≡◌ {A = ℕ} 0 1 = cc in absurd (omega arith)
