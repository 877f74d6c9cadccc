-- W1: what calls leave in a store. Its used blocks stay, the accepted commits and the releases stand behind them in their order and W1's, and from a fresh store the bytes follow from
-- its size and the history with its releases.
-- Assumes nothing.
use Prim.Native.Nat.{◌*◌, ◌+◌, ◌-◌, ◌<◌, ◌^◌, ◌≤◌, suc, ℕ}
use mathlib.Core.Bool.{Bool, ◌||◌, cond, false, true}
use mathlib.Core.List.{List, [], ◌++◌, ◌∷◌, append_assoc, append-nil, map}
use mathlib.Core.Option.{Option, none, some}
use mathlib.Core.Path.{◌∙◌, ◌≡◌, ap, ap₂, refl, subst, sym}
use native.Mathlib.Omega.{arith}
use borrow.Author.Tests.{le-ltb, leb-false}
use lib.Dec.{leb}
use lib.ListN.{drop, get_or, length, length-append, replicate, take}
use lib.Seq.{take_at}
use Rattle.block.specs.Lists.{All}
use Rattle.model.specs.Blocks.{Block, blank, commit, content, fields_of, mark}
use Rattle.model.specs.Calls.{Buffers, Created, after_turn, both_conditions, call, change_by, change_call, clear_call, clear_cut_call, cleared_by, commit_call, commit_cut_call, commit_writes, create_by, fresh_buffers, fresh_copy, fresh_store, mark_by, mark_call, out, refusal_of, release_call, run_on, side_in, stopped_by, store_conditions, store_refusal, store_side, store_with, written_from}
use Rattle.model.specs.Codec.{joined}
use Rattle.model.specs.Demand2.{LaidStore}
use Rattle.model.specs.History.{Bytes, Commit, History, last, namer, no_commit, sheet}
use Rattle.model.specs.Invariant.{Kept, Made, MadeMark}
use Rattle.model.specs.Layout.{Lays, Table}
use Rattle.model.specs.Log.{Log as TheLog, Mark, Marked, Placed, a_commit, a_mark, commits, marks, marks_from, released}
use Rattle.model.specs.Machine.{Add, Answer, Call, Clears, ClearsCut, Commits, CommitsCut, Copy, Delete, Edit, Log, Move, Panel, Read, Release, Revert, Show, Side, State, Status, Update, blocks_for, committing, done, fresh, new_commit, revision, side_of, stopped, with_tail}
use Rattle.model.specs.Order.{commit_blocks, contents_after, continued, filled, lines_after, log_blocks, store_bytes, takes}
use Rattle.model.specs.Ordered.{Appends, AppendsMark, Ordered, ReadAs}
use Rattle.model.specs.Pass.{grown, log_all, tables_after, tables_of}
use Rattle.model.specs.Refusals.{conditions, first_of, no_sheet, too_late}
use Rattle.model.specs.Run.{AllValid, Turn, Typed, Valid, accepted, accepted_log, asked, asked_mark, is_refused, is_revision, items_by, own_conditions, run, side_by, side_step, step}
use Rattle.model.specs.Shows.{Accepted, Seen, Shows, state_in}
use Rattle.model.specs.Store.{HoldsLog, bare_of, blank_from, blanks, block_count, blocks_of, front, store_blocks, store_history, store_log, tail_of, used_of}
use Rattle.model.specs.Tail.{Stored, Tailed}
use Rattle.model.specs.Writing.{new_contents, with_commit, with_mark}
use Rattle.laws.proofs.Acceptance.{lays_accepted}
use Rattle.laws.proofs.Accepted.{accepted-call, accepted-kept, accepted_seen, clear-accepted, seats}
use Rattle.laws.proofs.All.{all_drop}
use Rattle.laws.proofs.Answers.{read_side}
use Rattle.laws.proofs.Conditions.{clear, clear_split, none-holds, own-none, untailed_so}
use Rattle.laws.proofs.CutReleases.{release_laid}
use Rattle.laws.proofs.Cutting.{cleared_kin}
use Rattle.laws.proofs.Demand1.{fresh-accepted, release_lines_lem}
use Rattle.laws.proofs.Demand2.{demand_two}
use Rattle.laws.proofs.Demand3.{whole}
use Rattle.laws.proofs.Fresh.{fresh-front, fresh-log, fresh-shows, fresh-stored}
use Rattle.laws.proofs.Holding.{history-logged, log-holds, logged-accepted}
use Rattle.laws.proofs.Invariant.{Committable, KeptSide, committable, kept_fresh, kept_side, kept_step, made-commit}
use Rattle.laws.proofs.Lasting.{found, found-marks, log-commits, log-marks}
use Rattle.laws.proofs.Logs.{log_fixed, marked_new}
use Rattle.laws.proofs.Marking.{Releasable, blank-left, blocks-mark, front-mark, log-mark, stored-mark}
use Rattle.laws.proofs.Order.{laid_in_order, tables_after_lem, tables_mark, written_ordered}
use Rattle.laws.proofs.Parts.{joined-append}
use Rattle.laws.proofs.Replaying.{accepted-shows, accepted_state}
use Rattle.laws.proofs.Rows.{cond_same}
use Rattle.laws.proofs.Steps.{count_is, cut_kin, none-there, one-step, releasable, same-refusal, same_side, seen_seat, step_side, store_refusal_lem, stored_now}
use Rattle.laws.proofs.Store.{bare-held, bare-stored, count_held, history-held, stored_tailed, tail-held, tailed_none, tailed_stored, used-held}
use Rattle.laws.proofs.Tailing.{front_is}
use Rattle.laws.proofs.WorkCopy.{length-joined}
use Rattle.laws.proofs.Writing.{Blocks, blank-rest, front-blanks, holds-blocks, log-commit, stored-commit, tables_used, written_back, written-front}

-- ---- the bytes of a store with further commits and marks, by blocks

-- n blocks: the used ones, which lay out h, the commits and marks g, blank ones
abbrev further : ℕ → History → List Block → TheLog → List Block
further n h used g = used ++ filled (n - length used) (log_blocks h (tables_of used) (length used) g)

blanks_only : (bl : List Block) → All (λ (b : Block). b ≡ blank) bl → replicate (length bl) blank ≡ bl
blanks_only [] a = refl
blanks_only (b ∷ bl) a = ap₂ ◌∷◌ (sym a.0) (blanks_only bl a.1)

module _ (N : ℕ) (store : Bytes) (h : History) (used t : ℕ) (X : Tailed N store h used t) where
  abbrev bs : List Block
  bs = blocks_of N X.bare

  known : Blocks N X.bare h bs
  known = holds-blocks N X.bare h X.stored.holds

  same_blocks : store_blocks store ≡ bs
  same_blocks = ap₂ blocks_of (count_held N store h used t X) (bare-held N store h used t X)

  used-bytes : take (512 * length (front bs)) store ≡ joined fields_of (front bs)
  used-bytes =
      let n : length (joined fields_of (front bs)) ≡ 512 * length (front bs) = (let e = length-joined fields_of (front bs) in omega (arith, e)) in
      ap (take (512 * length (front bs))) (front_is N store h used t X) ∙ take_at (joined fields_of (front bs)) _ (512 * length (front bs)) n

  continued_is : (g : TheLog) → continued store g ≡ joined fields_of (further N h (front bs) g)
  unfolding continued
  continued_is g =
      let put : ℕ → History → List Block → List Table → Bytes =
      λ n k xs ts. take (512 * length (front xs)) store ++ joined fields_of (filled (n - length (front xs)) (log_blocks k ts (length (front xs)) g)) in
      let more : List Block = filled (N - length (front bs)) (log_blocks h (tables_of (front bs)) (length (front bs)) g) in
      ap₂ (λ (n : ℕ) (k : History). put n k (store_blocks store) (tables_of (store_blocks store))) (count_held N store h used t X) (history-held N store h used t X)
      ∙ ap (λ (xs : List Block). put N h xs (tables_of xs)) same_blocks
      ∙ ap (put N h bs) (sym (tables_used bs h known.lays))
      ∙ ap (λ (x : Bytes). x ++ joined fields_of more) used-bytes
      ∙ sym (joined-append fields_of (front bs) more)

  -- the used blocks stay
  continued-keeps : (g : TheLog) → take (512 * used_of store) (continued store g) ≡ take (512 * used_of store) store
  unfolding continued
  continued-keeps g =
      let first : Bytes = take (512 * used_of store) store in
      let more : List Block = filled (block_count store - used_of store) (log_blocks (store_history store) (tables_of (store_blocks store)) (used_of store) g) in
      let n : length (joined fields_of (front bs)) ≡ length (front bs) * 512 = length-joined fields_of (front bs) in
      let e : used_of store ≡ length (front bs) = ap (λ (xs : List Block). length (front xs)) same_blocks in
      let l : length first ≡ 512 * used_of store = ap (λ (m : ℕ). length (take (512 * m) store)) e ∙ ap length used-bytes ∙ omega (arith, n, e) in
      take_at first (joined fields_of more) (512 * used_of store) l

  -- with nothing added it is as it was, without its tail
  pub continued-none : continued store [] ≡ X.bare
  continued-none =
      let l : length (front bs) + length (blanks bs) ≡ N = sym (length-append (front bs) (blanks bs)) ∙ ap length (front-blanks bs) ∙ known.count in
      let n : N - length (front bs) - 0 ≡ length (blanks bs) = omega arith in
      continued_is []
      ∙ ap (λ (m : ℕ). joined fields_of (front bs ++ replicate m blank)) n
      ∙ ap (λ (bl : List Block). joined fields_of (front bs ++ bl)) (blanks_only (blanks bs) (blank-rest bs (lays_accepted bs h known.lays).0))
      ∙ ap (joined fields_of) (front-blanks bs)
      ∙ known.bytes

-- of a store without a tail
module _ (N : ℕ) (store : Bytes) (h : History) (used : ℕ) (S : Stored N store h used) where
  abbrev plain : Tailed N store h used 0
  plain = stored_tailed N store h used S

  untailed : plain.bare ≡ store
  untailed = tailed_none N store h used plain

  stored_is : (g : TheLog) → continued store g ≡ joined fields_of (further N h (front (blocks_of N store)) g)
  stored_is g = continued_is N store h used 0 plain g ∙ ap (λ (l : Bytes). joined fields_of (further N h (front (blocks_of N l)) g)) untailed

  stored-blocks : store_blocks store ≡ blocks_of N store
  stored-blocks = same_blocks N store h used 0 plain ∙ ap (blocks_of N) untailed

  stored-none : continued store [] ≡ store
  stored-none = continued-none N store h used 0 plain ∙ untailed

-- clearing: the tail is none of the used blocks
pub continued_cleared : (N : ℕ) (store : Bytes) (h : History) (used t : ℕ) (X : Tailed N store h used t) (g : TheLog) → continued (bare_of store) g ≡ continued store g
continued_cleared N store h used t X g =
    ap (λ (l : Bytes). continued l g) (bare-held N store h used t X) ∙ stored_is N X.bare h used X.stored g ∙ sym (continued_is N store h used t X g)

-- with another tail, what is added to a store is the same
continued_kin : (N : ℕ) (store other : Bytes) (h : History) (used t m : ℕ) (X : Tailed N store h used t) (Y : Tailed N other h used m) → Y.bare ≡ X.bare → (g : TheLog)
    → continued other g ≡ continued store g
continued_kin N store other h used t m X Y e g =
    continued_is N other h used m Y g
    ∙ ap (λ (l : Bytes). joined fields_of (further N h (front (blocks_of N l)) g)) e
    ∙ sym (continued_is N store h used t X g)

-- ---- one commit more

-- what stands behind a commit's blocks x is the same, whether they are counted among the used ones or not
further_on : (N : ℕ) (h : History) (c : Commit) (used : List Block) (g : TheLog)
    → tables_of (used ++ commit_blocks h (tables_of used) (length used) c) ≡ grown (tables_of used) (lines_after h (tables_of used) (length used) c)
    → further N (h ++ (c ∷ [])) (used ++ commit_blocks h (tables_of used) (length used) c) g ≡ further N h used (a_commit c ∷ g)
further_on N h c used g e =
    let x : List Block = commit_blocks h (tables_of used) (length used) c in
    let ts : List Table = grown (tables_of used) (lines_after h (tables_of used) (length used) c) in
    let y : List Block = log_blocks (h ++ (c ∷ [])) ts (length used + length x) g in
    let n : length (used ++ x) ≡ length used + length x = length-append used x in
    let m : N - (length used + length x) - length y ≡ N - length used - length (x ++ y) = omega (arith, length-append x y) in
    ap₂ (λ (k : ℕ) (us : List Table). (used ++ x) ++ filled (N - k) (log_blocks (h ++ (c ∷ [])) us k g)) n e
    ∙ ap (λ (k : ℕ). (used ++ x) ++ (y ++ replicate k blank)) m
    ∙ append_assoc used x (y ++ replicate (N - length used - length (x ++ y)) blank)
    ∙ ap (λ (l : List Block). used ++ l) (sym (append_assoc x y (replicate (N - length used - length (x ++ y)) blank)))

-- the same of a mark's block
further_mark : (N : ℕ) (h : History) (m : Mark) (used : List Block) (g : TheLog) → tables_of (used ++ (mark m ∷ [])) ≡ tables_of used
    → further N h (used ++ (mark m ∷ [])) g ≡ further N h used (a_mark m ∷ g)
further_mark N h m used g e =
    let y : List Block = log_blocks h (tables_of used) (suc (length used)) g in
    let n : length (used ++ (mark m ∷ [])) ≡ suc (length used) = length-append used (mark m ∷ []) ∙ omega arith in
    let k : N - suc (length used) - length y ≡ N - length used - suc (length y) = omega arith in
    ap₂ (λ (j : ℕ) (us : List Table). (used ++ (mark m ∷ [])) ++ filled (N - j) (log_blocks h us j g)) n e
    ∙ ap (λ (j : ℕ). (used ++ (mark m ∷ [])) ++ (y ++ replicate j blank)) k
    ∙ append_assoc used (mark m ∷ []) (y ++ replicate (N - length used - suc (length y)) blank)

module _ (N : ℕ) (store : Bytes) (h : History) (used : ℕ) (c : Commit) (many : N ≤ 4_096) (short : last h < 65_535) (S : Stored N store h used) (M : Made h c)
    (room : used + blocks_for h c.changes ≤ N)
  where
    abbrev old : List Block
    old = blocks_of N store

    abbrev store' : Bytes
    store' = joined fields_of (with_commit old c)

    was : Blocks N store h old
    was = holds-blocks N store h S.holds

    few : length old ≤ 4_096
    few = omega (arith, was.count)

    enough : length (front old) + blocks_for h c.changes ≤ length old
    enough = omega (arith, was.count, S.uses)

    stored : Stored N store' (h ++ (c ∷ [])) (used + blocks_for h c.changes)
    stored = stored-commit N store h used c many short S M room

    blocks_now : blocks_of N store' ≡ with_commit old c
    blocks_now = written_back old h c few was.fit was.lays M short enough N was.count

    -- what is read behind the used blocks
    abbrev rest : List Block
    rest = drop (suc (length (new_contents (front old) (blanks old) c))) (blanks old)

    blocks-behind : store_blocks store' ≡ front old ++ (commit_blocks h (tables_of (front old)) (length (front old)) c ++ rest)
    blocks-behind = stored-blocks N store' (h ++ (c ∷ [])) (used + blocks_for h c.changes) stored ∙ blocks_now ∙ ap (λ (l : List Block). front old ++ l) (written_ordered old h c was.lays M rest)

    blank-behind : All (λ (b : Block). b ≡ blank) rest
    blank-behind =
        all_drop (λ (b : Block). b ≡ blank) (suc (length (new_contents (front old) (blanks old) c))) (blanks old) (blank-rest old (lays_accepted old h was.lays).0)

    front_now : front (blocks_of N store') ≡ front old ++ commit_blocks h (tables_of (front old)) (length (front old)) c
    front_now =
        ap front blocks_now
        ∙ written-front old h c few was.fit was.lays M short enough
        ∙ ap (λ (l : List Block). front old ++ l) (written_ordered old h c was.lays M [] ∙ append-nil (commit_blocks h (tables_of (front old)) (length (front old)) c))

    -- the commits g after the commit c that is written are c and g after what was there
    continued_on : (g : TheLog) → continued store' g ≡ continued store (a_commit c ∷ g)
    continued_on g =
        stored_is N store' (h ++ (c ∷ [])) (used + blocks_for h c.changes) stored g
        ∙ ap (λ (f : List Block). joined fields_of (further N (h ++ (c ∷ [])) f g)) front_now
        ∙ ap (joined fields_of) (further_on N h c (front old) g (tables_after_lem old h c was.lays))
        ∙ sym (stored_is N store h used S (a_commit c ∷ g))

-- ---- one mark more

module _ (N : ℕ) (store : Bytes) (h : History) (used R seat stamp : ℕ) (L : Releasable N store h used R seat stamp) where
  abbrev marked : Bytes
  marked = joined fields_of (with_mark (blocks_of N store) (released R seat stamp))

  continued-mark : (g : TheLog) → continued marked g ≡ continued store (a_mark (released R seat stamp) ∷ g)
  continued-mark g =
      let bs : List Block = blocks_of N store in
      stored_is N marked h (used + 1) (stored-mark N store h used R seat stamp L) g
      ∙ ap (λ (f : List Block). joined fields_of (further N h f g)) (front-mark N store h used R seat stamp L)
      ∙ ap (joined fields_of) (further_mark N h (released R seat stamp) (front bs) g (tables_mark bs h (holds-blocks N store h L.stored.holds).lays (released R seat stamp)))
      ∙ sym (stored_is N store h used L.stored (a_mark (released R seat stamp) ∷ g))

-- ---- one call

-- a call by a seat, on buffers in which the side d is found
module _ (N : ℕ) (store copy : Bytes) (d : Side) (E : Seen N store copy d) (K : KeptSide d) (lo : 1 ≤ d.seat) (hi : d.seat ≤ 4) where
  -- a commit that no line refuses: there is no tail
  module _ (stamp mask : ℕ) (small : stamp < 2 ^ 32) (e : first_of (own_conditions d (Commits stamp mask)) ≡ none) where
    abbrev new : Commit
    new = new_commit d stamp mask

    abbrev C : Committable d stamp mask
    C = committable d stamp mask (own-none d (Commits stamp mask) e).0 lo hi small

    abbrev S : Stored N store d.history d.used
    S = tailed_stored N store d.history d.used d.tail (untailed_so d stamp mask (own-none d (Commits stamp mask) e).1) E.stored

    continued-commit : (g : TheLog) → continued (store_with store (new ∷ [])) g ≡ continued store (a_commit new ∷ g)
    continued-commit g =
        ap (λ (l : List Block). continued (joined fields_of (with_commit l new)) g) (stored-blocks N store d.history d.used S)
        ∙ continued_on N store d.history d.used new E.many (omega (arith, K.used, K.room, E.blocks, E.many)) S
        (made-commit d stamp mask K C) (omega (arith, C.room, E.blocks)) g

  -- what any call adds: nothing, or the commit or the mark that it asks for
  abbrev Adds : Bytes → Answer → List Commit → List Mark → TheLog → Type 0
  Adds s a cs ms g = continued s g ≡ continued store (items_by a cs ms ++ g)

  adds_none : (a : Answer) (g : TheLog) → Adds store a [] [] g
  adds_none a g = ap₂ (λ (x y : TheLog). continued store ((x ++ y) ++ g)) (sym (cond_same (is_revision a) [])) (sym (cond_same (is_refused a) []))

  still_by : (o : Option ℕ) (c : Call) → ((x : Side) → asked x c ≡ []) → (a : Answer) (g : TheLog) → Adds (change_by o store copy c).store a [] [] g
  still_by (some n) c q a g = adds_none a g
  still_by none c q a g = ap (λ (l : List Commit). continued (store_with store l) g) (q (side_in store copy)) ∙ adds_none a g

  commit_by : (o : Option ℕ) (stamp mask : ℕ) → stamp < 2 ^ 32 → first_of (own_conditions d (Commits stamp mask)) ≡ o → (g : TheLog)
      → Adds (change_by o store copy (Commits stamp mask)).store (side_by o d (Commits stamp mask)).0 (new_commit d stamp mask ∷ []) [] g
  commit_by (some n) stamp mask small e g = refl
  commit_by none stamp mask small e g =
      ap (λ (x : Side). continued (store_with store (new_commit x stamp mask ∷ [])) g) (same_side N store copy d E K lo hi) ∙ continued-commit stamp mask small e g

  clear_by : (o : Option ℕ) (a : Answer) (g : TheLog) → Adds (create_by o store (bare_of store)).buffer a [] [] g
  clear_by (some n) a g = adds_none a g
  clear_by none a g = continued_cleared N store d.history d.used d.tail E.stored g ∙ adds_none a g

  -- the two that stop after n writes: the tail that is left is none of the used blocks
  stopped_by_lem : (o : Option ℕ) (stamp mask n : ℕ) → stamp < 2 ^ 32 → first_of (own_conditions d (CommitsCut stamp mask n)) ≡ o → (g : TheLog)
      → Adds (stopped_by o store copy stamp mask n).store (side_by o d (CommitsCut stamp mask n)).0 (new_commit d stamp mask ∷ []) [] g
  stopped_by_lem (some r) stamp mask n small e g = refl
  stopped_by_lem none stamp mask n small e g =
      ap (λ (k : ℕ). continued (cond (leb k n) (change_by none store copy (Commits stamp mask)) (out stopped (written_from store (take n (commit_writes store copy stamp mask))) copy)).store g) count
      ∙ go (leb (blocks_for d.history (new_commit d stamp mask).changes) n) refl
    where
      count : length (commit_writes store copy stamp mask) ≡ blocks_for d.history (new_commit d stamp mask).changes
      count = count_is N store copy d E K lo hi stamp mask n small e

      go : (t : Bool) → leb (blocks_for d.history (new_commit d stamp mask).changes) n ≡ t
          → Adds (cond t (change_by none store copy (Commits stamp mask)) (out stopped (written_from store (take n (commit_writes store copy stamp mask))) copy)).store
          (cond {A = Answer × Side} t (revision (suc (last d.history)), committing d stamp mask) (stopped, with_tail d n)).0 (new_commit d stamp mask ∷ []) [] g
      go true q = commit_by none stamp mask small e g
      go false q =
          let Y = cut_kin N store copy d E K lo hi stamp mask n small e (leb-false (blocks_for d.history (new_commit d stamp mask).changes) n q) in
          let S = stored_now N store copy d E K lo hi (none-there N store copy d E K lo hi stamp mask n small e) in
          continued_kin N store (written_from store (take n (commit_writes store copy stamp mask))) d.history d.used 0 n (plain N store d.history d.used S) Y.0
          (Y.1 ∙ sym (untailed N store d.history d.used S)) g

  cleared_by_lem : (o : Option ℕ) (n : ℕ) (a : Answer) (g : TheLog) → Adds (cleared_by o store n).buffer a [] [] g
  cleared_by_lem (some r) n a g = adds_none a g
  cleared_by_lem none n a g = go (leb (tail_of store) n) refl ∙ adds_none a g
    where
      X : Tailed N store d.history d.used d.tail
      X = E.stored

      go : (b : Bool) → leb (tail_of store) n ≡ b
          → continued (cond {A = Created} b (record { says = done; buffer = bare_of store }) (record { says = stopped; buffer = blank_from (used_of store + tail_of store - n) store })).buffer g ≡ continued store g
      go true q = continued_cleared N store d.history d.used d.tail X g
      go false q =
          let Y = cleared_kin N store d.history d.used d.tail X (d.tail - n) (omega arith) in
          let e = tail-held N store d.history d.used d.tail X in
          let p : used_of store + tail_of store - n ≡ d.used + (d.tail - n) = omega (arith, used-held N store d.history d.used d.tail X, e, leb-false (tail_of store) n q) in
          ap (λ (k : ℕ). continued (blank_from k store) g) p
          ∙ continued_kin N store (blank_from (d.used + (d.tail - n)) store) d.history d.used d.tail (d.tail - n) X Y.0 Y.1 g

  release_by : (o : Option ℕ) (R seat stamp : ℕ) → stamp < 2 ^ 32 → first_of (own_conditions d (Release R seat stamp)) ≡ o → (g : TheLog)
      → Adds (mark_by o store (Release R seat stamp)).buffer (side_by o d (Release R seat stamp)).0 [] (released R seat stamp ∷ []) g
  release_by (some n) R seat stamp small e g = refl
  release_by none R seat stamp small e g =
      let L = releasable N store copy d E K lo hi R seat stamp small e in
      ap (λ (l : List Block). continued (joined fields_of (with_mark l (released R seat stamp))) g) (stored-blocks N store d.history d.used L.stored)
      ∙ continued-mark N store d.history d.used R seat stamp L g

  call-adds : (c : Call) → Typed c → (g : TheLog) → Adds (call store copy c).store (side_step d c).0 (asked d c) (asked_mark d c) g
  unfolding change_call clear_call commit_cut_call clear_cut_call mark_call
  call-adds (Add i x) ty g = still_by (refusal_of store copy (Add i x)) (Add i x) (λ y. refl) (side_step d (Add i x)).0 g
  call-adds (Edit i x) ty g = still_by (refusal_of store copy (Edit i x)) (Edit i x) (λ y. refl) (side_step d (Edit i x)).0 g
  call-adds (Delete i) ty g = still_by (refusal_of store copy (Delete i)) (Delete i) (λ y. refl) (side_step d (Delete i)).0 g
  call-adds (Copy i j) ty g = still_by (refusal_of store copy (Copy i j)) (Copy i j) (λ y. refl) (side_step d (Copy i j)).0 g
  call-adds (Move i j) ty g = still_by (refusal_of store copy (Move i j)) (Move i j) (λ y. refl) (side_step d (Move i j)).0 g
  call-adds (Commits stamp mask) ty g =
      ap (λ (o : Option ℕ). continued (change_by o store copy (Commits stamp mask)).store g) (same-refusal N store copy d E K lo hi (Commits stamp mask))
      ∙ commit_by (first_of (own_conditions d (Commits stamp mask))) stamp mask ty refl g
  call-adds (Update mask R) ty g = still_by (refusal_of store copy (Update mask R)) (Update mask R) (λ y. refl) (side_step d (Update mask R)).0 g
  call-adds (Revert mask) ty g = still_by (refusal_of store copy (Revert mask)) (Revert mask) (λ y. refl) (side_step d (Revert mask)).0 g
  call-adds (Read R i) ty g = adds_none (side_step d (Read R i)).0 g
  call-adds (Show i) ty g = adds_none (side_step d (Show i)).0 g
  call-adds (Status i) ty g = adds_none (side_step d (Status i)).0 g
  call-adds (Log R i) ty g = adds_none (side_step d (Log R i)).0 g
  call-adds Clears ty g = clear_by (store_refusal store Clears) (side_step d Clears).0 g
  call-adds (CommitsCut stamp mask n) ty g =
      ap (λ (o : Option ℕ). continued (stopped_by o store copy stamp mask n).store g) (same-refusal N store copy d E K lo hi (CommitsCut stamp mask n))
      ∙ stopped_by_lem (first_of (own_conditions d (CommitsCut stamp mask n))) stamp mask n ty refl g
  call-adds (ClearsCut n) ty g = cleared_by_lem (store_refusal store (ClearsCut n)) n (side_step d (ClearsCut n)).0 g
  call-adds (Release R seat stamp) ty g =
      ap (λ (o : Option ℕ). continued (mark_by o store (Release R seat stamp)).buffer g) (store_refusal_lem N store copy d E K lo hi (Release R seat stamp))
      ∙ release_by (first_of (own_conditions d (Release R seat stamp))) R seat stamp ty refl g
  call-adds (Panel R i) ty g = adds_none (side_step d (Panel R i)).0 g

-- ---- a list of calls

-- a call by one of the four seats
pub turn-adds : (N : ℕ) (b : Buffers) (s : State) (t : Turn) → Shows N b s → Kept s → Valid t → (g : TheLog)
    → continued (after_turn b t).store g
    ≡ continued b.store (items_by (step s t.by t.call).0 (asked (side_of s t.by) t.call) (asked_mark (side_of s t.by) t.call) ++ g)
turn-adds N b s t W K v g =
    let lo : 1 ≤ t.by = v.low in
    let hi : t.by ≤ 4 = v.high in
    call-adds N b.store (get_or b.copies (t.by - 1) []) (side_of s t.by) (seen_seat N b s t.by W lo hi) (kept_side s t.by K lo hi) lo hi t.call v.typed g
    ∙ ap (λ (a : Answer). continued b.store (items_by a (asked (side_of s t.by) t.call) (asked_mark (side_of s t.by) t.call) ++ g))
    (step_side N b s t.by W K lo hi (first_of (own_conditions (side_of s t.by) t.call)) t.call).0

list_adds : (N : ℕ) (b : Buffers) (s : State) (ts : List Turn) → Shows N b s → Kept s → AllValid ts → bare_of (run_on b ts).store ≡ continued b.store (accepted_log s ts)
list_adds N b s [] W K v = bare-held N b.store s.history s.used s.tail W.store ∙ sym (continued-none N b.store s.history s.used s.tail W.store)
list_adds N b s (t ∷ ts) W K v =
    let s' : State = (step s t.by t.call).1 in
    list_adds N (after_turn b t) s' ts (one-step N b s t W K v.0).1 (kept_step s t v.0 K) v.1 ∙ turn-adds N b s t W K v.0 (accepted_log s' ts)

-- ---- a fresh store

pub fresh-continued : (N : ℕ) (g : TheLog) → 1 ≤ N → continued (fresh_store N) g ≡ store_bytes N g
unfolding store_bytes tables_of tables_after
fresh-continued N g le =
    stored_is N (fresh_store N) [] 1 (fresh-stored N le) g
    ∙ ap (λ (f : List Block). joined fields_of (further N [] f g)) (fresh-front N le)

-- what a list of calls on fresh buffers leaves
list_shows : (N : ℕ) (ts : List Turn) → 2 ≤ N → N ≤ 4_096 → AllValid ts → Shows N (run_on (fresh_buffers N) ts) (run (fresh N) ts)
list_shows N ts lo hi v = (whole N (fresh_buffers N) (fresh N) ts (fresh-shows N lo hi) (kept_fresh N (omega arith)) v).1

list_bytes : (N : ℕ) (ts : List Turn) → 2 ≤ N → N ≤ 4_096 → AllValid ts → tail_of (run_on (fresh_buffers N) ts).store ≡ 0
    → (run_on (fresh_buffers N) ts).store ≡ store_bytes N (accepted_log (fresh N) ts)
list_bytes N ts lo hi v z =
    let e : State = run (fresh N) ts in
    let S : Stored N (run_on (fresh_buffers N) ts).store e.history e.used =
    tailed_stored N (run_on (fresh_buffers N) ts).store e.history e.used e.tail
    (sym (tail-held N (run_on (fresh_buffers N) ts).store e.history e.used e.tail (list_shows N ts lo hi v).store) ∙ z) (list_shows N ts lo hi v).store in
    sym (bare-stored N (run_on (fresh_buffers N) ts).store e.history e.used S)
    ∙ list_adds N (fresh_buffers N) (fresh N) ts (fresh-shows N lo hi) (kept_fresh N (omega arith)) v ∙ fresh-continued N (accepted_log (fresh N) ts) (omega arith)

-- the history that is read in what a list leaves is that of its accepted commits
pub list_history : (N : ℕ) (ts : List Turn) → 2 ≤ N → N ≤ 4_096 → AllValid ts → store_history (run_on (fresh_buffers N) ts).store ≡ accepted (fresh N) ts
list_history N ts lo hi v =
    let e : State = run (fresh N) ts in
    history-held N (run_on (fresh_buffers N) ts).store e.history e.used e.tail (list_shows N ts lo hi v).store ∙ found N ts

-- and with the releases in their places, that of its log
pub list_log : (N : ℕ) (ts : List Turn) → 2 ≤ N → N ≤ 4_096 → AllValid ts → store_log (run_on (fresh_buffers N) ts).store ≡ accepted_log (fresh N) ts
list_log N ts lo hi v =
    let store : Bytes = (run_on (fresh_buffers N) ts).store in
    log_fixed (store_log store) (accepted_log (fresh N) ts)
    (history-logged (block_count store) (bare_of store) ∙ list_history N ts lo hi v ∙ sym (log-commits (fresh N) ts))
    ((list_shows N ts lo hi v).marked ∙ found-marks N ts ∙ sym (log-marks (fresh N) ts))

-- ---- the layout of any history that is sound, with its releases

-- each of these commits is right on those before it, and each mark in its place
abbrev MadeFrom : History → TheLog → Type 0
MadeFrom h [] = Unit {0}
MadeFrom h (a_commit c ∷ g) = Made h c × MadeFrom (h ++ (c ∷ [])) g
MadeFrom h (a_mark m ∷ g) = MadeMark (last h) m × MadeFrom h g

made_from : (h : History) (g : TheLog) → ((r : ℕ) → r < length (commits g) → Made (h ++ take r (commits g)) (get_or (commits g) r no_commit))
    → All (λ (p : Placed). MadeMark p.after p.mark) (marks_from (last h) g) → MadeFrom h g
made_from h [] m a = tt
made_from h (a_commit c ∷ g) m a =
    let n : suc (last h) ≡ last (h ++ (c ∷ [])) = sym (length-append h (c ∷ []) ∙ omega arith) in (
      rw append-nil at (m 0 (omega arith)),
      made_from (h ++ (c ∷ [])) g (λ r lt. rw (append_assoc h (c ∷ []) (take r (commits g))) (m (suc r) (omega arith)))
          (subst (λ (k : ℕ). All (λ (p : Placed). MadeMark p.after p.mark) (marks_from k g)) n a),
    )
made_from h (a_mark m ∷ g) f a = (a.0, made_from h g f a.1)

-- the store with g added, and what is read back
abbrev Extended : ℕ → Bytes → History → ℕ → TheLog → Type 0
Extended N store h used g =
    Stored N (continued store g) (h ++ commits g) (used + takes h g) × (log_all (blocks_of N (continued store g)) ≡ log_all (blocks_of N store) ++ g)

log-stored_on : (N : ℕ) (store : Bytes) (h : History) (used : ℕ) (g : TheLog) → N ≤ 4_096 → Stored N store h used → last h < used → MadeFrom h g
    → Marked (marks (log_all (blocks_of N store) ++ g)) → used + takes h g ≤ N → Extended N store h used g
log-stored_on N store h used [] many S lt m o room =
    let n : used + 0 ≡ used = omega arith in
    (rw (stored-none N store h used S, append-nil, n) S, ap (λ (l : Bytes). log_all (blocks_of N l)) (stored-none N store h used S) ∙ sym (append-nil (log_all (blocks_of N store))))
log-stored_on N store h used (a_commit c ∷ g) many S lt m o room =
    let k : ℕ = blocks_for h c.changes in
    let short : last h < 65_535 = omega arith in
    let enough : used + k ≤ N = omega arith in
    let n : used + k + takes (h ++ (c ∷ [])) g ≡ used + (k + takes (h ++ (c ∷ [])) g) = omega arith in
    let l : last (h ++ (c ∷ [])) < used + k = omega (arith, length-append h (c ∷ [])) in
    let new : Bytes = joined fields_of (with_commit (blocks_of N store) c) in
    let old : TheLog = log_all (blocks_of N store) in
    let e : log_all (blocks_of N new) ≡ old ++ (a_commit c ∷ []) = log-commit N store h used c many short S m.0 enough in
    let f : (old ++ (a_commit c ∷ [])) ++ g ≡ old ++ (a_commit c ∷ g) = append_assoc old (a_commit c ∷ []) g in
    let r = log-stored_on N new (h ++ (c ∷ [])) (used + k) g many (stored N store h used c many short S m.0 enough) l m.1
    (subst (λ (x : TheLog). Marked (marks x)) (sym (ap (λ (x : TheLog). x ++ g) e ∙ f)) o) (omega arith) in
    let q : continued new g ≡ continued store (a_commit c ∷ g) = continued_on N store h used c many short S m.0 enough g in (
      rw (sym q, sym (append_assoc h (c ∷ []) (commits g)), sym n) r.0,
      ap (λ (x : Bytes). log_all (blocks_of N x)) (sym q) ∙ r.1 ∙ ap (λ (x : TheLog). x ++ g) e ∙ f,
    )
log-stored_on N store h used (a_mark (released R seat stamp) ∷ g) many S lt m o room =
    let old : TheLog = log_all (blocks_of N store) in
    let p : TheLog = a_mark (released R seat stamp) ∷ [] in
    let L : Releasable N store h used R seat stamp = record {
      stored = S;
      short = omega (arith, lt, room, many);
      low = m.0.0;
      high = m.0.1;
      seat-low = m.0.2;
      seat-high = m.0.3;
      small = m.0.4;
      new = marked_new old g R seat stamp o;
      room = omega arith;
    } in
    let new : Bytes = marked N store h used R seat stamp L in
    let n : used + 1 + takes h g ≡ used + suc (takes h g) = omega arith in
    let e : log_all (blocks_of N new) ≡ old ++ p = log-mark N store h used R seat stamp L in
    let f : (old ++ p) ++ g ≡ old ++ (a_mark (released R seat stamp) ∷ g) = append_assoc old p g in
    let r = log-stored_on N new h (used + 1) g many (stored-mark N store h used R seat stamp L) (omega arith) m.1
    (subst (λ (x : TheLog). Marked (marks x)) (sym (ap (λ (x : TheLog). x ++ g) e ∙ f)) o) (omega arith) in
    let q : continued new g ≡ continued store (a_mark (released R seat stamp) ∷ g) = continued-mark N store h used R seat stamp L g in
    (rw (sym q, sym n) r.0, ap (λ (x : Bytes). log_all (blocks_of N x)) (sym q) ∙ r.1 ∙ ap (λ (x : TheLog). x ++ g) e ∙ f)

-- ---- one commit, on any buffers

module _ (store copy : Bytes) (stamp mask R : ℕ) (small : stamp < 2 ^ 32) where
  abbrev asks : Call
  asks = Commits stamp mask

  abbrev d : Side
  d = side_in store copy

  abbrev made : Commit
  made = new_commit d stamp mask

  -- a commit that answers a revision was not refused
  commit_appends : (o : Option ℕ) → refusal_of store copy asks ≡ o → (change_by o store copy asks).says ≡ revision R → Appends store (change_by o store copy asks).store made R
  unfolding refusal_of
  commit_appends (some n) e q = absurd (let z : ◌≡◌ {A = ℕ} 0 1 = cc in omega arith)
  commit_appends none e q =
      let p = clear-accepted store copy asks (clear (both_conditions store copy asks) e) in
      let A : Accepted store copy = p.0 in
      let E = accepted_seen store copy A in
      let K = accepted-kept store copy A in
      let h : History = store_history store in
      let N : ℕ = block_count store in
      let X : Tailed N store h (used_of store) (tail_of store) = E.stored in
      let S : Stored N store h (used_of store) = tailed_stored N store h (used_of store) (tail_of store) (untailed_so d stamp mask p.1) X in
      let same : store_blocks store ≡ blocks_of N store = stored-blocks N store h (used_of store) S in
      let L : Lays (store_blocks store) h = subst (λ (l : List Block). Lays l h) (sym same) (holds-blocks N store h S.holds).lays in
      let lo : 1 ≤ d.seat = (seats store copy A).0 in
      let hi : d.seat ≤ 4 = (seats store copy A).1 in
      let C = committable d stamp mask (none-holds (conditions d asks) p.2) lo hi small in
      let short : last h < 65_535 = omega (arith, K.used, K.room, E.many) in
      let M : Made h made = made-commit d stamp mask K C in
      let room : used_of store + blocks_for h made.changes ≤ N = C.room in
      let ts : List Table = tables_of (front (store_blocks store)) in
      let r : suc (last h) ≡ R = cc q in
      let b : store_with store (made ∷ []) ≡ continued store (a_commit made ∷ []) =
      ap (λ (l : List Block). joined fields_of (with_commit l made)) same
      ∙ sym (stored-none N (joined fields_of (with_commit (blocks_of N store) made)) (h ++ (made ∷ [])) (used_of store + blocks_for h made.changes) (stored N store h (used_of store) made E.many short S M room))
      ∙ continued_on N store h (used_of store) made E.many short S M room [] in
      subst (Appends store (store_with store (made ∷ [])) made) r
      (record {
        kept = ap (take (512 * used_of store)) b ∙ continued-keeps N store h (used_of store) (tail_of store) X (a_commit made ∷ []);
        contents = contents_after h ts made;
        lines = lines_after h ts (used_of store) made;
        rest = rest N store h (used_of store) made E.many short S M room;
        behind =
            ap (λ (l : List Block). store_blocks (joined fields_of (with_commit l made))) same
            ∙ blocks-behind N store h (used_of store) made E.many short S M room
            ∙ ap (λ (l : List Block). front l ++ (commit_blocks h (tables_of (front l)) (length (front l)) made ++ rest N store h (used_of store) made E.many short S M room)) (sym same)
            ∙ ap (λ (l : List Block). front (store_blocks store) ++ l)
            (append_assoc (map (content (suc (last h))) (contents_after h ts made)) (commit (suc (last h)) made.seat made.stamp (lines_after h ts (used_of store) made) ∷ [])
            (rest N store h (used_of store) made E.many short S M room));
        unused = blank-behind N store h (used_of store) made E.many short S M room;
        order = laid_in_order (store_blocks store) h made L;
        bytes = b;
      })

-- ---- one release, on any store

releases-done : (store : Bytes) (R seat stamp : ℕ) → stamp < 2 ^ 32 → (release_call store R seat stamp).says ≡ done
    → AppendsMark store (release_call store R seat stamp).buffer (released R seat stamp)
releases-done store R seat stamp small q =
    let c : Call = Release R seat stamp in
    let lines = release_lines_lem store [] R seat stamp q in
    let C = clear_split (store_conditions store) (own_conditions (store_side store) c) lines in
    let copy : Bytes = fresh_copy 1 in
    let A : Accepted store copy = fresh-accepted store [] 1 (omega arith) (omega arith) C.0 in
    let E = accepted_seen store copy A in
    let h : History = store_history store in
    let N : ℕ = block_count store in
    let u : ℕ = used_of store in
    let m : Mark = released R seat stamp in
    let L = releasable N store copy (side_in store copy) E (accepted-kept store copy A) (seats store copy A).0 (seats store copy A).1 R seat stamp small
    (none-holds (own_conditions (store_side store) c) C.1) in
    let same : store_blocks store ≡ blocks_of N store = stored-blocks N store h u L.stored in
    let new : Bytes = marked N store h u R seat stamp L in
    let S' : Stored N new h (u + 1) = stored-mark N store h u R seat stamp L in
    let laid : (release_call store R seat stamp).buffer ≡ new = release_laid store R seat stamp small lines in
    let b : (release_call store R seat stamp).buffer ≡ continued store (a_mark m ∷ []) =
    laid ∙ sym (stored-none N new h (u + 1) S') ∙ continued-mark N store h u R seat stamp L [] in
    record {
      kept = ap (take (512 * u)) b ∙ continued-keeps N store h u (tail_of store) E.stored (a_mark m ∷ []);
      rest = drop 1 (blanks (blocks_of N store));
      behind =
          ap store_blocks laid ∙ stored-blocks N new h (u + 1) S' ∙ blocks-mark N store h u R seat stamp L
          ∙ ap (λ (l : List Block). front l ++ (mark m ∷ drop 1 (blanks (blocks_of N store)))) (sym same);
      unused = blank-left N store h u R seat stamp L;
      bytes = b;
    }

-- ---- any layout

laid_read : (store : Bytes) (g : TheLog) → LaidStore store g → ReadAs store (commits g)
laid_read store g L =
    let h : History = commits g in
    let D = demand_two store [] in
    let t : first_of (store_conditions store) ≡ none = D.store-accepted.1 (g, L) in
    let A : Accepted store (fresh_copy 1) = fresh-accepted store [] 1 (omega arith) (omega arith) (clear (store_conditions store) t) in
    let e : store_history store ≡ h = (D.store_read g L).1 in
    record {
      accepted = t;
      found = λ R i le small.
          let seven : (no_sheet i || too_late (store_history store) R) ≡ false =
          ap₂ ◌||◌ (le-ltb 31 i small) (le-ltb (last (store_history store)) R (subst (λ (k : History). R ≤ last k) (sym e) le)) in
          (accepted-call store (fresh_copy 1) A (Read R i) tt).0
          ∙ read_side false (side_in store (fresh_copy 1)) R i (namer h R i) (sheet h R i) (ap (λ (k : History). namer k R i) e) (ap (λ (k : History). sheet k R i) e) seven;
    }

commits-done : (store copy : Bytes) (stamp mask R : ℕ) → stamp < 2 ^ 32 → (commit_call store copy stamp mask).says ≡ revision R
    → Appends store (commit_call store copy stamp mask).store (new_commit (side_in store copy) stamp mask) R
unfolding change_call
commits-done store copy stamp mask R small q = commit_appends store copy stamp mask R small (refusal_of store copy (Commits stamp mask)) refl q

-- THE STATEMENT
pub ordered : Ordered
ordered = record {
  commits = commits-done;
  releases = releases-done;
  another = laid_read;
  lists = λ b ts A v. list_adds (block_count b.store) b (state_in b) ts (accepted-shows b A) (accepted_state b A) v;
  bytes = list_bytes;
  equal = λ N ts us lo hi v w y z e. list_bytes N ts lo hi v y ∙ ap (store_bytes N) e ∙ sym (list_bytes N us lo hi w z);
  back = λ N ts us lo hi v w e. sym (list_log N ts lo hi v) ∙ ap store_log e ∙ list_log N us lo hi w;
  holds = λ N g lo hi s room.
      let one : 1 ≤ N = omega arith in
      let store : Bytes = store_bytes N g in
      let m : MadeFrom [] g = made_from [] g (λ r lt. s.sound r lt) s.each in
      let none_yet : log_all (blocks_of N (fresh_store N)) ≡ [] = (logged-accepted N (fresh_store N) [] (fresh-log N one)).2 in
      let r = log-stored_on N (fresh_store N) [] 1 g hi (fresh-stored N one) (omega arith) m
      (subst (λ (x : TheLog). Marked (marks (x ++ g))) (sym none_yet) s.together) room in
      let S : Stored N store (commits g) (1 + takes [] g) = subst (λ (l : Bytes). Stored N l (commits g) (1 + takes [] g)) (fresh-continued N g one) r.0 in
      let is : log_all (blocks_of N store) ≡ g =
      ap (λ (l : Bytes). log_all (blocks_of N l)) (sym (fresh-continued N g one)) ∙ r.1 ∙ ap (λ (x : TheLog). x ++ g) none_yet in
      let X : Tailed N store (commits g) (1 + takes [] g) 0 = stored_tailed N store (commits g) (1 + takes [] g) S in
      let L : HoldsLog N X.bare g =
      subst (λ (l : Bytes). HoldsLog N l g) (sym (tailed_none N store (commits g) (1 + takes [] g) X)) (subst (HoldsLog N store) is (log-holds N store (commits g) S.holds)) in
      (record { count = N; few = lo; many = hi; used = 1 + takes [] g; tail = 0; holds = X; log = L }, tail-held N store (commits g) (1 + takes [] g) 0 X);
}
