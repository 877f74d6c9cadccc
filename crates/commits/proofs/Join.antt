-- The inner commit and the machine: the plan by the bytes is that of the machine's commit, and each way that the code ends is the machine's answer.
-- Assumes nothing.
use Prim.Native.Nat.{◌*◌, ◌+◌, ◌/◌, ◌<◌, ◌≤◌, suc, ℕ}
use mathlib.Core.Bool.{Bool, ◌&&◌, ◌||◌, cond, false, not, true}
use mathlib.Core.List.{List, [], ◌++◌, ◌∷◌, map}
use mathlib.Core.Path.{◌∙◌, ◌≡◌, ap, ap₂, refl, subst, sym}
use native.Mathlib.Nat.{add-zero, zero-add}
use native.Mathlib.Omega.{arith}
use borrow.Author.Tests.{eq-eqb, le-leb, le-ltb, lt-leb, lt-ltb, ne_eqb}
use lib.Dec.{eqb, leb}
use lib.ListN.{get_or, length, length-append, length-map, length-take, take}
use lib.Seq.{take_all}
use Rattle.block.specs.Write.{written}
use Rattle.std.specs.Prelude.{Err, Ok}
use Rattle.model.specs.declared.Refusal.TheVariants.{NoRoom, NothingPending}
use Rattle.model.specs.Blocks.{Block, Line, bytes_at, commit, content, fields_of}
use Rattle.model.specs.Calls.{commit_writes, side_in, store_with, written_from}
use Rattle.model.specs.Codec.{joined}
use Rattle.model.specs.Entry.{Entry, added, change_for, copied, deleted, empty, modified, normal, pending}
use Rattle.model.specs.History.{Bytes, Change, History, add, change, copy, delete, is_bytes, last, names, nothing}
use Rattle.model.specs.Invariant.{FitsAt}
use Rattle.model.specs.Layout.{Table}
use Rattle.model.specs.Machine.{Side, blocks_for, chosen, commit_changes, content_of, count, entry, new_commit}
use Rattle.model.specs.Pass.{tables_of}
use Rattle.model.specs.Refusals.{no_room, nothing_chosen}
use Rattle.model.specs.Rows.{rows, some-row, total}
use Rattle.model.specs.Shows.{Seen}
use Rattle.model.specs.Store.{bare_of, blanks, block_count, front, store_blocks, store_history, used_of}
use Rattle.model.specs.Tail.{Tailed}
use Rattle.model.specs.WorkCopy.{entries_of, seat_of}
use Rattle.model.specs.Writing.{Plan, lines_for, new_contents, plan_of, skip}
use Rattle.laws.proofs.Accepted.{accepted-kept, accepted_seen}
use Rattle.laws.proofs.Grows.{length-contents}
use Rattle.laws.proofs.Invariant.{KeptSide}
use Rattle.laws.proofs.Rows.{cond-any, length-rows, rows-any}
use Rattle.laws.proofs.Store.{bare-held, tailed_none, taken-holds, taken_tailed}
use Rattle.laws.proofs.WorkCopy.{holds-copy}
use Rattle.laws.proofs.Writer.{freshes}
use Rattle.laws.proofs.Writing.{Blocks, Sources, content-count, front-blanks, holds-blocks, line-count, source-bytes, tables_used, user_below}
use Rattle.commits.proofs.Entries.{Agrees, bytes_are, row_is, size_at}
use Rattle.commits.specs.Outcome.{Answered, Asked, RightAt}
use Rattle.commits.specs.Plan.{Planned, row_of, rows_from}
use Rattle.commits.specs.declared.Outcome.TheVariants.{Done, Stopped}
use Rattle.writer.proofs.Joins.{Carries, blocks_new, contents_new, written-commit}
use Rattle.writer.specs.Blocks.{Writable, Wrote, commit_blocks, contents_by, line_in, lines_in, sheet_in}
use Rattle.writer.specs.declared.Line.{Line as TheLine}

-- ---- the rows, the sources and the changes of the chosen entries

chosen-rows : (f : ℕ → Plan) (g : Change → Plan) (ch : ℕ → Entry → Change) (mask : ℕ) (es : List Entry) (k : ℕ) → skip ≡ g nothing
    → ((i : ℕ) → i < length es → chosen mask (k + i) ≡ true → f (k + i) ≡ g (ch (k + i) (get_or es i empty)))
    → rows_from f mask k (length es) ≡ map g (rows (λ i e. cond (chosen mask i) (ch i e) nothing) k es)
unfolding rows_from
chosen-rows f g ch mask [] k z a = refl
chosen-rows f g ch mask (e ∷ es) k z a =
    ap₂ (λ (x : Plan) (y : List Plan). x ∷ y) (go (chosen mask k) (rw add-zero at (a 0 (omega arith))))
    (chosen-rows f g ch mask es (suc k) z (λ i h. let s : suc k + i ≡ k + suc i = omega arith in rw s (a (suc i) (omega arith))))
  where
    go : (b : Bool) → (b ≡ true → f k ≡ g (ch k e)) → cond b (f k) skip ≡ g (cond b (ch k e) nothing)
    go true p = p refl
    go false p = z

chosen_sources : (h : History) (mask : ℕ) (es : List Entry) (k : ℕ) → ((i : ℕ) → FitsAt h (k + i) (get_or es i empty))
    → Sources h (rows (λ i e. cond (chosen mask i) (change_for h i e) nothing) k es)
chosen_sources h mask [] k a = tt
chosen_sources h mask (e ∷ es) k a =
    go (chosen mask k) e (rows (λ i e. cond (chosen mask i) (change_for h i e) nothing) (suc k) es) (rw add-zero at (a 0))
    (chosen_sources h mask es (suc k) (λ i. let s : suc k + i ≡ k + suc i = omega arith in rw s (a (suc i))))
  where
    by : (t : Bool) (x : Bytes) (more : List Change) → Sources h more → Sources h (cond t (change x) nothing ∷ more)
    by true x more s = s
    by false x more s = s

    go : (b : Bool) (e : Entry) (more : List Change) → FitsAt h k e → Sources h more → Sources h (cond b (change_for h k e) nothing ∷ more)
    go false e more f s = s
    go true empty more f s = s
    go true (normal b x) more f s = by (modified h k b x) x more s
    go true (added x) more f s = s
    go true (deleted b) more f s = s
    go true (copied r v x) more f s = (f.1, s)

-- refusal 10 by the number of changes
none-chosen : (h : History) (mask k : ℕ) (es : List Entry)
    → not (some-row (λ i e. chosen mask i && pending h i e) k es) ≡ eqb (total count (rows (λ i e. cond (chosen mask i) (change_for h i e) nothing) k es)) 0
none-chosen h mask k [] = refl
none-chosen h mask k (e ∷ es) =
    go (chosen mask k) (change_for h k e) (some-row (λ i e. chosen mask i && pending h i e) (suc k) es)
    (total count (rows (λ i e. cond (chosen mask i) (change_for h i e) nothing) (suc k) es)) (none-chosen h mask (suc k) es)
  where
    go : (b : Bool) (a : Change) (t : Bool) (n : ℕ) → not t ≡ eqb n 0 → not ((b && names a) || t) ≡ eqb (count (cond b a nothing) + n) 0
    go false a t n p = rw (zero-add n) p
    go true nothing t n p = rw (zero-add n) p
    go true (add x) t n p = sym (ne_eqb (1 + n) 0 (λ z. omega arith))
    go true (change x) t n p = sym (ne_eqb (1 + n) 0 (λ z. omega arith))
    go true delete t n p = sym (ne_eqb (1 + n) 0 (λ z. omega arith))
    go true (copy s v x) t n p = sym (ne_eqb (1 + n) 0 (λ z. omega arith))

-- ---- on accepted buffers

module _ (store copy : Bytes) (used revision seat mask : ℕ) (changed places : List ℕ) (Q : Asked store copy used revision seat mask changed places) where
  abbrev d : Side
  d = side_in store copy

  abbrev h : History
  h = store_history store

  abbrev bs : List Block
  bs = store_blocks store

  abbrev look : ℕ → List ℕ
  look = bytes_at (front bs ++ blanks bs)

  abbrev tables : List Table
  tables = tables_of (front bs)

  abbrev new : List Change
  new = commit_changes h mask d.entries

  seen : Seen (block_count store) store copy d
  seen = accepted_seen store copy Q.taken

  kept : KeptSide d
  kept = accepted-kept store copy Q.taken

  laid : Blocks (block_count store) (bare_of store) h bs
  laid = holds-blocks (block_count store) (bare_of store) h (taken-holds store Q.taken.store_taken)

  -- without a tail the store is bare as it is
  bare : bare_of store ≡ store
  bare =
      let X : Tailed (block_count store) store h (used_of store) 0 = subst (Tailed (block_count store) store h (used_of store)) Q.untailed (taken_tailed store Q.taken.store_taken) in
      bare-held (block_count store) store h (used_of store) 0 X ∙ tailed_none (block_count store) store h (used_of store) X

  few : used_of store ≤ 4_096
  few = omega (arith, kept.room, seen.many)

  short : last h < 65_535
  short = omega (arith, kept.used, few)

  -- the lengths that the making of a plan asks
  pub may_plan : (length copy ≡ 16_896) × ((length changed ≡ 32) × ((length places ≡ 32) × (used ≤ 4_096)))
  may_plan = ((holds-copy copy (seat_of copy) (entries_of copy) seen.copied).0, (Q.right.flags, (Q.right.spots, omega (arith, Q.uses, few))))

  agrees : (i : ℕ) → i < 32 → chosen mask i ≡ true → Agrees h look tables i (entry d i) (get_or changed i 0) (get_or places i 0)
  agrees i low c = go (entry d i) (kept.fits i) (Q.right.each i low c)
    where
      go : (e : Entry) → FitsAt h i e → RightAt store i e (get_or changed i 0) (get_or places i 0) → Agrees h look tables i e (get_or changed i 0) (get_or places i 0)
      go empty f r = tt
      go (normal b x) f r = r
      go (added x) f r = tt
      go (deleted b) f r = tt
      go (copied s v x) f r = (
        ap (is_bytes x) (sym (source-bytes bs h laid.lays v s f.1)) ∙ r.0,
        r.1 ∙ ap (λ (ts : List Table). get_or (get_or ts v []) s 0) (sym (tables_used bs h laid.lays)),
      )

  rows_are : rows_from (row_of copy changed places) mask 0 32 ≡ map (plan_of look (used_of store) 0 tables) new
  rows_are =
      ap (rows_from (row_of copy changed places) mask 0) (sym kept.wide)
      ∙ chosen-rows (row_of copy changed places) (plan_of look (used_of store) 0 tables) (change_for h) mask d.entries 0 refl
      (λ i low c. let z : 0 + i ≡ i = omega arith in
      let l : i < 32 = omega (arith, kept.wide) in
      rw z (row_is copy (seat_of copy) d.entries seen.copied i l h look (used_of store) tables changed places (agrees i l (rw z at c))))

  -- m and k
  lines-count : length (lines_for 0 (used_of store) (map (plan_of look (used_of store) 0 tables) new)) ≡ total count new
  lines-count =
      line-count look (used_of store) tables h (source-bytes bs h laid.lays) (user_below bs h laid.lays) few (omega (arith, short)) new 0 (used_of store)

  blocks-count : freshes (map (plan_of look (used_of store) 0 tables) new) ≡ total (content_of h) new
  blocks-count =
      sym (length-contents new (map (plan_of look (used_of store) 0 tables) new) (length-map new (plan_of look (used_of store) 0 tables)))
      ∙ content-count look (used_of store) tables h (source-bytes bs h laid.lays) (user_below bs h laid.lays) few (omega (arith, short)) new
      (chosen_sources h mask d.entries 0 (λ i. let z : 0 + i ≡ i = omega arith in rw z (kept.fits i)))

  carried : (i : ℕ) → i < length new → Carries (sheet_in copy i) (get_or new i nothing)
  carried i low =
      let l : i < 32 = omega (arith, low, length-rows (λ i e. cond (chosen mask i) (change_for h i e) nothing) 0 d.entries, kept.wide) in
      rows-any (Carries (sheet_in copy i)) (λ i e. cond (chosen mask i) (change_for h i e) nothing) empty nothing d.entries i tt
      (cond-any (Carries (sheet_in copy i)) (chosen mask i) (λ z. bytes_are copy (seat_of copy) d.entries seen.copied i l h) (λ z. tt))

  -- the plan that was made is that of the machine's commit
  module _ (ls : List TheLine) (m after : ℕ) (P : Planned (rows_from (row_of copy changed places) mask 0 32) used ls m after) where
    lines_are : lines_in (take m ls) ≡ lines_for 0 (used_of store) (map (plan_of look (used_of store) 0 tables) new)
    lines_are = P.lines ∙ ap₂ (lines_for 0) Q.uses rows_are

    m_is : length (take m ls) ≡ total count new
    m_is = sym (length-map (take m ls) line_in) ∙ ap length lines_are ∙ lines-count

    after_is : after ≡ used_of store + total (content_of h) new
    after_is = P.after ∙ ap₂ (λ (u k : ℕ). u + k) Q.uses (ap freshes rows_are ∙ blocks-count)

    something : (length (take m ls) ≡ 0 → ⊥) → nothing_chosen d mask ≡ false
    something ne = none-chosen h mask 0 d.entries ∙ ne_eqb (total count new) 0 (λ z. ne (m_is ∙ z))

    roomy : after < length store / 512 → no_room d mask ≡ false
    roomy g = le-ltb (block_count store) (used_of store + blocks_for h new) (omega (arith, after_is))

    contents-count : length (contents_by (sheet_in copy) used (lines_in (take m ls))) ≡ total (content_of h) new
    contents-count =
        ap₂ (λ (u : ℕ) (x : List Line). length (contents_by (sheet_in copy) u x)) Q.uses lines_are
        ∙ ap length (contents_new bs h laid.lays (new_commit d 0 mask) (sheet_in copy) carried)
        ∙ length-contents new (map (plan_of look (used_of store) 0 tables) new) (length-map new (plan_of look (used_of store) 0 tables)) ∙ blocks-count

    -- the writing may be asked
    pub may_write : after < length store / 512 → Writable store used revision (take m ls) copy
    may_write g =
        record {
          small = omega (arith, Q.next, short);
          few = omega (arith, P.few, length-take m ls);
          sourced = record { whole = may_plan.0; sized = size_at copy (seat_of copy) d.entries seen.copied; named = P.named };
          room = omega (arith, contents-count, after_is, Q.uses);
        }

    -- THE STATEMENTS: each way that it ends is the machine's answer
    module _ (stamp n : ℕ) where
      pub says_nothing : length (take m ls) ≡ 0 → Answered store copy store stamp mask n (Err NothingPending)
      says_nothing z =
          let e : nothing_chosen d mask ≡ true = none-chosen h mask 0 d.entries ∙ eq-eqb (total count new) 0 (sym m_is ∙ z) in
          record { says = rw e; bytes = rw e }

      pub says-no_room : (length (take m ls) ≡ 0 → ⊥) → length store / 512 ≤ after → Answered store copy store stamp mask n (Err NoRoom)
      says-no_room ne g =
          let e : no_room d mask ≡ true = lt-ltb (block_count store) (used_of store + blocks_for h new) (omega (arith, after_is)) in
          record { says = rw (something ne, e); bytes = rw (something ne, e) }

      abbrev blocks : List Block
      blocks = commit_blocks (sheet_in copy) used revision seat stamp (lines_in (take m ls))

      -- the blocks are those that the machine's commit writes, k + 1 of them
      writes_are : blocks ≡ commit_writes store copy stamp mask
      writes_are =
          (λ x. commit_blocks (sheet_in copy) (Q.uses x) (Q.next x) (Q.by x) stamp (lines_are x)) ∙ blocks_new bs h laid.lays (new_commit d stamp mask) (sheet_in copy) carried

      size : length blocks ≡ blocks_for h new
      unfolding commit_blocks
      size =
          let cs = contents_by (sheet_in copy) used (lines_in (take m ls)) in
          let one : List Block = commit revision seat stamp (lines_in (take m ls)) ∷ [] in
          omega (arith, length-append (map (content revision) cs) one, length-map cs (content revision), contents-count)

      module _ (store' : Bytes) (r : ℕ) (ne : length (take m ls) ≡ 0 → ⊥) (g : after < length store / 512) (W : Wrote store store' used r (take n blocks)) where
        pub says-stopped : r ≤ after → Answered store copy store' stamp mask n (Ok Stopped)
        says-stopped l =
            let w : leb (length (commit_writes store copy stamp mask)) n ≡ false =
            lt-leb (length (commit_writes store copy stamp mask)) n (omega (arith, ap length writes_are, size, W.count, length-take n blocks, after_is, Q.uses)) in
            let e : store' ≡ written_from store (take n (commit_writes store copy stamp mask)) =
            W.bytes ∙ ap₂ (λ (u : ℕ) (x : List Block). written (512 * u) (joined fields_of (take n x)) store) Q.uses writes_are in
            record { says = rw (something ne, roomy g, w); bytes = rw (something ne, roomy g, w) e }

        pub says-done : after < r → Answered store copy store' stamp mask n (Ok (Done r))
        says-done l =
            let c = new_commit d stamp mask in
            let many : length blocks ≤ n = omega (arith, size, W.count, length-take n blocks, after_is, Q.uses) in
            let w : leb (length (commit_writes store copy stamp mask)) n ≡ true = le-leb (length (commit_writes store copy stamp mask)) n (omega (arith, ap length writes_are, many)) in
            let whole : take n blocks ≡ blocks = take_all n blocks many in
            let u : r ≡ used_of store + blocks_for h new = omega (arith, W.count, ap length whole, size, Q.uses) in
            let all : length (front bs) + length (blanks bs) ≡ block_count store = sym (length-append (front bs) (blanks bs)) ∙ ap length (front-blanks bs) ∙ laid.count in
            let k : length (new_contents (front bs) (blanks bs) c) ≡ total (content_of h) new =
            length-contents new (map (plan_of look (used_of store) 0 tables) new) (length-map new (plan_of look (used_of store) 0 tables)) ∙ blocks-count in
            let e : store' ≡ store_with store (c ∷ []) =
            W.bytes ∙ ap (λ (x : List Block). written (512 * used) (joined fields_of x) store) whole
            ∙ (λ x. written (512 * Q.uses x) (joined fields_of (commit_blocks (sheet_in copy) (Q.uses x) (Q.next x) (Q.by x) stamp (lines_are x))) (sym (laid.bytes ∙ bare) x))
            ∙ written-commit bs h laid.lays c (sheet_in copy) carried (omega (arith, all, k, after_is)) in
            record { says = rw (something ne, roomy g, w) (ap (λ k. Ok (Done k)) u); bytes = rw (something ne, roomy g, w) e }
