-- One call: on buffers that show a state it answers as the machine does, and leaves buffers that show the machine's next state.
-- Assumes nothing.
use Prim.Native.Nat.{◌*◌, ◌+◌, ◌-◌, ◌<◌, ◌^◌, ◌≤◌, suc, zero, ℕ}
use mathlib.Core.Bool.{Bool, ◌&&◌, ◌||◌, cond, false, not, true}
use mathlib.Core.List.{List, [], ◌++◌, ◌∷◌, map}
use mathlib.Core.Logic.{inl, inr}
use mathlib.Core.Option.{Option, none, some}
use mathlib.Core.Path.{◌∙◌, ◌≡◌, ap, ap₂, refl, subst, sym}
use native.Mathlib.Nat.{zero-add}
use native.Mathlib.Omega.{arith}
use borrow.Author.Tests.{eq-eqb, eqb-true, le-leb, leb-false, leb-true, ltb-false, not-false}
use lib.Dec.{eqb, leb}
use lib.ListN.{get_or, length, length-set, set, take}
use lib.Seq.{get_or-set_other, get_or-set_same, set-get_or}
use Rattle.block.proofs.Says.{and_true, eq_or, is_true}
use Rattle.block.specs.Lists.{All}
use Rattle.block.specs.Write.{written}
use Rattle.model.specs.Blocks.{Block, fields_of}
use Rattle.model.specs.Calls.{Buffers, Created, Out, after_turn, answer_by, beside, block_place, call, change_by, change_call, clear_call, clear_cut_call, cleared_by, commit_cut_call, commit_writes, copy_conditions, create_by, found_place, heard, log_call, mark_by, mark_call, out, own_place, panel_call, panel_place, place_by, read_call, read_place, refusal_of, show_call, show_place, side_in, status_call, stopped_by, store_conditions, store_refusal, store_side, store_with, turn_on, written_from}
use Rattle.model.specs.Codec.{joined}
use Rattle.model.specs.Entry.{Entry, added, copied, deleted, empty, normal, own_bytes}
use Rattle.model.specs.Fitting.{fits_entry, fits_store, has}
use Rattle.model.specs.History.{Bytes, Commit, History, last, namer, newest, present, sheet}
use Rattle.model.specs.Invariant.{Base, FitsAt, Kept}
use Rattle.model.specs.Machine.{Add, Answer, Call, Clears, ClearsCut, Commits, CommitsCut, Copy, Delete, Edit, Log, Move, Panel, Read, Release, Revert, Show, Side, State, Status, Update, as_bytes, blocks_for, commit_changes, committing, doing, done, entry, marking, new_commit, panel_sheet, put, revision, shown, shown_namer, side_of, stopped, with_tail}
use Rattle.model.specs.Refusals.{Clear, conditions, first_of, no_seat, no_sheet, tail_conditions, too_late}
use Rattle.model.specs.Log.{Mark, Placed, among, commits, marks, panel_revision, released, releases}
use Rattle.model.specs.Pass.{log_all}
use Rattle.model.specs.Rows.{some-row}
use Rattle.model.specs.Run.{Turn, Typed, Valid, asked, side_by, side_step, step, step_by, own_conditions}
use Rattle.model.specs.Shows.{Seen, Shows}
use Rattle.model.specs.Tail.{Stored, Tailed}
use Rattle.model.specs.Store.{bare_of, blank_from, blanks, block_count, block_used, blocks_of, front, store_blocks, store_history, store_marks, tail_of, used_of}
use Rattle.model.specs.WorkCopy.{FitsCopyBlock, HoldsCopy, copy_bytes, copy_ok, entries_of, entry_block}
use Rattle.model.specs.Writing.{new_blocks, new_contents, with_commit, with_mark}
use Rattle.laws.proofs.Conditions.{clear, clear_first, clear_mid, own-none}
use Rattle.laws.proofs.Cutting.{cleared_kin, content-count, cut_bare, cut_stored, write_count_lem}
use Rattle.laws.proofs.Holding.{history-logged, holds-accepted}
use Rattle.laws.proofs.Invariant.{Committable, KeptSide, committable, kept-doing, kept_side, made-commit}
use Rattle.laws.proofs.Logs.{greatest-low, marks-commit, marks-mark}
use Rattle.laws.proofs.Marking.{Releasable, log-mark, stored-mark}
use Rattle.laws.proofs.Places.{heard-block, heard-own}
use Rattle.laws.proofs.Rows.{cond-any, is_t, or_false}
use Rattle.laws.proofs.Store.{bare-held, clear-held, count_held, history-held, log-held, log-stored, stored_tailed, tail-held, tailed_none, used-held}
use Rattle.laws.proofs.WorkCopy.{copy_bytes_lem, holds-copy}
use Rattle.laws.proofs.Writing.{log-commit, stored-commit}

-- ---- what fits passes the test, and has a layout

has_base : (h : History) (b i : ℕ) → Base h b i → has h b i ≡ true
has_base h b i B = rw (le-leb b (last h) B.high, B.there)

fits_test : (h : History) (i : ℕ) (e : Entry) → FitsAt h i e → fits_entry h i e ≡ true
fits_test h i empty f = refl
fits_test h i (normal b x) f = has_base h b i f.0
fits_test h i (added x) f = refl
fits_test h i (deleted b) f = has_base h b i f
fits_test h i (copied s r x) f = has_base h r s f.1

fits-rows : (h : History) (k : ℕ) (es : List Entry) → ((i : ℕ) → FitsAt h (k + i) (get_or es i empty)) → some-row (λ i e. not (fits_entry h i e)) k es ≡ false
fits-rows h k [] f = refl
fits-rows h k (e ∷ es) f =
    let z : k + 0 ≡ k = omega arith in
    let p : fits_entry h k e ≡ true = fits_test h k e (rw z at (f 0)) in
    let q : some-row (λ i e. not (fits_entry h i e)) (suc k) es ≡ false = fits-rows h (suc k) es (λ i. let w : k + suc i ≡ suc k + i = omega arith in rw w at (f (suc i))) in
    ap₂ (λ (a b : Bool). not a || b) p q

pub fits_all : (h : History) (es : List Entry) → ((i : ℕ) → FitsAt h i (get_or es i empty)) → fits_store h es ≡ true
fits_all h es f = ap not (fits-rows h 0 es (λ i. rw zero-add (f i)))

pub fits_piece : (h : History) (i : ℕ) (e : Entry) → last h < 65_536 → FitsAt h i e → FitsCopyBlock (entry_block e)
fits_piece h i empty n f = tt
fits_piece h i (normal b x) n f = ((f.0.low, omega (arith, f.0.high)), (f.1.size, f.1.bytes))
fits_piece h i (added x) n f = (f.size, f.bytes)
fits_piece h i (deleted b) n f = (f.low, omega (arith, f.high))
fits_piece h i (copied s r x) n f = (f.0, (f.1.low, omega (arith, f.1.high)), (f.2.size, f.2.bytes))

fits_pieces : (h : History) (k : ℕ) (es : List Entry) → last h < 65_536 → ((i : ℕ) → FitsAt h (k + i) (get_or es i empty)) → All FitsCopyBlock (map entry_block es)
fits_pieces h k [] n f = tt
fits_pieces h k (e ∷ es) n f = (
  fits_piece h (k + 0) e n (f 0),
  fits_pieces h (suc k) es n (λ i. let w : k + suc i ≡ suc k + i = omega arith in rw w at (f (suc i))),
)

-- the copy that a call leaves
pub laid-copy : (d : Side) → KeptSide d → d.blocks ≤ 4_096 → 1 ≤ d.seat → d.seat ≤ 4 → HoldsCopy (copy_bytes d.seat d.entries) d.seat d.entries
laid-copy d K n lo hi =
    copy_bytes_lem d.seat d.entries K.wide lo hi
    (fits_pieces d.history 0 d.entries (omega (arith, K.used, K.room)) (λ i. rw zero-add (K.fits i)))

-- all calls but clearing and a release, which are on the store alone, and those that may stop
abbrev Alters : Call → Type 0
Alters (Add i x) = Unit {0}
Alters (Edit i x) = Unit {0}
Alters (Delete i) = Unit {0}
Alters (Copy i j) = Unit {0}
Alters (Move i j) = Unit {0}
Alters (Commits stamp mask) = Unit {0}
Alters (Update mask R) = Unit {0}
Alters (Revert mask) = Unit {0}
Alters (Read R i) = Unit {0}
Alters (Show i) = Unit {0}
Alters (Status i) = Unit {0}
Alters (Log R i) = Unit {0}
Alters Clears = ⊥
Alters (CommitsCut stamp mask n) = ⊥
Alters (ClearsCut n) = ⊥
Alters (Release R seat stamp) = ⊥
Alters (Panel R i) = Unit {0}

-- the store shows the side: the layout of its history, with its marks
abbrev pub Shown : ℕ → Bytes → Side → Type 0
Shown N store d = Tailed N store d.history d.used d.tail × (store_marks store ≡ d.marks)

-- the store that a call leaves
stored-doing : (N : ℕ) (store : Bytes) (d : Side) (c : Call) → N ≤ 4_096 → Alters c → d.blocks ≡ N → Shown N store d → KeptSide d
    → first_of (own_conditions d c) ≡ none → 1 ≤ d.seat → d.seat ≤ 4 → Typed c
    → Shown N (store_with store (asked d c)) (doing d c).1
stored-doing N store d (Add i x) many n b S K e lo hi ty = S
stored-doing N store d (Edit i x) many n b S K e lo hi ty = S
stored-doing N store d (Delete i) many n b S K e lo hi ty = S
stored-doing N store d (Copy i j) many n b S K e lo hi ty = S
stored-doing N store d (Move i j) many n b S K e lo hi ty = S
stored-doing N store d (Commits stamp mask) many n b S K e lo hi ty =
    let q = own-none d (Commits stamp mask) e in
    let C = committable d stamp mask q.0 lo hi ty in
    let c : Commit = new_commit d stamp mask in
    let z : d.tail ≡ 0 = eqb-true d.tail 0 (not-false (eqb d.tail 0) q.1.0) in
    let X = S.0 in
    let bs : List Block = blocks_of N X.bare in
    let is : store_blocks store ≡ bs = ap₂ blocks_of (count_held N store d.history d.used d.tail X) (bare-held N store d.history d.used d.tail X) in
    let h' : History = d.history ++ (c ∷ []) in
    let u' : ℕ = d.used + blocks_for d.history c.changes in
    let short : last d.history < 65_535 = omega (arith, K.used, K.room) in
    let M = made-commit d stamp mask K C in
    let room : d.used + blocks_for d.history c.changes ≤ N = omega (arith, C.room) in
    let new : Bytes = joined fields_of (with_commit bs c) in
    let S' : Stored N new h' u' = stored-commit N X.bare d.history d.used c many short X.stored M room in
    let marked : store_marks new ≡ d.marks =
    ap marks (log-stored N new h' u' S' ∙ log-commit N X.bare d.history d.used c many short X.stored M room) ∙ marks-commit (log_all bs) c
    ∙ ap marks (sym (log-held N store d.history d.used d.tail X)) ∙ S.1 in
    subst (λ (x : List Block). Shown N (joined fields_of (with_commit x c)) (committing d stamp mask)) (sym is)
    (subst (λ (t : ℕ). Tailed N new h' u' t) (sym z) (stored_tailed N new h' u' S'), marked)
stored-doing N store d (Update mask R) many n b S K e lo hi ty = S
stored-doing N store d (Revert mask) many n b S K e lo hi ty = S
stored-doing N store d (Read R i) many n b S K e lo hi ty = S
stored-doing N store d (Show i) many n b S K e lo hi ty = S
stored-doing N store d (Status i) many n b S K e lo hi ty = S
stored-doing N store d (Log R i) many n b S K e lo hi ty = S
stored-doing N store d Clears many n b S K e lo hi ty = absurd n
stored-doing N store d (CommitsCut stamp mask m) many n b S K e lo hi ty = absurd n
stored-doing N store d (ClearsCut m) many n b S K e lo hi ty = absurd n
stored-doing N store d (Release R seat stamp) many n b S K e lo hi ty = absurd n
stored-doing N store d (Panel R i) many n b S K e lo hi ty = S

pub same-seat : (d : Side) (c : Call) → ((doing d c).1.seat ≡ d.seat) × ((doing d c).1.blocks ≡ d.blocks)
same-seat d (Add i x) = (refl, refl)
same-seat d (Edit i x) = (refl, refl)
same-seat d (Delete i) = (refl, refl)
same-seat d (Copy i j) = (refl, refl)
same-seat d (Move i j) = (refl, refl)
same-seat d (Commits stamp mask) = (refl, refl)
same-seat d (Update mask R) = (refl, refl)
same-seat d (Revert mask) = (refl, refl)
same-seat d (Read R i) = (refl, refl)
same-seat d (Show i) = (refl, refl)
same-seat d (Status i) = (refl, refl)
same-seat d (Log R i) = (refl, refl)
same-seat d Clears = (refl, refl)
same-seat d (CommitsCut stamp mask n) =
    cond-any (λ (x : Answer × Side). (x.1.seat ≡ d.seat) × (x.1.blocks ≡ d.blocks)) (leb (blocks_for d.history (commit_changes d.history mask d.entries)) n) (λ t. (refl, refl)) (λ t. (refl, refl))
same-seat d (ClearsCut n) = cond-any (λ (x : Answer × Side). (x.1.seat ≡ d.seat) × (x.1.blocks ≡ d.blocks)) (leb d.tail n) (λ t. (refl, refl)) (λ t. (refl, refl))
same-seat d (Release R seat stamp) = (refl, refl)
same-seat d (Panel R i) = (refl, refl)

-- what a call on the store alone sees of a side
abbrev alone : Side → Side
alone d = record { seat = 0; blocks = d.blocks; used = d.used; tail = d.tail; history = d.history; marks = d.marks; entries = [] }

-- ---- one call on a store and a seat's working copy

module _ (N : ℕ) (store copy : Bytes) (d : Side) (E : Seen N store copy d) (K : KeptSide d) (lo : 1 ≤ d.seat) (hi : d.seat ≤ 4) where
  counted : block_count store ≡ N
  counted = count_held N store d.history d.used d.tail E.stored

  same-history : store_history store ≡ d.history
  same-history = history-held N store d.history d.used d.tail E.stored

  -- the call finds the side in the buffers
  pub same_side : side_in store copy ≡ d
  same_side =
      let C = holds-copy copy d.seat d.entries E.copied in
      let u : used_of store ≡ d.used = used-held N store d.history d.used d.tail E.stored in
      let t : tail_of store ≡ d.tail = tail-held N store d.history d.used d.tail E.stored in
      let n : block_count store ≡ d.blocks = counted ∙ sym E.blocks in
      λ i. record { seat = C.2 i; blocks = n i; used = u i; tail = t i; history = same-history i; marks = E.marked i; entries = C.3 i }

  same_alone : store_side store ≡ alone d
  same_alone = λ i. alone (same_side i)

  -- a store that is the same without its tail has the same marks
  same-marks : (other : Bytes) (t : ℕ) (Y : Tailed N other d.history d.used t) → Y.bare ≡ E.stored.bare → store_marks other ≡ d.marks
  same-marks other t Y e =
      ap marks (log-held N other d.history d.used t Y ∙ ap (λ (l : Bytes). log_all (blocks_of N l)) e ∙ sym (log-held N store d.history d.used d.tail E.stored)) ∙ E.marked

  -- no line from 1 to 6 holds
  pub store-clear : Clear (store_conditions store)
  store-clear = clear-held N store d.history d.used d.tail E.stored E.few E.many

  pub copy-clear : Clear (copy_conditions store copy)
  copy-clear =
      let C = holds-copy copy d.seat d.entries E.copied in
      let f : fits_store (store_history store) (entries_of copy) ≡ true =
      ap₂ fits_store same-history C.3 ∙ fits_all d.history d.entries K.fits in
      (ap not (eq-eqb (length copy) 16_896 C.0), (ap not (is_true (copy_ok copy) C.1), (ap not f, tt)))

  pub same-refusal : (c : Call) → refusal_of store copy c ≡ first_of (own_conditions d c)
  unfolding refusal_of
  same-refusal c =
      clear_first (store_conditions store) (tail_conditions (side_in store copy) c ++ (copy_conditions store copy ++ conditions (side_in store copy) c)) store-clear
      ∙ clear_mid (tail_conditions (side_in store copy) c) (copy_conditions store copy) (conditions (side_in store copy) c) copy-clear
      ∙ ap (λ (x : Side). first_of (own_conditions x c)) same_side

  pub store_refusal_lem : (c : Call) → store_refusal store c ≡ first_of (own_conditions (alone d) c)
  unfolding store_refusal
  store_refusal_lem c =
      clear_first (store_conditions store) (own_conditions (store_side store) c) store-clear ∙ ap (λ (x : Side). first_of (own_conditions x c)) same_alone

  -- what the buffers hold afterwards
  abbrev Agrees : Out → Answer × Side → Type 0
  Agrees o r = (o.says ≡ r.0) × Seen N o.store o.copy r.1

  -- ---- a call that changes a buffer

  change_by_lem : (c : Call) (o : Option ℕ) → Alters c → Typed c → first_of (own_conditions d c) ≡ o → Agrees (change_by o store copy c) (side_by o d c)
  change_by_lem c (some n) al ty e = (refl, E)
  change_by_lem c none al ty e =
      let d' : Side = (doing d c).1 in
      let D : KeptSide d' = kept-doing d c (own-none d c e).0 lo hi ty K in
      let m = same-seat d c in
      let shown = stored-doing N store d c E.many al E.blocks (E.stored, E.marked) K e lo hi ty in
      let top : d'.blocks ≤ 4_096 = omega (arith, m.1, E.blocks, E.many) in
      let w : Agrees (out (doing d c).0 (store_with store (asked d c)) (copy_bytes d'.seat d'.entries)) (doing d c) = (
        refl,
        record {
          few = E.few;
          many = E.many;
          blocks = m.1 ∙ E.blocks;
          stored = shown.0;
          marked = shown.1;
          copied = laid-copy d' D top (omega (arith, m.0)) (omega (arith, m.0));
        },
      ) in
      subst (λ (x : Side). Agrees (out (doing x c).0 (store_with store (asked x c)) (copy_bytes (doing x c).1.seat (doing x c).1.entries)) (doing d c)) (sym same_side) w

  change-one : (c : Call) → Alters c → Typed c → Agrees (change_call store copy c) (side_step d c)
  unfolding change_call
  change-one c al ty =
      subst (λ (o : Option ℕ). Agrees (change_by o store copy c) (side_step d c)) (sym (same-refusal c)) (change_by_lem c (first_of (own_conditions d c)) al ty refl)

  -- ---- clearing

  all_cleared : Tailed N E.stored.bare d.history d.used 0
  all_cleared = stored_tailed N E.stored.bare d.history d.used E.stored.stored

  clear-one : Agrees (call store copy Clears) (side_step d Clears)
  unfolding clear_call store_refusal
  clear-one =
      let q : first_of (store_conditions store ++ []) ≡ none = clear_first (store_conditions store) [] store-clear in
      subst (λ (x : Created). Agrees (out x.says x.buffer copy) (side_step d Clears)) (sym (ap₂ (λ (o : Option ℕ) (l : Bytes). create_by o store l) q (bare-held N store d.history d.used d.tail E.stored))) (
        refl,
        record {
          few = E.few;
          many = E.many;
          blocks = E.blocks;
          stored = all_cleared;
          marked = same-marks E.stored.bare 0 all_cleared (tailed_none N E.stored.bare d.history d.used all_cleared);
          copied = E.copied;
        },
      )

  -- the same, stopped after n writes
  clear_cut_lem : (n : ℕ) → Agrees (call store copy (ClearsCut n)) (side_step d (ClearsCut n))
  unfolding clear_cut_call store_refusal
  clear_cut_lem n =
      let X = E.stored in
      let q : first_of (store_conditions store ++ []) ≡ none = clear_first (store_conditions store) [] store-clear in
      let u : used_of store ≡ d.used = used-held N store d.history d.used d.tail X in
      let t : tail_of store ≡ d.tail = tail-held N store d.history d.used d.tail X in
      let b : bare_of store ≡ X.bare = bare-held N store d.history d.used d.tail X in
      let is : cleared_by (first_of (store_conditions store ++ [])) store n ≡ cond {A = Created} (leb d.tail n) (record { says = done; buffer = X.bare }) (record { says = stopped; buffer = blank_from (d.used + d.tail - n) store }) =
      (λ i. cleared_by (q i) store n) ∙ (λ i. cond {A = Created} (leb (t i) n) (record { says = done; buffer = b i }) (record { says = stopped; buffer = blank_from (u i + t i - n) store })) in
      subst (λ (x : Created). Agrees (out x.says x.buffer copy) (side_step d (ClearsCut n))) (sym is) (two (leb d.tail n) refl)
    where
      place : leb d.tail n ≡ false → d.used + (d.tail - n) ≡ d.used + d.tail - n
      place e = omega (arith, leb-false d.tail n e)

      kin : leb d.tail n ≡ false → (Y : Tailed N (blank_from (d.used + (d.tail - n)) store) d.history d.used (d.tail - n)) × (Y.bare ≡ E.stored.bare)
      kin e = cleared_kin N store d.history d.used d.tail E.stored (d.tail - n) (omega arith)

      two : (t : Bool) → leb d.tail n ≡ t
          → Agrees (let x = cond {A = Created} t (record { says = done; buffer = E.stored.bare }) (record { says = stopped; buffer = blank_from (d.used + d.tail - n) store }) in out x.says x.buffer copy)
          (cond t (done, with_tail d 0) (stopped, with_tail d (d.tail - n)))
      two true e = (
        refl,
        record {
          few = E.few;
          many = E.many;
          blocks = E.blocks;
          stored = all_cleared;
          marked = same-marks E.stored.bare 0 all_cleared (tailed_none N E.stored.bare d.history d.used all_cleared);
          copied = E.copied;
        },
      )
      two false e = (
        refl,
        record {
          few = E.few;
          many = E.many;
          blocks = E.blocks;
          stored = subst (λ (p : ℕ). Tailed N (blank_from p store) d.history d.used (d.tail - n)) (place e) (kin e).0;
          marked = ap (λ (p : ℕ). store_marks (blank_from p store)) (sym (place e)) ∙ same-marks (blank_from (d.used + (d.tail - n)) store) (d.tail - n) (kin e).0 (kin e).1;
          copied = E.copied;
        },
      )

  -- ---- a store without a tail

  module _ (z : d.tail ≡ 0) where
    untailed : Tailed N store d.history d.used 0
    untailed = subst (λ (t : ℕ). Tailed N store d.history d.used t) z E.stored

    bare_now : bare_of store ≡ store
    bare_now = bare-held N store d.history d.used 0 untailed ∙ tailed_none N store d.history d.used untailed

    blocks_now : store_blocks store ≡ blocks_of N store
    blocks_now = ap₂ blocks_of counted bare_now

    pub stored_now : Stored N store d.history d.used
    stored_now = subst (λ (l : Bytes). Stored N l d.history d.used) (tailed_none N store d.history d.used untailed) untailed.stored

  -- ---- a commit that stops after n writes

  module _ (stamp mask n : ℕ) (ty : stamp < 2 ^ 32) (e : first_of (own_conditions d (CommitsCut stamp mask n)) ≡ none) where
    abbrev c : Commit
    c = new_commit d stamp mask

    pub none-there : d.tail ≡ 0
    none-there = eqb-true d.tail 0 (not-false (eqb d.tail 0) (own-none d (CommitsCut stamp mask n) e).1.0)

    C : Committable d stamp mask
    C = committable d stamp mask (own-none d (CommitsCut stamp mask n) e).0 lo hi ty

    short : last d.history < 65_535
    short = omega (arith, K.used, K.room, E.blocks, E.many)

    room : d.used + blocks_for d.history c.changes ≤ N
    room = omega (arith, C.room, E.blocks)

    abbrev writes : List Block
    writes = new_blocks (front (blocks_of N store)) (blanks (blocks_of N store)) c []

    pub writes_are : commit_writes store copy stamp mask ≡ writes
    writes_are =
        ap₂ (λ (x : List Block) (y : Side). new_blocks (front x) (blanks x) (new_commit y stamp mask) []) (blocks_now none-there) same_side

    pub count_is : length (commit_writes store copy stamp mask) ≡ blocks_for d.history c.changes
    count_is = ap length writes_are ∙ write_count_lem N store d.history d.used c E.many short (stored_now none-there) (made-commit d stamp mask K C) room

    pub part_is : written_from store (take n (commit_writes store copy stamp mask)) ≡ written (512 * d.used) (joined fields_of (take n writes)) store
    part_is =
        ap₂ (λ (u : ℕ) (x : List Block). written (512 * u) (joined fields_of (take n x)) store) (used-held N store d.history d.used d.tail E.stored) writes_are

    -- stopped before the last write: a tail, and the store without it is as it was
    pub cut_kin : n < blocks_for d.history c.changes
        → (Y : Tailed N (written_from store (take n (commit_writes store copy stamp mask))) d.history d.used n) × (Y.bare ≡ store)
    cut_kin l =
        let M = made-commit d stamp mask K C in
        let g : n ≤ length (new_contents (front (blocks_of N store)) (blanks (blocks_of N store)) c) =
        omega (arith, content-count N store d.history d.used c E.many short (stored_now none-there) M room) in
        subst (λ (s : Bytes). (Y : Tailed N s d.history d.used n) × (Y.bare ≡ store)) (sym part_is)
        (cut_stored N store d.history d.used c E.many short (stored_now none-there) M room n g, cut_bare N store d.history d.used c E.many short (stored_now none-there) M room n g)

    cut_two : (t : Bool) → leb (blocks_for d.history c.changes) n ≡ t
        → Agrees (cond t (change_by none store copy (Commits stamp mask)) (out stopped (written_from store (take n (commit_writes store copy stamp mask))) copy))
        (cond t (revision (suc (last d.history)), committing d stamp mask) (stopped, with_tail d n))
    cut_two true q = change_by_lem (Commits stamp mask) none tt ty e
    cut_two false q =
        let Y = cut_kin (leb-false (blocks_for d.history c.changes) n q) in (
          refl,
          record {
            few = E.few;
            many = E.many;
            blocks = E.blocks;
            stored = Y.0;
            marked =
                same-marks (written_from store (take n (commit_writes store copy stamp mask))) n Y.0
                (Y.1 ∙ sym (bare_now none-there) ∙ bare-held N store d.history d.used d.tail E.stored);
            copied = E.copied;
          },
        )

    cut_done : Agrees (stopped_by none store copy stamp mask n) (doing d (CommitsCut stamp mask n))
    cut_done =
        subst (λ (o : Out). Agrees o (doing d (CommitsCut stamp mask n)))
        (sym (ap (λ (k : ℕ). cond (leb k n) (change_by none store copy (Commits stamp mask)) (out stopped (written_from store (take n (commit_writes store copy stamp mask))) copy)) count_is))
        (cut_two (leb (blocks_for d.history c.changes) n) refl)

  cut_by : (o : Option ℕ) (stamp mask n : ℕ) → stamp < 2 ^ 32 → first_of (own_conditions d (CommitsCut stamp mask n)) ≡ o
      → Agrees (stopped_by o store copy stamp mask n) (side_by o d (CommitsCut stamp mask n))
  cut_by (some r) stamp mask n ty e = (refl, E)
  cut_by none stamp mask n ty e = cut_done stamp mask n ty e

  cut_one : (stamp mask n : ℕ) → stamp < 2 ^ 32 → Agrees (call store copy (CommitsCut stamp mask n)) (side_step d (CommitsCut stamp mask n))
  unfolding commit_cut_call
  cut_one stamp mask n ty =
      subst (λ (o : Option ℕ). Agrees (stopped_by o store copy stamp mask n) (side_step d (CommitsCut stamp mask n))) (sym (same-refusal (CommitsCut stamp mask n)))
      (cut_by (first_of (own_conditions d (CommitsCut stamp mask n))) stamp mask n ty refl)

  -- ---- a release

  module _ (R seat stamp : ℕ) (ty : stamp < 2 ^ 32) (e : first_of (own_conditions d (Release R seat stamp)) ≡ none) where
    abbrev m : Mark
    m = released R seat stamp

    lines : Clear (conditions d (Release R seat stamp))
    lines = clear (conditions d (Release R seat stamp)) (own-none d (Release R seat stamp) e).0

    pub no_tail : d.tail ≡ 0
    no_tail = eqb-true d.tail 0 (not-false (eqb d.tail 0) (own-none d (Release R seat stamp) e).1.0)

    marks_now : marks (log_all (blocks_of N store)) ≡ d.marks
    marks_now = ap (λ (x : List Block). marks (log_all x)) (sym (blocks_now no_tail)) ∙ E.marked

    last_now : last (commits (log_all (blocks_of N store))) ≡ last d.history
    last_now = ap last (history-logged N store ∙ (holds-accepted N store d.history (stored_now no_tail).holds).2)

    pub releasable : Releasable N store d.history d.used R seat stamp
    releasable =
        let seven = or_false (no_seat seat) (eqb R 0 || too_late d.history R) lines.0 in
        let r = or_false (eqb R 0) (too_late d.history R) seven.1 in
        let s = and_true (leb 1 seat) (leb seat 4) (is_t (leb 1 seat && leb seat 4) seven.0) in
        record {
          stored = stored_now no_tail;
          short = omega (arith, K.used, K.room, E.blocks, E.many);
          low = positive R r.0;
          high = ltb-false (last d.history) R r.1;
          seat-low = leb-true 1 seat (is_true (leb 1 seat) s.0);
          seat-high = leb-true seat 4 (is_true (leb seat 4) s.1);
          small = ty;
          new = ap (λ (ps : List Placed). among R (releases ps)) marks_now ∙ lines.1.0;
          room = omega (arith, ltb-false d.blocks (d.used + 1) lines.1.1.0, E.blocks);
        }
      where
        positive : (r : ℕ) → eqb r 0 ≡ false → 1 ≤ r
        positive zero q = let z : ◌≡◌ {A = ℕ} 0 1 = cc in absurd (omega arith)
        positive (suc r) q = omega arith

    pub marked-store : Shown N (joined fields_of (with_mark (store_blocks store) m)) (marking d m)
    marked-store =
        let bs : List Block = blocks_of N store in
        let new : Bytes = joined fields_of (with_mark bs m) in
        let S' : Stored N new d.history (d.used + 1) = stored-mark N store d.history d.used R seat stamp releasable in
        subst (λ (x : List Block). Shown N (joined fields_of (with_mark x m)) (marking d m)) (sym (blocks_now no_tail)) (
          subst (λ (t : ℕ). Tailed N new d.history (d.used + 1) t) (sym no_tail) (stored_tailed N new d.history (d.used + 1) S'),
          ap marks (log-stored N new d.history (d.used + 1) S' ∙ log-mark N store d.history d.used R seat stamp releasable) ∙ marks-mark (log_all bs) m
              ∙ ap₂ (λ (ps : List Placed) (n : ℕ). ps ++ (record { after = n; mark = m } ∷ [])) marks_now last_now,
        )

  release_by : (o : Option ℕ) (R seat stamp : ℕ) → stamp < 2 ^ 32 → first_of (own_conditions d (Release R seat stamp)) ≡ o
      → Agrees (beside (mark_by o store (Release R seat stamp)) copy) (side_by o d (Release R seat stamp))
  release_by (some n) R seat stamp ty e = (refl, E)
  release_by none R seat stamp ty e =
      let shown = marked-store R seat stamp ty e in
      (refl, record { few = E.few; many = E.many; blocks = E.blocks; stored = shown.0; marked = shown.1; copied = E.copied })

  release_one : (R seat stamp : ℕ) → stamp < 2 ^ 32 → Agrees (call store copy (Release R seat stamp)) (side_step d (Release R seat stamp))
  unfolding mark_call
  release_one R seat stamp ty =
      subst (λ (o : Option ℕ). Agrees (beside (mark_by o store (Release R seat stamp)) copy) (side_step d (Release R seat stamp))) (sym (store_refusal_lem (Release R seat stamp)))
      (release_by (first_of (own_conditions d (Release R seat stamp))) R seat stamp ty refl)

  -- ---- a call that looks: it leaves the side

  still_by : (o : Option ℕ) (c : Call) → (doing d c).1 ≡ d → (side_by o d c).1 ≡ d
  still_by (some n) c e = refl
  still_by none c e = e

  look_one : (a : Answer) (c : Call) → (doing d c).1 ≡ d → a ≡ (side_step d c).0 → Agrees (out a store copy) (side_step d c)
  look_one a c e q = (q, subst (Seen N store copy) (sym (still_by (first_of (own_conditions d c)) c e)) E)

  heard_by : (copy' : Bytes) (o : Option Bytes) (R i v : ℕ) → R ≤ last d.history → sheet d.history R i ≡ o → not (present o) ≡ false
      → heard store copy' (block_place store (block_used store R i) v) ≡ as_bytes v o
  heard_by copy' none R i v le e q = let z : ◌≡◌ {A = ℕ} 0 1 = cc in absurd (omega arith)
  heard_by copy' (some x) R i v le e q = heard-block N store copy' d.history d.used d.tail R i v x E.stored le e

  read_by_lem : (o : Option ℕ) (R i : ℕ) → first_of (conditions d (Read R i)) ≡ o
      → heard store [] (place_by o (block_place store (block_used store R i) (namer d.history R i))) ≡ (side_by o d (Read R i)).0
  read_by_lem (some n) R i e = refl
  read_by_lem none R i e =
      let l = clear (conditions d (Read R i)) e in
      heard_by [] (sheet d.history R i) R i (namer d.history R i) (ltb-false (last d.history) R (or_false (no_sheet i) (too_late d.history R) l.0).1) refl l.1.0

  pub read_one : (R i : ℕ) → read_call store R i ≡ (side_step d (Read R i)).0
  unfolding read_place
  read_one R i =
      ap₂ (λ (o : Option ℕ) (h : History). heard store [] (place_by o (block_place store (block_used store R i) (namer h R i)))) (store_refusal_lem (Read R i)) same-history
      ∙ read_by_lem (first_of (conditions d (Read R i))) R i refl

  panel_by : (o : Option ℕ) (R i : ℕ) → first_of (conditions d (Panel R i)) ≡ o
      → heard store [] (place_by o (block_place store (block_used store (panel_revision d.marks R) i) (namer d.history (panel_revision d.marks R) i))) ≡ (side_by o d (Panel R i)).0
  panel_by (some n) R i e = refl
  panel_by none R i e =
      let l = clear (conditions d (Panel R i)) e in
      let top : R ≤ last d.history = ltb-false (last d.history) R (or_false (no_sheet i) (too_late d.history R) l.0).1 in
      heard_by [] (panel_sheet d R i) (panel_revision d.marks R) i (namer d.history (panel_revision d.marks R) i) (omega (arith, greatest-low R (releases d.marks))) refl l.1.0

  pub panel-one : (R i : ℕ) → panel_call store R i ≡ (side_step d (Panel R i)).0
  unfolding panel_place
  panel-one R i =
      ap₂ (λ (o : Option ℕ) (x : Side). heard store [] (place_by o (block_place store (block_used store (panel_revision x.marks R) i) (namer x.history (panel_revision x.marks R) i))))
      (store_refusal_lem (Panel R i)) same_alone
      ∙ panel_by (first_of (conditions d (Panel R i))) R i refl

  shown_by : (o : Option Bytes) (i : ℕ) → i ≤ 31 → own_bytes (entry d i) ≡ o → not (present (shown o (newest d.history i))) ≡ false
      → heard store copy (own_place o i (block_place store (block_used store (last d.history) i) (namer d.history (last d.history) i)))
      ≡ as_bytes (shown_namer o (namer d.history (last d.history) i)) (shown o (newest d.history i))
  shown_by none i le e q = heard_by copy (newest d.history i) (last d.history) i (namer d.history (last d.history) i) (let z : last d.history ≤ last d.history = omega arith in z) refl q
  shown_by (some x) i le e q = heard-own store copy d.seat d.entries i x E.copied le e

  show_by : (o : Option ℕ) (i : ℕ) → first_of (conditions d (Show i)) ≡ o
      → heard store copy (place_by o (own_place (own_bytes (entry d i)) i (block_place store (block_used store (last d.history) i) (namer d.history (last d.history) i)))) ≡ (side_by o d (Show i)).0
  show_by (some n) i e = refl
  show_by none i e =
      let l = clear (conditions d (Show i)) e in
      shown_by (own_bytes (entry d i)) i (ltb-false 31 i l.0) refl l.1.0

  show_one : (i : ℕ) → show_call store copy i ≡ (side_step d (Show i)).0
  unfolding show_place
  show_one i =
      ap (λ (o : Option ℕ). heard store copy (place_by o (own_place (own_bytes (entry (side_in store copy) i)) i (found_place store (last (store_history store)) i)))) (same-refusal (Show i))
      ∙ ap₂ (λ (x : Side) (h : History). heard store copy (place_by (first_of (conditions d (Show i))) (own_place (own_bytes (entry x i)) i (block_place store (block_used store (last h) i) (namer h (last h) i))))) same_side same-history
      ∙ show_by (first_of (conditions d (Show i))) i refl

  answer_by_lem : (o : Option ℕ) (c : Call) → answer_by o (doing d c).0 ≡ (side_by o d c).0
  answer_by_lem (some n) c = refl
  answer_by_lem none c = refl

  status-one : (i : ℕ) → status_call store copy i ≡ (side_step d (Status i)).0
  unfolding status_call
  status-one i =
      ap₂ (λ (o : Option ℕ) (x : Side). answer_by o (doing x (Status i)).0) (same-refusal (Status i)) same_side
      ∙ answer_by_lem (first_of (conditions d (Status i))) (Status i)

  log-one : (R i : ℕ) → log_call store R i ≡ (side_step d (Log R i)).0
  unfolding log_call
  log-one R i =
      ap₂ (λ (o : Option ℕ) (x : Side). answer_by o (doing x (Log R i)).0) (store_refusal_lem (Log R i)) same_alone
      ∙ answer_by_lem (first_of (conditions d (Log R i))) (Log R i)

  -- THE STATEMENT for one seat: on buffers in which the side d is found, a call answers as the machine does, and leaves the machine's next side in them
  pub side_one : (c : Call) → Typed c → Agrees (call store copy c) (side_step d c)
  side_one (Add i x) ty = change-one (Add i x) tt ty
  side_one (Edit i x) ty = change-one (Edit i x) tt ty
  side_one (Delete i) ty = change-one (Delete i) tt ty
  side_one (Copy i j) ty = change-one (Copy i j) tt ty
  side_one (Move i j) ty = change-one (Move i j) tt ty
  side_one (Commits stamp mask) ty = change-one (Commits stamp mask) tt ty
  side_one (Update mask R) ty = change-one (Update mask R) tt ty
  side_one (Revert mask) ty = change-one (Revert mask) tt ty
  side_one (Read R i) ty = look_one (read_call store R i) (Read R i) refl (read_one R i)
  side_one (Show i) ty = look_one (show_call store copy i) (Show i) refl (show_one i)
  side_one (Status i) ty = look_one (status_call store copy i) (Status i) refl (status-one i)
  side_one (Log R i) ty = look_one (log_call store R i) (Log R i) refl (log-one R i)
  side_one Clears ty = clear-one
  side_one (CommitsCut stamp mask n) ty = cut_one stamp mask n ty
  side_one (ClearsCut n) ty = clear_cut_lem n
  side_one (Release R seat stamp) ty = release_one R seat stamp ty
  side_one (Panel R i) ty = look_one (panel_call store R i) (Panel R i) refl (panel-one R i)

-- ---- one call on buffers that show a state

pub seen_seat : (N : ℕ) (b : Buffers) (s : State) (k : ℕ) → Shows N b s → 1 ≤ k → k ≤ 4 → Seen N b.store (get_or b.copies (k - 1) []) (side_of s k)
seen_seat N b s k W lo hi = record {
  few = W.few;
  many = W.many;
  blocks = W.blocks;
  stored = W.store;
  marked = W.marked;
  copied =
      (let e : suc (k - 1) ≡ k = omega arith in
      subst (λ (n : ℕ). HoldsCopy (get_or b.copies (k - 1) []) n (get_or s.seats (k - 1) [])) e (W.copies (k - 1) (omega arith)));
}

module _ (N : ℕ) (b : Buffers) (s : State) (k : ℕ) (W : Shows N b s) (K : Kept s) (lo : 1 ≤ k) (hi : k ≤ 4) where
  shows-put : (d : Side) (store' copy' : Bytes) → d.seat ≡ k → Seen N store' copy' d
      → Shows N (record { store = store'; copies = set b.copies (k - 1) copy' }) (put s k d)
  shows-put d store' copy' q E = record {
    few = W.few;
    many = W.many;
    blocks = E.blocks;
    store = E.stored;
    marked = E.marked;
    four = length-set b.copies (k - 1) copy' ∙ W.four;
    copies = λ j lt. elim (eq_or j (k - 1)) [
      | inl e ↦
          let c : get_or (set b.copies (k - 1) copy') j [] ≡ copy' =
          ap (λ (m : ℕ). get_or (set b.copies (k - 1) copy') m []) e ∙ get_or-set_same b.copies (k - 1) copy' [] (omega (arith, W.four)) in
          let t : get_or (set s.seats (k - 1) d.entries) j [] ≡ d.entries =
          ap (λ (m : ℕ). get_or (set s.seats (k - 1) d.entries) m []) e ∙ get_or-set_same s.seats (k - 1) d.entries [] (omega (arith, K.four)) in
          let z : suc j ≡ d.seat = omega arith in
          rw (c, t, z) E.copied
      | inr ne ↦
          rw (get_or-set_other b.copies (k - 1) j copy' [] ne, get_or-set_other s.seats (k - 1) j d.entries [] ne) (W.copies j lt)
    ];
  }

  -- the machine's step is its side's step, put back
  pub step_side : (o : Option ℕ) (c : Call) → ((side_by o (side_of s k) c).0 ≡ (step_by o s k c).0) × (put s k (side_by o (side_of s k) c).1 ≡ (step_by o s k c).1)
  step_side (some n) c = (refl, λ i. record { blocks = s.blocks; used = s.used; tail = s.tail; history = s.history; marks = s.marks; seats = set-get_or s.seats (k - 1) [] i })
  step_side none c = (refl, refl)

  seat_still : (o : Option ℕ) (c : Call) → (side_by o (side_of s k) c).1.seat ≡ k
  seat_still (some n) c = refl
  seat_still none c = (same-seat (side_of s k) c).0

  call-one : (c : Call) → Typed c
      → ((call b.store (get_or b.copies (k - 1) []) c).says ≡ (step s k c).0)
      × Shows N (record { store = (call b.store (get_or b.copies (k - 1) []) c).store; copies = set b.copies (k - 1) (call b.store (get_or b.copies (k - 1) []) c).copy }) (step s k c).1
  call-one c ty =
      let o : Option ℕ = first_of (own_conditions (side_of s k) c) in
      let r = side_one N b.store (get_or b.copies (k - 1) []) (side_of s k) (seen_seat N b s k W lo hi) (kept_side s k K lo hi) lo hi c ty in
      let out' : Out = call b.store (get_or b.copies (k - 1) []) c in (
        r.0 ∙ (step_side o c).0,
        subst (Shows N (record { store = out'.store; copies = set b.copies (k - 1) out'.copy })) (step_side o c).1
            (shows-put (side_by o (side_of s k) c).1 out'.store out'.copy (seat_still o c) r.1),
      )

-- THE STATEMENT
pub one-step : (N : ℕ) (b : Buffers) (s : State) (t : Turn) → Shows N b s → Kept s → Valid t
    → ((turn_on b t).says ≡ (step s t.by t.call).0) × Shows N (after_turn b t) (step s t.by t.call).1
one-step N b s t W K v = call-one N b s t.by W K v.low v.high t.call v.typed
