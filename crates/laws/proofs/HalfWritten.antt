-- W5: every call but commit works on a store with a tail as on the store without it; commit is refused, and clearing takes the tail away.
-- Assumes nothing.
use Prim.Native.Nat.{◌*◌, ◌+◌, ◌-◌, ℕ}
use mathlib.Core.Bool.{Bool, cond, not}
use mathlib.Core.List.{List, [], ◌++◌, ◌∷◌}
use mathlib.Core.Option.{Option, none, some}
use mathlib.Core.Path.{◌∙◌, ◌≡◌, ap, ap₂, refl, sym}
use native.Mathlib.Omega.{arith}
use borrow.Author.Tests.{ne_eqb}
use lib.ListN.{drop, get_or, length, replicate, take}
use lib.Seq.{drop_at, length-take-le, take_at}
use Rattle.model.specs.Blocks.{Block, bytes_at}
use Rattle.model.specs.Calls.{Out, Place, both_conditions, call, change_by, change_call, clear_call, conditions_in, copy_conditions, copy_size_condition, create_by, found_place, in_store, mark_by, mark_call, out, own_place, panel_place, place_by, read_place, refusal_of, release_call, show_place, side_in, store_conditions, store_only_conditions, store_refusal, store_side, store_with}
use Rattle.model.specs.Entry.{Entry, own_bytes}
use Rattle.model.specs.Fitting.{fits_store}
use Rattle.model.specs.HalfWritten.{Bare, Meanwhile, Unfinished}
use Rattle.model.specs.History.{Bytes, History, last, namer}
use Rattle.model.specs.Log.{marks, panel_revision}
use Rattle.model.specs.Machine.{Add, Answer, Call, Clears, ClearsCut, Commits, CommitsCut, Copy, Delete, Edit, Log, Move, Panel, Read, Release, Revert, Show, Side, Status, Update, doing, done, entry, refused, with_tail}
use Rattle.model.specs.Pass.{log_all, tables_of}
use Rattle.model.specs.Refusals.{Clear, Condition, ◌when◌, conditions, first_of, tail_conditions}
use Rattle.model.specs.Run.{asked, own_conditions}
use Rattle.model.specs.Store.{bare_in, bare_of, blank_from, block_count, blocks_of, store_blocks, store_history, store_marks, tail_of, used_of}
use Rattle.model.specs.Tail.{Stored, Tailed}
use Rattle.model.specs.WorkCopy.{copy_bytes, copy_ok, entries_of, seat_of}
use Rattle.laws.proofs.Conditions.{clear, clear_first, none-holds, sized_so}
use Rattle.laws.proofs.Demand1.{demand_one, refused-leaves}
use Rattle.laws.proofs.Store.{bare-stored, clear-held, count_held, history-held, stored_tailed, tail-held, tailed_stored, taken-holds, taken-room, taken_tailed, used-held, used-stem}

-- ---- the machine: a call but commit and clearing does not look at the tail

record Blind (store : Bytes) (d : Side) (t : ℕ) (c : Call) : Type 0 where
  before : tail_conditions (with_tail d t) c ≡ tail_conditions d c
  lines : conditions (with_tail d t) c ≡ conditions d c
  -- what it answers and makes of the copy; and it leaves the store
  does : out (doing d c).0 (store_with store (asked d c)) (copy_bytes (doing d c).1.seat (doing d c).1.entries)
      ≡ out (doing (with_tail d t) c).0 store (copy_bytes (doing (with_tail d t) c).1.seat (doing (with_tail d t) c).1.entries)

blind : (store : Bytes) (d : Side) (t : ℕ) (c : Call) → Meanwhile c → Blind store d t c
blind store d t (Add i x) m = record { before = refl; lines = refl; does = refl }
blind store d t (Edit i x) m = record { before = refl; lines = refl; does = refl }
blind store d t (Delete i) m = record { before = refl; lines = refl; does = refl }
blind store d t (Copy i j) m = record { before = refl; lines = refl; does = refl }
blind store d t (Move i j) m = record { before = refl; lines = refl; does = refl }
blind store d t (Commits stamp mask) m = absurd m
blind store d t (Update mask R) m = record { before = refl; lines = refl; does = refl }
blind store d t (Revert mask) m = record { before = refl; lines = refl; does = refl }
blind store d t (Read R i) m = record { before = refl; lines = refl; does = refl }
blind store d t (Show i) m = record { before = refl; lines = refl; does = refl }
blind store d t (Status i) m = record { before = refl; lines = refl; does = refl }
blind store d t (Log R i) m = record { before = refl; lines = refl; does = refl }
blind store d t Clears m = absurd m
blind store d t (Panel R i) m = record { before = refl; lines = refl; does = refl }
blind store d t (CommitsCut stamp mask k) m = absurd m
blind store d t (ClearsCut k) m = absurd m
blind store d t (Release stamp R seat) m = absurd m

-- what a call sees of a store, and of a copy with any seat and entries
abbrev side : Bytes → ℕ → List Entry → Side
side store k es = record { seat = k; blocks = block_count store; used = used_of store; tail = tail_of store; history = store_history store; marks = store_marks store; entries = es }

-- ---- the bare store

module _ (store : Bytes) (e : first_of (store_conditions store) ≡ none) where
  abbrev n : ℕ
  n = block_count store

  abbrev h : History
  h = store_history store

  abbrev u : ℕ
  u = used_of store

  abbrev bare : Bytes
  bare = bare_of store

  stored : Stored n bare h u
  stored = record { holds = taken-holds store e; uses = refl }

  again : Tailed n bare h u 0
  again = stored_tailed n bare h u stored

  same_count : block_count bare ≡ n
  same_count = count_held n bare h u 0 again

  same-history : store_history bare ≡ h
  same-history = history-held n bare h u 0 again

  same-used : used_of bare ≡ u
  same-used = used-held n bare h u 0 again

  untailed : tail_of bare ≡ 0
  untailed = tail-held n bare h u 0 again

  same_blocks : store_blocks bare ≡ store_blocks store
  same_blocks = ap₂ blocks_of same_count (bare-stored n bare h u stored)

  taken : Clear (store_conditions store)
  taken = clear (store_conditions store) e

  bare-taken : Clear (store_conditions bare)
  bare-taken = let q = sized_so store taken.0 in clear-held n bare h u 0 again q.1 q.2

  -- the used blocks, and zeros
  pieces : bare ≡ take (512 * u) store ++ replicate (length store - 512 * u) 0
  unfolding bare_in blank_from
  pieces = ap (λ (m : ℕ). take (512 * m) store ++ replicate (length store - 512 * m) 0) (sym (used-stem store e))

  front-size : length (take (512 * u) store) ≡ 512 * u
  front-size = length-take-le (512 * u) store (omega (arith, taken-room store e))

  bare_like : Bare store bare
  bare_like = record {
    accepted = none-holds (store_conditions bare) bare-taken;
    untailed = untailed;
    history = same-history;
    used = same-used;
    front = ap (take (512 * u)) pieces ∙ take_at (take (512 * u) store) (replicate (length store - 512 * u) 0) (512 * u) front-size;
    zeros = ap (drop (512 * u)) pieces ∙ drop_at (take (512 * u) store) (replicate (length store - 512 * u) 0) (512 * u) front-size;
  }

  -- ---- clearing

  clears : clear_call store ≡ record { says = done; buffer = bare }
  unfolding clear_call store_refusal
  clears = ap (λ (o : Option ℕ). create_by o store bare) (clear_first (store_conditions store) [] taken)

  unchanged : tail_of store ≡ 0 → bare ≡ store
  unchanged z = bare-stored n store h u (tailed_stored n store h u (tail_of store) z (taken_tailed store e))

  -- ---- what the other calls find in it

  same_side : (k : ℕ) (es : List Entry) → side bare k es ≡ with_tail (side store k es) 0
  same_side k es = λ i. record { seat = k; blocks = same_count i; used = same-used i; tail = untailed i; history = same-history i; marks = marks (log_all (same_blocks i)); entries = es }

  -- the lines of read, log and a panel's reading
  store-lines : (c : Call) → Meanwhile c → first_of (store_only_conditions store c) ≡ first_of (store_only_conditions bare c)
  store-lines c m =
      let l = blind store (store_side store) 0 c m in
      clear_first (store_conditions store) (own_conditions (store_side store) c) taken
      ∙ ap first_of (sym (ap (λ (d : Side). own_conditions d c) (same_side 0 []) ∙ ap₂ (λ (x y : List Condition). x ++ y) l.before l.lines))
      ∙ sym (clear_first (store_conditions bare) (own_conditions (store_side bare) c) bare-taken)

  -- the places
  found-same : (R i : ℕ) → found_place store R i ≡ found_place bare R i
  found-same R i =
      ap₂ (λ (bs : List Block) (k : History). let p = get_or (get_or (tables_of bs) R []) i 0 in in_store (512 * p + 16) (length (bytes_at bs p)) (namer k R i))
      (sym same_blocks) (sym same-history)

  read_same : (R i : ℕ) → read_place store R i ≡ read_place bare R i
  unfolding read_place store_refusal
  read_same R i = ap₂ place_by (store-lines (Read R i) tt) (found-same R i)

  panel-same : (R i : ℕ) → panel_place store R i ≡ panel_place bare R i
  unfolding panel_place store_refusal
  panel-same R i =
      ap₂ place_by (store-lines (Panel R i) tt)
      (found-same (panel_revision (store_marks store) R) i ∙ ap (λ (bs : List Block). found_place bare (panel_revision (marks (log_all bs)) R) i) (sym same_blocks))

  -- a release looks at the tail right after line 3
  releases : (R seat stamp : ℕ) → (tail_of store ≡ 0 → ⊥) → release_call store R seat stamp ≡ record { says = refused 14; buffer = store }
  unfolding mark_call store_refusal
  releases R seat stamp z =
      let c : Call = Release R seat stamp in
      ap (λ (o : Option ℕ). mark_by o store c)
      (clear_first (store_conditions store) (own_conditions (store_side store) c) taken
      ∙ ap (λ (b : Bool). cond (not b) (some 14) (first_of (conditions (store_side store) c))) (ne_eqb (tail_of store) 0 z))

  module _ (copy : Bytes) where
    seen : side_in bare copy ≡ with_tail (side_in store copy) 0
    seen = same_side (seat_of copy) (entries_of copy)

    copy_lines_lem : copy_conditions bare copy ≡ copy_conditions store copy
    copy_lines_lem = ap (λ (k : History). copy_size_condition copy ∷ 5 when not (copy_ok copy) ∷ 6 when not (fits_store k (entries_of copy)) ∷ []) same-history

    -- the lines of a call that takes both
    both-lines : (c : Call) → Meanwhile c → first_of (both_conditions store copy c) ≡ first_of (both_conditions bare copy c)
    both-lines c m =
        let d : Side = side_in store copy in
        let b : Side = side_in bare copy in
        let l = blind store d 0 c m in
        clear_first (store_conditions store) (tail_conditions d c ++ (copy_conditions store copy ++ conditions d c)) taken
        ∙ sym (ap₂ (λ (x y : List Condition). first_of (x ++ y)) (ap (λ (x : Side). tail_conditions x c) seen ∙ l.before)
        (ap₂ (λ (x y : List Condition). x ++ y) copy_lines_lem (ap (λ (x : Side). conditions x c) seen ∙ l.lines)))
        ∙ sym (clear_first (store_conditions bare) (tail_conditions b c ++ (copy_conditions bare copy ++ conditions b c)) bare-taken)

    show_same : (i : ℕ) → show_place store copy i ≡ show_place bare copy i
    unfolding show_place refusal_of
    show_same i =
        ap₂ (λ (o : Option ℕ) (p : Place). place_by o (own_place (own_bytes (entry (side_in store copy) i)) i p)) (both-lines (Show i) tt)
        (found-same (last h) i ∙ ap (λ (k : History). found_place bare (last k) i) (sym same-history))

    commits : (stamp mask : ℕ) → (tail_of store ≡ 0 → ⊥) → call store copy (Commits stamp mask) ≡ out (refused 14) store copy
    commits stamp mask z =
        let d : Side = side_in store copy in
        let c : Call = Commits stamp mask in
        refused-leaves store copy c 14
        (clear_first (store_conditions store) (tail_conditions d c ++ (copy_conditions store copy ++ conditions d c)) taken
        ∙ ap (λ (b : Bool). cond (not b) (some 14) (first_of (copy_conditions store copy ++ conditions d c))) (ne_eqb (tail_of store) 0 z))

    -- ---- the calls that change the copy

    change_by_lem : (o : Option ℕ) (c : Call) → Meanwhile c → change_by o store copy c ≡ out (change_by o bare copy c).says store (change_by o bare copy c).copy
    change_by_lem (some k) c m = refl
    change_by_lem none c m =
        (blind store (side_in store copy) 0 c m).does
        ∙ ap (λ (x : Side). out (doing x c).0 store (copy_bytes (doing x c).1.seat (doing x c).1.entries)) (sym seen)

    change-one : (c : Call) → Meanwhile c → change_call store copy c ≡ out (change_call bare copy c).says store (change_call bare copy c).copy
    unfolding change_call refusal_of
    change-one c m =
        change_by_lem (refusal_of store copy c) c m
        ∙ ap (λ (o : Option ℕ). out (change_by o bare copy c).says store (change_by o bare copy c).copy) (both-lines c m)

    -- ---- the calls that look: refused, by the same number; else both answer as the machine does

    look_one : (c : Call) (k : ℕ) (es : List Entry) → Meanwhile c → first_of (conditions_in store copy c) ≡ first_of (conditions_in bare copy c)
        → ((s : Bytes) → Clear (conditions_in s copy c) → (call s copy c).says ≡ (doing (side s k es) c).0)
        → out (call store copy c).says store copy ≡ out (call bare copy c).says store copy
    look_one c k es m q f = ap (λ (a : Answer). out a store copy) (go (first_of (conditions_in store copy c)) refl)
      where
        go : (o : Option ℕ) → first_of (conditions_in store copy c) ≡ o → (call store copy c).says ≡ (call bare copy c).says
        go (some v) z = ap (λ (x : Out). x.says) (refused-leaves store copy c v z) ∙ sym (ap (λ (x : Out). x.says) (refused-leaves bare copy c v (sym q ∙ z)))
        go none z =
            f store (clear (conditions_in store copy c) z)
            ∙ ap (λ (x : Out). x.says) (blind store (side store k es) 0 c m).does
            ∙ ap (λ (d : Side). (doing d c).0) (sym (same_side k es))
            ∙ sym (f bare (clear (conditions_in bare copy c) (sym q ∙ z)))

    -- THE STATEMENT for one call
    works : (c : Call) → Meanwhile c → call store copy c ≡ out (call bare copy c).says store (call bare copy c).copy
    works (Add i x) m = change-one (Add i x) m
    works (Edit i x) m = change-one (Edit i x) m
    works (Delete i) m = change-one (Delete i) m
    works (Copy i j) m = change-one (Copy i j) m
    works (Move i j) m = change-one (Move i j) m
    works (Commits stamp mask) m = absurd m
    works (Update mask R) m = change-one (Update mask R) m
    works (Revert mask) m = change-one (Revert mask) m
    works (Read R i) m = look_one (Read R i) 0 [] m (store-lines (Read R i) m) (λ s p. ap (λ (x : Out). x.says) ((demand_one s copy).reads R i p))
    works (Show i) m = look_one (Show i) (seat_of copy) (entries_of copy) m (both-lines (Show i) m) (λ s p. ((demand_one s copy).does (Show i) tt p).says)
    works (Status i) m = look_one (Status i) (seat_of copy) (entries_of copy) m (both-lines (Status i) m) (λ s p. ((demand_one s copy).does (Status i) tt p).says)
    works (Log R i) m = look_one (Log R i) 0 [] m (store-lines (Log R i) m) (λ s p. ap (λ (x : Out). x.says) ((demand_one s copy).logs R i p))
    works Clears m = absurd m
    works (Panel R i) m = look_one (Panel R i) 0 [] m (store-lines (Panel R i) m) (λ s p. ap (λ (x : Out). x.says) ((demand_one s copy).panels R i p))
    works (CommitsCut stamp mask k) m = absurd m
    works (ClearsCut k) m = absurd m
    works (Release stamp R seat) m = absurd m

-- THE STATEMENT
pub half_written : Unfinished
half_written store copy e = record {
  bare = bare_like store e;
  works = works store e copy;
  reads = read_same store e;
  panels = panel-same store e;
  shows = show_same store e copy;
  commits = commits store e copy;
  releases = releases store e;
  clears = clears store e;
  unchanged = unchanged store e;
}
