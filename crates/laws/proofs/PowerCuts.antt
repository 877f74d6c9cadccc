-- W6 for a list of events: calls, power cuts at any write, clearings. What the events leave is a store of the commits and releases that they brought, with four copies that are accepted.
-- Assumes nothing.
use Prim.Native.Nat.{◌-◌, ◌<◌, ◌≤◌, suc, ℕ}
use mathlib.Core.Bool.{Bool, cond, false, true}
use mathlib.Core.List.{List, [], ◌++◌, ◌∷◌, append_assoc, append-nil, tail-eq_of_cons-eq}
use mathlib.Core.Logic.{inl, inr}
use mathlib.Core.Option.{none}
use mathlib.Core.Path.{◌∙◌, ◌≡◌, ap, ap₂, refl, subst, sym}
use native.Mathlib.Omega.{arith}
use lib.Dec.{T}
use native.Mathlib.Nat.{zero-add}
use lib.ListN.{get_or, length, length-append, length-set, replicate}
use Rattle.block.proofs.Says.{says_same}
use Rattle.block.specs.Buffer.{block_at}
use Rattle.block.specs.Lists.{same}
use Rattle.model.specs.Calls.{Buffers, Created, after_turn, call, commit_call, copy_conditions, fresh_buffers, fresh_copy, fresh_store, store_conditions}
use Rattle.model.specs.Cut.{FoundCommit, FoundRelease, commit_block_at, release_after, the_commit}
use Rattle.model.specs.Demand3.{Brings, Finds, NothingPending, PanelFinds, copy_in}
use Rattle.model.specs.Entry.{empty}
use Rattle.model.specs.History.{Bytes, Commit, History, last, namer, sheet}
use Rattle.model.specs.Invariant.{Kept}
use Rattle.model.specs.Log.{Log, Mark, Placed, a_commit, a_mark, commits, marks, marks_from, panel_revision, released}
use Rattle.model.specs.Machine.{Commits, Release, State, Update, as_bytes, done, fresh, side_of}
use Rattle.model.specs.Order.{continued, store_bytes}
use Rattle.model.specs.PowerCuts.{AllPossible, Endures, Event, Possible, PowerCuts, after_all, after_event, brought_all, brought_by, calls, clear_fails, commit_fails, copy_is, release_fails}
use Rattle.model.specs.Refusals.{first_of}
use Rattle.model.specs.Run.{Turn, Valid, accepted_log, asked, asked_mark, items_by, run, step}
use Rattle.model.specs.Shows.{Accepted, AllAccepted, Seen, Shows, state_in}
use Rattle.model.specs.Store.{bare_of, block_count, store_history, store_log, tail_of, used_of}
use Rattle.model.specs.Tail.{Tailed}
use Rattle.model.specs.WorkCopy.{seat_of}
use Rattle.laws.proofs.Accepted.{turn-accepted}
use Rattle.laws.proofs.Conditions.{clear, none-holds}
use Rattle.laws.proofs.CutRule.{cut_anywhere}
use Rattle.laws.proofs.Cuts.{clear_is, restored}
use Rattle.laws.proofs.Demand1.{fresh-accepted}
use Rattle.laws.proofs.Demand3.{panel-found, panel-grown, read_found, update_brings}
use Rattle.laws.proofs.Fresh.{fresh_copy_lem, fresh-shows}
use Rattle.laws.proofs.Holding.{history-logged}
use Rattle.laws.proofs.Invariant.{KeptSide, kept_fresh, kept_side}
use Rattle.laws.proofs.Lasting.{log-commits, log-marks, run_grows, run-marks}
use Rattle.laws.proofs.Logs.{commits-append, log_fixed, marks-append, marks-commit}
use Rattle.laws.proofs.Ordered.{continued_cleared, continued-none, fresh-continued, turn-adds}
use Rattle.laws.proofs.Replaying.{accepted-shows, accepted_state, replayed}
use Rattle.laws.proofs.Rows.{set-any}
use Rattle.laws.proofs.Steps.{copy-clear, one-step, seen_seat, store-clear}
use Rattle.laws.proofs.Store.{bare-held, count_held, history-held, taken_tailed}
use Rattle.laws.proofs.Trees.{namer-grown, sheet-grown}
use Rattle.laws.proofs.WorkCopy.{holds-copy}

-- what holds after every event: h are the commits and marks that came, and whatever is added next, the bytes are as from a fresh store
record Holding (N : ℕ) (b : Buffers) (h : Log) : Type 0 where
  taken : AllAccepted b
  count : block_count b.store ≡ N
  log : store_log b.store ≡ h
  bytes : (g : Log) → continued b.store g ≡ continued (fresh_store N) (h ++ g)

-- buffers that show a state are accepted
shows-accepted : (N : ℕ) (b : Buffers) (s : State) → Shows N b s → Kept s → AllAccepted b
shows-accepted N b s W K = record {
  four = W.four;
  each = λ k l. record {
    store_taken = none-holds (store_conditions b.store) (store-clear N b.store (get_or b.copies k []) (side_of s (suc k)) (seen k l) (kept k l) (omega arith) (omega arith));
    copy_taken = none-holds (copy_conditions b.store (get_or b.copies k [])) (copy-clear N b.store (get_or b.copies k []) (side_of s (suc k)) (seen k l) (kept k l) (omega arith) (omega arith));
  };
  seats = λ k l. (holds-copy (get_or b.copies k []) (suc k) (get_or s.seats k []) (W.copies k l)).2;
}
  where
    seen : (k : ℕ) → k < 4 → Seen N b.store (get_or b.copies k []) (side_of s (suc k))
    seen k l =
        let e : suc k - 1 ≡ k = omega arith in
        subst (λ (j : ℕ). Seen N b.store (get_or b.copies j []) (side_of s (suc k))) e (seen_seat N b s (suc k) W (omega arith) (omega arith))

    kept : (k : ℕ) → k < 4 → KeptSide (side_of s (suc k))
    kept k l = kept_side s (suc k) K (omega arith) (omega arith)

-- clearing leaves the number of blocks, and what is added
bare-same : (f : Bytes) → first_of (store_conditions f) ≡ none → (block_count (bare_of f) ≡ block_count f) × ((g : Log) → continued (bare_of f) g ≡ continued f g)
bare-same f t =
    let R = restored 0 f f (clear (store_conditions f) t) refl in
    (count_held (block_count f) (bare_of f) (store_history f) (used_of f) 0 R.bare, continued_cleared (block_count f) f (store_history f) (used_of f) (tail_of f) (taken_tailed f t))

cancel : (h x y : Log) → h ++ x ≡ h ++ y → x ≡ y
cancel [] x y e = e
cancel (c ∷ h) x y e = cancel h x y (tail-eq_of_cons-eq e)

module _ (N : ℕ) (b : Buffers) (h : Log) (H : Holding N b h) where
  W : Shows (block_count b.store) b (state_in b)
  W = accepted-shows b H.taken

  -- another store, with which the copies are accepted
  found_with : (f : Bytes) → ((copy : Bytes) → Accepted b.store copy → Accepted f copy) → AllAccepted (record { store = f; copies = b.copies })
  found_with f s = record { four = H.taken.four; each = λ k l. s (get_or b.copies k []) (H.taken.each k l); seats = H.taken.seats }

  -- a call
  called : (t : Turn) → Valid t → Holding N (after_turn b t) (h ++ accepted_log (state_in b) (t ∷ []))
  called t v =
      let low : t.by - 1 < 4 = omega (arith, v.low, v.high) in
      let A : AllAccepted (after_turn b t) = turn-accepted b H.taken (t.by - 1) low t.call v.typed in
      let Y = (replayed b H.taken (t ∷ []) (v, tt)).1 in
      let s = run (state_in b) (t ∷ []) in
      let n : block_count (after_turn b t).store ≡ block_count b.store = count_held (block_count b.store) (after_turn b t).store s.history s.used s.tail Y.store in
      let new : Log = accepted_log (state_in b) (t ∷ []) in
      let store : Bytes = (after_turn b t).store in
      let old : Log = store_log b.store in
      let past : commits old ≡ (state_in b).history = history-logged (block_count b.store) (bare_of b.store) in
      let e : commits (store_log store) ≡ commits (old ++ new) =
      history-logged (block_count store) (bare_of store) ∙ history-held (block_count b.store) store s.history s.used s.tail Y.store ∙ run_grows (state_in b) (t ∷ [])
      ∙ ap₂ (λ (x y : History). x ++ y) (sym past) (sym (log-commits (state_in b) (t ∷ []))) ∙ sym (commits-append old new) in
      let f : marks (store_log store) ≡ marks (old ++ new) =
      Y.marked ∙ run-marks (state_in b) (t ∷ []) ∙ ap (λ (x : List Placed). marks old ++ x) (sym (log-marks (state_in b) (t ∷ [])) ∙ ap (λ (x : History). marks_from (last x) new) (sym past))
      ∙ sym (marks-append 0 old new ∙ ap (λ (n : ℕ). marks old ++ marks_from n new) (zero-add (last (commits old)))) in
      record {
        taken = A;
        count = n ∙ H.count;
        log = log_fixed (store_log store) (old ++ new) e f ∙ ap (λ (k : Log). k ++ new) H.log;
        bytes = λ g.
            turn-adds (block_count b.store) b (state_in b) t W (accepted_state b H.taken) v g
            ∙ ap (λ (k : Log). continued b.store (k ++ g))
            (sym (append-nil (items_by (step (state_in b) t.by t.call).0 (asked (side_of (state_in b) t.by) t.call) (asked_mark (side_of (state_in b) t.by) t.call))))
            ∙ H.bytes (new ++ g) ∙ ap (continued (fresh_store N)) (sym (append_assoc h new g));
      }

  -- a store found with the log that was there: without its tail it has the bytes that were there without theirs
  found_old : (f : Bytes) → ((copy : Bytes) → Accepted b.store copy → Accepted f copy) → first_of (store_conditions f) ≡ none → store_log f ≡ store_log b.store
      → (block_count (bare_of f) ≡ block_count b.store) × ((g : Log) → continued (bare_of f) g ≡ continued b.store g) → Holding N (record { store = f; copies = b.copies }) (h ++ [])
  found_old f s t e k =
      let o = bare-same f t in
      record {
        taken = found_with f s;
        count = sym o.0 ∙ k.0 ∙ H.count;
        log = e ∙ H.log ∙ sym (append-nil h);
        bytes = λ g. sym (o.1 g) ∙ k.1 g ∙ H.bytes g ∙ ap (λ (x : Log). continued (fresh_store N) (x ++ g)) (sym (append-nil h));
      }

  -- a power cut in a commit: its commit block is new, or not
  module _ (k stamp mask : ℕ) (f : Bytes) (p : Possible b (commit_fails k stamp mask f)) where
    abbrev store : Bytes
    store = b.store

    abbrev copy : Bytes
    copy = copy_in b k

    abbrev here : Bytes
    here = commit_block_at store copy stamp mask f

    abbrev new : Bytes
    new = commit_block_at store copy stamp mask (commit_call store copy stamp mask).store

    abbrev c : Commit
    c = the_commit store copy stamp mask

    F : FoundCommit store copy stamp mask f
    F = ((cut_anywhere store copy).commits stamp mask p.2 p.3).found f p.4

    by_block : (t : Bool) → same here new ≡ t → Holding N (record { store = f; copies = b.copies }) (h ++ cond t (a_commit c ∷ []) [])
    by_block true q =
        let e : store_history f ≡ store_history store ++ (c ∷ []) = F.exactly.1 ((says_same here new).true_so (subst T (sym q) tt)) in
        let t : Turn = record { by = k; call = Commits stamp mask } in
        let D = called t (record { low = p.0; high = p.1; typed = p.2 }) in
        let i : f ≡ (after_turn b t).store = F.whole e in
        let new : store_log f ≡ h ++ (a_commit c ∷ []) =
        log_fixed (store_log f) (h ++ (a_commit c ∷ []))
        (history-logged (block_count f) (bare_of f) ∙ e ∙ ap (λ (x : History). x ++ (c ∷ [])) (sym (history-logged (block_count store) (bare_of store)) ∙ ap commits H.log)
        ∙ sym (commits-append h (a_commit c ∷ [])))
        (F.marks ∙ ap marks H.log ∙ sym (marks-commit h c)) in
        let one : accepted_log (state_in b) (t ∷ []) ≡ a_commit c ∷ [] = cancel h (accepted_log (state_in b) (t ∷ [])) (a_commit c ∷ []) (sym D.log ∙ ap store_log (sym i) ∙ new) in
        record {
          taken = found_with f F.seats;
          count = ap block_count i ∙ D.count;
          log = new;
          bytes = λ g. ap (λ (l : Bytes). continued l g) i ∙ D.bytes g ∙ ap (λ (x : Log). continued (fresh_store N) ((h ++ x) ++ g)) one;
        }
    by_block false q =
        let e : store_history f ≡ store_history store =
        elim F.history [
          | inl x ↦ x
          | inr x ↦ absurd (subst T q ((says_same here new).so_true (F.exactly.0 x)))
        ] in
        let same_log : store_log f ≡ store_log store =
        log_fixed (store_log f) (store_log store) (history-logged (block_count f) (bare_of f) ∙ e ∙ sym (history-logged (block_count store) (bare_of store))) F.marks in
        found_old f F.seats F.accepted same_log (ap block_count (F.back e), λ g. ap (λ (l : Bytes). continued l g) (F.back e))

    commit_failed : Holding N (record { store = f; copies = b.copies }) (h ++ brought_by b (commit_fails k stamp mask f))
    commit_failed = by_block (same here new) refl

  -- a power cut in a release: its block is new, or not
  module _ (R seat stamp : ℕ) (f : Bytes) (p : Possible b (release_fails R seat stamp f)) where
    abbrev was : Bytes
    was = b.store

    abbrev m : Mark
    m = released R seat stamp

    abbrev block-found : Bytes
    block-found = block_at f (used_of was)

    abbrev block_new : Bytes
    block_new = block_at (release_after was R seat stamp 1) (used_of was)

    G : FoundRelease was R seat stamp f
    G = ((cut_anywhere was []).releases R seat stamp p.0 p.1).found f p.2

    by_mark : (t : Bool) → same block-found block_new ≡ t → Holding N (record { store = f; copies = b.copies }) (h ++ cond t (a_mark m ∷ []) [])
    by_mark true q =
        let e : store_log f ≡ store_log was ++ (a_mark m ∷ []) = G.exactly.1 ((says_same block-found block_new).true_so (subst T (sym q) tt)) in
        let t : Turn = record { by = 1; call = Release R seat stamp } in
        let D = called t (record { low = omega arith; high = omega arith; typed = p.0 }) in
        let i : f ≡ (after_turn b t).store = G.whole e in
        let new : store_log f ≡ h ++ (a_mark m ∷ []) = e ∙ ap (λ (x : Log). x ++ (a_mark m ∷ [])) H.log in
        let one : accepted_log (state_in b) (t ∷ []) ≡ a_mark m ∷ [] = cancel h (accepted_log (state_in b) (t ∷ [])) (a_mark m ∷ []) (sym D.log ∙ ap store_log (sym i) ∙ new) in
        record {
          taken = found_with f G.seats;
          count = ap block_count i ∙ D.count;
          log = new;
          bytes = λ g. ap (λ (l : Bytes). continued l g) i ∙ D.bytes g ∙ ap (λ (x : Log). continued (fresh_store N) ((h ++ x) ++ g)) one;
        }
    by_mark false q =
        let e : store_log f ≡ store_log was =
        elim G.log [
          | inl x ↦ x
          | inr x ↦ absurd (subst T q ((says_same block-found block_new).so_true (G.exactly.0 x)))
        ] in
        found_old f G.seats G.accepted e (ap block_count (G.back e), λ g. ap (λ (l : Bytes). continued l g) (G.back e))

    release_failed : Holding N (record { store = f; copies = b.copies }) (h ++ brought_by b (release_fails R seat stamp f))
    release_failed = by_mark (same block-found block_new) refl

  clear_failed : (f : Bytes) → Possible b (clear_fails f) → Holding N (record { store = f; copies = b.copies }) (h ++ [])
  clear_failed f p =
      let store : Bytes = b.store in
      let t = (H.taken.each 0 (omega arith)).store_taken in
      let R = ((cut_anywhere store []).clears (clear (store_conditions store) t)).found 1 f (f, p, refl) in
      let e : bare_of f ≡ bare_of store = ap (λ (o : Created). o.buffer) (sym (clear_is f (clear (store_conditions f) R.accepted)) ∙ R.clears) in
      let o = bare-same store t in
      found_old f R.seats R.accepted R.log (ap block_count e ∙ o.0, λ g. ap (λ (l : Bytes). continued l g) e ∙ o.1 g)

  copy-brought : (k : ℕ) (copy : Bytes) → Possible b (copy_is k copy) → Holding N (after_event b (copy_is k copy)) (h ++ [])
  copy-brought k copy p = record {
    taken = record {
      four = length-set b.copies (k - 1) copy ∙ H.taken.four;
      each = λ j l. set-any (Accepted b.store) b.copies (k - 1) j [] (λ z. p.2) (H.taken.each j l);
      seats = λ j l. set-any (λ (y : Bytes). seat_of y ≡ suc j) b.copies (k - 1) j [] (λ z. p.3 ∙ omega (arith, p.0)) (H.taken.seats j l);
    };
    count = H.count;
    log = H.log ∙ sym (append-nil h);
    bytes = λ g. H.bytes g ∙ ap (λ (x : Log). continued (fresh_store N) (x ++ g)) (sym (append-nil h));
  }

  happened : (e : Event) → Possible b e → Holding N (after_event b e) (h ++ brought_by b e)
  happened (calls t) p = called t p
  happened (commit_fails k stamp mask f) p = commit_failed k stamp mask f p
  happened (clear_fails f) p = clear_failed f p
  happened (release_fails R seat stamp f) p = release_failed R seat stamp f p
  happened (copy_is k copy) p = copy-brought k copy p

all_happened : (N : ℕ) (b : Buffers) (h : Log) (es : List Event) → Holding N b h → AllPossible b es → Holding N (after_all b es) (h ++ brought_all b es)
all_happened N b h [] H p = subst (Holding N b) (sym (append-nil h)) H
all_happened N b h (e ∷ es) H p =
    subst (Holding N (after_all (after_event b e) es)) (append_assoc h (brought_by b e) (brought_all (after_event b e) es))
    (all_happened N (after_event b e) (h ++ brought_by b e) es (happened N b h H e p.0) p.1)

-- what the store holds
module _ (N : ℕ) (b : Buffers) (g : Log) (H : Holding N b g) where
  held : store_history b.store ≡ commits g
  held = sym (history-logged (block_count b.store) (bare_of b.store)) ∙ ap commits H.log

  finds : (R i : ℕ) → R ≤ last (commits g) → i ≤ 31 → Finds b (commits g) R i
  finds R i le small =
      read_found (block_count b.store) b (state_in b) R i (accepted-shows b H.taken) (accepted_state b H.taken) (subst (λ (k : History). R ≤ last k) (sym held) le) small
      ∙ ap (λ (k : History). as_bytes (namer k R i) (sheet k R i)) held

  panels : (R i : ℕ) → R ≤ last (commits g) → i ≤ 31 → PanelFinds b (commits g) (marks g) R i
  panels R i le small =
      panel-found (block_count b.store) b (state_in b) R i (accepted-shows b H.taken) (accepted_state b H.taken) (subst (λ (k : History). R ≤ last k) (sym held) le) small
      ∙ ap₂ (λ (k : History) (ms : List Placed). as_bytes (namer k (panel_revision ms R) i) (sheet k (panel_revision ms R) i)) held (ap marks H.log)

-- from fresh buffers
module _ (N : ℕ) (es : List Event) (lo : 2 ≤ N) (hi : N ≤ 4_096) (p : AllPossible (fresh_buffers N) es) where
  abbrev b : Buffers
  b = after_all (fresh_buffers N) es

  abbrev h : Log
  h = brought_all (fresh_buffers N) es

  begins : Holding N (fresh_buffers N) []
  begins =
      let Y = fresh-shows N lo hi in
      record {
        taken = shows-accepted N (fresh_buffers N) (fresh N) Y (kept_fresh N (omega arith));
        count = count_held N (fresh_store N) [] 1 0 Y.store;
        log = log_fixed (store_log (fresh_store N)) [] (history-logged (block_count (fresh_store N)) (bare_of (fresh_store N)) ∙ history-held N (fresh_store N) [] 1 0 Y.store) Y.marked;
        bytes = λ g. refl;
      }

  H : Holding N b h
  H = all_happened N (fresh_buffers N) [] es begins p

  cleared : bare_of b.store ≡ store_bytes N h
  cleared =
      let store : Bytes = b.store in
      let X : Tailed (block_count store) store (store_history store) (used_of store) (tail_of store) = taken_tailed store (H.taken.each 0 (omega arith)).store_taken in
      bare-held (block_count store) store (store_history store) (used_of store) (tail_of store) X
      ∙ sym (continued-none (block_count store) store (store_history store) (used_of store) (tail_of store) X)
      ∙ H.bytes [] ∙ ap (continued (fresh_store N)) (append-nil h) ∙ fresh-continued N h (omega arith)

  endures : Endures N es b h
  endures = record {
    accepted = H.taken;
    log = H.log;
    history = held N b h H;
    answer = λ t v. (one-step (block_count b.store) b (state_in b) t (accepted-shows b H.taken) (accepted_state b H.taken) v).0;
    found = finds N b h H;
    panel = panels N b h H;
    brought = λ k mask R l g nz le np.
        subst (λ (x : History). Brings (call b.store (copy_in b k) (Update mask R)) x mask R) (held N b h H)
        (update_brings (block_count b.store) b (state_in b) k mask R (accepted-shows b H.taken) (accepted_state b H.taken) l g nz
        (subst (λ (x : History). R ≤ last x) (sym (held N b h H)) le) (subst (λ (x : History). NothingPending b x k) (sym (held N b h H)) np));
    lasting = λ us q R i le small.
        let more = brought_all b us in
        let e : commits (h ++ more) ≡ commits h ++ commits more = commits-append h more in
        let le' : R ≤ last (commits (h ++ more)) = (let n = ap length e ∙ length-append (commits h) (commits more) in omega (arith, n)) in
        finds N (after_all b us) (h ++ more) (all_happened N b h us H q) R i le' small ∙ ap (λ (x : History). as_bytes (namer x R i) (sheet x R i)) e
        ∙ ap₂ as_bytes (namer-grown (commits h) (commits more) R i le) (sheet-grown (commits h) (commits more) R i le);
    lasting-panel = λ us q R i le small.
        let more = brought_all b us in
        let e : commits (h ++ more) ≡ commits h ++ commits more = commits-append h more in
        let le' : R ≤ last (commits (h ++ more)) = (let n = ap length e ∙ length-append (commits h) (commits more) in omega (arith, n)) in
        panels N (after_all b us) (h ++ more) (all_happened N b h us H q) R i le' small ∙ panel-grown (commits h) (commits more) (marks (h ++ more)) R i le (commits (h ++ more)) e;
    renewed = λ k l g.
        (l, g, fresh-accepted b.store [] k l g (clear (store_conditions b.store) (H.taken.each 0 (omega arith)).store_taken), (holds-copy (fresh_copy k) k (replicate 32 empty) (fresh_copy_lem k l g)).2);
    clears = clear_is b.store (clear (store_conditions b.store) (H.taken.each 0 (omega arith)).store_taken) ∙ ap (λ (l : Bytes). record { says = done; buffer = l }) cleared;
  }

-- THE STATEMENT
pub power_cuts : PowerCuts
power_cuts N es lo hi p = endures N es lo hi p
