-- Demand 1: on any bytes whatever a call answers a number if and only if its condition is the first that holds, and then every buffer stays; otherwise it is done as the
-- machine does it.
-- Assumes nothing.
use Prim.Native.Nat.{◌-◌, ◌<◌, ◌^◌, ◌≤◌, ℕ}
use mathlib.Core.List.{List, [], ◌++◌, ◌∷◌}
use mathlib.Core.Bool.{Bool, ◌||◌, cond, false, not, true}
use mathlib.Core.Logic.{◌↔◌}
use mathlib.Core.Option.{Option, none, some}
use mathlib.Core.Path.{◌∙◌, ◌≡◌, ap, ap₂, refl, subst, sym}
use native.Mathlib.Omega.{arith}
use lib.ListN.{length, replicate}
use Rattle.model.specs.Calls.{Created, Out, answer_by, beside, both_conditions, call, change_by, change_call, clear_call, clear_cut_call, cleared_by, commit_cut_call, commit_writes, conditions_in, create_by, create_copy, create_copy_conditions, create_store, found_place, fresh_copy, fresh_store, heard, log_call, mark_by, mark_call, no_place, out, own_place, panel_call, panel_place, place_by, read_call, read_place, refusal_of, release_call, show_place, side_in, size_condition, status_call, stopped_by, store_conditions, store_only_conditions, store_refusal, store_side}
use Rattle.model.specs.Demand1.{Cleared, ClearedSome, Demand1, DoneOn, MarkMade, Refuses}
use borrow.Author.Tests.{le-ltb, leb-true}
use lib.Dec.{leb}
use Rattle.model.specs.Entry.{empty, own_bytes}
use Rattle.model.specs.Fitting.{FitsEntry}
use Rattle.model.specs.History.{Bytes, last, present, sheet}
use Rattle.model.specs.Log.{among, panel_revision, releases}
use Rattle.model.specs.Machine.{Add, Answer, Call, Clears, ClearsCut, Commits, CommitsCut, Copy, Delete, Edit, Log, Move, Panel, Read, Release, Revert, Show, Side, Status, Update, doing, done, entry, refusal, refused, stopped}
use Rattle.model.specs.Refusals.{Clear, Condition, First, ◌when◌, conditions, first_of, no_sheet, tail_conditions, too_late}
use Rattle.model.specs.Run.{Typed, own_conditions, side_by, side_step}
use Rattle.model.specs.Shows.{Accepted, Seen}
use Rattle.model.specs.Store.{bare_of, block_count, store_history, store_marks, tail_of, used_of}
use Rattle.laws.proofs.Accepted.{accepted-call, clear-accepted}
use Rattle.model.specs.Tail.{Tailed}
use Rattle.laws.proofs.Conditions.{clear, clear_first, clear_split, first-iff, none-holds}
use Rattle.laws.proofs.Demand2.{laid-copy}
use Rattle.laws.proofs.Fresh.{fresh_copy_lem}
use Rattle.laws.proofs.Logs.{greatest-low, greatest-none}
use Rattle.laws.proofs.Rows.{cond-any, replicate-any}
use Rattle.laws.proofs.Trees.{sheet-zero}

-- a call whose first line that holds has the number n
pub refused-leaves : (store copy : Bytes) (c : Call) (n : ℕ) → first_of (conditions_in store copy c) ≡ some n → call store copy c ≡ out (refused n) store copy
unfolding change_call clear_call clear_cut_call commit_cut_call mark_call panel_place read_place show_place status_call log_call refusal_of store_refusal
refused-leaves store copy (Add i x) n e = ap (λ (o : Option ℕ). change_by o store copy (Add i x)) e
refused-leaves store copy (Edit i x) n e = ap (λ (o : Option ℕ). change_by o store copy (Edit i x)) e
refused-leaves store copy (Delete i) n e = ap (λ (o : Option ℕ). change_by o store copy (Delete i)) e
refused-leaves store copy (Copy s t) n e = ap (λ (o : Option ℕ). change_by o store copy (Copy s t)) e
refused-leaves store copy (Move s t) n e = ap (λ (o : Option ℕ). change_by o store copy (Move s t)) e
refused-leaves store copy (Commits stamp mask) n e = ap (λ (o : Option ℕ). change_by o store copy (Commits stamp mask)) e
refused-leaves store copy (Update mask R) n e = ap (λ (o : Option ℕ). change_by o store copy (Update mask R)) e
refused-leaves store copy (Revert mask) n e = ap (λ (o : Option ℕ). change_by o store copy (Revert mask)) e
refused-leaves store copy (Read R i) n e =
    ap (λ (o : Option ℕ). out (heard store [] (place_by o (found_place store R i))) store copy) e
refused-leaves store copy (Show i) n e =
    ap (λ (o : Option ℕ). out (heard store copy (place_by o (own_place (own_bytes (entry (side_in store copy) i)) i (found_place store (last (store_history store)) i)))) store copy) e
refused-leaves store copy (Status i) n e = ap (λ (o : Option ℕ). out (answer_by o (doing (side_in store copy) (Status i)).0) store copy) e
refused-leaves store copy (Log R i) n e = ap (λ (o : Option ℕ). out (answer_by o (doing (store_side store) (Log R i)).0) store copy) e
refused-leaves store copy Clears n e = ap (λ (o : Option ℕ). out (create_by o store (bare_of store)).says (create_by o store (bare_of store)).buffer copy) e
refused-leaves store copy (CommitsCut stamp mask m) n e = ap (λ (o : Option ℕ). stopped_by o store copy stamp mask m) e
refused-leaves store copy (ClearsCut m) n e = ap (λ (o : Option ℕ). out (cleared_by o store m).says (cleared_by o store m).buffer copy) e
refused-leaves store copy (Release R seat stamp) n e = ap (λ (o : Option ℕ). beside (mark_by o store (Release R seat stamp)) copy) e
refused-leaves store copy (Panel R i) n e =
    ap (λ (o : Option ℕ). out (heard store [] (place_by o (found_place store (panel_revision (store_marks store) R) i))) store copy) e

own-heard : (store copy : Bytes) (o : Option Bytes) (i R : ℕ) → refusal (heard store copy (own_place o i (found_place store R i))) ≡ none
own-heard store copy none i R = refl
own-heard store copy (some x) i R = refl

-- a call of which no line holds
pub unrefused_answers : (store copy : Bytes) (c : Call) → first_of (conditions_in store copy c) ≡ none → refusal (call store copy c).says ≡ none
unfolding change_call clear_call clear_cut_call commit_cut_call mark_call panel_place read_place show_place status_call log_call refusal_of store_refusal
unrefused_answers store copy (Add i x) e = ap (λ (o : Option ℕ). refusal (change_by o store copy (Add i x)).says) e
unrefused_answers store copy (Edit i x) e = ap (λ (o : Option ℕ). refusal (change_by o store copy (Edit i x)).says) e
unrefused_answers store copy (Delete i) e = ap (λ (o : Option ℕ). refusal (change_by o store copy (Delete i)).says) e
unrefused_answers store copy (Copy s t) e = ap (λ (o : Option ℕ). refusal (change_by o store copy (Copy s t)).says) e
unrefused_answers store copy (Move s t) e = ap (λ (o : Option ℕ). refusal (change_by o store copy (Move s t)).says) e
unrefused_answers store copy (Commits stamp mask) e = ap (λ (o : Option ℕ). refusal (change_by o store copy (Commits stamp mask)).says) e
unrefused_answers store copy (Update mask R) e = ap (λ (o : Option ℕ). refusal (change_by o store copy (Update mask R)).says) e
unrefused_answers store copy (Revert mask) e = ap (λ (o : Option ℕ). refusal (change_by o store copy (Revert mask)).says) e
unrefused_answers store copy (Read R i) e = ap (λ (o : Option ℕ). refusal (heard store [] (place_by o (found_place store R i)))) e
unrefused_answers store copy (Show i) e =
    ap (λ (o : Option ℕ). refusal (heard store copy (place_by o (own_place (own_bytes (entry (side_in store copy) i)) i (found_place store (last (store_history store)) i))))) e
    ∙ own-heard store copy (own_bytes (entry (side_in store copy) i)) i (last (store_history store))
unrefused_answers store copy (Status i) e = ap (λ (o : Option ℕ). refusal (answer_by o (doing (side_in store copy) (Status i)).0)) e
unrefused_answers store copy (Log R i) e = ap (λ (o : Option ℕ). refusal (answer_by o (doing (store_side store) (Log R i)).0)) e
unrefused_answers store copy Clears e = ap (λ (o : Option ℕ). refusal (create_by o store (bare_of store)).says) e
unrefused_answers store copy (CommitsCut stamp mask m) e =
    ap (λ (o : Option ℕ). refusal (stopped_by o store copy stamp mask m).says) e
    ∙ cond-any (λ (x : Out). refusal x.says ≡ none) (leb (length (commit_writes store copy stamp mask)) m) (λ t. refl) (λ t. refl)
unrefused_answers store copy (ClearsCut m) e =
    ap (λ (o : Option ℕ). refusal (cleared_by o store m).says) e ∙ cond-any (λ (x : Created). refusal x.says ≡ none) (leb (tail_of store) m) (λ t. refl) (λ t. refl)
unrefused_answers store copy (Release R seat stamp) e = ap (λ (o : Option ℕ). refusal (mark_by o store (Release R seat stamp)).says) e
unrefused_answers store copy (Panel R i) e =
    ap (λ (o : Option ℕ). refusal (heard store [] (place_by o (found_place store (panel_revision (store_marks store) R) i)))) e

-- the number that a call answers is that of the first line that holds, and there is none where none holds
pub numbered-call : (store copy : Bytes) (c : Call) → refusal (call store copy c).says ≡ first_of (conditions_in store copy c)
numbered-call store copy c = go (first_of (conditions_in store copy c)) refl
  where
    go : (o : Option ℕ) → first_of (conditions_in store copy c) ≡ o → refusal (call store copy c).says ≡ first_of (conditions_in store copy c)
    go (some n) e = ap (λ (x : Out). refusal x.says) (refused-leaves store copy c n e) ∙ sym e
    go none e = unrefused_answers store copy c e ∙ sym e

module _ (store copy : Bytes) where
  -- a number comes if and only if its condition is the first that holds, and then every buffer is unchanged
  refuses : (c : Call) → Refuses store copy c
  refuses c = record { numbered = λ n. (λ e. (first-iff (conditions_in store copy c) n).0 (first n e), λ f. ap (λ (o : Out). o.says) (leaves n f)); stays = λ n e. refused-leaves store copy c n (first n e) }
    where
      first : (n : ℕ) → (call store copy c).says ≡ refused n → first_of (conditions_in store copy c) ≡ some n
      first n e = sym (numbered-call store copy c) ∙ ap refusal e

      leaves : (n : ℕ) → First (conditions_in store copy c) n → call store copy c ≡ out (refused n) store copy
      leaves n f = refused-leaves store copy c n ((first-iff (conditions_in store copy c) n).1 f)

  -- no condition holds of a call that takes both
  does : (c : Call) → Typed c → Clear (both_conditions store copy c) → DoneOn store copy c (call store copy c)
  does c ty h =
      let q = clear-accepted store copy c h in
      let r = accepted-call store copy q.0 c ty in
      let d : Side = side_in store copy in
      let own : first_of (own_conditions d c) ≡ none = clear_first (tail_conditions d c) (conditions d c) q.1 ∙ none-holds (conditions d c) q.2 in
      let e : side_step (side_in store copy) c ≡ doing (side_in store copy) c = ap (λ (o : Option ℕ). side_by o (side_in store copy) c) own in
      record { says = r.0 ∙ ap (λ (x : Answer × Side). x.0) e; holds = subst (λ (x : Answer × Side). Seen (block_count store) (call store copy c).store (call store copy c).copy x.1) e r.1 }

  -- a store that is accepted, is so with a fresh copy
  pub fresh-accepted : (k : ℕ) → 1 ≤ k → k ≤ 4 → Clear (store_conditions store) → Accepted store (fresh_copy k)
  fresh-accepted k lo hi h = record {
    store_taken = none-holds (store_conditions store) h;
    copy_taken = (laid-copy store (fresh_copy k) k (replicate 32 empty) (fresh_copy_lem k lo hi, λ i. replicate-any (FitsEntry (store_history store) i) 32 i empty empty tt tt)).0;
  }

  mine : Clear (store_conditions store) → Accepted store (fresh_copy 1)
  mine = fresh-accepted 1 (omega arith) (omega arith)

  reads : (R i : ℕ) → Clear (store_only_conditions store (Read R i)) → read_call store R i ≡ (doing (store_side store) (Read R i)).0
  reads R i h =
      let p = clear_split (store_conditions store) (conditions (store_side store) (Read R i)) h in
      let d : Side = side_in store (fresh_copy 1) in
      (accepted-call store (fresh_copy 1) (mine p.0) (Read R i) tt).0
      ∙ ap (λ (o : Option ℕ). (side_by o d (Read R i)).0) (none-holds (conditions d (Read R i)) p.1)

  logs : (R i : ℕ) → Clear (store_only_conditions store (Log R i)) → log_call store R i ≡ (doing (store_side store) (Log R i)).0
  logs R i h =
      let p = clear_split (store_conditions store) (conditions (store_side store) (Log R i)) h in
      let d : Side = side_in store (fresh_copy 1) in
      (accepted-call store (fresh_copy 1) (mine p.0) (Log R i) tt).0
      ∙ ap (λ (o : Option ℕ). (side_by o d (Log R i)).0) (none-holds (conditions d (Log R i)) p.1)

  -- panel reading is read at the greatest released revision
  panel_place_holds : (R i : ℕ) → R ≤ last (store_history store) → panel_place store R i ≡ read_place store (panel_revision (store_marks store) R) i
  unfolding panel_place read_place store_refusal
  panel_place_holds R i le =
      let h = store_history store in
      let r : ℕ = panel_revision (store_marks store) R in
      let e : too_late h R ≡ too_late h r = le-ltb (last h) R le ∙ sym (le-ltb (last h) r (omega (arith, le, greatest-low R (releases (store_marks store))))) in
      ap (λ (b : Bool). place_by (first_of (store_conditions store ++ (7 when (no_sheet i || b) ∷ 8 when not (present (sheet h r i)) ∷ []))) (found_place store r i)) e

  panel-none : (R i : ℕ) → Clear (store_conditions store) → R ≤ last (store_history store) → i ≤ 31
      → ((x : ℕ) → among x (releases (store_marks store)) ≡ true → x ≤ R → ⊥) → panel_place store R i ≡ no_place 8
  unfolding panel_place store_refusal
  panel-none R i C le small none-up =
      let h = store_history store in
      let z : panel_revision (store_marks store) R ≡ 0 = greatest-none R (releases (store_marks store)) none-up in
      let seven : (no_sheet i || too_late h R) ≡ false = ap₂ ◌||◌ (le-ltb 31 i small) (le-ltb (last h) R le) in
      let gone : sheet h (panel_revision (store_marks store) R) i ≡ none = ap (λ (r : ℕ). sheet h r i) z ∙ sheet-zero h i in
      ap (λ (o : Option ℕ). place_by o (found_place store (panel_revision (store_marks store) R) i))
      (clear_first (store_conditions store) (7 when (no_sheet i || too_late h R) ∷ 8 when not (present (sheet h (panel_revision (store_marks store) R) i)) ∷ []) C
      ∙ ap₂ (λ (a : Bool) (o : Option Bytes). first_of (7 when a ∷ 8 when not (present o) ∷ [])) seven gone)

  panels : (R i : ℕ) → Clear (store_only_conditions store (Panel R i)) → panel_call store R i ≡ (doing (store_side store) (Panel R i)).0
  panels R i h =
      let p = clear_split (store_conditions store) (conditions (store_side store) (Panel R i)) h in
      let d : Side = side_in store (fresh_copy 1) in
      (accepted-call store (fresh_copy 1) (mine p.0) (Panel R i) tt).0
      ∙ ap (λ (o : Option ℕ). (side_by o d (Panel R i)).0) (none-holds (conditions d (Panel R i)) p.1)

  makes : (R seat stamp : ℕ) → stamp < 2 ^ 32 → Clear (store_only_conditions store (Release R seat stamp))
      → MarkMade store (doing (store_side store) (Release R seat stamp)) (release_call store R seat stamp)
  makes R seat stamp ty h =
      let d : Side = side_in store (fresh_copy 1) in
      let c : Call = Release R seat stamp in
      let p = clear_split (store_conditions store) (own_conditions (store_side store) c) h in
      let r = accepted-call store (fresh_copy 1) (mine p.0) c ty in
      let e : side_step d c ≡ doing d c = ap (λ (o : Option ℕ). side_by o d c) (none-holds (own_conditions d c) p.1) in
      let S = subst (λ (x : Answer × Side). Seen (block_count store) (release_call store R seat stamp).buffer (fresh_copy 1) x.1) e r.1 in
      record { says = r.0 ∙ ap (λ (x : Answer × Side). x.0) e; holds = S.stored; marks = S.marked }

  -- a release that is done was not refused
  pub release_lines_lem : (R seat stamp : ℕ) → (release_call store R seat stamp).says ≡ done → Clear (store_only_conditions store (Release R seat stamp))
  unfolding mark_call store_refusal
  release_lines_lem R seat stamp q = clear (store_only_conditions store c) (go (store_refusal store c) refl q)
    where
      c : Call
      c = Release R seat stamp

      go : (o : Option ℕ) → store_refusal store (Release R seat stamp) ≡ o → (mark_by o store (Release R seat stamp)).says ≡ done → store_refusal store (Release R seat stamp) ≡ none
      go (some n) e p = absurd (let z : ◌≡◌ {A = ℕ} 0 1 = cc in omega arith)
      go none e p = e

  clears : Clear (store_conditions store) → Cleared store (clear_call store)
  unfolding clear_call store_refusal
  clears h =
      let r = accepted-call store (fresh_copy 1) (mine h) Clears tt in
      record { says = r.0; holds = r.1.stored; marks = r.1.marked }

  clears_cut : (n : ℕ) → Clear (store_conditions store) → ClearedSome store n (clear_cut_call store n)
  clears_cut n h =
      let r = accepted-call store (fresh_copy 1) (mine h) (ClearsCut n) tt in
      let d : Side = side_in store (fresh_copy 1) in
      record {
        says = r.0 ∙ cond-any (λ (x : Answer × Side). x.0 ≡ cond (leb (tail_of store) n) done stopped) (leb (tail_of store) n) (λ t. ap (λ (b : Bool). cond b done stopped) (sym t)) (λ t. ap (λ (b : Bool). cond b done stopped) (sym t));
        holds =
            cond-any (λ (x : Answer × Side). Tailed (block_count store) (clear_cut_call store n).buffer x.1.history x.1.used x.1.tail → Tailed (block_count store) (clear_cut_call store n).buffer (store_history store) (used_of store) (tail_of store - n)) (leb (tail_of store) n)
            (λ t y. let z : 0 ≡ tail_of store - n = omega (arith, leb-true (tail_of store) n t) in subst (λ (k : ℕ). Tailed (block_count store) (clear_cut_call store n).buffer (store_history store) (used_of store) k) z y) (λ t y. y)
            r.1.stored;
        marks =
            cond-any (λ (x : Answer × Side). store_marks (clear_cut_call store n).buffer ≡ x.1.marks → store_marks (clear_cut_call store n).buffer ≡ store_marks store) (leb (tail_of store) n) (λ t y. y) (λ t y. y)
            r.1.marked;
      }

-- create
module _ (old new : Bytes) where
  create_numbered : (o : Option ℕ) (n : ℕ) → ((create_by o old new).says ≡ refused n) ↔ (o ≡ some n)
  create_numbered none n = (λ e. let z : ◌≡◌ {A = ℕ} 0 1 = cc in absurd (omega arith), λ e. let z : ◌≡◌ {A = ℕ} 0 1 = cc in absurd (omega arith))
  create_numbered (some m) n = (λ e. cc, λ e. cc)

  create_first : (cs : List Condition) (n : ℕ) → ((create_by (first_of cs) old new).says ≡ refused n) ↔ First cs n
  create_first cs n = (
    λ e. (first-iff cs n).0 ((create_numbered (first_of cs) n).0 e),
    λ f. (create_numbered (first_of cs) n).1 ((first-iff cs n).1 f),
  )

  create_stays : (o : Option ℕ) (n : ℕ) → (create_by o old new).says ≡ refused n → (create_by o old new).buffer ≡ old
  create_stays o n e = ap (λ (x : Option ℕ). (create_by x old new).buffer) ((create_numbered o n).0 e)

  create_made : (cs : List Condition) → Clear cs → create_by (first_of cs) old new ≡ record { says = done; buffer = new }
  create_made cs h = ap (λ (o : Option ℕ). create_by o old new) (none-holds cs h)

-- THE STATEMENT
pub demand_one : (store copy : Bytes) → Demand1 store copy
unfolding create_store create_copy
demand_one store copy = record {
  refuses = refuses store copy;
  does = does store copy;
  reads = λ R i h. ap (λ (a : Answer). out a store copy) (reads store copy R i h);
  logs = λ R i h. ap (λ (a : Answer). out a store copy) (logs store copy R i h);
  panel_place_holds = panel_place_holds store copy;
  panel-none = panel-none store copy;
  panels = λ R i h. ap (λ (a : Answer). out a store copy) (panels store copy R i h);
  releases = makes store copy;
  clears = clears store copy;
  clears_cut = clears_cut store copy;
  store-numbered = create_first store (fresh_store (block_count store)) (size_condition store ∷ []);
  store-stays = create_stays store (fresh_store (block_count store)) (first_of (size_condition store ∷ []));
  store-made = create_made store (fresh_store (block_count store)) (size_condition store ∷ []);
  copy-numbered = λ k. create_first copy (fresh_copy k) (create_copy_conditions copy k);
  copy-stays = λ k. create_stays copy (fresh_copy k) (first_of (create_copy_conditions copy k));
  copy-made = λ k. create_made copy (fresh_copy k) (create_copy_conditions copy k);
}
