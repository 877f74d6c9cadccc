-- Demand 3: from one call to a list of calls, from fresh buffers on; what is found at every revision; what an update brings; what stays.
-- Assumes nothing.
use Prim.Native.Nat.{◌<◌, ◌≤◌, suc, zero, ℕ}
use mathlib.Core.Bool.{Bool, ◌&&◌, ◌||◌, cond, false, true}
use mathlib.Core.List.{List, [], ◌++◌, ◌∷◌, append_assoc}
use mathlib.Core.Option.{Option, none, some}
use mathlib.Core.Path.{◌∙◌, ◌≡◌, ap, ap₂, refl, subst, sym}
use native.Mathlib.Nat.{zero-add}
use native.Mathlib.Omega.{arith}
use borrow.Author.Tests.{le-ltb, ne_eqb}
use lib.Dec.{eqb, ltb}
use lib.ListN.{get_or, length, length-append, take}
use Rattle.model.specs.Calls.{Buffers, after_turn, answers_on, call, fresh_buffers, read_call, run_on}
use Rattle.model.specs.Demand3.{Brings, Demand3, Finds, NothingPending, PanelFinds, copy_in}
use Rattle.model.specs.Entry.{Entry, added, copied, deleted, empty, modified, normal, pending}
use Rattle.model.specs.History.{History, change, last, namer, names, nothing, sheet}
use Rattle.model.specs.Invariant.{Kept}
use Rattle.model.specs.Machine.{Answer, Side, State, Update, agreed, as_bytes, as_in, chosen, doing, entry, fresh, same_namer, side_of, updated}
use Rattle.model.specs.Log.{Placed, panel_revision, releases}
use Rattle.model.specs.Refusals.{conditions, conflict, first_of, lacking, too_late}
use Rattle.model.specs.Rows.{some-row}
use Rattle.model.specs.Run.{AllValid, Turn, accepted, accepted_marks, answers, asked, is_revision, run, side_by, side_step, step}
use Rattle.model.specs.Shows.{Seen, Shows}
use Rattle.laws.proofs.Answers.{panel_side, read_side, up_to_date}
use Rattle.laws.proofs.Conditions.{none-holds}
use Rattle.laws.proofs.Fresh.{fresh-shows}
use Rattle.laws.proofs.Invariant.{kept_fresh, kept_run, kept_side, kept_step}
use Rattle.laws.proofs.Lasting.{found, found-marks}
use Rattle.laws.proofs.Logs.{greatest-low}
use Rattle.laws.proofs.Rows.{and-nothing, no_rows}
use Rattle.laws.proofs.Steps.{one-step, panel-one, read_one, seen_seat, side_one}
use Rattle.laws.proofs.Trees.{namer-grown, sheet-grown}
use Rattle.laws.proofs.WorkCopy.{holds-copy}

-- ---- a list of calls

pub whole : (N : ℕ) (b : Buffers) (s : State) (ts : List Turn) → Shows N b s → Kept s → AllValid ts
    → (answers_on b ts ≡ answers s ts) × Shows N (run_on b ts) (run s ts)
whole N b s [] W K v = (refl, W)
whole N b s (t ∷ ts) W K v =
    let o = one-step N b s t W K v.0 in
    let r = whole N (after_turn b t) (step s t.by t.call).1 ts o.1 (kept_step s t v.0 K) v.1 in
    (ap₂ ◌∷◌ o.0 r.0, r.1)

-- ---- the whole list

valid-take : (n : ℕ) (ts : List Turn) → AllValid ts → AllValid (take n ts)
valid-take zero ts v = tt
valid-take (suc n) [] v = tt
valid-take (suc n) (t ∷ ts) v = (v.0, valid-take n ts v.1)

pub valid-append : (ts us : List Turn) → AllValid ts → AllValid us → AllValid (ts ++ us)
valid-append [] us v w = w
valid-append (t ∷ ts) us v w = (v.0, valid-append ts us v.1 w)

pub accepted-append : (s : State) (us vs : List Turn) → accepted s (us ++ vs) ≡ accepted s us ++ accepted (run s us) vs
accepted-append s [] vs = refl
accepted-append s (t ∷ us) vs =
    let new : History = cond (is_revision (step s t.by t.call).0) (asked (side_of s t.by) t.call) [] in
    ap (λ (h : History). new ++ h) (accepted-append (step s t.by t.call).1 us vs)
    ∙ sym (append_assoc new (accepted (step s t.by t.call).1 us) (accepted (run (step s t.by t.call).1 us) vs))

-- what read finds in buffers that show a state
pub read_found : (N : ℕ) (b : Buffers) (s : State) (R i : ℕ) → Shows N b s → Kept s → R ≤ last s.history → i ≤ 31
    → read_call b.store R i ≡ as_bytes (namer s.history R i) (sheet s.history R i)
read_found N b s R i W K le small =
    read_one N b.store (get_or b.copies 0 []) (side_of s 1) (seen_seat N b s 1 W (omega arith) (omega arith)) (kept_side s 1 K (omega arith) (omega arith)) (omega arith) (omega arith) R i
    ∙ read_side false (side_of s 1) R i (namer s.history R i) (sheet s.history R i) refl refl
    (let p : ltb 31 i ≡ false = le-ltb 31 i small in let q : ltb (last s.history) R ≡ false = le-ltb (last s.history) R le in ap₂ ◌||◌ p q)

-- what a panel finds
pub panel-found : (N : ℕ) (b : Buffers) (s : State) (R i : ℕ) → Shows N b s → Kept s → R ≤ last s.history → i ≤ 31
    → PanelFinds b s.history s.marks R i
panel-found N b s R i W K le small =
    panel-one N b.store (get_or b.copies 0 []) (side_of s 1) (seen_seat N b s 1 W (omega arith) (omega arith)) (kept_side s 1 K (omega arith) (omega arith)) (omega arith) (omega arith) R i
    ∙ panel_side (side_of s 1) R i (sheet s.history (panel_revision s.marks R) i) refl
    (let p : ltb 31 i ≡ false = le-ltb 31 i small in let q : ltb (last s.history) R ≡ false = le-ltb (last s.history) R le in ap₂ ◌||◌ p q)

-- at R it looks at the first R commits alone
pub panel-grown : (h more : History) (ms : List Placed) (R i : ℕ) → R ≤ last h → (k : History) → k ≡ h ++ more
    → as_bytes (namer k (panel_revision ms R) i) (sheet k (panel_revision ms R) i) ≡ as_bytes (namer h (panel_revision ms R) i) (sheet h (panel_revision ms R) i)
panel-grown h more ms R i le k e =
    let r : ℕ = panel_revision ms R in
    let low : r ≤ last h = omega (arith, greatest-low R (releases ms)) in
    ap (λ (x : History). as_bytes (namer x r i) (sheet x r i)) e ∙ ap₂ as_bytes (namer-grown h more r i low) (sheet-grown h more r i low)

-- a seat with nothing pending meets no conflict
pub no_conflict : (h : History) (R i : ℕ) (e : Entry) → pending h i e ≡ false → conflict h R i e ≡ false
no_conflict h R i empty p = refl
no_conflict h R i (normal b x) p = go (modified h i b x) p
  where
    go : (t : Bool) → names (cond t (change x) nothing) ≡ false
        → lacking (cond t (cond (same_namer h i R b) (some (normal R x)) (agreed R x (sheet h R i))) (some (as_in R (sheet h R i)))) ≡ false
    go true q = let w : ◌≡◌ {A = ℕ} 0 1 = cc in absurd (omega arith)
    go false q = refl
no_conflict h R i (added x) p = let w : ◌≡◌ {A = ℕ} 0 1 = cc in absurd (omega arith)
no_conflict h R i (deleted b) p = let w : ◌≡◌ {A = ℕ} 0 1 = cc in absurd (omega arith)
no_conflict h R i (copied s r x) p = let w : ◌≡◌ {A = ℕ} 0 1 = cc in absurd (omega arith)

-- what an update brings, in buffers that show a state
pub update_brings : (N : ℕ) (b : Buffers) (s : State) (k mask R : ℕ) → Shows N b s → Kept s → 1 ≤ k → k ≤ 4 → (mask ≡ 0 → ⊥) → R ≤ last s.history
    → NothingPending b s.history k → Brings (call b.store (copy_in b k) (Update mask R)) s.history mask R
update_brings N b s k mask R W K lo hi nz le np =
    let d : Side = side_of s k in
    let h : History = s.history in
    let E = seen_seat N b s k W lo hi in
    let KS = kept_side s k K lo hi in
    let C = holds-copy (copy_in b k) k d.entries E.copied in
    let still : (i : ℕ) → i < length d.entries → pending h i (entry d i) ≡ false =
    λ i l. subst (λ (es : List Entry). pending h i (get_or es i empty) ≡ false) C.3 (np i (omega (arith, KS.wide))) in
    let seven : (eqb mask 0 || too_late h R) ≡ false = ap₂ ◌||◌ (ne_eqb mask 0 nz) (le-ltb (last h) R le) in
    let twelve : some-row (λ i e. chosen mask i && conflict h R i e) 0 d.entries ≡ false =
    no_rows (λ i e. chosen mask i && conflict h R i e) empty 0 d.entries
    (λ i l. rw zero-add (ap (λ (c : Bool). chosen mask i && c) (no_conflict h R i (entry d i) (still i l)) ∙ and-nothing (chosen mask i))) in
    let none_first : first_of (conditions d (Update mask R)) ≡ none = none-holds (conditions d (Update mask R)) (seven, (twelve, tt)) in
    let r = side_one N b.store (copy_in b k) d E KS lo hi (Update mask R) tt in
    let q : side_step d (Update mask R) ≡ doing d (Update mask R) = ap (λ (o : Option ℕ). side_by o d (Update mask R)) none_first in
    let S : Seen N (call b.store (copy_in b k) (Update mask R)).store (call b.store (copy_in b k) (Update mask R)).copy (doing d (Update mask R)).1 =
    subst (λ (x : Answer × Side). Seen N (call b.store (copy_in b k) (Update mask R)).store (call b.store (copy_in b k) (Update mask R)).copy x.1) q r.1 in
    let D = holds-copy (call b.store (copy_in b k) (Update mask R)).copy k (updated h mask R d.entries) S.copied in
    record {
      says = r.0 ∙ ap (λ (x : Answer × Side). x.0) q;
      each = λ i small z.
          let l : i < length d.entries = omega (arith, KS.wide) in
          ap (λ (es : List Entry). get_or es i empty) D.3 ∙ up_to_date h mask R d.entries i z l (still i l);
    }

-- THE STATEMENT
pub demand_three : Demand3
demand_three N ts lo hi v = record {
  answer = (whole N (fresh_buffers N) (fresh N) ts (fresh-shows N lo hi) (kept_fresh N (omega arith)) v).0;
  shows = λ n. shows-after (take n ts) (valid-take n ts v);
  commits = found N ts;
  marks = found-marks N ts;
  found = λ R i le small. finds ts v R i le small;
  panel = λ R i le small. panels ts v R i le small;
  brought = λ k mask R l g nz le np.
      subst (λ (h : History). Brings (call (run_on (fresh_buffers N) ts).store (copy_in (run_on (fresh_buffers N) ts) k) (Update mask R)) h mask R) (found N ts)
      (update_brings N (run_on (fresh_buffers N) ts) (run (fresh N) ts) k mask R (shows-after ts v) (kept-after ts v) l g nz (subst (λ (h : History). R ≤ last h) (sym (found N ts)) le)
      (subst (λ (h : History). NothingPending (run_on (fresh_buffers N) ts) h k) (sym (found N ts)) np));
  lasting = λ us w R i le small.
      let e = accepted-append (fresh N) ts us in
      let le' : R ≤ length (accepted (fresh N) (ts ++ us)) = (let n = ap length e ∙ length-append (accepted (fresh N) ts) (accepted (run (fresh N) ts) us) in omega (arith, n)) in
      finds (ts ++ us) (valid-append ts us v w) R i le' small
      ∙ ap (λ (h : History). as_bytes (namer h R i) (sheet h R i)) e
      ∙ ap₂ as_bytes (namer-grown (accepted (fresh N) ts) (accepted (run (fresh N) ts) us) R i le) (sheet-grown (accepted (fresh N) ts) (accepted (run (fresh N) ts) us) R i le);
  lasting-panel = λ us w R i le small.
      let h : History = accepted (fresh N) ts in
      let more : History = accepted (run (fresh N) ts) us in
      let e : accepted (fresh N) (ts ++ us) ≡ h ++ more = accepted-append (fresh N) ts us in
      let le' : R ≤ length (accepted (fresh N) (ts ++ us)) = (let n = ap length e ∙ length-append h more in omega (arith, n)) in
      panels (ts ++ us) (valid-append ts us v w) R i le' small ∙ panel-grown h more (accepted_marks (fresh N) (ts ++ us)) R i le (accepted (fresh N) (ts ++ us)) e;
}
  where
    shows-after : (us : List Turn) → AllValid us → Shows N (run_on (fresh_buffers N) us) (run (fresh N) us)
    shows-after us w = (whole N (fresh_buffers N) (fresh N) us (fresh-shows N lo hi) (kept_fresh N (omega arith)) w).1

    kept-after : (us : List Turn) → AllValid us → Kept (run (fresh N) us)
    kept-after us w = kept_run (fresh N) us w (kept_fresh N (omega arith))

    panels : (us : List Turn) → AllValid us → (R i : ℕ) → R ≤ length (accepted (fresh N) us) → i ≤ 31
        → PanelFinds (run_on (fresh_buffers N) us) (accepted (fresh N) us) (accepted_marks (fresh N) us) R i
    panels us w R i le small =
        panel-found N (run_on (fresh_buffers N) us) (run (fresh N) us) R i (shows-after us w) (kept-after us w) (subst (λ (h : History). R ≤ last h) (sym (found N us)) le) small
        ∙ ap₂ (λ (h : History) (ps : List Placed). as_bytes (namer h (panel_revision ps R) i) (sheet h (panel_revision ps R) i)) (found N us) (found-marks N us)

    finds : (us : List Turn) → AllValid us → (R i : ℕ) → R ≤ length (accepted (fresh N) us) → i ≤ 31 → Finds (run_on (fresh_buffers N) us) (accepted (fresh N) us) R i
    finds us w R i le small =
        read_found N (run_on (fresh_buffers N) us) (run (fresh N) us) R i (shows-after us w) (kept-after us w) (subst (λ (h : History). R ≤ last h) (sym (found N us)) le) small
        ∙ ap (λ (h : History). as_bytes (namer h R i) (sheet h R i)) (found N us)
