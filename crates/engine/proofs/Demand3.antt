-- Demand 3 for the code: any list of add, edit, delete, copy, move, commit, update, revert, clear and release calls by four seats, refused and cut ones included, from a fresh store of 2 to 4,096
-- blocks and four fresh copies, each call given the store and its seat's copy as the calls before left them. What whoever calls a function learns is taken from that function's own contract
-- (`Learnt`), of which no text is repeated here, and that the code meets the contracts (`met`) stands in the same record.
-- Assumes nothing.
use Rattle.std.specs.Prelude.{Result}
use Prim.Native.Nat.{◌-◌, ◌≤◌, ℕ}
use mathlib.Core.List.{List, [], ◌++◌, ◌∷◌, map}
use mathlib.Core.Path.{◌∙◌, ◌≡◌, ap, ap₂, refl, subst, sym}
use denote.Ref.{Bor, MutBor}
use lib.ListN.{length, set, take}
use lib.Seq.{take-length}
use Rattle.model.specs.Calls.{Buffers, Created, Out, after_turn, answers_on, call, fresh_buffers, heard, out, panel_call, panel_place, read_call, read_place, run_on}
use Rattle.model.specs.Demand3.{Brings, Finds, NothingPending, PanelFinds, WholeList, copy_in}
use Rattle.model.specs.History.{Bytes, History, namer, sheet}
use Rattle.model.specs.Log.{Placed, panel_revision}
use Rattle.model.specs.Machine.{Add, Call, Clears, ClearsCut, Commits, CommitsCut, Copy, Delete, Edit, Move, Release, Revert, Update, as_bytes, fresh}
use Rattle.model.specs.Run.{AllValid, Turn, accepted, accepted_marks, answers, run}
use Rattle.model.specs.Shows.{Shows}
use Rattle.model.specs.Types.{answer_of, place_of}
use Rattle.laws.proofs.Demand3.{demand_three}
use Rattle.model.specs.declared.Answer.{Answer as TheAnswer}
use Rattle.model.specs.declared.Place.{Place}
use contract.Lifetimes.{Lfts}
use Rattle.engine.proofs.add.Met as add-met
use Rattle.engine.proofs.add.Reads as add_reads
use Rattle.engine.proofs.add.Statement as add-statement
use Rattle.engine.proofs.edit.Met as edit-met
use Rattle.engine.proofs.edit.Reads as edit-reads
use Rattle.engine.proofs.edit.Statement as edit-statement
use Rattle.engine.proofs.delete.Met as delete-met
use Rattle.engine.proofs.delete.Reads as delete-reads
use Rattle.engine.proofs.delete.Statement as delete-statement
use Rattle.engine.proofs.copy_sheet.Met as copy_met
use Rattle.engine.proofs.copy_sheet.Reads as copy-reads
use Rattle.engine.proofs.copy_sheet.Statement as copy-statement
use Rattle.engine.proofs.move_sheet.Met as move-met
use Rattle.engine.proofs.move_sheet.Reads as move-reads
use Rattle.engine.proofs.move_sheet.Statement as move-statement
use Rattle.engine.proofs.commit.Met as commit-met
use Rattle.engine.proofs.commit.Reads as commit-reads
use Rattle.engine.proofs.commit.Statement as commit-statement
use Rattle.engine.proofs.update.Met as update-met
use Rattle.engine.proofs.update.Reads as update-reads
use Rattle.engine.proofs.update.Statement as update-statement
use Rattle.engine.proofs.revert.Met as revert-met
use Rattle.engine.proofs.revert.Reads as revert-reads
use Rattle.engine.proofs.revert.Statement as revert-statement
use Rattle.engine.proofs.clear.Met as clear-met
use Rattle.engine.proofs.clear.Reads as clear_reads
use Rattle.engine.proofs.clear.Statement as clear-statement
use Rattle.engine.proofs.commit_cut.Met as commit-cut-met
use Rattle.engine.proofs.commit_cut.Reads as commit-cut-reads
use Rattle.engine.proofs.commit_cut.Statement as commit-cut-statement
use Rattle.engine.proofs.clear_cut.Met as clear-cut-met
use Rattle.engine.proofs.clear_cut.Reads as clear-cut-reads
use Rattle.engine.proofs.clear_cut.Statement as clear-cut-statement
use Rattle.engine.proofs.release.Met as release-met
use Rattle.engine.proofs.release.Reads as release-reads
use Rattle.engine.proofs.release.Statement as release-statement
use Rattle.engine.proofs.panel_place.Met as panel-met
use Rattle.engine.proofs.panel_place.Reads as panel-reads
use Rattle.engine.proofs.panel_place.Statement as panel-statement
use Rattle.engine.proofs.read_place.Met as read-met
use Rattle.engine.proofs.read_place.Reads as read-reads
use Rattle.engine.proofs.read_place.Statement as read-statement
use Rattle.model.specs.declared.Refusal.{Refusal}

-- THE STATEMENT

-- one call as code makes it: on this store and copy it answers r and leaves this store and copy
pub data Made : Bytes → Bytes → Call → Result TheAnswer Refusal → Bytes → Bytes → Type 0 where
  adds : {sheet : ℕ} {r : Result TheAnswer Refusal} (κs : Lfts 3) (x : Bor Bytes) (y : MutBor Bytes) (z x' : Bor Bytes) (y' : MutBor Bytes) (z' : Bor Bytes)
      → add_reads.Learnt κs (x, (y, (sheet, (z, tt)))) r (x', (y', (sheet, (z', tt)))) → Made x.now y.now (Add sheet z.now) r x.now y'.now
  edits : {sheet : ℕ} {r : Result TheAnswer Refusal} (κs : Lfts 3) (x : Bor Bytes) (y : MutBor Bytes) (z x' : Bor Bytes) (y' : MutBor Bytes) (z' : Bor Bytes)
      → edit-reads.Learnt κs (x, (y, (sheet, (z, tt)))) r (x', (y', (sheet, (z', tt)))) → Made x.now y.now (Edit sheet z.now) r x.now y'.now
  deletes : {sheet : ℕ} {r : Result TheAnswer Refusal} (κs : Lfts 2) (x : Bor Bytes) (y : MutBor Bytes) (x' : Bor Bytes) (y' : MutBor Bytes)
      → delete-reads.Learnt κs (x, (y, (sheet, tt))) r (x', (y', (sheet, tt))) → Made x.now y.now (Delete sheet) r x.now y'.now
  copies : {s t : ℕ} {r : Result TheAnswer Refusal} (κs : Lfts 2) (x : Bor Bytes) (y : MutBor Bytes) (x' : Bor Bytes) (y' : MutBor Bytes)
      → copy-reads.Learnt κs (x, (y, (s, (t, tt)))) r (x', (y', (s, (t, tt)))) → Made x.now y.now (Copy s t) r x.now y'.now
  moves : {s t : ℕ} {r : Result TheAnswer Refusal} (κs : Lfts 2) (x : Bor Bytes) (y : MutBor Bytes) (x' : Bor Bytes) (y' : MutBor Bytes)
      → move-reads.Learnt κs (x, (y, (s, (t, tt)))) r (x', (y', (s, (t, tt)))) → Made x.now y.now (Move s t) r x.now y'.now
  commits : {stamp mask : ℕ} {r : Result TheAnswer Refusal} (κs : Lfts 2) (x y x' y' : MutBor Bytes)
      → commit-reads.Learnt κs (x, (y, (stamp, (mask, tt)))) r (x', (y', (stamp, (mask, tt)))) → Made x.now y.now (Commits stamp mask) r x'.now y'.now
  updates : {mask R : ℕ} {r : Result TheAnswer Refusal} (κs : Lfts 2) (x : Bor Bytes) (y : MutBor Bytes) (x' : Bor Bytes) (y' : MutBor Bytes)
      → update-reads.Learnt κs (x, (y, (mask, (R, tt)))) r (x', (y', (mask, (R, tt)))) → Made x.now y.now (Update mask R) r x.now y'.now
  reverts : {mask : ℕ} {r : Result TheAnswer Refusal} (κs : Lfts 2) (x : Bor Bytes) (y : MutBor Bytes) (x' : Bor Bytes) (y' : MutBor Bytes)
      → revert-reads.Learnt κs (x, (y, (mask, tt))) r (x', (y', (mask, tt))) → Made x.now y.now (Revert mask) r x.now y'.now
  clears : {r : Result TheAnswer Refusal} {copy : Bytes} (κs : Lfts 1) (x x' : MutBor Bytes) → clear_reads.Learnt κs (x, tt) r (x', tt) → Made x.now copy Clears r x'.now copy
  commits_cut : {stamp mask n : ℕ} {r : Result TheAnswer Refusal} (κs : Lfts 2) (x y x' y' : MutBor Bytes)
      → commit-cut-reads.Learnt κs (x, (y, (stamp, (mask, (n, tt))))) r (x', (y', (stamp, (mask, (n, tt))))) → Made x.now y.now (CommitsCut stamp mask n) r x'.now y'.now
  clears_cut : {n : ℕ} {r : Result TheAnswer Refusal} {copy : Bytes} (κs : Lfts 1) (x x' : MutBor Bytes)
      → clear-cut-reads.Learnt κs (x, (n, tt)) r (x', (n, tt)) → Made x.now copy (ClearsCut n) r x'.now copy
  releases : {R seat stamp : ℕ} {r : Result TheAnswer Refusal} {copy : Bytes} (κs : Lfts 1) (x x' : MutBor Bytes)
      → release-reads.Learnt κs (x, (R, (seat, (stamp, tt)))) r (x', (R, (seat, (stamp, tt)))) → Made x.now copy (Release R seat stamp) r x'.now copy

-- a list of calls, their answers, and the buffers afterwards. Every beginning of a trace is a trace, so what is said of a trace is said after every call
pub data Trace : Buffers → List Turn → List (Result TheAnswer Refusal) → Buffers → Type 0 where
  over : {b : Buffers} → Trace b [] [] b
  next : {b b' : Buffers} {t : Turn} {ts : List Turn} {r : Result TheAnswer Refusal} {rs : List (Result TheAnswer Refusal)} {store' copy' : Bytes}
      → Made b.store (copy_in b t.by) t.call r store' copy'
      → Trace (record { store = store'; copies = set b.copies (t.by - 1) copy' }) ts rs b' → Trace b (t ∷ ts) (r ∷ rs) b'

-- whoever calls `read_place` on this store for sheet i of revision R finds there exactly the bytes that the first R of these commits leave on an empty tree, and the last of them that names
-- the sheet (W3), or refusal 8
abbrev pub Read : Bytes → History → ℕ → ℕ → Type 0
Read store h R i = (κs : Lfts 1) (x x' : Bor Bytes) (r : Result Place Refusal) (R' i' : ℕ) → x.now ≡ store → read-reads.Learnt κs (x, (R, (i, tt))) r (x', (R', (i', tt)))
    → heard store [] (place_of r) ≡ as_bytes (namer h R i) (sheet h R i)

-- whoever calls `panel_place` there, where ms are the releases: the same at the greatest released revision up to R, or refusal 8
abbrev pub PanelRead : Bytes → History → List Placed → ℕ → ℕ → Type 0
PanelRead store h ms R i = (κs : Lfts 1) (x x' : Bor Bytes) (r : Result Place Refusal) (R' i' : ℕ) → x.now ≡ store → panel-reads.Learnt κs (x, (R, (i, tt))) r (x', (R', (i', tt)))
    → heard store [] (place_of r) ≡ as_bytes (namer h (panel_revision ms R) i) (sheet h (panel_revision ms R) i)

-- of N blocks and the list ts, where rs are the answers, b the buffers that the calls leave, h the commits that were accepted and ms the releases
pub record CodeWholeList (N : ℕ) (ts : List Turn) (rs : List (Result TheAnswer Refusal)) (b : Buffers) (h : History) (ms : List Placed) : Type 0 where
  -- "every call's answer, the history in the store and the entries in the copies after it equal the machine's"
  pub answer : map answer_of rs ≡ answers (fresh N) ts
  pub shows : Shows N b (run (fresh N) ts)
  pub accepts : (run (fresh N) ts).history ≡ h
  pub marks : (run (fresh N) ts).marks ≡ ms
  -- "Over lists with release calls too, what an engineer finds follows from the accepted commits alone":
  -- "for each R up to the last revision, reading any sheet at R finds exactly the bytes that the first R accepted commits leave on an empty tree (or refusal 8)"
  pub found : (R i : ℕ) → R ≤ length h → i ≤ 31 → Read b.store h R i
  -- "what a panel finds [follows] from those and the releases"
  pub panel : (R i : ℕ) → R ≤ length h → i ≤ 31 → PanelRead b.store h ms R i
  -- "an update to R by a seat with nothing pending brings each chosen sheet to the same"
  pub brought : (k mask R : ℕ) → 1 ≤ k → k ≤ 4 → (mask ≡ 0 → ⊥) → R ≤ length h → NothingPending b h k
      → {r : Result TheAnswer Refusal} {store' copy' : Bytes} → Made b.store (copy_in b k) (Update mask R) r store' copy' → Brings (out (answer_of r) store' copy') h mask R
  -- "and what is found at R stays so after every longer list"
  pub lasting : {us : List Turn} {qs : List (Result TheAnswer Refusal)} {b' : Buffers} → AllValid us → Trace b us qs b' → (R i : ℕ) → R ≤ length h → i ≤ 31 → Read b'.store h R i
  -- and for a panel: what these same commits leave, at the greatest revision up to R that was released until then
  pub lasting-panel : {us : List Turn} {qs : List (Result TheAnswer Refusal)} {b' : Buffers} → AllValid us → Trace b us qs b' → (R i : ℕ) → R ≤ length h → i ≤ 31
      → PanelRead b'.store h (accepted_marks (fresh N) (ts ++ us)) R i

pub record CodeDemand3 : Type 2 where
  pub add_meets : (M : Type 1) → add-statement.statement M
  pub edit_meets : (M : Type 1) → edit-statement.statement M
  pub delete_meets : (M : Type 1) → delete-statement.statement M
  pub copy_meets : (M : Type 1) → copy-statement.statement M
  pub move_meets : (M : Type 1) → move-statement.statement M
  pub commit_meets : (M : Type 1) → commit-statement.statement M
  pub update_meets : (M : Type 1) → update-statement.statement M
  pub revert_meets : (M : Type 1) → revert-statement.statement M
  pub clear_meets : (M : Type 1) → clear-statement.statement M
  pub commit_cut_meets : (M : Type 1) → commit-cut-statement.statement M
  pub clear_cut_meets : (M : Type 1) → clear-cut-statement.statement M
  pub release_meets : (M : Type 1) → release-statement.statement M
  pub read_meets : (M : Type 1) → read-statement.statement M
  pub panel_meets : (M : Type 1) → panel-statement.statement M
  pub whole : (N : ℕ) (ts : List Turn) → 2 ≤ N → N ≤ 4_096 → AllValid ts → (rs : List (Result TheAnswer Refusal)) (b : Buffers) → Trace (fresh_buffers N) ts rs b
      → CodeWholeList N ts rs b (accepted (fresh N) ts) (accepted_marks (fresh N) ts)

-- THE PROOF

-- what a caller learns is the call on buffers
pub made_is : {store copy store' copy' : Bytes} {c : Call} {r : Result TheAnswer Refusal} → Made store copy c r store' copy' → out (answer_of r) store' copy' ≡ call store copy c
made_is (adds κs x y z x' y' z' e) = e
made_is (edits κs x y z x' y' z' e) = e
made_is (deletes κs x y x' y' e) = e
made_is (copies κs x y x' y' e) = e
made_is (moves κs x y x' y' e) = e
made_is (commits κs x y x' y' e) = e
made_is (updates κs x y x' y' e) = e
made_is (reverts κs x y x' y' e) = e
made_is (clears {copy = copy} κs x x' e) = ap (λ (o : Created). out o.says o.buffer copy) e
made_is (commits_cut κs x y x' y' e) = e
made_is (clears_cut {copy = copy} κs x x' e) = ap (λ (o : Created). out o.says o.buffer copy) e
made_is (releases {copy = copy} κs x x' e) = ap (λ (o : Created). out o.says o.buffer copy) e

-- a trace is the calls on buffers
pub traced : {b b' : Buffers} {ts : List Turn} {rs : List (Result TheAnswer Refusal)} → Trace b ts rs b' → (map answer_of rs ≡ answers_on b ts) × (b' ≡ run_on b ts)
traced over = (refl, refl)
traced (next {b = b} {t = t} {ts = ts} {r = r} {rs = rs} {store' = store'} {copy' = copy'} m more) =
    let e = made_is m in
    let q = traced more in
    let n : record { store = store'; copies = set b.copies (t.by - 1) copy' } ≡ after_turn b t =
    ap (λ (o : Out). record { store = o.store; copies = set b.copies (t.by - 1) o.copy }) e in
    (ap₂ ◌∷◌ (ap (λ (o : Out). o.says) e) (q.0 ∙ ap (λ (x : Buffers). answers_on x ts) n), q.1 ∙ ap (λ (x : Buffers). run_on x ts) n)

pub run-append : (b : Buffers) (ts us : List Turn) → run_on b (ts ++ us) ≡ run_on (run_on b ts) us
run-append b [] us = refl
run-append b (t ∷ ts) us = run-append (after_turn b t) ts us

-- what `read_place` answers is what the meaning finds
pub read_is : (store : Bytes) (h : History) (R i : ℕ) → read_call store R i ≡ as_bytes (namer h R i) (sheet h R i) → Read store h R i
read_is store h R i f κs x x' r R' i' e l =
    ap (heard store []) l.is ∙ ap (λ (s : Bytes). heard store [] (read_place s R i)) e ∙ f

pub panel_is : (store : Bytes) (h : History) (ms : List Placed) (R i : ℕ) → panel_call store R i ≡ as_bytes (namer h (panel_revision ms R) i) (sheet h (panel_revision ms R) i) → PanelRead store h ms R i
panel_is store h ms R i f κs x x' r R' i' e l =
    ap (heard store []) l.is ∙ ap (λ (s : Bytes). heard store [] (panel_place s R i)) e ∙ f

pub code_demand_three : CodeDemand3
code_demand_three = record {
  add_meets = λ M. add-met.met;
  edit_meets = λ M. edit-met.met;
  delete_meets = λ M. delete-met.met;
  copy_meets = λ M. copy_met.met;
  move_meets = λ M. move-met.met;
  commit_meets = λ M. commit-met.met;
  update_meets = λ M. update-met.met;
  revert_meets = λ M. revert-met.met;
  clear_meets = λ M. clear-met.met;
  commit_cut_meets = λ M. commit-cut-met.met;
  clear_cut_meets = λ M. clear-cut-met.met;
  release_meets = λ M. release-met.met;
  read_meets = λ M. read-met.met;
  panel_meets = λ M. panel-met.met;
  whole = λ N ts lo hi v rs b T.
      let q = traced T in
      let h : History = accepted (fresh N) ts in
      let W = demand_three N ts lo hi v in
      let ms : List Placed = accepted_marks (fresh N) ts in
      let D : WholeList N ts b h ms = subst (λ (x : Buffers). WholeList N ts x h ms) (sym q.1) W in
      let S : Shows N b (run (fresh N) ts) = subst (λ (x : Buffers). Shows N x (run (fresh N) ts)) (sym q.1) (shows-whole N ts lo hi v) in
      record {
        answer = q.0 ∙ D.answer;
        shows = S;
        accepts = D.commits;
        marks = D.marks;
        panel = λ R i le small. panel_is b.store h ms R i (D.panel R i le small);
        found = λ R i le small. read_is b.store h R i (D.found R i le small);
        brought = λ k mask R l g nz le np m. subst (λ (o : Out). Brings o h mask R) (sym (made_is m)) (D.brought k mask R l g nz le np);
        lasting = λ {us} {qs} {b'} w U R i le small.
            let p : b' ≡ run_on (fresh_buffers N) (ts ++ us) = (traced U).1 ∙ ap (λ (x : Buffers). run_on x us) q.1 ∙ sym (run-append (fresh_buffers N) ts us) in
            read_is b'.store h R i (subst (λ (x : Buffers). Finds x h R i) (sym p) (W.lasting us w R i le small));
        lasting-panel = λ {us} {qs} {b'} w U R i le small.
            let p : b' ≡ run_on (fresh_buffers N) (ts ++ us) = (traced U).1 ∙ ap (λ (x : Buffers). run_on x us) q.1 ∙ sym (run-append (fresh_buffers N) ts us) in
            let ps : List Placed = accepted_marks (fresh N) (ts ++ us) in
            panel_is b'.store h ps R i (subst (λ (x : Buffers). PanelFinds x h ps R i) (sym p) (W.lasting-panel us w R i le small));
      };
}
  where
    shows-whole : (N : ℕ) (ts : List Turn) → 2 ≤ N → N ≤ 4_096 → AllValid ts → Shows N (run_on (fresh_buffers N) ts) (run (fresh N) ts)
    shows-whole N ts lo hi v =
        let e : take (length ts) ts ≡ ts = take-length ts in
        subst (λ (us : List Turn). Shows N (run_on (fresh_buffers N) us) (run (fresh N) us)) e ((demand_three N ts lo hi v).shows (length ts))
