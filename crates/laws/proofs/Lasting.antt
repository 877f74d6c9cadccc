-- What is found afterwards: the history and the marks only grow at their end, what a revision shows never changes, and it is what the accepted commits leave on an empty tree.
-- Assumes nothing.
use Prim.Native.Nat.{◌+◌, ◌≤◌, suc, ℕ}
use mathlib.Core.Bool.{Bool, cond, false, true}
use mathlib.Core.List.{List, [], ◌++◌, ◌∷◌, append_assoc, append-nil, map}
use mathlib.Core.Option.{Option, none, some}
use mathlib.Core.Path.{◌∙◌, ◌≡◌, ap, ap₂, refl, sym}
use lib.Dec.{leb}
use lib.ListN.{length, length-append}
use Rattle.model.specs.History.{Bytes, Commit, History, last, sheet}
use Rattle.model.specs.Log.{Log as TheLog, Mark, Placed, a_commit, a_mark, commits, marks_from, released}
use Rattle.model.specs.Machine.{Add, Answer, Call, Clears, ClearsCut, Commits, CommitsCut, Copy, Delete, Edit, Log, Move, Panel, Read, Release, Revert, Show, Side, State, Status, Update, as_bytes, blocks_for, commit_changes, doing, fresh, new_commit, side_of}
use Rattle.model.specs.Refusals.{first_of}
use Rattle.model.specs.Run.{Turn, accepted, accepted_log, accepted_marks, asked, asked_mark, is_refused, is_revision, items_by, own_conditions, placed_at, run, step, step_by}
use Rattle.laws.proofs.Logs.{commits-append, marks-append}
use Rattle.laws.proofs.Rows.{cond-any, cond_same}
use Rattle.laws.proofs.Trees.{sheet-grown}

-- read and show answer no revision
not-revision : (n : ℕ) (o : Option Bytes) → is_revision (as_bytes n o) ≡ false
not-revision n none = refl
not-revision n (some x) = refl

grown_by : (o : Option ℕ) (s : State) (k : ℕ) (c : Call)
    → (step_by o s k c).1.history ≡ s.history ++ cond (is_revision (step_by o s k c).0) (asked (side_of s k) c) []
grown_by (some n) s k c = sym (append-nil s.history)
grown_by none s k (Add i x) = sym (append-nil s.history)
grown_by none s k (Edit i x) = sym (append-nil s.history)
grown_by none s k (Delete i) = sym (append-nil s.history)
grown_by none s k (Copy i j) = sym (append-nil s.history)
grown_by none s k (Move i j) = sym (append-nil s.history)
grown_by none s k (Commits stamp mask) = refl
grown_by none s k (Update mask R) = sym (append-nil s.history)
grown_by none s k (Revert mask) = sym (append-nil s.history)
grown_by none s k (Read R i) = rw not-revision (sym (append-nil s.history))
grown_by none s k (Show i) = rw not-revision (sym (append-nil s.history))
grown_by none s k (Status i) = sym (append-nil s.history)
grown_by none s k (Log R i) = sym (append-nil s.history)
grown_by none s k Clears = sym (append-nil s.history)
grown_by none s k (CommitsCut stamp mask n) =
    let d : Side = side_of s k in
    cond-any (λ (x : Answer × Side). x.1.history ≡ s.history ++ cond (is_revision x.0) (new_commit d stamp mask ∷ []) [])
    (leb (blocks_for d.history (commit_changes d.history mask d.entries)) n) (λ t. refl) (λ t. sym (append-nil s.history))
grown_by none s k (ClearsCut n) =
    cond-any (λ (x : Answer × Side). x.1.history ≡ s.history ++ cond (is_revision x.0) [] []) (leb s.tail n) (λ t. sym (append-nil s.history)) (λ t. sym (append-nil s.history))
grown_by none s k (Release R seat stamp) = sym (append-nil s.history)
grown_by none s k (Panel R i) = rw not-revision (sym (append-nil s.history))

-- the history only grows, at its end, by the accepted commits
pub run_grows : (s : State) (ts : List Turn) → (run s ts).history ≡ s.history ++ accepted s ts
run_grows s [] = sym (append-nil s.history)
run_grows s (t ∷ ts) =
    let s' : State = (step s t.by t.call).1 in
    let new : History = cond (is_revision (step s t.by t.call).0) (asked (side_of s t.by) t.call) [] in
    run_grows s' ts
    ∙ ap (λ (h : History). h ++ accepted s' ts) (grown_by (first_of (own_conditions (side_of s t.by) t.call)) s t.by t.call)
    ∙ append_assoc s.history new (accepted s' ts)

-- the same of the marks
none_placed : (ps : List Placed) (a : Answer) → ps ≡ ps ++ cond (is_refused a) [] []
none_placed ps a = sym (append-nil ps) ∙ ap (λ (qs : List Placed). ps ++ qs) (sym (cond_same (is_refused a) []))

marks_by : (o : Option ℕ) (s : State) (k : ℕ) (c : Call)
    → (step_by o s k c).1.marks ≡ s.marks ++ cond (is_refused (step_by o s k c).0) [] (placed_at (last s.history) (asked_mark (side_of s k) c))
marks_by (some n) s k c = sym (append-nil s.marks)
marks_by none s k (Add i x) = sym (append-nil s.marks)
marks_by none s k (Edit i x) = sym (append-nil s.marks)
marks_by none s k (Delete i) = sym (append-nil s.marks)
marks_by none s k (Copy i j) = sym (append-nil s.marks)
marks_by none s k (Move i j) = sym (append-nil s.marks)
marks_by none s k (Commits stamp mask) = sym (append-nil s.marks)
marks_by none s k (Update mask R) = sym (append-nil s.marks)
marks_by none s k (Revert mask) = sym (append-nil s.marks)
marks_by none s k (Read R i) = none_placed s.marks (doing (side_of s k) (Read R i)).0
marks_by none s k (Show i) = none_placed s.marks (doing (side_of s k) (Show i)).0
marks_by none s k (Status i) = sym (append-nil s.marks)
marks_by none s k (Log R i) = sym (append-nil s.marks)
marks_by none s k Clears = sym (append-nil s.marks)
marks_by none s k (CommitsCut stamp mask n) =
    let d : Side = side_of s k in
    cond-any (λ (x : Answer × Side). x.1.marks ≡ s.marks ++ cond (is_refused x.0) [] [])
    (leb (blocks_for d.history (commit_changes d.history mask d.entries)) n) (λ t. sym (append-nil s.marks)) (λ t. sym (append-nil s.marks))
marks_by none s k (ClearsCut n) =
    cond-any (λ (x : Answer × Side). x.1.marks ≡ s.marks ++ cond (is_refused x.0) [] []) (leb s.tail n) (λ t. sym (append-nil s.marks)) (λ t. sym (append-nil s.marks))
marks_by none s k (Release R seat stamp) = refl
marks_by none s k (Panel R i) = none_placed s.marks (doing (side_of s k) (Panel R i)).0

pub run-marks : (s : State) (ts : List Turn) → (run s ts).marks ≡ s.marks ++ accepted_marks s ts
run-marks s [] = sym (append-nil s.marks)
run-marks s (t ∷ ts) =
    let s' : State = (step s t.by t.call).1 in
    let new : List Placed = cond (is_refused (step s t.by t.call).0) [] (placed_at (last s.history) (asked_mark (side_of s t.by) t.call)) in
    run-marks s' ts
    ∙ ap (λ (ps : List Placed). ps ++ accepted_marks s' ts) (marks_by (first_of (own_conditions (side_of s t.by) t.call)) s t.by t.call)
    ∙ append_assoc s.marks new (accepted_marks s' ts)

-- the log of a list of calls: its commits are those accepted, its marks those made
commits_items : (a : Answer) (cs : List Commit) (ms : List Mark) → commits (items_by a cs ms) ≡ cond (is_revision a) cs []
commits_items a cs ms = commits-append (cond (is_revision a) (map a_commit cs) []) (cond (is_refused a) [] (map a_mark ms)) ∙ ap₂ (λ (x y : History). x ++ y) (first (is_revision a)) (second (is_refused a)) ∙ append-nil (cond (is_revision a) cs [])
  where
    commits_only : (cs : List Commit) → commits (map a_commit cs) ≡ cs
    commits_only [] = refl
    commits_only (c ∷ cs) = ap (λ (h : History). c ∷ h) (commits_only cs)

    marks_only : (ms : List Mark) → commits (map a_mark ms) ≡ []
    marks_only [] = refl
    marks_only (m ∷ ms) = marks_only ms

    first : (b : Bool) → commits (cond b (map a_commit cs) []) ≡ cond b cs []
    first true = commits_only cs
    first false = refl

    second : (b : Bool) → commits (cond b [] (map a_mark ms)) ≡ []
    second true = refl
    second false = marks_only ms

pub log-commits : (s : State) (ts : List Turn) → commits (accepted_log s ts) ≡ accepted s ts
log-commits s [] = refl
log-commits s (t ∷ ts) =
    let a : Answer = (step s t.by t.call).0 in
    let d : Side = side_of s t.by in
    let s' : State = (step s t.by t.call).1 in
    commits-append (items_by a (asked d t.call) (asked_mark d t.call)) (accepted_log s' ts)
    ∙ ap₂ (λ (x y : History). x ++ y) (commits_items a (asked d t.call) (asked_mark d t.call)) (log-commits s' ts)

no_marks : (n : ℕ) (cs : List Commit) (t u : Bool) → marks_from n (cond t (map a_commit cs) [] ++ cond u [] []) ≡ cond u [] []
no_marks n cs false true = refl
no_marks n cs false false = refl
no_marks n [] true true = refl
no_marks n [] true false = refl
no_marks n (c ∷ cs) true true = no_marks (suc n) cs true true
no_marks n (c ∷ cs) true false = no_marks (suc n) cs true false

-- no call asks for both, a commit and a mark
marks_items : (n : ℕ) (a : Answer) (d : Side) (c : Call) → marks_from n (items_by a (asked d c) (asked_mark d c)) ≡ cond (is_refused a) [] (placed_at n (asked_mark d c))
marks_items n a d (Add i x) = no_marks n (asked d (Add i x)) (is_revision a) (is_refused a)
marks_items n a d (Edit i x) = no_marks n (asked d (Edit i x)) (is_revision a) (is_refused a)
marks_items n a d (Delete i) = no_marks n (asked d (Delete i)) (is_revision a) (is_refused a)
marks_items n a d (Copy i j) = no_marks n (asked d (Copy i j)) (is_revision a) (is_refused a)
marks_items n a d (Move i j) = no_marks n (asked d (Move i j)) (is_revision a) (is_refused a)
marks_items n a d (Commits stamp mask) = no_marks n (asked d (Commits stamp mask)) (is_revision a) (is_refused a)
marks_items n a d (Update mask R) = no_marks n (asked d (Update mask R)) (is_revision a) (is_refused a)
marks_items n a d (Revert mask) = no_marks n (asked d (Revert mask)) (is_revision a) (is_refused a)
marks_items n a d (Read R i) = no_marks n (asked d (Read R i)) (is_revision a) (is_refused a)
marks_items n a d (Show i) = no_marks n (asked d (Show i)) (is_revision a) (is_refused a)
marks_items n a d (Status i) = no_marks n (asked d (Status i)) (is_revision a) (is_refused a)
marks_items n a d (Log R i) = no_marks n (asked d (Log R i)) (is_revision a) (is_refused a)
marks_items n a d Clears = no_marks n (asked d Clears) (is_revision a) (is_refused a)
marks_items n a d (CommitsCut stamp mask k) = no_marks n (asked d (CommitsCut stamp mask k)) (is_revision a) (is_refused a)
marks_items n a d (ClearsCut k) = no_marks n (asked d (ClearsCut k)) (is_revision a) (is_refused a)
marks_items n a d (Release R seat stamp) = one-mark (is_revision a) (is_refused a)
  where
    one-mark : (t u : Bool) → marks_from n (cond t [] [] ++ cond u [] (a_mark (released R seat stamp) ∷ [])) ≡ cond u [] (record { after = n; mark = released R seat stamp } ∷ [])
    one-mark true true = refl
    one-mark true false = refl
    one-mark false true = refl
    one-mark false false = refl
marks_items n a d (Panel R i) = no_marks n (asked d (Panel R i)) (is_revision a) (is_refused a)

pub log-marks : (s : State) (ts : List Turn) → marks_from (last s.history) (accepted_log s ts) ≡ accepted_marks s ts
log-marks s [] = refl
log-marks s (t ∷ ts) =
    let a : Answer = (step s t.by t.call).0 in
    let d : Side = side_of s t.by in
    let c : Call = t.call in
    let s' : State = (step s t.by c).1 in
    let n : ℕ = last s.history in
    let items : TheLog = items_by a (asked d c) (asked_mark d c) in
    let e : n + length (commits items) ≡ last s'.history =
    ap (λ (h : History). n + length h) (commits_items a (asked d c) (asked_mark d c)) ∙ sym (length-append s.history (cond (is_revision a) (asked d c) []))
    ∙ ap length (sym (grown_by (first_of (own_conditions d c)) s t.by c)) in
    marks-append n items (accepted_log s' ts)
    ∙ ap₂ (λ (x y : List Placed). x ++ y) (marks_items n a d c) (ap (λ (m : ℕ). marks_from m (accepted_log s' ts)) e ∙ log-marks s' ts)

run-append : (s : State) (ts us : List Turn) → run s (ts ++ us) ≡ run (run s ts) us
run-append s [] us = refl
run-append s (t ∷ ts) us = run-append (step s t.by t.call).1 ts us

-- a revision, once there, shows the same after every longer list
pub lasting : (s : State) (ts us : List Turn) (R i : ℕ) → R ≤ last (run s ts).history
    → sheet (run s (ts ++ us)).history R i ≡ sheet (run s ts).history R i
lasting s ts us R i le =
    ap (λ (h : History). sheet h R i) (ap (λ (x : State). x.history) (run-append s ts us) ∙ run_grows (run s ts) us)
    ∙ sheet-grown (run s ts).history (accepted (run s ts) us) R i le

-- from fresh, the history is the list of the accepted commits: so tree R is what the first R of them leave on an empty tree
pub found : (N : ℕ) (ts : List Turn) → (run (fresh N) ts).history ≡ accepted (fresh N) ts
found N ts = run_grows (fresh N) ts

-- and the marks are those that were made
pub found-marks : (N : ℕ) (ts : List Turn) → (run (fresh N) ts).marks ≡ accepted_marks (fresh N) ts
found-marks N ts = run-marks (fresh N) ts
