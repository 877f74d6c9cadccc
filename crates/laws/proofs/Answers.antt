-- What a call answers: a number if and only if its line is the first that holds; read, after any list of calls; and what an update brings.
-- Assumes nothing.
use Prim.Native.Nat.{◌<◌, ℕ}
use mathlib.Core.Bool.{Bool, ◌||◌, cond, false, not, true}
use mathlib.Core.List.{List}
use mathlib.Core.Option.{Option, none, some}
use mathlib.Core.Path.{◌∙◌, ◌≡◌, ap, refl}
use native.Mathlib.Omega.{arith}
use lib.Dec.{leb}
use lib.ListN.{get_or, length}
use Rattle.model.specs.Entry.{Entry, added, copied, deleted, empty, modified, normal, own_bytes, pending}
use Rattle.model.specs.History.{Bytes, History, change, last, namer, names, newest, nothing, present, sheet}
use Rattle.model.specs.Log.{panel_revision}
use Rattle.model.specs.Machine.{Add, Answer, Call, Clears, ClearsCut, Commits, CommitsCut, Copy, Delete, Edit, Log, Move, Panel, Read, Release, Revert, Show, Side, State, Status, Update, agreed, as_bytes, as_in, blocks_for, chosen, commit_changes, doing, entry, fresh, or_else, panel_sheet, refusal, refused, same_namer, shown, shown_namer, side_of, updated, updated_to}
use Rattle.model.specs.Refusals.{conditions, first_of, no_sheet, too_late}
use Rattle.model.specs.Run.{Turn, accepted, own_conditions, run, side_by, side_step, step, step_by}
use Rattle.laws.proofs.Conditions.{clear, own-none}
use Rattle.laws.proofs.Rows.{cond-any, rows_at}
use Rattle.laws.proofs.Lasting.{found}

shows : (n : ℕ) (o : Option Bytes) → not (present o) ≡ false → refusal (as_bytes n o) ≡ none
shows n none e = cc
shows n (some x) e = refl

-- where no line holds, no number comes
done_by : (d : Side) (c : Call) → first_of (conditions d c) ≡ none → refusal (doing d c).0 ≡ none
done_by d (Add i x) e = refl
done_by d (Edit i x) e = refl
done_by d (Delete i) e = refl
done_by d (Copy i j) e = refl
done_by d (Move i j) e = refl
done_by d (Commits stamp mask) e = refl
done_by d (Update mask R) e = refl
done_by d (Revert mask) e = refl
done_by d (Read R i) e = shows (namer d.history R i) (sheet d.history R i) (clear (conditions d (Read R i)) e).1.0
done_by d (Show i) e = shows (shown_namer (own_bytes (entry d i)) (namer d.history (last d.history) i)) (shown (own_bytes (entry d i)) (newest d.history i)) (clear (conditions d (Show i)) e).1.0
done_by d (Status i) e = refl
done_by d (Log R i) e = refl
done_by d Clears e = refl
done_by d (CommitsCut stamp mask n) e =
    cond-any (λ (x : Answer × Side). refusal x.0 ≡ none) (leb (blocks_for d.history (commit_changes d.history mask d.entries)) n) (λ t. refl) (λ t. refl)
done_by d (ClearsCut n) e = cond-any (λ (x : Answer × Side). refusal x.0 ≡ none) (leb d.tail n) (λ t. refl) (λ t. refl)
done_by d (Release R seat stamp) e = refl
done_by d (Panel R i) e = shows (namer d.history (panel_revision d.marks R) i) (panel_sheet d R i) (clear (conditions d (Panel R i)) e).1.0

number_by : (o : Option ℕ) (s : State) (seat : ℕ) (c : Call) → first_of (own_conditions (side_of s seat) c) ≡ o → refusal (step_by o s seat c).0 ≡ o
number_by (some n) s seat c e = refl
number_by none s seat c e = done_by (side_of s seat) c (own-none (side_of s seat) c e).0

-- the number that a call answers is that of the first line that holds, and there is none where none holds
pub numbered : (s : State) (seat : ℕ) (c : Call) → refusal (step s seat c).0 ≡ first_of (own_conditions (side_of s seat) c)
numbered s seat c = number_by (first_of (own_conditions (side_of s seat) c)) s seat c refl

-- a refused call leaves the state
left_by : (o : Option ℕ) (s : State) (seat : ℕ) (c : Call) (n : ℕ) → o ≡ some n → (step_by o s seat c).1 ≡ s
left_by (some m) s seat c n e = refl
left_by none s seat c n e = let w : ◌≡◌ {A = ℕ} 0 1 = cc in absurd (omega arith)

pub left : (s : State) (seat : ℕ) (c : Call) (n : ℕ) → first_of (own_conditions (side_of s seat) c) ≡ some n → (step s seat c).1 ≡ s
left s seat c n e = left_by (first_of (own_conditions (side_of s seat) c)) s seat c n e

-- ---- read

abbrev pub read_by : Bool → ℕ → Option Bytes → Answer
read_by true n o = refused 7
read_by false n o = as_bytes n o

pub read_side : (t : Bool) (d : Side) (R i n : ℕ) (o : Option Bytes) → namer d.history R i ≡ n → sheet d.history R i ≡ o → (no_sheet i || too_late d.history R) ≡ t
    → (side_step d (Read R i)).0 ≡ read_by t n o
read_side true d R i n o m e z = rw z
read_side false d R i n none m e z = rw (z, e)
read_side false d R i n (some x) m e z = rw (z, e, e, m)

-- what a panel finds: at the greatest released revision up to R
pub panel_side : (d : Side) (R i : ℕ) (o : Option Bytes) → panel_sheet d R i ≡ o → (no_sheet i || too_late d.history R) ≡ false
    → (side_step d (Panel R i)).0 ≡ as_bytes (namer d.history (panel_revision d.marks R) i) o
panel_side d R i none e z = rw (z, e)
panel_side d R i (some x) e z = rw (z, e, e)

read_by_lem : (o : Option ℕ) (s : State) (k R i : ℕ) → (step_by o s k (Read R i)).0 ≡ (side_by o (side_of s k) (Read R i)).0
read_by_lem (some n) s k R i = refl
read_by_lem none s k R i = refl

-- what read answers after a list of calls: 7; or else sheet i of the tree of the first R accepted commits, with the last of them that names it, or 8
pub read_after : (N : ℕ) (ts : List Turn) (seat R i : ℕ)
    → (step (run (fresh N) ts) seat (Read R i)).0 ≡ read_by (no_sheet i || too_late (accepted (fresh N) ts) R) (namer (accepted (fresh N) ts) R i) (sheet (accepted (fresh N) ts) R i)
read_after N ts seat R i =
    read_by_lem (first_of (conditions (side_of (run (fresh N) ts) seat) (Read R i))) (run (fresh N) ts) seat R i
    ∙ read_side (no_sheet i || too_late (accepted (fresh N) ts) R) (side_of (run (fresh N) ts) seat) R i (namer (accepted (fresh N) ts) R i) (sheet (accepted (fresh N) ts) R i)
    (ap (λ (h : History). namer h R i) (found N ts)) (ap (λ (h : History). sheet h R i) (found N ts)) (ap (λ (h : History). no_sheet i || too_late h R) (found N ts))

-- ---- update

-- entry i after it
pub updated_at : (h : History) (mask R : ℕ) (es : List Entry) (i : ℕ) → i < length es
    → get_or (updated h mask R es) i empty ≡ cond (chosen mask i) (or_else (updated_to h R i (get_or es i empty)) (get_or es i empty)) (get_or es i empty)
updated_at h mask R es i l = rows_at (λ i e. cond (chosen mask i) (or_else (updated_to h R i e) e) e) empty empty es i l

-- by a seat with nothing pending: each chosen sheet comes to tree R's bytes, or is absent
pub up_to_date : (h : History) (mask R : ℕ) (es : List Entry) (i : ℕ) → chosen mask i ≡ true → i < length es → pending h i (get_or es i empty) ≡ false
    → get_or (updated h mask R es) i empty ≡ as_in R (sheet h R i)
up_to_date h mask R es i z l p = updated_at h mask R es i l ∙ rw z (brought (get_or es i empty) p)
  where
    brought : (e : Entry) → pending h i e ≡ false → or_else (updated_to h R i e) e ≡ as_in R (sheet h R i)
    brought empty p = refl
    brought (normal b x) p = go (modified h i b x) refl p
      where
        go : (t : Bool) → modified h i b x ≡ t → names (cond t (change x) nothing) ≡ false
            → or_else (cond t (cond (same_namer h i R b) (some (normal R x)) (agreed R x (sheet h R i))) (some (as_in R (sheet h R i)))) (normal b x) ≡ as_in R (sheet h R i)
        go true m q = let w : ◌≡◌ {A = ℕ} 0 1 = cc in absurd (omega arith)
        go false m q = refl
    brought (added x) p = let w : ◌≡◌ {A = ℕ} 0 1 = cc in absurd (omega arith)
    brought (deleted b) p = let w : ◌≡◌ {A = ℕ} 0 1 = cc in absurd (omega arith)
    brought (copied s r x) p = let w : ◌≡◌ {A = ℕ} 0 1 = cc in absurd (omega arith)
