-- Demand 3, the statement: any list of calls by four seats, refused ones included, from a fresh store of N blocks and four fresh copies, beside the machine given the same
-- calls. One statement about the whole list, for every list. Its proof is in laws/proofs/Demand3.
-- Assumes nothing.
use Rattle.std.specs.Prelude.{◌-◌, ◌≤◌, ℕ, false, true, List, [], ◌++◌, ◌≡◌, get_or, length, take}
use Rattle.model.specs.Calls.{Buffers, Out, answers_on, call, fresh_buffers, panel_call, read_call, run_on}
use Rattle.model.specs.Entry.{empty, pending}
use Rattle.model.specs.History.{History, namer, sheet}
use Rattle.model.specs.Log.{Placed, panel_revision}
use Rattle.model.specs.Machine.{Update, as_bytes, as_in, chosen, done, fresh}
use Rattle.model.specs.Run.{AllValid, Turn, accepted, accepted_marks, answers, run}
use Rattle.model.specs.Shows.{Shows}
use Rattle.model.specs.WorkCopy.{entries_of}

-- reading any sheet at R finds in these buffers exactly the bytes that the first R of these commits leave on an empty tree, with the last of them that names the sheet (W3), or
-- refusal 8
abbrev pub Finds : Buffers → History → ℕ → ℕ → Type 0
Finds b h R i = read_call b.store R i ≡ as_bytes (namer h R i) (sheet h R i)

-- the same of a panel, where ms are the releases
abbrev pub PanelFinds : Buffers → History → List Placed → ℕ → ℕ → Type 0
PanelFinds b h ms R i = panel_call b.store R i ≡ as_bytes (namer h (panel_revision ms R) i) (sheet h (panel_revision ms R) i)

-- the copy that seat k lends
abbrev pub copy_in : Buffers → ℕ → List ℕ
copy_in b k = get_or b.copies (k - 1) []

-- seat k has nothing pending in these buffers
abbrev pub NothingPending : Buffers → History → ℕ → Type 0
NothingPending b h k = (i : ℕ) → i ≤ 31 → pending h i (get_or (entries_of (copy_in b k)) i empty) ≡ false

-- a call brought each chosen sheet to the bytes that it has at R, or to absence
pub record Brings (o : Out) (h : History) (mask R : ℕ) : Type 0 where
  pub says : o.says ≡ done
  pub each : (i : ℕ) → i ≤ 31 → chosen mask i ≡ true → get_or (entries_of o.copy) i empty ≡ as_in R (sheet h R i)

-- of N blocks and the list ts, where b is what the calls leave, h the commits that were accepted and ms the releases
pub record WholeList (N : ℕ) (ts : List Turn) (b : Buffers) (h : History) (ms : List Placed) : Type 0 where
  -- "every call's answer .. equal[s] the machine's"
  pub answer : answers_on (fresh_buffers N) ts ≡ answers (fresh N) ts
  -- "the history in the store and the entries in the copies after it equal the machine's": after every call, the n-th
  pub shows : (n : ℕ) → Shows N (run_on (fresh_buffers N) (take n ts)) (run (fresh N) (take n ts))
  -- the machine's history is the accepted commits, the first one first
  pub commits : (run (fresh N) ts).history ≡ h
  -- its marks are the releases that were made, each after the last revision then
  pub marks : (run (fresh N) ts).marks ≡ ms
  -- "Over lists with release calls too, what an engineer finds follows from the accepted commits alone":
  -- "for each R up to the last revision, reading any sheet at R finds exactly the bytes that the first R accepted commits leave on an empty tree (or refusal 8)"
  pub found : (R i : ℕ) → R ≤ length h → i ≤ 31 → Finds b h R i
  -- "what a panel finds [follows] from those and the releases": at the greatest released revision up to R, or refusal 8
  pub panel : (R i : ℕ) → R ≤ length h → i ≤ 31 → PanelFinds b h ms R i
  -- "an update to R by a seat with nothing pending brings each chosen sheet to the same"
  pub brought : (k mask R : ℕ) → 1 ≤ k → k ≤ 4 → (mask ≡ 0 → ⊥) → R ≤ length h → NothingPending b h k → Brings (call b.store (copy_in b k) (Update mask R)) h mask R
  -- "and what is found at R stays so after every longer list"
  pub lasting : (us : List Turn) → AllValid us → (R i : ℕ) → R ≤ length h → i ≤ 31 → Finds (run_on (fresh_buffers N) (ts ++ us)) h R i
  -- for a panel as well: after every longer list it finds at R what these same commits leave, at the greatest revision up to R that was released until then
  pub lasting-panel : (us : List Turn) → AllValid us → (R i : ℕ) → R ≤ length h → i ≤ 31 → PanelFinds (run_on (fresh_buffers N) (ts ++ us)) h (accepted_marks (fresh N) (ts ++ us)) R i

abbrev pub Demand3 : Type 0
Demand3 = (N : ℕ) (ts : List Turn) → 2 ≤ N → N ≤ 4_096 → AllValid ts → WholeList N ts (run_on (fresh_buffers N) ts) (accepted (fresh N) ts) (accepted_marks (fresh N) ts)
