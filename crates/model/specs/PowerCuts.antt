-- W6 of document 02 for a list of events, the statement: after any list of calls by four seats, power cuts at any write of a commit, a release or a clearing, and clearings in between, what is
-- found at R is exactly what the accepted commits leave, and what a panel finds follows from those and the releases; a commit in which the power failed counts as accepted if its commit
-- block is new, and so does a release by its block. It is demand 3 for a van. Its proof is in
-- laws/proofs/PowerCuts.
-- Assumes nothing.
use Rattle.std.specs.Prelude.{◌-◌, ◌<◌, ◌^◌, ◌≤◌, ℕ, cond, List, [], ◌++◌, ◌∷◌, ◌≡◌, set}
use Rattle.block.specs.Buffer.{block_at}
use Rattle.block.specs.Lists.{same}
use Rattle.model.specs.Calls.{Buffers, after_turn, both_conditions, call, clear_call, commit_call, fresh_buffers, fresh_copy, store_only_conditions, turn_on}
use Rattle.model.specs.Cut.{FoundClearing, FoundCommitting, FoundReleasing, commit_block_at, release_after, the_commit}
use Rattle.model.specs.Demand3.{Brings, Finds, NothingPending, PanelFinds, copy_in}
use Rattle.model.specs.History.{Bytes, last}
use Rattle.model.specs.Log.{Log, a_commit, a_mark, commits, marks, released}
use Rattle.model.specs.Machine.{Commits, Release, Update, done}
use Rattle.model.specs.Order.{store_bytes}
use Rattle.model.specs.Refusals.{Clear}
use Rattle.model.specs.Run.{Turn, Valid, accepted_log, step}
use Rattle.model.specs.Shows.{Accepted, AllAccepted, state_in}
use Rattle.model.specs.Store.{store_history, store_log, used_of}
use Rattle.model.specs.WorkCopy.{seat_of}

-- what happens to a store and the working copies of four seats
pub data Event : Type 0 where
  -- a call, cut and refused ones included
  calls : Turn → Event
  -- the power fails while seat k commits with this stamp and mask, and this store is found
  commit_fails : (k stamp mask : ℕ) → (found : Bytes) → Event
  -- the power fails while the tail is cleared, and this store is found
  clear_fails : (found : Bytes) → Event
  -- the power fails while revision R is released, and this store is found
  release_fails : (R seat stamp : ℕ) → (found : Bytes) → Event
  -- seat k goes on with this working copy. "The working copy's buffer is outside this rule": one that was lost is made anew
  copy_is : (k : ℕ) → (copy : Bytes) → Event

-- an event that can happen to these buffers: a power cut finds a store as the cut rule has it, in a commit that no line refuses
abbrev pub Possible : Buffers → Event → Type 0
Possible b (calls t) = Valid t
Possible b (commit_fails k stamp mask f) =
    (1 ≤ k) × (k ≤ 4) × (stamp < 2 ^ 32) × Clear (both_conditions b.store (copy_in b k) (Commits stamp mask)) × FoundCommitting b.store (copy_in b k) stamp mask f
Possible b (clear_fails f) = FoundClearing b.store f
Possible b (release_fails R seat stamp f) = (stamp < 2 ^ 32) × Clear (store_only_conditions b.store (Release R seat stamp)) × FoundReleasing b.store R seat stamp f
Possible b (copy_is k copy) = (1 ≤ k) × (k ≤ 4) × Accepted b.store copy × (seat_of copy ≡ k)

-- what it leaves. Where the power failed in a commit, the copy is as it was
abbrev pub after_event : Buffers → Event → Buffers
after_event b (calls t) = after_turn b t
after_event b (commit_fails k stamp mask f) = record { store = f; copies = b.copies }
after_event b (clear_fails f) = record { store = f; copies = b.copies }
after_event b (release_fails R seat stamp f) = record { store = f; copies = b.copies }
after_event b (copy_is k copy) = record { store = b.store; copies = set b.copies (k - 1) copy }

-- the commits and releases that it brings: those accepted, and the one in which the power failed if its commit block, or the release's block, is new, that is as the finished call has it
abbrev pub brought_by : Buffers → Event → Log
brought_by b (calls t) = accepted_log (state_in b) (t ∷ [])
brought_by b (commit_fails k stamp mask f) =
    let finished = (commit_call b.store (copy_in b k) stamp mask).store in
    cond (same (commit_block_at b.store (copy_in b k) stamp mask f) (commit_block_at b.store (copy_in b k) stamp mask finished)) (a_commit (the_commit b.store (copy_in b k) stamp mask) ∷ []) []
brought_by b (clear_fails f) = []
brought_by b (release_fails R seat stamp f) =
    let finished = release_after b.store R seat stamp 1 in
    cond (same (block_at f (used_of b.store)) (block_at finished (used_of b.store))) (a_mark (released R seat stamp) ∷ []) []
brought_by b (copy_is k copy) = []

-- one after the other
abbrev pub AllPossible : Buffers → List Event → Type 0
AllPossible b [] = Unit {0}
AllPossible b (e ∷ es) = Possible b e × AllPossible (after_event b e) es

abbrev pub after_all : Buffers → List Event → Buffers
after_all b [] = b
after_all b (e ∷ es) = after_all (after_event b e) es

abbrev pub brought_all : Buffers → List Event → Log
brought_all b [] = []
brought_all b (e ∷ es) = brought_by b e ++ brought_all (after_event b e) es

-- of N blocks and these events, where b is what they leave and g the commits and releases that they brought
pub record Endures (N : ℕ) (es : List Event) (b : Buffers) (g : Log) : Type 0 where
  -- the store is accepted, with the copy of every seat, and its history is these commits and releases in their order, none lost and none changed
  pub accepted : AllAccepted b
  pub log : store_log b.store ≡ g
  pub history : store_history b.store ≡ commits g
  -- the next call answers as the machine does on what the buffers hold
  pub answer : (t : Turn) → Valid t → (turn_on b t).says ≡ (step (state_in b) t.by t.call).0
  -- reading any sheet at R finds exactly the bytes that the first R of these commits leave on an empty tree, or refusal 8
  pub found : (R i : ℕ) → R ≤ last (commits g) → i ≤ 31 → Finds b (commits g) R i
  -- a panel finds at R the same at the greatest released revision up to R, or refusal 8
  pub panel : (R i : ℕ) → R ≤ last (commits g) → i ≤ 31 → PanelFinds b (commits g) (marks g) R i
  -- an update to R by a seat with nothing pending brings each chosen sheet to the same
  pub brought : (k mask R : ℕ) → 1 ≤ k → k ≤ 4 → (mask ≡ 0 → ⊥) → R ≤ last (commits g) → NothingPending b (commits g) k
      → Brings (call b.store (copy_in b k) (Update mask R)) (commits g) mask R
  -- what is found at R stays so, whatever happens next
  pub lasting : (us : List Event) → AllPossible b us → (R i : ℕ) → R ≤ last (commits g) → i ≤ 31 → Finds (after_all b us) (commits g) R i
  pub lasting-panel : (us : List Event) → AllPossible b us → (R i : ℕ) → R ≤ last (commits g) → i ≤ 31 → PanelFinds (after_all b us) (commits g) (marks (g ++ brought_all b us)) R i
  -- a seat whose copy was lost can go on with a fresh one
  pub renewed : (k : ℕ) → 1 ≤ k → k ≤ 4 → Possible b (copy_is k (fresh_copy k))
  -- clearing gives the bytes that N and these commits and releases alone fix (W1)
  pub clears : clear_call b.store ≡ record { says = done; buffer = store_bytes N g }

-- THE STATEMENT
abbrev pub PowerCuts : Type 0
PowerCuts = (N : ℕ) (es : List Event) → 2 ≤ N → N ≤ 4_096 → AllPossible (fresh_buffers N) es → Endures N es (after_all (fresh_buffers N) es) (brought_all (fresh_buffers N) es)
