-- W1 of document 02, the statement: "From now on a commit writes its changes by rising sheet number, and its content blocks in the order of the changes that point to them.
-- Stores already written in another order are still accepted and read. Two fresh stores of one size whose calls make the same history then hold equal bytes."
-- Here over the calls on buffers. Its proof is in laws/proofs/Ordered.
-- Assumes nothing.
use Rattle.std.specs.Prelude.{◌*◌, ◌<◌, ◌^◌, ◌≤◌, ℕ, List, [], ◌++◌, ◌∷◌, map, ◌≡◌, length, take}
use Rattle.std.proofs.Math.Option.{none}
use Rattle.block.specs.Lists.{All}
use Rattle.model.specs.Blocks.{Block, Line, blank, commit, content, mark}
use Rattle.model.specs.Calls.{Buffers, commit_call, fresh_buffers, read_call, release_call, run_on, side_in, store_conditions}
use Rattle.model.specs.Demand2.{LaidStore}
use Rattle.model.specs.History.{Bytes, Commit, History, last, namer, sheet}
use Rattle.model.specs.Invariant.{SoundLog}
use Rattle.model.specs.Log.{Log as TheLog, Mark, a_commit, a_mark, commits as commits_of, released}
use Rattle.model.specs.Machine.{as_bytes, done, fresh, new_commit, revision}
use Rattle.model.specs.Order.{InOrder, continued, store_bytes, used_by}
use Rattle.model.specs.Refusals.{first_of}
use Rattle.model.specs.Run.{AllValid, Turn, accepted_log}
use Rattle.model.specs.Shows.{AllAccepted, state_in}
use Rattle.model.specs.Store.{bare_of, front, store_blocks, tail_of, used_of}

-- the commit c was added to a store, as revision R
pub record Appends (store store' : Bytes) (c : Commit) (R : ℕ) : Type 0 where
  -- every block that was in use is as it was
  pub kept : take (512 * used_of store) store' ≡ take (512 * used_of store) store
  -- behind them stand content blocks, a commit block and all-zero blocks
  pub contents : List Bytes
  pub lines : List Line
  pub rest : List Block
  pub behind : store_blocks store' ≡ front (store_blocks store) ++ (map (content R) contents ++ (commit R c.seat c.stamp lines ∷ rest))
  pub unused : All (λ (b : Block). b ≡ blank) rest
  -- "a commit writes its changes by rising sheet number, and its content blocks in the order of the changes that point to them"
  pub order : InOrder (used_of store) (length contents) lines
  -- so every byte is determined
  pub bytes : store' ≡ continued store (a_commit c ∷ [])

-- the mark m was added to a store
pub record AppendsMark (store store' : Bytes) (m : Mark) : Type 0 where
  -- every block that was in use is as it was, the mark's block stands behind them, and all-zero blocks follow
  pub kept : take (512 * used_of store) store' ≡ take (512 * used_of store) store
  pub rest : List Block
  pub behind : store_blocks store' ≡ front (store_blocks store) ++ (mark m ∷ rest)
  pub unused : All (λ (b : Block). b ≡ blank) rest
  -- so every byte is determined
  pub bytes : store' ≡ continued store (a_mark m ∷ [])

-- a store is accepted, and reading any sheet at R finds in it the bytes of tree R, with the last commit that names the sheet, or refusal 8
pub record ReadAs (store : Bytes) (h : History) : Type 0 where
  pub accepted : first_of (store_conditions store) ≡ none
  pub found : (R i : ℕ) → R ≤ last h → i ≤ 31 → read_call store R i ≡ as_bytes (namer h R i) (sheet h R i)

pub record Ordered : Type 0 where
  -- a commit that is done, on any buffers: the store may be written in another order
  pub commits : (store copy : Bytes) (stamp mask R : ℕ) → stamp < 2 ^ 32 → (commit_call store copy stamp mask).says ≡ revision R
      → Appends store (commit_call store copy stamp mask).store (new_commit (side_in store copy) stamp mask) R
  -- a release that is done, on any store
  pub releases : (store : Bytes) (R seat stamp : ℕ) → stamp < 2 ^ 32 → (release_call store R seat stamp).says ≡ done
      → AppendsMark store (release_call store R seat stamp).buffer (released R seat stamp)
  -- "Stores already written in another order are still accepted and read.": every layout of a history is, and the layout leaves the order of changes and of contents free
  pub another : (store : Bytes) (g : TheLog) → LaidStore store g → ReadAs store (commits_of g)
  -- any list of calls on accepted buffers, in whatever order the store is written; of what they leave, a tail counts as zero blocks
  pub lists : (b : Buffers) (ts : List Turn) → AllAccepted b → AllValid ts → bare_of (run_on b ts).store ≡ continued b.store (accepted_log (state_in b) ts)
  -- any list of calls from a fresh store of N blocks and four fresh copies that leaves no tail ("W1 speaks of stores without a tail", W6): the bytes follow from N, the accepted
  -- commits and the releases at their places among them: "For layout and W1 a history includes its releases and their places."
  pub bytes : (N : ℕ) (ts : List Turn) → 2 ≤ N → N ≤ 4_096 → AllValid ts → tail_of (run_on (fresh_buffers N) ts).store ≡ 0
      → (run_on (fresh_buffers N) ts).store ≡ store_bytes N (accepted_log (fresh N) ts)
  -- "Two fresh stores of one size whose calls make the same history then hold equal bytes.", whatever the calls, seats and refusals were
  pub equal : (N : ℕ) (ts us : List Turn) → 2 ≤ N → N ≤ 4_096 → AllValid ts → AllValid us → tail_of (run_on (fresh_buffers N) ts).store ≡ 0 → tail_of (run_on (fresh_buffers N) us).store ≡ 0
      → accepted_log (fresh N) ts ≡ accepted_log (fresh N) us
      → (run_on (fresh_buffers N) ts).store ≡ (run_on (fresh_buffers N) us).store
  -- and back: equal bytes are the same history
  pub back : (N : ℕ) (ts us : List Turn) → 2 ≤ N → N ≤ 4_096 → AllValid ts → AllValid us → (run_on (fresh_buffers N) ts).store ≡ (run_on (fresh_buffers N) us).store
      → accepted_log (fresh N) ts ≡ accepted_log (fresh N) us
  -- the bytes of every sound history with its releases that N blocks have room for are a store without a tail that is accepted and read as that history
  pub holds : (N : ℕ) (g : TheLog) → 2 ≤ N → N ≤ 4_096 → SoundLog g → used_by g ≤ N → LaidStore (store_bytes N g) g × (tail_of (store_bytes N g) ≡ 0)
