-- W3 of document 02, the statement: "Finding a sheet in tree R now also gives the number of the last commit up to R that named it, or 0 if none did. Status answers it for the last tree,
-- and the companions of read and of show from the store where they don't refuse. Update and the out-of-date rule use it, outcomes unchanged."
-- Here over the calls on any buffers, over lists of calls, and over the two rules. Its proof is in laws/proofs/SetBy.
-- Assumes nothing.
use Rattle.std.specs.Prelude.{◌≤◌, ℕ, true, List, ◌++◌, ◌↔◌, ◌≡◌, eqb, ltb}
use Rattle.model.specs.Calls.{Buffers, fresh_buffers, in_store, log_call, read_call, read_place, run_on, show_call, show_place, status_call}
use Rattle.model.specs.History.{Bytes, History, change_of, commit_at, last, named_after, names}
use Rattle.model.specs.Machine.{Answer, bytes, done, fresh, logged, refused, revision, same_namer, status, stopped}
use Rattle.model.specs.Run.{AllValid, Turn, accepted}
use Rattle.model.specs.Store.{store_history}

-- commit v of a history names sheet i; a delete does, the source of a copy is not named
pub record NamedBy (h : History) (v i : ℕ) : Type 0 where
  pub low : 1 ≤ v
  pub high : v ≤ last h
  pub named : names (change_of (commit_at h v) i) ≡ true

-- n is "the number of the last commit up to R that named it, or 0 if none did"
pub record LastNamer (h : History) (R i n : ℕ) : Type 0 where
  pub up_to : n ≤ R
  pub named : 1 ≤ n → NamedBy h n i
  pub greatest : (v : ℕ) → v ≤ R → NamedBy h v i → v ≤ n
  -- and 0 only then
  pub never : (n ≡ 0) ↔ ((v : ℕ) → v ≤ R → NamedBy h v i → ⊥)

-- the action that log tells, 0 for nothing
abbrev pub action_in : Answer → ℕ
action_in (refused n) = 0
action_in done = 0
action_in stopped = 0
action_in (revision R) = 0
action_in (bytes x n) = 0
action_in (status s n) = 0
action_in (logged seat stamp m a i R) = a

-- the number n that a call on this store gives for sheet i at R, a revision that is there: log of n tells an action other than nothing
pub record Numbered (store : Bytes) (R i n : ℕ) : Type 0 where
  pub within : R ≤ last (store_history store)
  pub is : LastNamer (store_history store) R i n
  pub logs : 1 ≤ n → 1 ≤ action_in (log_call store n i)

-- the calls on any store and working copy
pub record CallNumbers (store copy : Bytes) : Type 0 where
  -- "the companions of read": at its R. What is found was named
  pub reads : (R i p m n : ℕ) → read_place store R i ≡ in_store p m n → Numbered store R i n × (1 ≤ n)
  -- "and of show from the store": the last tree's. `Place` has none for a part of the working copy, nor for a refusal
  pub shows : (i p m n : ℕ) → show_place store copy i ≡ in_store p m n → Numbered store (last (store_history store)) i n × (1 ≤ n)
  -- "Status answers it for the last tree": at every status
  pub tells : (i s n : ℕ) → status_call store copy i ≡ status s n → Numbered store (last (store_history store)) i n

-- any list of calls from fresh buffers, where b is what the calls leave and h the commits that were accepted: the numbers follow from these alone
pub record ListNumbers (N : ℕ) (ts : List Turn) (b : Buffers) (h : History) : Type 0 where
  pub reads : (R i n : ℕ) (x : Bytes) → read_call b.store R i ≡ bytes x n → LastNamer h R i n
  -- with whatever working copy; 0 stands beside the seat's own bytes
  pub shows : (copy : Bytes) (i n : ℕ) (x : Bytes) → 1 ≤ n → show_call b.store copy i ≡ bytes x n → LastNamer h (last h) i n
  pub tells : (copy : Bytes) (i s n : ℕ) → status_call b.store copy i ≡ status s n → LastNamer h (last h) i n
  -- a number found at R stays, after every longer list: what read found, and what any call told
  pub lasting : (us : List Turn) → AllValid us → (R i n : ℕ) (x : Bytes) → read_call b.store R i ≡ bytes x n → read_call (run_on (fresh_buffers N) (ts ++ us)).store R i ≡ bytes x n
  pub stays : (us : List Turn) → (R i n : ℕ) → R ≤ last h → LastNamer h R i n → LastNamer (accepted (fresh N) (ts ++ us)) R i n

-- THE STATEMENT
pub record SetBy : Type 0 where
  pub calls : (store copy : Bytes) → CallNumbers store copy
  pub lists : (N : ℕ) (ts : List Turn) → 2 ≤ N → N ≤ 4_096 → AllValid ts → ListNumbers N ts (run_on (fresh_buffers N) ts) (accepted (fresh N) ts)
  -- "Update and the out-of-date rule use it, outcomes unchanged.": whatever gave the numbers, the two rules, which are those of document 01, go by them. An update to R keeps the bytes of an
  -- entry with base b where both have one number, and a commit after b names the sheet where the last tree's number is above b
  pub updates : (h : History) (R b i n m : ℕ) → LastNamer h R i n → LastNamer h b i m → same_namer h i R b ≡ eqb n m
  pub stale : (h : History) (b i n : ℕ) → LastNamer h (last h) i n → named_after h b i ≡ ltb b n
