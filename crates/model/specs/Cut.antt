-- W6 of document 02, the statement: "At whichever block the power fails, the store found is accepted, its history is the one before or the one with the whole commit, and the latter exactly
-- if the commit block is new. Clearing, even after any number of cut clearings, then gives a store without a tail and the same history."
-- It is stated over the calls that stop after n block writes, so that it speaks of what the code does. W9: "W6's cut rule includes the block, a release standing or not."; a release has
-- one write and no call with n. Its proof is in laws/proofs/CutCommits, CutReleases and CutRule.
-- Assumes nothing.
use Rattle.std.specs.Prelude.{◌+◌, ◌-◌, ◌<◌, ◌^◌, ◌≤◌, suc, zero, ℕ, List, [], ◌++◌, ◌∷◌, map, ◌↔◌, ◌⊎◌, ◌≡◌, length, take}
use Rattle.std.proofs.Math.Option.{none}
use Rattle.block.specs.Buffer.{block_at, with_block}
use Rattle.model.specs.Blocks.{Line, commit, content}
use Rattle.model.specs.Calls.{both_conditions, clear_call, clear_cut_call, commit_call, commit_cut_call, commit_writes, out, release_call, side_in, store_conditions, store_only_conditions, written_from}
use Rattle.model.specs.History.{Bytes, Commit, last}
use Rattle.model.specs.Log.{Log, a_mark, released}
use Rattle.model.specs.Machine.{Commits, Release, done, new_commit, refused, stopped}
use Rattle.model.specs.Refusals.{Clear, first_of}
use Rattle.model.specs.Shows.{Accepted}
use Rattle.model.specs.Store.{bare_of, block_count, store_history, store_log, store_marks, tail_of, used_of}
use Rattle.model.specs.Tail.{Junk, Tailed}

-- ---- block writes, and a power cut in one

-- `after n` is the store after n of the writes. Write n, counted from 0, is of the whole block `place n` and of nothing else; no used block is written, and block 0, the label, is a used one
pub record Writes (store : Bytes) (after : ℕ → Bytes) (writes : ℕ) (place : ℕ → ℕ) : Type 0 where
  pub starts : after 0 ≡ store
  pub each : (n : ℕ) → n < writes → after (suc n) ≡ with_block (after n) (place n) (block_at (after (suc n)) (place n))
  pub past : (n : ℕ) → n < writes → used_of store ≤ place n
  pub inside : (n : ℕ) → n < writes → place n < block_count store
  pub label : 1 ≤ used_of store

-- "Blocks already written are new, the block being written is old, new or junk with a wrong check, and blocks due later are still old."
abbrev pub Torn : Bytes → Bytes → ℕ → Bytes → Type 0
Torn before after p found = (found ≡ before) ⊎ ((found ≡ after) ⊎ ((j : Bytes) × Junk j × (found ≡ with_block before p j)))

-- the store found where the power failed in one of the writes
abbrev pub FoundIn : (ℕ → Bytes) → ℕ → (ℕ → ℕ) → Bytes → Type 0
FoundIn after writes place found = (n : ℕ) × (n < writes) × Torn (after n) (after (suc n)) (place n) found

-- ---- clearing

module _ (store : Bytes) where
  abbrev pub clear_after : ℕ → Bytes
  clear_after n = (clear_cut_call store n).buffer

  -- "from its highest block down"
  abbrev pub clear_place : ℕ → ℕ
  clear_place n = used_of store + tail_of store - suc n

-- the store found where the power failed in clearing this one
abbrev pub FoundClearing : Bytes → Bytes → Type 0
FoundClearing store = FoundIn (clear_after store) (tail_of store) (clear_place store)

-- "any number of cut clearings", one after the other: from f to g
abbrev pub Clearings : ℕ → Bytes → Bytes → Type 0
Clearings zero f g = g ≡ f
Clearings (suc k) f g = (mid : Bytes) × FoundClearing f mid × Clearings k mid g

-- g was found after cut clearings of f: it is accepted and has the history of f; clearing it gives a store without a tail and with that history, and it is the same store
-- whatever happened on the way
pub record Restored (f g : Bytes) : Type 0 where
  pub accepted : first_of (store_conditions g) ≡ none
  pub history : store_history g ≡ store_history f
  pub log : store_log g ≡ store_log f
  pub clears : clear_call g ≡ record { says = done; buffer = bare_of f }
  pub bare : Tailed (block_count f) (bare_of f) (store_history f) (used_of f) 0
  -- no seat is shut out
  pub seats : (copy : Bytes) → Accepted f copy → Accepted g copy

-- of an accepted store
pub record CutClearing (store : Bytes) : Type 0 where
  pub order : Writes store (clear_after store) (tail_of store) (clear_place store)
  pub stops : (n : ℕ) → n < tail_of store → (clear_cut_call store n).says ≡ stopped
  pub usual : (n : ℕ) → tail_of store ≤ n → clear_cut_call store n ≡ clear_call store
  pub found : (k : ℕ) (g : Bytes) → Clearings k store g → Restored store g

-- ---- commit

module _ (store copy : Bytes) (stamp mask : ℕ) where
  abbrev pub the_commit : Commit
  the_commit = new_commit (side_in store copy) stamp mask

  -- k + 1, and the place of each write, the last one the commit block's
  abbrev pub write_count : ℕ
  write_count = length (commit_writes store copy stamp mask)

  abbrev pub commit_place : ℕ → ℕ
  commit_place n = used_of store + n

  abbrev pub commit_after : ℕ → Bytes
  commit_after n = (commit_cut_call store copy stamp mask n).store

  -- the store found where the power failed in this commit
  abbrev pub FoundCommitting : Bytes → Type 0
  FoundCommitting = FoundIn commit_after write_count commit_place

  abbrev pub commit_block_at : Bytes → Bytes
  commit_block_at s = block_at s (commit_place (write_count - 1))

  -- what is written: "its content blocks in rising order, then its commit block", all with the next revision
  pub record Written : Type 0 where
    pub contents : List Bytes
    pub lines : List Line
    pub blocks : commit_writes store copy stamp mask ≡ map (content (suc (last (store_history store)))) contents ++ (commit (suc (last (store_history store))) the_commit.seat stamp lines ∷ [])
    pub after : (n : ℕ) → n ≤ write_count → commit_after n ≡ written_from store (take n (commit_writes store copy stamp mask))

  -- the store f was found
  pub record FoundCommit (f : Bytes) : Type 0 where
    pub accepted : first_of (store_conditions f) ≡ none
    -- "its history is the one before or the one with the whole commit"
    pub history : (store_history f ≡ store_history store) ⊎ (store_history f ≡ store_history store ++ (the_commit ∷ []))
    -- its releases are where they were
    pub marks : store_marks f ≡ store_marks store
    -- "and the latter exactly if the commit block is new"
    pub exactly : (store_history f ≡ store_history store ++ (the_commit ∷ [])) ↔ (commit_block_at f ≡ commit_block_at (commit_call store copy stamp mask).store)
    -- no seat is shut out: a copy that was accepted with the store is accepted with the one found
    pub seats : (other : Bytes) → Accepted store other → Accepted f other
    -- "Clearing, even after any number of cut clearings, then gives a store without a tail and the same history."
    pub restored : (k : ℕ) (g : Bytes) → Clearings k f g → Restored f g
    -- the store that clearing gives: the one before the commit, or the finished commit's, in which there is nothing to clear
    pub back : store_history f ≡ store_history store → bare_of f ≡ store
    pub whole : store_history f ≡ store_history store ++ (the_commit ∷ []) → f ≡ (commit_call store copy stamp mask).store

  -- of a commit that no line refuses
  pub record CutCommit : Type 0 where
    pub writes : Written
    pub order : Writes store commit_after write_count commit_place
    pub stops : (n : ℕ) → n < write_count → commit_cut_call store copy stamp mask n ≡ out stopped (commit_after n) copy
    pub usual : (n : ℕ) → write_count ≤ n → commit_cut_call store copy stamp mask n ≡ commit_call store copy stamp mask
    pub found : (f : Bytes) → FoundCommitting f → FoundCommit f

-- ---- a release: "W6's cut rule includes the block, a release standing or not."

module _ (store : Bytes) (R seat stamp : ℕ) where
  -- one write, of block U
  abbrev pub release_after : ℕ → Bytes
  release_after zero = store
  release_after (suc n) = (release_call store R seat stamp).buffer

  abbrev pub release_place : ℕ → ℕ
  release_place n = used_of store

  -- the store found where the power failed in this release
  abbrev pub FoundReleasing : Bytes → Type 0
  FoundReleasing = FoundIn release_after 1 release_place

  abbrev pub released_log : Log
  released_log = store_log store ++ (a_mark (released R seat stamp) ∷ [])

  -- the store f was found
  pub record FoundRelease (f : Bytes) : Type 0 where
    pub accepted : first_of (store_conditions f) ≡ none
    -- "a release standing or not": the commits and releases in their common order are those before, or with this release as the last
    pub log : (store_log f ≡ store_log store) ⊎ (store_log f ≡ released_log)
    -- the latter exactly if the block is new
    pub exactly : (store_log f ≡ released_log) ↔ (block_at f (used_of store) ≡ block_at (release_after 1) (used_of store))
    -- it "isn't a revision itself"
    pub history : store_history f ≡ store_history store
    pub seats : (other : Bytes) → Accepted store other → Accepted f other
    pub restored : (k : ℕ) (g : Bytes) → Clearings k f g → Restored f g
    -- the store that clearing gives: the one before the release, or the finished release's, in which there is nothing to clear
    pub back : store_log f ≡ store_log store → bare_of f ≡ store
    pub whole : store_log f ≡ released_log → f ≡ release_after 1

  -- of a release that no line refuses
  pub record CutRelease : Type 0 where
    pub order : Writes store release_after 1 release_place
    pub found : (f : Bytes) → FoundReleasing f → FoundRelease f

-- THE RULE
pub record CutRule (store copy : Bytes) : Type 0 where
  pub commits : (stamp mask : ℕ) → stamp < 2 ^ 32 → Clear (both_conditions store copy (Commits stamp mask)) → CutCommit store copy stamp mask
  pub clears : Clear (store_conditions store) → CutClearing store
  -- a refusal comes whatever n is
  pub refuses : (stamp mask n r : ℕ) → (commit_call store copy stamp mask).says ≡ refused r → commit_cut_call store copy stamp mask n ≡ out (refused r) store copy
  pub keeps : (n r : ℕ) → (clear_call store).says ≡ refused r → clear_cut_call store n ≡ record { says = refused r; buffer = store }
  pub releases : (R seat stamp : ℕ) → stamp < 2 ^ 32 → Clear (store_only_conditions store (Release R seat stamp)) → CutRelease store R seat stamp

abbrev pub CutAnywhere : Type 0
CutAnywhere = (store copy : Bytes) → CutRule store copy
