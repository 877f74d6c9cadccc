-- W2 of document 02, the statement: "Two engineers who type the same flow-contact delay now count as agreeing. An update to R takes a chosen modified, added or copied entry whose
-- bytes equal tree R's as normal with base R. Refusal 12 loses these cases."
-- Here over the calls on buffers that are accepted: a store, and a working copy that fits it. Its proof is in laws/proofs/SameEdit.
-- Assumes nothing.
use Rattle.std.specs.Prelude.{◌<◌, ◌≤◌, ℕ, Bool, ◌&&◌, cond, false, true, List, ◌↔◌, ◌⊎◌, ◌≡◌, get_or}
use Rattle.std.proofs.Math.Option.{Option, none, some}
use Rattle.model.specs.Calls.{Out, commit_call, status_call, update_call}
use Rattle.model.specs.Entry.{Entry, added, copied, deleted, empty, modified, normal, own_bytes, pending}
use Rattle.model.specs.History.{Bytes, History, is_bytes, last, namer, present, sheet}
use Rattle.model.specs.Machine.{as_in, chosen, done, refused, same_namer, status}
use Rattle.model.specs.Shows.{Accepted}
use Rattle.model.specs.Store.{store_history, tail_of}
use Rattle.model.specs.WorkCopy.{entries_of}

-- "a .. modified, added or copied entry whose bytes equal tree R's": those of its own sheet, which tree R has
abbrev pub agrees : History → ℕ → ℕ → Entry → Bool
agrees h R i empty = false
agrees h R i (normal b x) = modified h i b x && is_bytes x (sheet h R i)
agrees h R i (added x) = is_bytes x (sheet h R i)
agrees h R i (deleted b) = false
agrees h R i (copied s r x) = is_bytes x (sheet h R i)

-- what update made of a chosen entry before W2, or nothing where it was a conflict: for the comparison below alone
abbrev pub formerly : History → ℕ → ℕ → Entry → Option Entry
formerly h R i empty = some (as_in R (sheet h R i))
formerly h R i (normal b x) =
    cond (modified h i b x)
    (cond (same_namer h i R b) (some (normal R x)) none)
    (some (as_in R (sheet h R i)))
formerly h R i (added x) = cond (present (sheet h R i)) none (some (added x))
formerly h R i (deleted b) = cond (same_namer h i R b) (some (deleted R)) none
formerly h R i (copied s r x) = cond (present (sheet h R i)) none (some (copied s r x))

-- a conflict that is left among these entries: a chosen one that doesn't agree, and that was one before
pub record Quarrel (h : History) (mask R : ℕ) (es : List Entry) : Type 0 where
  pub sheet : ℕ
  pub inside : sheet < 32
  pub picked : chosen mask sheet ≡ true
  pub other : agrees h R sheet (get_or es sheet empty) ≡ false
  pub conflict : formerly h R sheet (get_or es sheet empty) ≡ none

-- every chosen entry agrees with tree R, or is not pending
abbrev pub AllAgree : History → ℕ → ℕ → List Entry → Type 0
AllAgree h mask R es = (i : ℕ) → i < 32 → chosen mask i ≡ true → (agrees h R i (get_or es i empty) ≡ true) ⊎ (pending h i (get_or es i empty) ≡ false)

-- an entry that agreed with tree R, and what it became: "normal with base R" and those bytes, and not pending
pub record Settled (h : History) (R i : ℕ) (e e' : Entry) : Type 0 where
  pub bytes : Bytes
  pub typed : own_bytes e ≡ some bytes
  pub stored : sheet h R i ≡ some bytes
  pub becomes : e' ≡ normal R bytes
  pub clear : pending h i e' ≡ false

-- what an update to R that is done makes of entry i
pub record Leaves (h : History) (mask R i : ℕ) (e e' : Entry) : Type 0 where
  pub agreed : chosen mask i ≡ true → agrees h R i e ≡ true → Settled h R i e e'
  -- every other entry is as it would have been before W2
  pub other : chosen mask i ≡ true → agrees h R i e ≡ false → formerly h R i e ≡ some e'
  pub unchosen : chosen mask i ≡ false → e' ≡ e

-- the outcome of an update to R, where the history is h and the entries were es
pub record Updates (h : History) (es : List Entry) (mask R : ℕ) (o : Out) : Type 0 where
  -- in range, it is refused with 12 exactly where a conflict is left, and else done
  pub refuses : (mask ≡ 0 → ⊥) → R ≤ last h → (o.says ≡ refused 12) ↔ Quarrel h mask R es
  pub does : (mask ≡ 0 → ⊥) → R ≤ last h → (Quarrel h mask R es → ⊥) → o.says ≡ done
  -- done, it has taken every chosen entry that agrees with tree R
  pub leaves : o.says ≡ done → (i : ℕ) → i < 32 → Leaves h mask R i (get_or es i empty) (get_or (entries_of o.copy) i empty)

-- of a store and a working copy that hold the history h and the entries es
pub record Agreeing (store copy : Bytes) (h : History) (es : List Entry) : Type 0 where
  -- "Refusal 12 loses these cases.": an entry that agrees was a conflict
  pub lost : (R i : ℕ) → R ≤ last h → agrees h R i (get_or es i empty) ≡ true → formerly h R i (get_or es i empty) ≡ none
  pub updates : (mask R : ℕ) → Updates h es mask R (update_call store copy mask R)
  -- commit and status are as they were: an entry that agrees with the last tree is out of date (11; on a store that has a tail 14 comes before it), and where it is normal it
  -- needs merge (4)
  pub stale : tail_of store ≡ 0 → (stamp mask i : ℕ) → i < 32 → chosen mask i ≡ true → agrees h (last h) i (get_or es i empty) ≡ true → (commit_call store copy stamp mask).says ≡ refused 11
  pub needs_merge : (i b : ℕ) (x : Bytes) → i < 32 → get_or es i empty ≡ normal b x → agrees h (last h) i (normal b x) ≡ true → status_call store copy i ≡ status 4 (namer h (last h) i)
  -- where every chosen entry agrees with tree R or is not pending, the update is done, and then nothing chosen is pending (10)
  pub settles : (stamp mask R : ℕ) → (mask ≡ 0 → ⊥) → R ≤ last h → AllAgree h mask R es
      → ((update_call store copy mask R).says ≡ done) × (tail_of store ≡ 0 → (commit_call (update_call store copy mask R).store (update_call store copy mask R).copy stamp mask).says ≡ refused 10)

-- THE STATEMENT
abbrev pub SameEdit : Type 0
SameEdit = (store copy : Bytes) → Accepted store copy → Agreeing store copy (store_history store) (entries_of copy)
