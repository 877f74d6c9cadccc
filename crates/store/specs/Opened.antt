-- What opening a store answers, and what the forward pass answers on the way.
-- Assumes nothing.
use Rattle.std.specs.Prelude.{◌*◌, ◌+◌, ◌-◌, ◌<◌, ◌≤◌, suc, ℕ, Bool, ◌&&◌, cond, false, List, [], ◌∷◌, eqb, leb, ◌≡◌, drop, length, replicate, take, Err, Ok, Result}
use Rattle.std.proofs.Math.Option.{Option, none, some}
use Rattle.model.specs.Blocks.{Block, blank, bytes_at, commit, content, label, mark, parse}
use Rattle.model.specs.Calls.{store_conditions}
use Rattle.model.specs.History.{Bytes, last}
use Rattle.model.specs.Layout.{Table}
use Rattle.model.specs.Log.{marks, marks_ok}
use Rattle.model.specs.Pass.{grown, laid, log_all, read_from, stands}
use Rattle.model.specs.Refusals.{first_of}
use Rattle.model.specs.Store.{blocks_of, store_history, used_of}
use Rattle.model.specs.declared.Refusal.{Refusal}
use Rattle.model.specs.declared.Refusal.TheVariants.{StoreCheck, StoreLayout, StoreLength}
use Rattle.marks.specs.Revisions.{is_mark}
use Rattle.store.specs.declared.Header.{Header}
use Rattle.store.specs.declared.Passed.{Passed}
use Rattle.store.specs.declared.Passed.TheVariants.{Marked, Plain}

-- the refusals 1, 2 and 3
abbrev pub refusal_as : ℕ → Refusal
refusal_as n = cond (eqb n 1) StoreLength (cond (eqb n 2) StoreCheck StoreLayout)

abbrev pub opened_by : Option ℕ → Header → Result Header Refusal
opened_by none h = Ok h
opened_by (some n) h = Err (refusal_as n)

-- the first refusal in the document's order, or the last revision and U
unfoldable pub open_of : Bytes → Result Header Refusal
open_of store = opened_by (first_of (store_conditions store)) (record { last = last (store_history store); used = used_of store })

-- the pass over the blocks that are left: no zero block stands among them, and content blocks that no commit follows are 32 at most. Each mark is tested by itself
unfoldable pub ok_tail : (ℕ → List ℕ) → ℕ → ℕ → List Table → List Block → Bool
ok_tail look at k tables [] = leb k 32
ok_tail look at k tables (label ∷ bs) = false
ok_tail look at k tables (content r b ∷ bs) = eqb r (length tables) && ok_tail look at (suc k) tables bs
ok_tail look at k tables (commit r seat stamp ls ∷ bs) =
    eqb r (length tables) && (laid look at k tables seat ls && ok_tail look (suc (at + k)) 0 (grown tables ls) bs)
ok_tail look at k tables (mark m ∷ bs) = eqb k 0 && (stands tables m && ok_tail look (suc at) 0 tables bs)
ok_tail look at k tables (blank ∷ bs) = false

-- the block after their last commit block or mark
unfoldable pub reached : ℕ → ℕ → List Block → ℕ
reached at k [] = at
reached at k (label ∷ bs) = at
reached at k (content r b ∷ bs) = reached at (suc k) bs
reached at k (commit r seat stamp ls ∷ bs) = reached (suc (at + k)) 0 bs
reached at k (mark m ∷ bs) = reached (suc at) 0 bs
reached at k (blank ∷ bs) = at

-- what the forward pass answers, from a commit's first block `at` with k content blocks passed, the trees' tables, and the blocks that are left
unfoldable pub passed : (ℕ → List ℕ) → ℕ → ℕ → List Table → List Block → Result Header Refusal
passed look at k tables bs =
    cond (ok_tail look at k tables bs)
    (Ok (record { last = length tables - 1 + length (read_from look bs); used = reached at k bs }))
    (Err StoreLayout)

unfoldable pub passed_all : ℕ → List ℕ → Result Header Refusal
passed_all n l = passed (bytes_at (blocks_of n l)) 1 0 (replicate 32 0 ∷ []) (drop 1 (blocks_of n l))

-- the same, whether there are marks or not
abbrev pub opened_as : Result Passed Refusal → Result Header Refusal
opened_as (Err k) = Err k
opened_as (Ok (Plain h)) = Ok h
opened_as (Ok (Marked h)) = Ok h

-- no used block after the label is a mark, where that is said
abbrev pub Markless : Bytes → Result Passed Refusal → Type 0
Markless store (Err k) = Unit {0}
Markless store (Ok (Plain h)) = (p : ℕ) → 1 ≤ p → p < h.used → is_mark (parse (take 512 (drop (p * 512) store))) ≡ false
Markless store (Ok (Marked h)) = Unit {0}

pub record PassedAs (n : ℕ) (store : Bytes) (x : Result Passed Refusal) : Type 0 where
  pub is : opened_as x ≡ passed_all n store
  pub markless : Markless store x

-- an answer of the pass, with the test of all marks of the used blocks together
abbrev pub marked_of : Bytes → Result Header Refusal → Result Header Refusal
marked_of store (Err k) = Err k
marked_of store (Ok h) = cond (marks_ok (marks (log_all (blocks_of h.used store)))) (Ok h) (Err StoreLayout)
