-- The calls on buffers, computed on bytes: the case input of document 01, and for every two of the lines 1 to 7 that can hold together a call of which both hold;
-- for 14 one with 3 and one with 4.
-- Assumes nothing.
use Prim.Native.Nat.{ℕ}
use mathlib.Core.List.{List, [], ◌++◌, ◌∷◌, map}
use mathlib.Core.Option.{Option, none, some}
use mathlib.Core.Path.{◌≡◌, refl}
use lib.ListN.{replicate, set}
use Rattle.block.specs.Check.{checks_of, sealed}
use Rattle.model.proofs.Play.{◌does◌, everything}
use Rattle.model.specs.Blocks.{Block, adds, blank, bytes_at, commit, content, fields_of, label, parse}
use Rattle.model.specs.Calls.{add_call, answers_on, change_call, commit_call, create_copy, fresh_buffers, fresh_copy, fresh_store, in_store, log_call, read_call, read_place, refusal_of, run_on, store_conditions, store_refusal}
use Rattle.model.specs.Codec.{encode, joined, padded, shaped}
use Rattle.model.specs.Entry.{empty, normal}
use Rattle.model.specs.History.{Bytes, tree}
use Rattle.model.specs.Layout.{means, next}
use Rattle.model.specs.Machine.{Add, Answer, Commits, bytes, done, logged, refused, revision}
use Rattle.model.specs.Pass.{laid, log_all, log_from, no_changes, ok, ok_from, read_all, read_from, rule, stated, tables_after, tables_of}
use Rattle.model.specs.Refusals.{first_of}
use Rattle.model.specs.Run.{Turn}
use Rattle.model.specs.Store.{bare_in, blank_from, blocks_of, checked, checked_but, filled_in, history_of, lawful, lawful_but, stem_in, whole_in}
use Rattle.model.specs.WorkCopy.{copy_blocks_of, copy_bytes, copy_ok, entries_of, parse_copy_block, seat_of}

-- `add 2 5 41`, `put 2 7` on a store of four blocks
abbrev script : List Turn
script = 2 does Add 5 (65 ∷ []) ∷ 2 does Commits 7 everything ∷ []

-- the blocks afterwards: "content in block 1"
abbrev stored : List Block
stored = label ∷ content 1 (65 ∷ []) ∷ commit 1 2 7 (record { sheet = 5; action = adds; block = 1; source = 0; revision = 0 } ∷ []) ∷ blank ∷ []

-- `get 1 5`, `get 0 5`; and what log tells
abbrev looks : Bytes → List Answer
looks store = read_call store 1 5 ∷ read_call store 0 5 ∷ log_call store 1 5 ∷ []

-- a copy with an entry that does not fit a fresh store: its base is 1
abbrev unfit : Bytes
unfit = copy_bytes 2 (normal 1 [] ∷ replicate 31 empty)

-- an add of a sheet to these buffers
abbrev adding : Bytes → Bytes → ℕ → Answer
adding store copy i = (add_call store copy i []).says

-- each with two lines that hold: 1 and 2, 2 and 3, 3 and 4, 4 and 5, 5 and 6, 6 and 7; and create's 4 and 7
abbrev refusals : List Answer
refusals =
    adding (set (fresh_store 2) 3 1 ++ (0 ∷ [])) (fresh_copy 2) 5
    ∷ adding (set (fresh_store 2) 3 1) (fresh_copy 2) 5
    ∷ adding (fresh_copy 2) [] 5
    ∷ adding (fresh_store 2) [] 5
    ∷ adding (fresh_store 2) (set unfit 1 3) 5
    ∷ adding (fresh_store 2) unfit 32
    ∷ (create_copy [] 9).says
    ∷ []

-- content blocks behind the label, of the next revision and of another
abbrev loose : List (Option ℕ)
loose = map (λ (r : ℕ). first_of (store_conditions (joined fields_of (label ∷ content r [] ∷ [])))) (1 ∷ 2 ∷ [])

-- 512 bytes with a wrong check
abbrev junk : Bytes
junk = set (replicate 512 0) 511 1

-- a commit on stores with two lines that hold: 3 and 14, since a zero block stands before the junk; 14 and 4
abbrev unfinished : List Answer
unfinished = (commit_call (fresh_store 2 ++ junk) (fresh_copy 2) 7 everything).says ∷ (commit_call (fresh_store 1 ++ junk) [] 7 everything).says ∷ []

pub record OnBytes : Type 0 where
  pub answer : answers_on (fresh_buffers 4) script ≡ done ∷ revision 1 ∷ []
  pub store : (run_on (fresh_buffers 4) script).store ≡ joined fields_of stored
  pub look : looks (joined fields_of stored) ≡ bytes (65 ∷ []) 1 ∷ refused 8 ∷ logged 2 7 1 1 0 0 ∷ []
  pub place : read_place (joined fields_of stored) 1 5 ≡ in_store 528 1 1
  pub order : refusals ≡ refused 1 ∷ refused 2 ∷ refused 3 ∷ refused 4 ∷ refused 5 ∷ refused 6 ∷ refused 4 ∷ []
  pub tail : loose ≡ none ∷ some 3 ∷ []
  pub before : unfinished ≡ refused 3 ∷ refused 14 ∷ []

pub on_bytes : OnBytes
unfolding tree bytes_at next means ok ok_from read_all read_from log_all log_from stated no_changes rule laid padded checks_of encode sealed shaped parse checked lawful blocks_of history_of tables_of tables_after parse_copy_block copy_bytes copy_blocks_of copy_ok seat_of entries_of refusal_of store_refusal change_call read_place log_call create_copy checked_but lawful_but filled_in whole_in stem_in blank_from bare_in
on_bytes = record { answer = refl; store = refl; look = refl; place = refl; order = refl; tail = refl; before = refl }
