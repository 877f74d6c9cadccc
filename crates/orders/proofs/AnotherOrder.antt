-- "Stores already written in another order are still accepted and read.": one such store, computed on bytes by the calls. It is accepted, read at every revision and committed upon; its
-- blocks stay as they are, and the new commit stands behind them in W1's order.
-- Assumes nothing.
use Prim.Native.Nat.{ℕ}
use mathlib.Core.List.{List, [], ◌++◌, ◌∷◌, map}
use mathlib.Core.Option.{none}
use mathlib.Core.Path.{◌≡◌, refl}
use lib.ListN.{replicate, take}
use Rattle.block.specs.Check.{checks_of, sealed}
use Rattle.model.proofs.Orders.{behind, other}
use Rattle.model.proofs.Play.{everything}
use Rattle.model.specs.Blocks.{blank, bytes_at, fields_of, parse}
use Rattle.model.specs.Calls.{change_call, commit_call, read_call, read_place, refusal_of, store_conditions, store_refusal}
use Rattle.model.specs.Codec.{encode, joined, padded, shaped}
use Rattle.model.specs.Entry.{added, copied, deleted, empty, normal}
use Rattle.model.specs.History.{Bytes, tree}
use Rattle.model.specs.Layout.{means, next}
use Rattle.model.specs.Machine.{Answer, bytes, refused, revision}
use Rattle.model.specs.Pass.{laid, log_all, log_from, no_changes, ok, ok_from, read_all, read_from, rule, stated, tables_after, tables_of}
use Rattle.model.specs.Refusals.{first_of}
use Rattle.model.specs.Store.{bare_in, blank_from, blocks_of, checked, checked_but, filled_in, history_of, lawful, lawful_but, stem_in, whole_in}
use Rattle.model.specs.WorkCopy.{copy_blocks_of, copy_bytes, copy_ok, entries_of, parse_copy_block, seat_of}

-- ten blocks: the five of `other`, and five that are not used
abbrev store : Bytes
store = joined fields_of (other ++ (blank ∷ blank ∷ blank ∷ blank ∷ blank ∷ []))

-- with the second commit in blocks 5 to 8: sheet 7 of revision 1 uses block 3
abbrev grown : Bytes
grown = joined fields_of (other ++ (behind 3 ++ (blank ∷ [])))

-- the working copy of seat 1, which has revision 1 checked out and the second commit pending
abbrev copy : Bytes
copy =
    copy_bytes 1 (replicate 5 empty ++ (normal 1 (68 ∷ []) ∷ copied 7 1 (66 ∷ []) ∷ deleted 1 ∷ copied 9 1 (69 ∷ []) ∷ normal 1 (67 ∷ []) ∷ added [] ∷ replicate 21 empty))

-- sheets 5 to 10 at a revision
abbrev reads : Bytes → ℕ → List Answer
reads s R = map (read_call s R) (5 ∷ 6 ∷ 7 ∷ 8 ∷ 9 ∷ 10 ∷ [])

abbrev absent : Answer
absent = refused 8

pub record AnotherOrder : Type 0 where
  pub accepted : first_of (store_conditions store) ≡ none
  pub read : map (reads store) (0 ∷ 1 ∷ [])
      ≡ (absent ∷ absent ∷ absent ∷ absent ∷ absent ∷ absent ∷ [])
      ∷ (bytes (65 ∷ []) 1 ∷ absent ∷ bytes (66 ∷ []) 1 ∷ absent ∷ bytes (67 ∷ []) 1 ∷ absent ∷ []) ∷ []
  pub answer : (commit_call store copy 8 everything).says ≡ revision 2
  pub committed : (commit_call store copy 8 everything).store ≡ grown
  pub kept : take 2_560 grown ≡ take 2_560 store
  pub read_after : map (reads grown) (0 ∷ 1 ∷ 2 ∷ [])
      ≡ (absent ∷ absent ∷ absent ∷ absent ∷ absent ∷ absent ∷ [])
      ∷ (bytes (65 ∷ []) 1 ∷ absent ∷ bytes (66 ∷ []) 1 ∷ absent ∷ bytes (67 ∷ []) 1 ∷ absent ∷ [])
      ∷ (bytes (68 ∷ []) 2 ∷ bytes (66 ∷ []) 2 ∷ absent ∷ bytes (69 ∷ []) 2 ∷ bytes (67 ∷ []) 1 ∷ bytes [] 2 ∷ []) ∷ []

pub another-order : AnotherOrder
unfolding tree bytes_at next means ok ok_from read_all read_from log_all log_from stated no_changes rule laid padded checks_of encode sealed shaped parse checked lawful blocks_of history_of tables_of tables_after parse_copy_block copy_bytes copy_blocks_of copy_ok seat_of entries_of refusal_of store_refusal change_call read_place checked_but lawful_but filled_in whole_in stem_in blank_from bare_in
another-order = record { accepted = refl; read = refl; answer = refl; committed = refl; kept = refl; read_after = refl }
