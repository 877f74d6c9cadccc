-- W6: what commit and clearing leave in the store after each of their writes, computed on bytes.
-- Assumes nothing.
use Prim.Native.Nat.{ℕ}
use mathlib.Core.List.{[], ◌++◌, ◌∷◌}
use mathlib.Core.Path.{◌≡◌, refl}
use lib.ListN.{replicate, set}
use Rattle.block.specs.Check.{checks_of, sealed}
use Rattle.block.specs.Write.{written}
use Rattle.model.proofs.Play.{everything}
use Rattle.model.specs.Blocks.{Block, adds, blank, bytes_at, commit, content, fields_of, label, parse}
use Rattle.model.specs.Calls.{change_call, clear_cut_call, commit_cut_call, fresh_store, refusal_of, store_refusal}
use Rattle.model.specs.Codec.{encode, joined, padded, shaped}
use Rattle.model.specs.Entry.{added, empty}
use Rattle.model.specs.History.{Bytes, tree}
use Rattle.model.specs.Layout.{means, next}
use Rattle.model.specs.Machine.{done, stopped}
use Rattle.model.specs.Pass.{laid, log_all, log_from, no_changes, ok, ok_from, read_all, read_from, rule, stated, tables_after, tables_of}
use Rattle.model.specs.Store.{bare_in, blank_from, blocks_of, checked, checked_but, filled_in, history_of, lawful, lawful_but, stem_in, whole_in}
use Rattle.model.specs.WorkCopy.{copy_blocks_of, copy_bytes, copy_ok, entries_of, parse_copy_block, seat_of}

-- a commit of one sheet: two writes
abbrev copy : Bytes
copy = copy_bytes 2 (set (replicate 32 empty) 5 (added (65 ∷ [])))

abbrev one : Block
one = content 1 (65 ∷ [])

abbrev two : Block
two = commit 1 2 7 (record { sheet = 5; action = adds; block = 1; source = 0; revision = 0 } ∷ [])

abbrev leaves : ℕ → Bytes
leaves n = (commit_cut_call (fresh_store 3) copy 7 everything n).store

pub after_none : leaves 0 ≡ fresh_store 3
unfolding tree bytes_at next means ok ok_from read_all read_from log_all log_from stated no_changes rule laid padded checks_of encode sealed shaped parse checked lawful blocks_of history_of tables_of tables_after parse_copy_block copy_bytes copy_blocks_of copy_ok seat_of entries_of refusal_of store_refusal change_call commit_cut_call written checked_but lawful_but filled_in whole_in stem_in blank_from bare_in
after_none = refl

pub after_one : leaves 1 ≡ joined fields_of (label ∷ one ∷ blank ∷ [])
unfolding tree bytes_at next means ok ok_from read_all read_from log_all log_from stated no_changes rule laid padded checks_of encode sealed shaped parse checked lawful blocks_of history_of tables_of tables_after parse_copy_block copy_bytes copy_blocks_of copy_ok seat_of entries_of refusal_of store_refusal change_call commit_cut_call written checked_but lawful_but filled_in whole_in stem_in blank_from bare_in
after_one = refl

pub after_two : leaves 2 ≡ joined fields_of (label ∷ one ∷ two ∷ [])
unfolding tree bytes_at next means ok ok_from read_all read_from log_all log_from stated no_changes rule laid padded checks_of encode sealed shaped parse checked lawful blocks_of history_of tables_of tables_after parse_copy_block copy_bytes copy_blocks_of copy_ok seat_of entries_of refusal_of store_refusal change_call commit_cut_call written checked_but lawful_but filled_in whole_in stem_in blank_from bare_in
after_two = refl

-- clearing content and junk, stopped after one write: the highest block goes first
abbrev junk : Bytes
junk = set (encode fields_of two) 6 3

abbrev behind : Bytes
behind = joined fields_of (label ∷ one ∷ []) ++ junk

pub clear-one : clear_cut_call behind 1 ≡ record { says = stopped; buffer = joined fields_of (label ∷ one ∷ blank ∷ []) }
unfolding tree bytes_at next means ok ok_from read_all read_from log_all log_from stated no_changes rule laid padded checks_of encode sealed shaped parse checked lawful blocks_of history_of tables_of tables_after store_refusal clear_cut_call checked_but lawful_but filled_in whole_in stem_in blank_from bare_in
clear-one = refl

pub clear-two : clear_cut_call behind 2 ≡ record { says = done; buffer = fresh_store 3 }
unfolding tree bytes_at next means ok ok_from read_all read_from log_all log_from stated no_changes rule laid padded checks_of encode sealed shaped parse checked lawful blocks_of history_of tables_of tables_after store_refusal clear_cut_call checked_but lawful_but filled_in whole_in stem_in blank_from bare_in
clear-two = refl
