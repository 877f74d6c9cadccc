-- A release on bytes, computed: the block that is written, what a panel is handed, and the block damaged later, which reads as a tail.
-- Assumes nothing.
use Prim.Native.Nat.{ℕ}
use mathlib.Core.List.{List, [], ◌++◌, ◌∷◌}
use mathlib.Core.Option.{Option, none}
use mathlib.Core.Path.{◌≡◌, refl}
use lib.ListN.{set, take}
use Rattle.block.specs.Check.{checks_of, sealed}
use Rattle.model.specs.Blocks.{Block, adds, blank, bytes_at, commit, content, fields_of, label, mark, parse}
use Rattle.model.specs.Calls.{Place, in_store, mark_call, no_place, panel_place, release_call, store_conditions, store_refusal}
use Rattle.model.specs.Codec.{encode, joined, padded, shaped}
use Rattle.model.specs.History.{Bytes, last, tree}
use Rattle.model.specs.Layout.{means, next}
use Rattle.model.specs.Log.{Placed, released}
use Rattle.model.specs.Machine.{Answer, done, refused}
use Rattle.model.specs.Pass.{laid, log_all, log_from, no_changes, ok, ok_from, read_all, read_from, rule, stated, tables_after, tables_of}
use Rattle.model.specs.Refusals.{first_of}
use Rattle.model.specs.Store.{bare_in, blank_from, blocks_of, checked, checked_but, filled_in, history_of, lawful, lawful_but, stem_in, store_history, store_marks, tail_of, used_of, whole_in}

-- sheet 5 added with byte 65 by seat 2, and one block left
abbrev used : List Block
used = label ∷ content 1 (65 ∷ []) ∷ commit 1 2 7 (record { sheet = 5; action = adds; block = 1; source = 0; revision = 0 } ∷ []) ∷ []

abbrev before : Bytes
before = joined fields_of (used ++ (blank ∷ []))

abbrev block : Bytes
block = encode fields_of (mark (released 1 3 0x0403_0201))

abbrev after : Bytes
after = joined fields_of used ++ block

-- "byte 0 = 6, 4–5 revision, 6 seat, 8–11 stamp"
pub named : take 16 block ≡ 6 ∷ 0 ∷ 0 ∷ 0 ∷ 1 ∷ 0 ∷ 3 ∷ 0 ∷ 1 ∷ 2 ∷ 3 ∷ 4 ∷ 0 ∷ 0 ∷ 0 ∷ 0 ∷ []
unfolding encode padded checks_of
named = refl

pub made : release_call before 1 3 0x0403_0201 ≡ record { says = done; buffer = after }
unfolding tree bytes_at next means ok ok_from read_all read_from log_all log_from stated no_changes rule laid padded checks_of encode sealed shaped parse checked lawful blocks_of history_of tables_of tables_after store_refusal mark_call checked_but lawful_but filled_in whole_in stem_in blank_from bare_in
made = refl

-- last revision, marks, U and the tail's blocks of a store; what a panel is handed; what a release answers, a lawful one and one that 7 names
pub record Found : Type 0 where
  pub refusal : Option ℕ
  pub revision : ℕ
  pub marks : List Placed
  pub used : ℕ
  pub tail : ℕ
  pub panel : Place
  pub release : Answer
  pub unlawful : Answer

abbrev found : Bytes → Found
found s = record {
  refusal = first_of (store_conditions s);
  revision = last (store_history s);
  marks = store_marks s;
  used = used_of s;
  tail = tail_of s;
  panel = panel_place s 1 5;
  release = (release_call s 1 3 9).says;
  unlawful = (release_call s 0 0 9).says;
}

pub standing : found after ≡
    record { refusal = none; revision = 1; marks = record { after = 1; mark = released 1 3 0x0403_0201 } ∷ []; used = 4; tail = 0; panel = in_store 528 1 1; release = refused 16; unlawful = refused 7 }
unfolding tree bytes_at next means ok ok_from read_all read_from log_all log_from stated no_changes rule laid padded checks_of encode sealed shaped parse checked lawful blocks_of history_of tables_of tables_after store_refusal mark_call panel_place checked_but lawful_but filled_in whole_in stem_in blank_from bare_in
standing = refl

-- one byte changed later, or the write torn: no release, and a tail of one block
pub damaged : found (joined fields_of used ++ set block 6 2) ≡
    record { refusal = none; revision = 1; marks = []; used = 3; tail = 1; panel = no_place 8; release = refused 14; unlawful = refused 14 }
unfolding tree bytes_at next means ok ok_from read_all read_from log_all log_from stated no_changes rule laid padded checks_of encode sealed shaped parse checked lawful blocks_of history_of tables_of tables_after store_refusal mark_call panel_place checked_but lawful_but filled_in whole_in stem_in blank_from bare_in
damaged = refl
