-- W9: what is found where the power fails in a release, computed on bytes: its block is old, new or junk, "a release standing or not".
-- Assumes nothing.
use Prim.Native.Nat.{ℕ}
use mathlib.Core.List.{[], ◌++◌, ◌∷◌}
use mathlib.Core.Option.{Option, none}
use mathlib.Core.Path.{◌≡◌, refl}
use lib.ListN.{replicate, set}
use Rattle.block.specs.Check.{checks_of, sealed}
use Rattle.model.specs.Blocks.{bytes_at, fields_of, mark, parse}
use Rattle.model.specs.Calls.{clear_call, mark_call, release_call, store_conditions, store_refusal}
use Rattle.model.specs.Codec.{encode, padded, shaped}
use Rattle.model.specs.History.{Bytes, add, nothing, tree}
use Rattle.model.specs.Layout.{means, next}
use Rattle.model.specs.Log.{Item, Log, Mark, a_commit, a_mark, released}
use Rattle.model.specs.Machine.{done}
use Rattle.model.specs.Pass.{laid, log_all, log_from, no_changes, ok, ok_from, read_all, read_from, rule, stated, tables_after, tables_of}
use Rattle.model.specs.Refusals.{first_of}
use Rattle.model.specs.Store.{bare_in, blank_from, blocks_of, checked, checked_but, filled_in, history_of, lawful, lawful_but, stem_in, store_log, tail_of, used_of, whole_in}
use Rattle.unfinished.proofs.Tails.{laid_out, used, zeros}

-- seat 3 releases revision 1 with stamp 9
abbrev release : Mark
release = released 1 3 9

abbrev block : Bytes
block = encode fields_of (mark release)

-- the store with these bytes in block 3, and a block that is not used
abbrev with : Bytes → Bytes
with b = laid_out used ++ (b ++ zeros 1)

-- the one commit of that store
abbrev only : Item
only = a_commit (record { seat = 2; stamp = 7; changes = set (replicate 32 nothing) 5 (add (65 ∷ [])) })

-- the refusal of a store, its commits and releases, U and the tail's blocks
pub record Found : Type 0 where
  pub refusal : Option ℕ
  pub log : Log
  pub in_use : ℕ
  pub behind : ℕ

abbrev found : Bytes → Found
found s = record { refusal = first_of (store_conditions s); log = store_log s; in_use = used_of s; behind = tail_of s }

pub record CutRelease : Type 0 where
  pub made : release_call (with (zeros 1)) 1 3 9 ≡ record { says = done; buffer = with block }
  pub old : found (with (zeros 1)) ≡ record { refusal = none; log = only ∷ []; in_use = 3; behind = 0 }
  pub new : found (with block) ≡ record { refusal = none; log = only ∷ a_mark release ∷ []; in_use = 4; behind = 0 }
  -- one byte of the block is not written yet
  pub torn : found (with (set block 8 0)) ≡ record { refusal = none; log = only ∷ []; in_use = 3; behind = 1 }
  -- clearing leaves a release that stands, and takes a torn one back
  pub stays : clear_call (with block) ≡ record { says = done; buffer = with block }
  pub cleared : clear_call (with (set block 8 0)) ≡ record { says = done; buffer = with (zeros 1) }

pub cut_release : CutRelease
unfolding tree bytes_at next means ok ok_from read_all read_from log_all log_from stated no_changes rule laid padded checks_of encode sealed shaped parse checked lawful blocks_of history_of tables_of tables_after store_refusal clear_call mark_call checked_but lawful_but filled_in whole_in stem_in blank_from bare_in
cut_release = record { made = refl; old = refl; new = refl; torn = refl; stays = refl; cleared = refl }
