-- W5: stores with a tail, computed on bytes by the calls: which are accepted, with their U and the number of blocks in the tail; which are refused, and by which number;
-- commit gives 14, read works, clearing gives the store without the tail.
-- Assumes nothing.
use Prim.Native.Nat.{ℕ}
use mathlib.Core.List.{List, [], ◌++◌, ◌∷◌}
use mathlib.Core.Option.{Option, none, some}
use mathlib.Core.Path.{◌≡◌, refl}
use lib.ListN.{replicate, set}
use Rattle.block.specs.Check.{checks_of, sealed}
use Rattle.model.proofs.Play.{everything}
use Rattle.model.specs.Blocks.{Block, adds, blank, bytes_at, commit, content, fields_of, label, parse}
use Rattle.model.specs.Calls.{change_call, clear_call, commit_call, fresh_copy, read_call, read_place, refusal_of, store_conditions, store_refusal}
use Rattle.model.specs.Codec.{encode, joined, padded, shaped}
use Rattle.model.specs.History.{Bytes, last, tree}
use Rattle.model.specs.Layout.{means, next}
use Rattle.model.specs.Machine.{bytes, done, refused}
use Rattle.model.specs.Pass.{laid, log_all, log_from, no_changes, ok, ok_from, read_all, read_from, rule, stated, tables_after, tables_of}
use Rattle.model.specs.Refusals.{first_of}
use Rattle.model.specs.Store.{bare_in, blank_from, blocks_of, checked, checked_but, filled_in, history_of, lawful, lawful_but, stem_in, store_history, tail_of, used_of, whole_in}
use Rattle.model.specs.WorkCopy.{copy_blocks_of, copy_bytes, copy_ok, entries_of, parse_copy_block, seat_of}

-- document 01's case input in a store: sheet 5 added with byte 65 by seat 2
abbrev pub used : List Block
used = label ∷ content 1 (65 ∷ []) ∷ commit 1 2 7 (record { sheet = 5; action = adds; block = 1; source = 0; revision = 0 } ∷ []) ∷ []

-- 512 bytes with a wrong check: the commit block of the case input, but for its seat
abbrev junk : Bytes
junk = set (encode fields_of (commit 1 2 7 (record { sheet = 5; action = adds; block = 1; source = 0; revision = 0 } ∷ []))) 6 3

abbrev pub zeros : ℕ → Bytes
zeros n = joined fields_of (replicate n blank)

abbrev pub laid_out : List Block → Bytes
laid_out bs = joined fields_of bs

-- the next revision's content
abbrev loose : Block
loose = content 2 (66 ∷ 67 ∷ [])

-- the refusal of a store, or none with last revision, U and the tail's blocks
pub record Found : Type 0 where
  pub number : Option ℕ
  pub revisions : ℕ
  pub in_use : ℕ
  pub behind : ℕ

abbrev found : Bytes → Found
found s = record { number = first_of (store_conditions s); revisions = last (store_history s); in_use = used_of s; behind = tail_of s }

abbrev is : ℕ → ℕ → ℕ → Found
is r u t = record { number = none; revisions = r; in_use = u; behind = t }

abbrev accepted : List Found
accepted =
    found (laid_out used ++ zeros 2)
    ∷ found (laid_out (used ++ (loose ∷ [])) ++ zeros 1)
    ∷ found (laid_out (used ++ (loose ∷ loose ∷ [])))
    ∷ found (laid_out (used ++ (loose ∷ [])) ++ junk)
    ∷ found (laid_out used ++ (junk ++ zeros 1))
    ∷ found (laid_out (label ∷ []) ++ (junk ++ zeros 1))
    ∷ found (laid_out (label ∷ content 1 (65 ∷ []) ∷ []) ++ junk)
    ∷ found (laid_out (label ∷ content 1 [] ∷ []) ++ set (replicate 512 0) 511 1)
    ∷ []

-- 2: junk before another block, two blocks of junk, a damaged label, alone or not. 3: a zero block before content or junk, content of another revision, a zero block 0 and
-- junk, a second label at the end
abbrev refused_by : List (Option ℕ)
refused_by =
    first_of (store_conditions (laid_out used ++ (junk ++ laid_out (loose ∷ []))))
    ∷ first_of (store_conditions (laid_out used ++ (junk ++ junk)))
    ∷ first_of (store_conditions (set (laid_out (label ∷ [])) 3 1 ++ zeros 1))
    ∷ first_of (store_conditions (set (laid_out (label ∷ [])) 3 1 ++ junk))
    ∷ first_of (store_conditions (laid_out (used ++ (blank ∷ loose ∷ []))))
    ∷ first_of (store_conditions (laid_out (used ++ (blank ∷ [])) ++ junk))
    ∷ first_of (store_conditions (laid_out (used ++ (content 1 [] ∷ []))))
    ∷ first_of (store_conditions (zeros 1 ++ junk))
    ∷ first_of (store_conditions (laid_out (used ++ (label ∷ []))))
    ∷ first_of (store_conditions (zeros 3))
    ∷ []

-- 32 content blocks, and 33
abbrev many : ℕ → List Block
many n = label ∷ replicate n (content 1 [])

-- the store with content and junk behind
abbrev behind : Bytes
behind = laid_out (used ++ (loose ∷ [])) ++ (junk ++ zeros 1)

pub record Acceptance : Type 0 where
  pub taken : accepted ≡ is 1 3 0 ∷ is 1 3 1 ∷ is 1 3 2 ∷ is 1 3 2 ∷ is 1 3 1 ∷ is 0 1 1 ∷ is 0 1 2 ∷ is 0 1 2 ∷ []
  pub numbers : refused_by ≡ some 2 ∷ some 2 ∷ some 2 ∷ some 2 ∷ some 3 ∷ some 3 ∷ some 3 ∷ some 3 ∷ some 3 ∷ some 3 ∷ []

pub acceptance : Acceptance
unfolding bytes_at next means ok ok_from read_all read_from log_all log_from stated no_changes rule laid padded checks_of encode sealed shaped parse checked lawful blocks_of history_of checked_but lawful_but filled_in whole_in stem_in blank_from bare_in
acceptance = record { taken = refl; numbers = refl }

pub record Size : Type 0 where
  pub most : first_of (store_conditions (laid_out (many 32))) ≡ none
  pub past : first_of (store_conditions (laid_out (many 33))) ≡ some 3

pub size : Size
unfolding bytes_at next means ok ok_from read_all read_from log_all log_from stated no_changes rule laid padded checks_of encode sealed shaped parse checked lawful blocks_of history_of checked_but lawful_but filled_in whole_in stem_in blank_from bare_in
size = record { most = refl; past = refl }

pub record OnTail : Type 0 where
  -- "commit on a store that has a tail"
  pub commits : (commit_call behind (fresh_copy 1) 0 everything).says ≡ refused 14
  -- "Every call but commit works meanwhile"
  pub reads : read_call behind 1 5 ≡ bytes (65 ∷ []) 1
  pub cleared : clear_call behind ≡ record { says = done; buffer = laid_out used ++ zeros 3 }
  -- "without a tail it changes nothing"
  pub unchanged : clear_call (laid_out used ++ zeros 3) ≡ record { says = done; buffer = laid_out used ++ zeros 3 }

pub on_tail : OnTail
unfolding tree bytes_at next means ok ok_from read_all read_from log_all log_from stated no_changes rule laid padded checks_of encode sealed shaped parse checked lawful blocks_of history_of tables_of tables_after parse_copy_block copy_bytes copy_blocks_of copy_ok seat_of entries_of refusal_of store_refusal change_call read_place clear_call checked_but lawful_but filled_in whole_in stem_in blank_from bare_in
on_tail = record { commits = refl; reads = refl; cleared = refl; unchanged = refl }
