-- A store that no line from 1 to 3 refuses is one with a tail, of the history that is read; and back.
-- Assumes nothing.
use Prim.Native.Nat.{◌*◌, ◌+◌, ◌-◌, ◌≤◌, suc, ℕ}
use mathlib.Core.Bool.{not, true}
use mathlib.Core.List.{List, [], ◌++◌, ◌∷◌}
use mathlib.Core.Option.{none}
use mathlib.Core.Path.{◌∙◌, ◌≡◌, ap, ap₂, refl, subst, sym}
use native.Mathlib.Omega.{arith}
use borrow.Author.Tests.{not-false}
use lib.Dec.{T, lit≤}
use lib.ListN.{length, length-append, replicate}
use Rattle.block.specs.Lists.{all}
use Rattle.model.specs.Blocks.{blank, fields_of, fits_block, parse}
use Rattle.model.specs.Calls.{store_conditions}
use Rattle.model.specs.Codec.{parts, shaped}
use Rattle.block.specs.Write.{written}
use Rattle.model.specs.History.{Bytes, History, last}
use Rattle.model.specs.Pass.{log_all}
use Rattle.model.specs.Refusals.{Clear, first_of}
use Rattle.model.specs.Store.{Holds, bare_in, bare_of, blanks, block_count, blocks_of, checked_but, filled_in, front, history_of, lawful_but, stem_in, store_blocks, store_history, store_log, tail_of, used_of}
use Rattle.model.specs.Tail.{Stored, Tailed, tail_bytes}
use Rattle.laws.proofs.Conditions.{clear, sized_so, so_sized}
use Rattle.laws.proofs.Tailing.{bare-tail, checked-tail, filled-tail, history-tail, lawful-tail, length-store}
use Rattle.laws.proofs.Untailing.{accepted_tailed, blocks_split, front-shaped, shaped_in, shapes_so, stored-bare}
use Rattle.laws.proofs.Writing.{front-blanks, holds-blocks}

module _ (store : Bytes) (e : first_of (store_conditions store) ≡ none) where
  abbrev n : ℕ
  n = block_count store

  sized : length store ≡ n * 512
  sized = (sized_so store (clear (store_conditions store) e).0).0

  checks : checked_but n store ≡ true
  checks = not-false (checked_but n store) (clear (store_conditions store) e).1.0

  laws : lawful_but n store ≡ true
  laws = not-false (lawful_but n store) (clear (store_conditions store) e).1.1.0

  shapes : T (shaped_in n store)
  shapes = shapes_so n store laws

  -- U is the number of blocks before the tail
  pub used-stem : used_of store ≡ stem_in n store
  used-stem = (stored-bare n store sized checks shapes laws).uses

  -- as if the tail were zero blocks
  pub taken-holds : Holds (block_count store) (bare_of store) (store_history store)
  taken-holds = (stored-bare n store sized checks shapes laws).holds

  -- THE EQUATION for whoever reads: the used blocks are the store's own
  pub taken-blocks : store_blocks store ≡ blocks_of (used_of store) store ++ replicate (block_count store - used_of store) blank
  taken-blocks = blocks_split n store sized checks shapes ∙ ap (λ (u : ℕ). blocks_of u store ++ replicate (n - u) blank) (sym used-stem)

  pub taken-shaped : T (all (shaped fields_of parse fits_block) (parts (used_of store) store))
  taken-shaped = subst (λ (u : ℕ). T (all (shaped fields_of parse fits_block) (parts u store))) (sym used-stem) (front-shaped n store sized checks shapes)

  pub taken_tailed : Tailed (block_count store) store (store_history store) (used_of store) (tail_of store)
  taken_tailed =
      subst (λ (u : ℕ). Tailed n store (store_history store) u (filled_in n store - u)) (sym used-stem) (accepted_tailed n store sized checks shapes laws)

  pub taken-room : used_of store * 512 ≤ length store
  taken-room = omega (arith, sized, taken_tailed.room)

-- and back: the numbers of a store that holds a history, what is read, and that no line from 1 to 3 holds
module _ (N : ℕ) (store : Bytes) (h : History) (used t : ℕ) (X : Tailed N store h used t) where
  pub count_held : block_count store ≡ N
  count_held = omega (arith, length-store N store h used t X)

  pub bare-held : bare_of store ≡ X.bare
  bare-held = ap (λ (n : ℕ). bare_in n store) count_held ∙ bare-tail N store h used t X

  pub history-held : store_history store ≡ h
  history-held = ap (λ (n : ℕ). history_of n (bare_in n store)) count_held ∙ history-tail N store h used t X

  pub log-held : store_log store ≡ log_all (blocks_of N X.bare)
  log-held = ap₂ (λ (n : ℕ) (l : Bytes). log_all (blocks_of n l)) count_held bare-held

  pub used-held : used_of store ≡ used
  used-held = ap₂ (λ (n : ℕ) (l : Bytes). length (front (blocks_of n l))) count_held bare-held ∙ X.stored.uses

  pub tail-held : tail_of store ≡ t
  tail-held =
      let f : filled_in (block_count store) store ≡ used + t = ap (λ (n : ℕ). filled_in n store) count_held ∙ filled-tail N store h used t X in
      omega (arith, f, used-held)

  pub clear-held : 2 ≤ N → N ≤ 4_096 → Clear (store_conditions store)
  clear-held lo hi =
      let c : checked_but (block_count store) store ≡ true = ap (λ (n : ℕ). checked_but n store) count_held ∙ checked-tail N store h used t X in
      let l : lawful_but (block_count store) store ≡ true = ap (λ (n : ℕ). lawful_but n store) count_held ∙ lawful-tail N store h used t X in
      (so_sized N store (omega (arith, length-store N store h used t X)) lo hi, (ap not c, (ap not l, tt)))

-- a store without a tail, and back
pub stored_tailed : (N : ℕ) (store : Bytes) (h : History) (used : ℕ) → Stored N store h used → Tailed N store h used 0
unfolding written
stored_tailed N store h used S =
    let B = holds-blocks N store h S.holds in
    let bs = blocks_of N store in
    let l : length (front bs) + length (blanks bs) ≡ length bs = sym (length-append (front bs) (blanks bs)) ∙ ap length (front-blanks bs) in
    record {
      bare = store;
      stored = S;
      contents = [];
      junk = [];
      tail = record { few = lit≤ tt; fits = tt; one = lit≤ tt; junk = tt };
      size = refl;
      room = omega (arith, l, B.count, S.uses);
      bytes = refl;
    }

pub tailed_none : (N : ℕ) (store : Bytes) (h : History) (used : ℕ) (X : Tailed N store h used 0) → X.bare ≡ store
unfolding written
tailed_none N store h used X = sym (X.bytes ∙ go X.contents X.junk X.size)
  where
    go : (cs js : List Bytes) → length cs + length js ≡ 0 → written (512 * used) (tail_bytes (suc (last h)) cs js) X.bare ≡ X.bare
    go [] [] e = refl
    go [] (j ∷ js) e = absurd (omega arith)
    go (c ∷ cs) js e = absurd (omega arith)

-- a store without a tail is read as it is
pub bare-stored : (N : ℕ) (store : Bytes) (h : History) (used : ℕ) → Stored N store h used → bare_of store ≡ store
bare-stored N store h used S =
    let X = stored_tailed N store h used S in
    bare-held N store h used 0 X ∙ tailed_none N store h used X

pub tailed_stored : (N : ℕ) (store : Bytes) (h : History) (used t : ℕ) → t ≡ 0 → Tailed N store h used t → Stored N store h used
tailed_stored N store h used t z X =
    let Y : Tailed N store h used 0 = subst (Tailed N store h used) z X in
    subst (λ (b : Bytes). Stored N b h used) (tailed_none N store h used Y) Y.stored

pub log-stored : (N : ℕ) (store : Bytes) (h : History) (used : ℕ) → Stored N store h used → store_log store ≡ log_all (blocks_of N store)
log-stored N store h used S =
    let X = stored_tailed N store h used S in
    log-held N store h used 0 X ∙ ap (λ (l : Bytes). log_all (blocks_of N l)) (tailed_none N store h used X)
