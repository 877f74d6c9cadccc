-- The used blocks of an accepted store, by themselves: the layout of its history, whatever stands after them.
-- Assumes nothing.
use Prim.Native.Nat.{◌*◌, ◌-◌, ◌<◌, ◌≤◌, ℕ}
use mathlib.Core.Bool.{◌&&◌, not, true}
use mathlib.Core.List.{List, [], ◌∷◌, append-nil}
use mathlib.Core.Option.{none}
use mathlib.Core.Path.{◌∙◌, ◌≡◌, ap, ap₂, refl, subst, subst₂, sym}
use native.Mathlib.Omega.{arith}
use lib.Dec.{T}
use lib.ListN.{length, replicate, take}
use lib.Seq.{take_at}
use Rattle.block.proofs.Says.{is_true}
use Rattle.block.specs.Lists.{all}
use Rattle.model.specs.Blocks.{Block, FitsBlock, blank, bytes_at, commit, content, fields_of, fits_block, label, mark, parse}
use Rattle.model.specs.Calls.{store_conditions}
use Rattle.model.specs.Codec.{parts, shaped}
use Rattle.model.specs.History.{Bytes}
use Rattle.model.specs.Layout.{Lays, LaysFrom, LaysLog}
use Rattle.model.specs.Log.{Log, commits, marks, marks_ok}
use Rattle.model.specs.Pass.{is_blank, log_all, ok, tables_of}
use Rattle.model.specs.Refusals.{first_of}
use Rattle.model.specs.Store.{bare_of, blanks, block_count, blocks_of, front, history_of, lawful, store_blocks, store_history, store_log, used_of}
use Rattle.laws.proofs.Acceptance.{logs-accepted}
use Rattle.laws.proofs.Append.{append, unmoved}
use Rattle.laws.proofs.BlockCodes.{block_coded}
use Rattle.laws.proofs.Codec.{length-parts}
use Rattle.laws.proofs.Holding.{history-logged, log-holds}
use Rattle.laws.proofs.Logs.{says-marked}
use Rattle.laws.proofs.Store.{taken-blocks, taken-holds, taken-room, taken-shaped}
use Rattle.laws.proofs.Untailing.{all-blanks}
use Rattle.laws.proofs.Writing.{Logged, front-blanks, holds-blocks, holds-log, no_blank, some-used, tables_used}

front-again : (bs : List Block) → front (front bs) ≡ front bs
front-again [] = refl
front-again (label ∷ bs) = ap (λ (l : List Block). label ∷ l) (front-again bs)
front-again (content r b ∷ bs) = ap (λ (l : List Block). content r b ∷ l) (front-again bs)
front-again (commit r s t ls ∷ bs) = ap (λ (l : List Block). commit r s t ls ∷ l) (front-again bs)
front-again (mark m ∷ bs) = ap (λ (l : List Block). mark m ∷ l) (front-again bs)
front-again (blank ∷ bs) = refl

module _ (store : Bytes) (e : first_of (store_conditions store) ≡ none) where
  abbrev bs : List Block
  bs = store_blocks store

  abbrev own : List Block
  own = blocks_of (used_of store) store

  abbrev bl : List Block
  bl = replicate (block_count store - used_of store) blank

  own-size : length own ≡ used_of store
  unfolding blocks_of
  own-size = length-parts fields_of parse fits_block FitsBlock block_coded (used_of store) store

  front-own : front bs ≡ own
  front-own =
      sym (take_at (front bs) (blanks bs) (used_of store) refl) ∙ ap (take (used_of store)) (front-blanks bs ∙ taken-blocks store e)
      ∙ take_at own bl (used_of store) own-size

  lays : Lays bs (store_history store)
  lays = (holds-blocks (block_count store) (bare_of store) (store_history store) (taken-holds store e)).lays

  logged : Logged (block_count store) (bare_of store) (store_log store) bs
  logged = holds-log (block_count store) (bare_of store) (store_log store) (log-holds (block_count store) (bare_of store) (store_history store) (taken-holds store e))

  own_lays : LaysLog own (store_log store)
  unfolding LaysFrom
  own_lays =
      subst₂ LaysLog (append-nil own) (append-nil (store_log store))
      (append own bl [] (store_log store) [] (subst (λ (x : List Block). T (all (λ b. not (is_blank b)) x)) front-own (no_blank bs)) (all-blanks (block_count store - used_of store))
      (omega (arith, own-size, some-used bs (store_history store) lays)) (subst (λ (x : List Block). LaysLog x (store_log store)) (taken-blocks store e) logged.lays) tt)

  -- THE STATEMENTS
  pub own_room : used_of store * 512 ≤ length store
  own_room = taken-room store e

  pub own-log : log_all (blocks_of (used_of store) store) ≡ store_log store
  own-log = (logs-accepted own (store_log store) own_lays).1

  pub own-laid : ok (blocks_of (used_of store) store) ≡ true
  own-laid = is_true (ok own) (logs-accepted own (store_log store) own_lays).0

  pub own-lawful : lawful (used_of store) store ≡ true
  unfolding lawful
  own-lawful =
      ap₂ (λ a b. a && b) (is_true (all (shaped fields_of parse fits_block) (parts (used_of store) store)) (taken-shaped store e))
      (ap₂ (λ a b. a && b) own-laid
      (ap (λ (g : Log). marks_ok (marks g)) own-log ∙ is_true (marks_ok (marks (store_log store))) ((says-marked (marks (store_log store))).so_true logged.marked)))

  pub own-history : history_of (used_of store) store ≡ store_history store
  own-history = sym (history-logged (used_of store) store) ∙ ap commits own-log ∙ history-logged (block_count store) (bare_of store)

  pub own-used : length (front (blocks_of (used_of store) store)) ≡ used_of store
  own-used = ap (λ (x : List Block). length (front x)) (sym front-own) ∙ ap length (front-again bs)

  pub own_tables : tables_of (blocks_of (used_of store) store) ≡ tables_of (store_blocks store)
  own_tables = ap tables_of (sym front-own) ∙ tables_used bs (store_history store) lays

  pub own_bytes_lem : (p : ℕ) → p < used_of store → bytes_at (store_blocks store) p ≡ bytes_at (blocks_of (used_of store) store) p
  own_bytes_lem p h =
      ap (λ (x : List Block). bytes_at x p) (taken-blocks store e) ∙ unmoved own bl [] p (omega (arith, own-size)) ∙ ap (λ (x : List Block). bytes_at x p) (append-nil own)
