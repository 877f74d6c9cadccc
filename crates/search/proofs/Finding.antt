-- What is found in an accepted store: the search back finds the block that the tree's table has and the last commit that names the sheet; that block is 0 exactly
-- where the tree lacks the sheet, else it holds the sheet's bytes, and it is a used block.
-- Assumes nothing.
use Rattle.std.specs.Prelude.{Ok}
use Prim.Native.Nat.{◌*◌, ◌+◌, ◌<◌, ◌≤◌, ℕ}
use mathlib.Core.Bool.{false}
use mathlib.Core.List.{List, [], ◌++◌, ◌∷◌, map}
use mathlib.Core.Logic.{◌↔◌}
use mathlib.Core.Option.{Option, none, some}
use mathlib.Core.Path.{◌∙◌, ◌≡◌, ap, refl, subst, sym}
use native.Mathlib.Omega.{arith}
use lib.Dec.{T}
use lib.ListN.{get_or, length, replicate}
use Rattle.block.specs.Lists.{All}
use Rattle.model.specs.Blocks.{Block, blank, bytes_at}
use Rattle.model.specs.History.{Bytes, History, last, namer, present, sheet, tree}
use Rattle.model.specs.Layout.{Lays, Table}
use Rattle.model.specs.Pass.{ok, read_all, tables_of}
use Rattle.model.specs.Store.{bare_of, blanks, block_count, block_used, blocks_of, front, history_of, store_blocks, store_history, used_of}
use Rattle.model.specs.declared.Span.{Span}
use Rattle.laws.proofs.Acceptance.{accepted_lays, lays_accepted}
use Rattle.laws.proofs.All.{All-get_or}
use Rattle.laws.proofs.Append.{Below}
use Rattle.laws.proofs.Bridge.{absent-iff, has, tables_trail, trail_blanks}
use Rattle.laws.proofs.Grows.{tables_below}
use Rattle.laws.proofs.Store.{taken-holds}
use Rattle.laws.proofs.Tables.{slot, tables_trees, trail_of}
use Rattle.laws.proofs.Used.{own_bytes_lem, own_room}
use Rattle.laws.proofs.Writing.{blank-rest, front-blanks, holds-blocks, no_blank, some-front}
use Rattle.search.proofs.Halving.{back-bound, back_all, bound_of}
use Rattle.search.proofs.Naming.{named-last}
use Rattle.search.proofs.Revisions.{passed, same-history, same_tables}
use Rattle.search.proofs.Sought.{sought}
use Rattle.search.specs.Find.{Accepted, Bound, back, era_at, found_in, span_of}
use Rattle.store.proofs.Blocks.{bytes_in_lem}
use Rattle.store.proofs.Opening.{open_accepted}
use Rattle.store.specs.Opened.{open_of}
use Rattle.store.specs.declared.Header.{Header}

absent : (o : Option Bytes) → (o ≡ none) ↔ (present o ≡ false)
absent none = ((λ e. refl), (λ e. refl))
absent (some x) = ((λ e. let z : ◌≡◌ {A = ℕ} 0 1 = cc in absurd (omega arith)), (λ e. let z : ◌≡◌ {A = ℕ} 0 1 = cc in absurd (omega arith)))

-- the blank blocks at the end add no table
front_tables : (f bl : List Block) → 1 ≤ length f → All (λ (b : Block). b ≡ blank) bl → tables_of (f ++ bl) ≡ tables_of f
unfolding trail_of
front_tables f bl h z = tables_trail (f ++ bl) ∙ go f h ∙ sym (tables_trail f)
  where
    go : (f : List Block) → 1 ≤ length f → trail_of (f ++ bl) ≡ trail_of f
    go [] h = absurd (omega arith)
    go (x ∷ f) h = trail_blanks (replicate 32 0) f bl z

tables_low : (bs : List Block) → T (ok bs) → All (Below (length (front bs))) (tables_of bs)
tables_low bs t =
    let e = front-blanks bs in
    let L : Lays (front bs ++ blanks bs) (read_all bs) = subst (λ (x : List Block). Lays x (read_all bs)) (sym e) (accepted_lays bs t) in
    subst (λ (x : List Table). All (Below (length (front bs))) x)
    (sym (front_tables (front bs) (blanks bs) (some-front bs t) (blank-rest bs t)) ∙ ap tables_of e)
    (tables_below (front bs) (blanks bs) (read_all bs) (no_blank bs) (some-front bs t) L)

abbrev span_as : ℕ → ℕ → Span
span_as a k = record { start = a; len = k }

-- a store that is open is accepted
pub open_asked : (s : Bytes) (h : Header) → open_of s ≡ Ok h → Accepted s (block_count s) h.used
open_asked s h e = let w = open_accepted s h e in record { clear = w.0; count = refl; in_use = w.2 }

module _ (s : Bytes) (n used : ℕ) (A : Accepted s n used) where
  all-ok : T (ok (store_blocks s))
  all-ok = (lays_accepted (store_blocks s) (store_history s) (holds-blocks (block_count s) (bare_of s) (store_history s) (taken-holds s A.clear)).lays).0

  found_is : (r b i : ℕ) → Bound (blocks_of used s) used r b → r ≤ last (store_history s) → i < 32 → back_all (blocks_of used s) i b ≡ found_in s r i
  found_is r b i G h g =
      let P = passed s n used A in
      let q = same-history s n used A in
      let h' : r ≤ length (history_of used s) = subst (λ (x : History). r ≤ length x) (sym q) h in
      let x : (back_all (blocks_of used s) i b).block ≡ block_used s r i = sought s used used r b i P G h' g ∙ ap (λ (t : List Table). get_or (get_or t r []) i 0) (same_tables s n used A) in
      let y : (back_all (blocks_of used s) i b).revision ≡ namer (store_history s) r i = named-last s used used r b i P G h' g ∙ ap (λ (x : History). namer x r i) q in
      λ j. record { block = x j; revision = y j }

  -- what the search back finds
  pub found_back : (r e i : ℕ) → 1 ≤ e → e ≤ used → r < era_at (blocks_of used s) e → r ≤ last (store_history s) → i < 32 → back r (blocks_of used s) i e ≡ found_in s r i
  found_back r e i low high l h g =
      let w = bound_of s n used A r e low high l in
      back-bound s n used A r i w.0 w.1 e w.2 high ∙ found_is r w.0 i w.1 h g

  -- a used block holds what it is read as
  pub block-bytes : (p : ℕ) → p < used_of s → (p < block_count s) × (bytes_at (blocks_of (block_count s) s) p ≡ bytes_at (store_blocks s) p)
  block-bytes p h =
      let b : p < block_count s = omega (arith, own_room s A.clear) in
      (b, bytes_in_lem (block_count s) p s b ∙ sym (own_bytes_lem s A.clear p h ∙ bytes_in_lem (used_of s) p s h))

  pub block_span : (p : ℕ) → p < used_of s → ◌≡◌ {A = Span} (span_of s p) (record { start = 512 * p + 16; len = length (bytes_at (store_blocks s) p) })
  block_span p h = ap (λ (x : Bytes). span_as (512 * p + 16) (length x)) (block-bytes p h).1

  -- THE STATEMENTS: a sheet uses a block of the store
  pub block_used_lem : (r i : ℕ) → block_used s r i < used_of s
  block_used_lem r i =
      let bs = store_blocks s in
      All-get_or (λ (p : ℕ). p < used_of s) (get_or (tables_of bs) r []) i 0 (All-get_or (Below (used_of s)) (tables_of bs) r [] (tables_low bs all-ok) tt) (omega (arith, some-front bs all-ok))

  pub block_inside : (r i : ℕ) → (block_used s r i < block_count s) × (512 * block_used s r i + 512 ≤ length s)
  block_inside r i = let b = block_used_lem r i in let w = own_room s A.clear in (omega arith, omega arith)

  module _ (r i : ℕ) (h : r ≤ last (store_history s)) where
    table-tree : map (slot (bytes_at (store_blocks s))) (get_or (tables_of (store_blocks s)) r []) ≡ tree (store_history s) r
    unfolding history_of
    table-tree =
        ap (λ (x : List Table). map (slot (bytes_at (store_blocks s))) (get_or x r [])) (tables_trail (store_blocks s)) ∙ tables_trees (store_blocks s) all-ok r h

    -- it is 0 exactly where the tree lacks the sheet
    pub block_lacks : (block_used s r i ≡ 0) ↔ (present (sheet (store_history s) r i) ≡ false)
    block_lacks =
        let w = absent-iff (bytes_at (store_blocks s)) (get_or (tables_of (store_blocks s)) r []) (tree (store_history s) r) table-tree i in
        let v = absent (sheet (store_history s) r i) in
        ((λ e. v.0 (w.0 e)), (λ e. w.1 (v.1 e)))

    -- and else it holds the sheet's bytes
    pub block-holds : (block_used s r i ≡ 0 → ⊥) → sheet (store_history s) r i ≡ some (bytes_at (store_blocks s) (block_used s r i))
    block-holds z = has (bytes_at (store_blocks s)) (get_or (tables_of (store_blocks s)) r []) (tree (store_history s) r) table-tree i z
