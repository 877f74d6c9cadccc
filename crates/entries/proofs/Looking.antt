-- What a search in an accepted store says of the history: whether a tree has a sheet, which block holds it, and which commit names it last.
-- Assumes nothing.
use Prim.Native.Nat.{◌<◌, ◌≤◌, ℕ}
use mathlib.Core.Bool.{false, not}
use mathlib.Core.List.{List, [], ◌∷◌}
use mathlib.Core.Logic.{inl, inr}
use mathlib.Core.Option.{Option, none, some}
use mathlib.Core.Path.{◌∙◌, ◌≡◌, ap, refl, subst, sym}
use native.Mathlib.Omega.{arith}
use borrow.Author.Tests.{eq-eqb, le-leb, lt-leb, ne_eqb}
use lib.Dec.{eqb, leb}
use lib.ListN.{get_or-eq_default, drop, length, take}
use Rattle.block.proofs.Says.{eq_or}
use Rattle.model.specs.Blocks.{bytes_at}
use Rattle.model.specs.Calls.{store_conditions}
use Rattle.model.specs.Fitting.{has}
use Rattle.model.specs.History.{Bytes, Change, History, Tree, applied, last, namer, newest, present, sheet, tree, tree_from, tree₀}
use Rattle.model.specs.Refusals.{first_of}
use Rattle.model.specs.Store.{bare_of, block_count, store_blocks, store_history, used_of}
use Rattle.model.specs.declared.Span.{Span}
use Rattle.laws.proofs.Accepting.{accepted-sound}
use Rattle.laws.proofs.Places.{taken-held}
use Rattle.laws.proofs.Rows.{and-nothing}
use Rattle.laws.proofs.Store.{taken-holds}
use Rattle.laws.proofs.Trees.{unnamed}
use Rattle.laws.proofs.Writing.{Blocks, holds-blocks, is_none}
use Rattle.entries.specs.View.{Holding, Opened}
use Rattle.entries.specs.declared.View.{View}
use Rattle.search.proofs.Finding.{block-holds, block_lacks, block_span, block_used_lem}
use Rattle.search.specs.Find.{Accepted, Spanned, found_in}
use Rattle.search.specs.declared.Found.{Found}

-- a tree has 32 rows at most
rows-applied : (cs : List Change) (t : Tree) → length (applied cs t) ≤ length t
rows-applied [] t = omega arith
rows-applied (c ∷ cs) [] = omega arith
rows-applied (c ∷ cs) (o ∷ t) = let i = rows-applied cs t in omega arith

rows_from_lem : (t : Tree) (h : History) → length (tree_from t h) ≤ length t
rows_from_lem t [] = omega arith
rows_from_lem t (c ∷ h) = omega (arith, rows-applied c.changes t, rows_from_lem (applied c.changes t) h)

no_such_sheet : (h : History) (r i : ℕ) → 31 < i → sheet h r i ≡ none
unfolding tree
no_such_sheet h r i g = get_or-eq_default (tree_from tree₀ (take r h)) none {n = i} (omega (arith, rows_from_lem tree₀ (take r h)))

-- the blocks of a store that is accepted
abbrev store_blocks_of : (store : Bytes) → first_of (store_conditions store) ≡ none → Blocks (block_count store) (bare_of store) (store_history store) (store_blocks store)
store_blocks_of store t = holds-blocks (block_count store) (bare_of store) (store_history store) (taken-holds store t)

-- what stands at the place of a used block
pub block-bytes : (store : Bytes) (p : ℕ) {x : Span} → first_of (store_conditions store) ≡ none → p < used_of store → Spanned store p x
    → take x.len (drop x.start store) ≡ bytes_at (store_blocks store) p
block-bytes store p t h s =
    let A : Accepted store (block_count store) (used_of store) = record { clear = t; count = refl; in_use = refl } in
    ap (λ (x : Span). take x.len (drop x.start store)) (s.is ∙ block_span store (block_count store) (used_of store) A p h) ∙ taken-held store t p h

module _ (store : Bytes) (v : View) (o : Opened store v) where
  pub has_late : (r i : ℕ) → v.last < r → false ≡ has (store_history store) r i
  has_late r i g = rw (lt-leb r (last (store_history store)) (omega (arith, o.last)))

  pub has_far : (r i : ℕ) → 31 < i → false ≡ has (store_history store) r i
  has_far r i g = rw (no_such_sheet (store_history store) r i g) (sym (and-nothing (leb r (last (store_history store)))))

  module _ (r i : ℕ) (h : r ≤ v.last) where
    in_history : r ≤ last (store_history store)
    in_history = omega (arith, o.last)

    -- block 0: the tree lacks the sheet; else the block holds it
    pub found_none : {f : Found} → f ≡ found_in store r i → f.block ≡ 0 → sheet (store_history store) r i ≡ none
    found_none e z =
        is_none (sheet (store_history store) r i) ((block_lacks store v.n v.used o.accepted r i in_history).0 (sym (ap (λ (f : Found). f.block) e) ∙ z))

    pub found_some : {f : Found} → f ≡ found_in store r i → (f.block ≡ 0 → ⊥)
        → sheet (store_history store) r i ≡ some (bytes_at (store_blocks store) f.block)
    found_some e n =
        block-holds store v.n v.used o.accepted r i in_history (λ z. n (ap (λ (f : Found). f.block) e ∙ z))
        ∙ ap (λ (f : Found). some (bytes_at (store_blocks store) f.block)) (sym e)

    pub present-found : {f : Found} → f ≡ found_in store r i → not (eqb f.block 0) ≡ present (sheet (store_history store) r i)
    present-found {f} e =
        elim (eq_or f.block 0) [
          | inl z ↦ rw (eq-eqb f.block 0 z, found_none e z)
          | inr n ↦ rw (ne_eqb f.block 0 n, found_some e n)
        ]

    -- and it is a used one
    pub found-used : {f : Found} → f ≡ found_in store r i → f.block < used_of store
    found-used e = subst (λ (f : Found). f.block < used_of store) (sym e) (block_used_lem store v.n v.used o.accepted r i)

    -- so it holds what the tree has
    pub holding_found : {f : Found} → f ≡ found_in store r i → Holding store (sheet (store_history store) r i) f.block
    holding_found {f} e = record {
      holds =
          elim (eq_or f.block 0) [
            | inl z ↦ rw (eq-eqb f.block 0 z, found_none e z)
            | inr n ↦ rw (ne_eqb f.block 0 n, found_some e n)
          ];
      used = found-used e;
    }

    pub has_found : {f : Found} → f ≡ found_in store r i → not (eqb f.block 0) ≡ has (store_history store) r i
    has_found e = rw (le-leb r (last (store_history store)) in_history) (present-found e)

  pub newest-found : (i : ℕ) {f : Found} → f ≡ found_in store v.last i → not (eqb f.block 0) ≡ present (newest (store_history store) i)
  newest-found i e = present-found v.last i (omega arith) e ∙ ap (λ (r : ℕ). present (sheet (store_history store) r i)) o.last

  -- where no commit after b names the sheet, the last tree's block holds what tree b has
  pub holding_unnamed : (b i : ℕ) {f : Found} → f ≡ found_in store v.last i → b ≤ v.last → f.revision ≤ b → Holding store (sheet (store_history store) b i) f.block
  holding_unnamed b i {f} e le n =
      let B = store_blocks_of store o.accepted.clear in
      let q : f.revision ≡ namer (store_history store) (last (store_history store)) i = ap (λ (f : Found). f.revision) e ∙ ap (λ (r : ℕ). namer (store_history store) r i) o.last in
      let s = unnamed (store_history store) b (last (store_history store)) i (accepted-sound (store_blocks store) (store_history store) B.fit B.lays).0 (omega (arith, o.last)) (omega arith) (omega (arith, q)) in
      subst (λ (t : Option Bytes). Holding store t f.block) (ap (λ (r : ℕ). sheet (store_history store) r i) o.last ∙ s) (holding_found v.last i (omega arith) e)
