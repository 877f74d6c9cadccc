-- The bytes of an entry beside those that a block of the store holds.
-- Assumes nothing.
use Prim.Native.Nat.{◌*◌, ◌+◌, ◌<◌, ℕ}
use mathlib.Core.Bool.{Bool, not}
use mathlib.Core.Option.{none}
use mathlib.Core.Path.{◌∙◌, ◌≡◌, ap, ap₂, sym}
use borrow.Author.Tests.{ne_eqb}
use lib.ListN.{drop, take}
use Rattle.block.specs.Lists.{same}
use Rattle.model.specs.Calls.{store_conditions}
use Rattle.model.specs.History.{Bytes, is_bytes}
use Rattle.model.specs.Refusals.{first_of}
use Rattle.model.specs.Store.{used_of}
use Rattle.model.specs.declared.Entry.{Entry}
use Rattle.model.specs.declared.Span.{Span}
use Rattle.entries.proofs.Looking.{block-bytes}
use Rattle.entries.proofs.States.{own_bytes_lem}
use Rattle.entries.specs.View.{bytes_of, held_in}
use Rattle.search.specs.Find.{Spanned}
use Rattle.workcopy.specs.Copy.{Reading}

module _ (store copy : Bytes) (i p : ℕ) where
  pub unlike_held : {x : Span} {y : Entry} {t : Bool} (k m : ℕ) → first_of (store_conditions store) ≡ none → p < used_of store → (p ≡ 0 → ⊥) → Spanned store p x → Reading copy i y
      → k ≡ y.len → m ≡ x.len → t ≡ same (take k (drop (512 * (i + 1) + 16) copy)) (take m (drop x.start store))
      → not t ≡ not (is_bytes (bytes_of copy i) (held_in store p))
  unlike_held {x} {y} k m c u n s q ek em et =
      rw (ne_eqb p 0 n)
      (ap not
      (et ∙ ap₂ (λ (k m : ℕ). same (take k (drop (512 * (i + 1) + 16) copy)) (take m (drop x.start store))) ek em
      ∙ ap₂ same (sym (own_bytes_lem q)) (block-bytes store p c u s)))
