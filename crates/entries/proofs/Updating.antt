-- What an update makes of an entry, one law for each answer of the code.
-- Assumes nothing.
use Prim.Native.Nat.{◌+◌, ◌≤◌, ℕ}
use mathlib.Core.Bool.{Bool, cond, false, not, true}
use mathlib.Core.Logic.{inl, inr}
use mathlib.Core.Option.{Option, none, some}
use mathlib.Core.Path.{◌∙◌, ◌≡◌, ap, ap₂, refl, subst, sym}
use native.Mathlib.Omega.{arith}
use borrow.Author.Tests.{eq-eqb, ne_eqb}
use lib.Dec.{eqb}
use Rattle.block.proofs.Says.{eq_or}
use Rattle.block.specs.Buffer.{block_at}
use Rattle.model.specs.Blocks.{bytes_at}
use Rattle.model.specs.Entry.{Entry, added, copied, empty, modified, normal}
use Rattle.model.specs.History.{Bytes, History, is_bytes, sheet}
use Rattle.model.specs.Machine.{agreed, as_in, same_namer, updated_to}
use Rattle.model.specs.Store.{store_blocks, store_history}
use Rattle.model.specs.Types.{entry_as}
use Rattle.model.specs.declared.Entry.{Entry as TheEntry}
use Rattle.model.specs.declared.Source.{Source}
use Rattle.model.specs.declared.State.{State}
use Rattle.model.specs.declared.State.TheVariants.{Added, Copied, Empty, Normal}
use Rattle.laws.proofs.Trees.{has_bytes}
use Rattle.entries.proofs.Looking.{found_none, found_some, found-used, holding_found}
use Rattle.entries.proofs.States.{as_read, is_modified, own_read}
use Rattle.entries.specs.View.{Opened, Stands, UpdateIs, agreed_as, bytes_of, held_in, taken_as, updated_as}
use Rattle.entries.specs.declared.Update.{Update}
use Rattle.entries.specs.declared.Update.TheVariants.{Rebase, Stay}
use Rattle.entries.specs.declared.View.{View}
use Rattle.search.specs.Find.{found_in}
use Rattle.search.specs.declared.Found.{Found}
use Rattle.workcopy.specs.Copy.{Reading, bytes_in}

module _ {store copy : Bytes} {v : View} (o : Opened store v) {R i : ℕ} (le : R ≤ v.last) {f : Found} (found : f ≡ found_in store R i) {e : TheEntry} (r : Reading copy i e) where
  abbrev h : History
  h = store_history store

  -- the entry's own bytes
  abbrev own : Bytes
  own = bytes_in e (block_at copy (i + 1))

  abbrev Updated : Update → Entry → Type 0
  Updated u y = updated_as u store R y ≡ updated_to h R i y

  -- the entry is what was read
  as_state : (u : Update) {s : State} → Stands store u → e.state ≡ s → Updated u (entry_as s own) → UpdateIs store copy R i u
  as_state u p q x = record { means = subst (Updated u) (sym (as_read r q)) x; stands = p }

  -- the sheet of tree R, or none
  takes : {u : Update} → u ≡ taken_as f.block → (y : Entry) → updated_as u store R y ≡ some (as_in R (sheet h R i))
  takes {u} z y =
      ap (λ (u : Update). updated_as u store R y) z
      ∙ elim (eq_or f.block 0) [
        | inl p ↦ rw (eq-eqb f.block 0 p, found_none store v o R i le found p)
        | inr n ↦ rw (ne_eqb f.block 0 n, found_some store v o R i le found n)
      ]

  takes-inside : {u : Update} → u ≡ taken_as f.block → Stands store u
  takes-inside {u} z =
      subst (Stands store) (sym z)
      (elim (eq_or f.block 0) [
        | inl p ↦ rw (eq-eqb f.block 0 p) tt
        | inr n ↦ rw (ne_eqb f.block 0 n) (found-used store v o R i le found)
      ])

  -- its bytes, where tree R has the same, or a conflict
  module _ {u : Update} (a : u ≡ agreed_as (is_bytes (bytes_of copy i) (held_in store f.block)) f.block) where
    w : u ≡ agreed_as (is_bytes (bytes_of copy i) (sheet h R i)) f.block
    w = a ∙ ap (λ (t : Option Bytes). agreed_as (is_bytes (bytes_of copy i) t) f.block) (holding_found store v o R i le found).holds

    agreed-means : {x : Bytes} → bytes_of copy i ≡ x → (y : Entry) → updated_as u store R y ≡ agreed R x (sheet h R i)
    agreed-means {x} q y =
        ap (λ (u : Update). updated_as u store R y) w
        ∙ ap (λ (b : Bytes). updated_as (agreed_as (is_bytes b (sheet h R i)) f.block) store R y) q
        ∙ go (is_bytes x (sheet h R i)) refl
      where
        held : is_bytes x (sheet h R i) ≡ true → bytes_at (store_blocks store) f.block ≡ x
        held z =
            let t = has_bytes x (sheet h R i) z in
            elim (eq_or f.block 0) [
              | inl p ↦ let c : ◌≡◌ {A = ℕ} 0 1 = cc (t, found_none store v o R i le found p) in absurd (omega arith)
              | inr n ↦ cc (t, found_some store v o R i le found n)
            ]

        go : (t : Bool) → is_bytes x (sheet h R i) ≡ t → updated_as (agreed_as t f.block) store R y ≡ cond t (some (normal R x)) none
        go true z = ap (λ (b : Bytes). some (normal R b)) (held z)
        go false z = refl

    agreed-inside : Stands store u
    agreed-inside = subst (Stands store) (sym w) (go (is_bytes (bytes_of copy i) (sheet h R i)))
      where
        go : (t : Bool) → Stands store (agreed_as t f.block)
        go true = found-used store v o R i le found
        go false = tt

  pub update_empty : {u : Update} → e.state ≡ Empty → u ≡ taken_as f.block → UpdateIs store copy R i u
  update_empty {u} q z = as_state u (takes-inside z) q (takes z empty)

  -- "the last commit naming the sheet up to R is the one up to b"
  same_so : (b : ℕ) {g : Found} → g ≡ found_in store b i → f.revision ≡ g.revision → same_namer h i R b ≡ true
  same_so b {g} base x = sym (ap₂ (λ (f g : Found). eqb f.revision g.revision) found base) ∙ eq-eqb f.revision g.revision x

  same_not : (b : ℕ) {g : Found} → g ≡ found_in store b i → (f.revision ≡ g.revision → ⊥) → same_namer h i R b ≡ false
  same_not b {g} base x = sym (ap₂ (λ (f g : Found). eqb f.revision g.revision) found base) ∙ ne_eqb f.revision g.revision x

  -- what tree b has of the sheet: its block, and the last commit that names it
  module _ {b : ℕ} {g : Found} (base : g ≡ found_in store b i) where
    module _ (q : e.state ≡ Normal b) (low : b ≤ v.last) {t : Bool} (m : t ≡ not (is_bytes (bytes_of copy i) (held_in store g.block))) where
      changed : t ≡ modified h i b own
      changed = is_modified h r q (m ∙ ap (λ (t : Option Bytes). not (is_bytes (bytes_of copy i) t)) (holding_found store v o b i low base).holds)

      pub update_unmodified : {u : Update} → t ≡ false → u ≡ taken_as f.block → UpdateIs store copy R i u
      update_unmodified {u} z w = as_state u (takes-inside w) q (takes w (normal b own) ∙ rw (sym changed ∙ z))

      pub update_modified : t ≡ true → f.revision ≡ g.revision → UpdateIs store copy R i Rebase
      update_modified z x = as_state Rebase tt q (rw (sym changed ∙ z, same_so b base x))

      pub agreed-modified : {u : Update} → t ≡ true → (f.revision ≡ g.revision → ⊥) → u ≡ agreed_as (is_bytes (bytes_of copy i) (held_in store f.block)) f.block → UpdateIs store copy R i u
      agreed-modified {u} z x w = as_state u (agreed-inside w) q (agreed-means w (own_read r q refl) (normal b own) ∙ rw (sym changed ∙ z, same_not b base x))

  -- an added or copied entry stays where tree R lacks the sheet
  module _ (z : f.block ≡ 0) where
    pub stay_added : e.state ≡ Added → UpdateIs store copy R i Stay
    stay_added q = as_state Stay tt q (rw (found_none store v o R i le found z))

    pub stay_copied : {s : Source} → e.state ≡ Copied s → UpdateIs store copy R i Stay
    stay_copied q = as_state Stay tt q (rw (found_none store v o R i le found z))

  -- and else agrees with tree R, or is a conflict
  module _ (n : f.block ≡ 0 → ⊥) {u : Update} (w : u ≡ agreed_as (is_bytes (bytes_of copy i) (held_in store f.block)) f.block) where
    pub agreed-added : e.state ≡ Added → UpdateIs store copy R i u
    agreed-added q = as_state u (agreed-inside w) q (agreed-means w (own_read r q refl) (added own) ∙ rw (found_some store v o R i le found n))

    pub agreed-copied : {s : Source} → e.state ≡ Copied s → UpdateIs store copy R i u
    agreed-copied {s} q = as_state u (agreed-inside w) q (agreed-means w (own_read r q refl) (copied s.sheet s.revision own) ∙ rw (found_some store v o R i le found n))
