-- What the changes of a commit block do to a sheet is what the decoded commit does to it.
-- Assumes nothing.
use Prim.Native.Nat.{◌<◌, ℕ}
use mathlib.Core.List.{List, [], ◌∷◌}
use mathlib.Core.Logic.{inl, inr}
use mathlib.Core.Path.{◌≡◌, refl, subst, sym}
use borrow.Author.Tests.{eq-eqb, ne_eqb}
use lib.ListN.{get_or, set}
use lib.Seq.{get_or-set_other, get_or-set_same}
use Rattle.block.proofs.Says.{eq_or}
use Rattle.model.specs.Blocks.{Action, Line, adds, changes, copies, deletes}
use Rattle.model.specs.History.{Change, nothing}
use Rattle.model.specs.Layout.{means, means_as, puts}
use Rattle.model.specs.Machine.{number, source}
use Rattle.model.specs.Pass.{no_changes}
use Rattle.model.specs.Types.{action_number, source_revision, source_sheet}
use Rattle.model.specs.declared.Action.{Action as Deed}
use Rattle.laws.proofs.Acceptance.{no_change, places}
use Rattle.laws.proofs.Puts.{length-puts}
use Rattle.search.specs.Deed.{deed_as, deed_in, deed_of}

-- a deed says what a change of a commit is
pub record Does (d : Deed) (c : Change) : Type 0 where
  pub action : action_number d ≡ number c
  pub sheet : source_sheet d ≡ (source c).0
  pub revision : source_revision d ≡ (source c).1

module _ (look : ℕ → List ℕ) (i : ℕ) (h : i < 32) where
  does-line : (l : Line) → Does (deed_of l) (means look l)
  unfolding means
  does-line l = go l.action
    where
      go : (a : Action) → Does (deed_as a l.source l.revision) (means_as look a l)
      go adds = record { action = refl; sheet = refl; revision = refl }
      go changes = record { action = refl; sheet = refl; revision = refl }
      go deletes = record { action = refl; sheet = refl; revision = refl }
      go copies = record { action = refl; sheet = refl; revision = refl }

  pub does-lines : (ls : List Line) → Does (deed_in i ls) (get_or (puts (means look) ls no_changes) i nothing)
  does-lines [] = rw (no_change i) (record { action = refl; sheet = refl; revision = refl })
  does-lines (l ∷ ls) =
      elim (eq_or l.sheet i) [
        | inl e ↦ rw (eq-eqb l.sheet i e)
            (subst (λ (j : ℕ). Does (deed_of l) (get_or (set B l.sheet (means look l)) j nothing)) e
            (subst (Does (deed_of l)) (sym (get_or-set_same B l.sheet (means look l) nothing (rw (length-puts (means look) ls no_changes, places, e) h))) (does-line l)))
        | inr o ↦ rw (ne_eqb l.sheet i o)
            (subst (Does (deed_in i ls)) (sym (get_or-set_other B l.sheet i (means look l) nothing (λ q. o (sym q)))) (does-lines ls))
      ]
    where
      B : List Change
      B = puts (means look) ls no_changes
