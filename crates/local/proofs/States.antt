-- The states of the code beside the machine's entries: an entry that was read, and what a call makes of it.
-- Assumes nothing.
use Prim.Native.Nat.{◌+◌, ◌<◌, ◌≤◌, ℕ}
use mathlib.Core.Bool.{Bool, false, true}
use mathlib.Core.List.{List, []}
use mathlib.Core.Path.{◌∙◌, ◌≡◌, ap, refl, subst, sym}
use native.Mathlib.Omega.{arith}
use lib.ListN.{get_or, length}
use Rattle.block.specs.Buffer.{block_at}
use Rattle.model.specs.Entry.{Entry, added, copied, deleted, empty, is_empty, normal}
use Rattle.model.specs.Machine.{copy_of, edited, removed}
use Rattle.model.specs.Refusals.{nothing_in}
use Rattle.model.specs.Types.{entry_as}
use Rattle.model.specs.WorkCopy.{FitsCopyBlock, SheetBytes, entries_of, entry_block}
use Rattle.model.specs.declared.Entry.{Entry as TheEntry}
use Rattle.model.specs.declared.State.{State}
use Rattle.model.specs.declared.State.TheVariants.{Added, Copied, Deleted, Empty, Normal}
use Rattle.workcopy.proofs.Entries.{entry-fits}
use Rattle.workcopy.proofs.Scan.{all-bytes}
use Rattle.workcopy.specs.Copy.{Accepted, Carries, CopyOk, Fit, PutOk, Reading, bytes_in}

-- ---- what does not depend on the bytes

filled : (s : State) (b : List ℕ) → (s ≡ Empty → ⊥) → is_empty (entry_as s b) ≡ false
filled Empty b ne = absurd (ne refl)
filled (Normal r) b ne = refl
filled Added b ne = refl
filled (Deleted r) b ne = refl
filled (Copied s) b ne = refl

nothing-any : (s : State) (b : List ℕ) → nothing_in (entry_as s []) ≡ nothing_in (entry_as s b)
nothing-any Empty b = refl
nothing-any (Normal r) b = refl
nothing-any Added b = refl
nothing-any (Deleted r) b = refl
nothing-any (Copied s) b = refl

removed-any : (s : State) (b : List ℕ) → removed (entry_as s []) ≡ removed (entry_as s b)
removed-any Empty b = refl
removed-any (Normal r) b = refl
removed-any Added b = refl
removed-any (Deleted r) b = refl
removed-any (Copied s) b = refl

carries-none : (s : State) → Carries s 0
carries-none Empty = refl
carries-none (Normal r) = tt
carries-none Added = tt
carries-none (Deleted r) = refl
carries-none (Copied s) = tt

carries-any : (s : State) (b : List ℕ) (n : ℕ) → nothing_in (entry_as s b) ≡ false → Carries s n
carries-any Empty b n e = let z : ◌≡◌ {A = ℕ} 0 1 = cc in absurd (omega arith)
carries-any (Normal r) b n e = tt
carries-any Added b n e = tt
carries-any (Deleted r) b n e = let z : ◌≡◌ {A = ℕ} 0 1 = cc in absurd (omega arith)
carries-any (Copied s) b n e = tt

-- ---- what the machine makes of an entry is within the limits

edited_as : (s : State) (a b : List ℕ) → entry_as s b ≡ edited b (entry_as s a)
edited_as Empty a b = refl
edited_as (Normal r) a b = refl
edited_as Added a b = refl
edited_as (Deleted r) a b = refl
edited_as (Copied s) a b = refl

fits-edited : (b : List ℕ) (e : Entry) → SheetBytes b → FitsCopyBlock (entry_block e) → FitsCopyBlock (entry_block (edited b e))
fits-edited b empty y f = tt
fits-edited b (normal r x) y f = (f.0, y)
fits-edited b (added x) y f = y
fits-edited b (deleted r) y f = f
fits-edited b (copied s r x) y f = (f.0, f.1, y)

fits-removed : (e : Entry) → FitsCopyBlock (entry_block e) → FitsCopyBlock (entry_block (removed e))
fits-removed empty f = tt
fits-removed (normal r x) f = f.0
fits-removed (added x) f = tt
fits-removed (deleted r) f = f
fits-removed (copied s r x) f = tt

pub fits-copy : (i : ℕ) (e : Entry) → i ≤ 31 → FitsCopyBlock (entry_block e) → FitsCopyBlock (entry_block (copy_of i e))
fits-copy i empty h f = tt
fits-copy i (normal r x) h f = (h, f.0, f.1)
fits-copy i (added x) h f = f
fits-copy i (deleted r) h f = tt
fits-copy i (copied s r x) h f = f

nothing_copy : (i : ℕ) (e : Entry) → nothing_in (copy_of i e) ≡ nothing_in e
nothing_copy i empty = refl
nothing_copy i (normal r x) = refl
nothing_copy i (added x) = refl
nothing_copy i (deleted r) = refl
nothing_copy i (copied s r x) = refl

nothing-empty : (e : Entry) → is_empty e ≡ true → nothing_in e ≡ true
nothing-empty empty t = refl
nothing-empty (normal r x) t = t
nothing-empty (added x) t = t
nothing-empty (deleted r) t = refl
nothing-empty (copied s r x) t = t

-- a sheet that has something is not one that is empty
pub there_differs : (l : List ℕ) (i j : ℕ) → nothing_in (get_or (entries_of l) i empty) ≡ false → is_empty (get_or (entries_of l) j empty) ≡ true → i ≡ j → ⊥
there_differs l i j some free q = apart some (nothing-empty (get_or (entries_of l) i empty) (subst (λ (x : ℕ). is_empty (get_or (entries_of l) x empty) ≡ true) (sym q) free))
  where
    apart : {b : Bool} → b ≡ false → b ≡ true → ⊥
    apart p q = let z : ◌≡◌ {A = ℕ} 0 1 = cc in omega arith

-- ---- an entry that was read

module _ (l : List ℕ) (i : ℕ) (e : TheEntry) (r : Reading l i e) where
  pub was_empty : e.state ≡ Empty → is_empty (get_or (entries_of l) i empty) ≡ true
  was_empty q = sym (ap is_empty r.means) ∙ ap (λ (s : State). is_empty (entry_as s (bytes_in e (block_at l (i + 1))))) q

  pub not-empty : (e.state ≡ Empty → ⊥) → is_empty (get_or (entries_of l) i empty) ≡ false
  not-empty ne = sym (ap is_empty r.means) ∙ filled e.state (bytes_in e (block_at l (i + 1))) ne

  pub was_nothing : {t b : Bool} → t ≡ nothing_in (entry_as e.state []) → t ≡ b → nothing_in (get_or (entries_of l) i empty) ≡ b
  was_nothing p q = sym (p ∙ nothing-any e.state (bytes_in e (block_at l (i + 1))) ∙ ap nothing_in r.means) ∙ q

-- ---- what the writing functions ask, and what they leave

module _ (l : List ℕ) (a : Accepted l) (i : ℕ) (h : i ≤ 31) where
  pub add-put : (b : List ℕ) → length b ≤ 480 → ((j : ℕ) → get_or b j 0 < 256) → PutOk l i (record { state = Added; len = length b }) b
  add-put b n f = record { copy = a; inside = omega arith; fit = record { whole = refl; carries = tt; fits = (n, all-bytes b f) } }

  fits : FitsCopyBlock (entry_block (get_or (entries_of l) i empty))
  fits = entry-fits l a i (omega arith)

  module _ (e : TheEntry) (r : Reading l i e) where
    pub edit_is : (b : List ℕ) → entry_as e.state b ≡ edited b (get_or (entries_of l) i empty)
    edit_is b = edited_as e.state (bytes_in e (block_at l (i + 1))) b ∙ ap (edited b) r.means

    module _ (gone : State) (eg : entry_as gone [] ≡ removed (entry_as e.state [])) where
      pub delete_is : entry_as gone [] ≡ removed (get_or (entries_of l) i empty)
      delete_is = eg ∙ removed-any e.state (bytes_in e (block_at l (i + 1))) ∙ ap removed r.means

      delete-fit : Fit (record { state = gone; len = 0 }) []
      delete-fit =
          record {
            whole = refl;
            carries = carries-none gone;
            fits = subst (λ (x : Entry). FitsCopyBlock (entry_block x)) (sym delete_is) (fits-removed (get_or (entries_of l) i empty) fits);
          }

      pub delete-put : PutOk l i (record { state = gone; len = 0 }) []
      delete-put = record { copy = a; inside = omega arith; fit = delete-fit }

    module _ (some : nothing_in (get_or (entries_of l) i empty) ≡ false) where
      pub edit_put : (b : List ℕ) → length b ≤ 480 → ((j : ℕ) → get_or b j 0 < 256) → PutOk l i (record { state = e.state; len = length b }) b
      edit_put b n f =
          record {
            copy = a;
            inside = omega arith;
            fit = record {
              whole = refl;
              carries = carries-any e.state (bytes_in e (block_at l (i + 1))) (length b) (ap nothing_in r.means ∙ some);
              fits = subst (λ (x : Entry). FitsCopyBlock (entry_block x)) (sym (edit_is b)) (fits-edited b (get_or (entries_of l) i empty) (n, all-bytes b f) fits);
            };
          }

      module _ (st : State) (es : (b : List ℕ) → entry_as st b ≡ copy_of i (entry_as e.state b)) where
        pub copy_is : entry_as st (bytes_in e (block_at l (i + 1))) ≡ copy_of i (get_or (entries_of l) i empty)
        copy_is = es (bytes_in e (block_at l (i + 1))) ∙ ap (copy_of i) r.means

        copy-fits : FitsCopyBlock (entry_block (entry_as st (bytes_in e (block_at l (i + 1)))))
        copy-fits = subst (λ (x : Entry). FitsCopyBlock (entry_block x)) (sym copy_is) (fits-copy i (get_or (entries_of l) i empty) h fits)

        pub copy-put : (j : ℕ) → j ≤ 31 → is_empty (get_or (entries_of l) j empty) ≡ true → CopyOk l i j (record { state = st; len = e.len })
        copy-put j k free =
            record {
              inside = omega arith;
              differ = there_differs l i j some free;
              put = record {
                copy = a;
                inside = omega arith;
                fit = record {
                  whole = r.whole;
                  carries = carries-any st (bytes_in e (block_at l (i + 1))) e.len (ap nothing_in copy_is ∙ nothing_copy i (get_or (entries_of l) i empty) ∙ some);
                  fits = copy-fits;
                };
              };
            }
