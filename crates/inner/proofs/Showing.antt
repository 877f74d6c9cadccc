-- Show and status, one way through at a time, on a store and a working copy that fits it: what the meanings answer where a line refuses the call, and where none does.
-- Assumes nothing.
use Rattle.std.specs.Prelude.{Err, Ok}
use Prim.Native.Nat.{◌*◌, ◌+◌, ◌<◌, ◌≤◌, ℕ}
use mathlib.Core.Bool.{Bool, false, not, true}
use mathlib.Core.List.{[], ◌++◌, ◌∷◌}
use mathlib.Core.Option.{Option, none, some}
use mathlib.Core.Path.{◌∙◌, ◌≡◌, ap, ap₂, refl, sym}
use native.Mathlib.Omega.{arith}
use borrow.Author.Tests.{le-ltb, lt-ltb}
use lib.ListN.{length}
use Rattle.model.specs.Calls.{Place, answer_by, block_place, copy_conditions, found_place, in_copy, in_store, no_place, own_place, place_by, refusal_of, show_place, side_in, status_call, store_conditions}
use Rattle.model.specs.Entry.{own_bytes}
use Rattle.model.specs.History.{Bytes, last, newest, present}
use Rattle.model.specs.Machine.{Call, Show, Status, doing, entry, refused, shown}
use Rattle.model.specs.Refusals.{Clear, ◌when◌, conditions, first_of, no_sheet, tail_conditions}
use Rattle.model.specs.Store.{block_count, block_used, store_history, used_of}
use Rattle.model.specs.Types.{answer_of, entry_as, number_of, place_of}
use Rattle.model.specs.declared.Answer.TheVariants.{Status as StatusIs}
use Rattle.model.specs.declared.Place.TheVariants.{InStore}
use Rattle.model.specs.declared.Refusal.{Refusal}
use Rattle.model.specs.declared.Span.{Span}
use Rattle.model.specs.declared.Standing.{Standing}
use Rattle.model.specs.declared.State.{State}
use Rattle.model.specs.declared.State.TheVariants.{Added, Copied, Deleted, Empty, Normal}
use Rattle.laws.proofs.Conditions.{clear, clear_first}
use Rattle.laws.proofs.Store.{taken-room}
use Rattle.inner.proofs.Changing.{check_refusal}
use Rattle.inner.specs.Place.{has_own}
use Rattle.entries.proofs.Checking.{fitting_accepted}
use Rattle.entries.proofs.Looking.{found-used}
use Rattle.entries.specs.View.{Fitting, check_of, entry_in, standing_of}
use Rattle.entries.specs.declared.View.{View}
use Rattle.search.proofs.Finding.{block-holds, block_lacks, block_span}
use Rattle.search.specs.Find.{found_in, span_of}
use Rattle.search.specs.declared.Found.{Found}

-- the bytes of an entry in this state
pub own-some : (s : State) (b : Bytes) → has_own s ≡ true → own_bytes (entry_as s b) ≡ some b
own-some Empty b e = let z : ◌≡◌ {A = ℕ} 0 1 = cc in absurd (omega arith)
own-some (Normal r) b e = refl
own-some Added b e = refl
own-some (Deleted r) b e = let z : ◌≡◌ {A = ℕ} 0 1 = cc in absurd (omega arith)
own-some (Copied s) b e = refl

pub own-none : (s : State) (b : Bytes) → has_own s ≡ false → own_bytes (entry_as s b) ≡ none
own-none Empty b e = refl
own-none (Normal r) b e = let z : ◌≡◌ {A = ℕ} 0 1 = cc in absurd (omega arith)
own-none Added b e = let z : ◌≡◌ {A = ℕ} 0 1 = cc in absurd (omega arith)
own-none (Deleted r) b e = refl
own-none (Copied s) b e = let z : ◌≡◌ {A = ℕ} 0 1 = cc in absurd (omega arith)

module _ (store copy : Bytes) where
  pub show_refused : (k : Refusal) (i : ℕ) → check_of store copy ≡ Err k → no_place (number_of k) ≡ show_place store copy i
  unfolding show_place
  show_refused k i e =
      sym (ap (λ (o : Option ℕ). place_by o (own_place (own_bytes (entry (side_in store copy) i)) i (found_place store (last (store_history store)) i))) (check_refusal store copy k (Show i) tt e))

  pub status-refused : (k : Refusal) (i : ℕ) → check_of store copy ≡ Err k → refused (number_of k) ≡ status_call store copy i
  unfolding status_call
  status-refused k i e = sym (ap (λ (o : Option ℕ). answer_by o (doing (side_in store copy) (Status i)).0) (check_refusal store copy k (Status i) tt e))

  module _ (v : View) (F : Fitting store copy v) where
    -- no line from 1 to 6 holds, nor 14
    call_open : (c : Call) → Clear (tail_conditions (side_in store copy) c) → refusal_of store copy c ≡ first_of (conditions (side_in store copy) c)
    unfolding refusal_of
    call_open c t =
        let A = fitting_accepted store copy v F in
        let ts = tail_conditions (side_in store copy) c in
        let cs = conditions (side_in store copy) c in
        clear_first (store_conditions store) (ts ++ (copy_conditions store copy ++ cs)) (clear (store_conditions store) A.store_taken)
        ∙ clear_first ts (copy_conditions store copy ++ cs) t ∙ clear_first (copy_conditions store copy) cs (clear (copy_conditions store copy) A.copy_taken)

    -- what the last tree has of the sheet, as it was found
    newest_is : (i : ℕ) {f : Found} → f ≡ found_in store v.last i → f ≡ found_in store (last (store_history store)) i
    newest_is i e = e ∙ ap (λ (n : ℕ). found_in store n i) F.viewed.opened.last

    newest-used : (i : ℕ) {f : Found} → f ≡ found_in store v.last i → f.block < used_of store
    newest-used i e = found-used store v F.viewed.opened v.last i (omega arith) e

    pub newest-inside : (i : ℕ) {f : Found} → f ≡ found_in store v.last i → f.block < block_count store
    newest-inside i e = omega (arith, newest-used i e, taken-room store F.viewed.opened.accepted.clear)

    module _ (i : ℕ) where
      status_by : (a : Bool) → no_sheet i ≡ a → answer_by (first_of (7 when a ∷ [])) (answer_of (Ok (StatusIs (standing_of (store_history store) i (entry_in copy i))))) ≡ status_call store copy i
      unfolding status_call
      status_by a p =
          sym
          (ap (λ (o : Option ℕ). answer_by o (doing (side_in store copy) (Status i)).0) (call_open (Status i) tt)
          ∙ ap (λ (x : Bool). answer_by (first_of (7 when x ∷ [])) (doing (side_in store copy) (Status i)).0) p)

      pub status_beyond : 31 < i → refused 7 ≡ status_call store copy i
      status_beyond g = status_by true (lt-ltb 31 i g)

      pub status-there : i ≤ 31 → (x : Standing) → x ≡ standing_of (store_history store) i (entry_in copy i) → answer_of (Ok (StatusIs x)) ≡ status_call store copy i
      status-there g x e = ap (λ (y : Standing). answer_of (Ok (StatusIs y))) e ∙ status_by false (le-ltb 31 i g)

      abbrev there : Option Bytes → Place
      there o = own_place o i (found_place store (last (store_history store)) i)

      show_by : (a b : Bool) (o : Option Bytes) → no_sheet i ≡ a → own_bytes (entry_in copy i) ≡ o → not (present (shown o (newest (store_history store) i))) ≡ b
          → place_by (first_of (7 when a ∷ 8 when b ∷ [])) (there o) ≡ show_place store copy i
      unfolding show_place
      show_by a b o p q r =
          sym
          (ap (λ (x : Option ℕ). place_by x (there (own_bytes (entry_in copy i)))) (call_open (Show i) tt)
          ∙ ap₂ (λ (x : Bool) (y : Option Bytes). place_by (first_of (7 when x ∷ 8 when not (present (shown y (newest (store_history store) i))) ∷ [])) (there y)) p q
          ∙ ap (λ (y : Bool). place_by (first_of (7 when a ∷ 8 when y ∷ [])) (there o)) r)

      pub show_beyond : 31 < i → no_place 7 ≡ show_place store copy i
      show_beyond g = show_by true _ _ (lt-ltb 31 i g) refl refl

      module _ (g : i ≤ 31) where
        pub show_own : (x : Bytes) → own_bytes (entry_in copy i) ≡ some x → in_copy (512 * (1 + i) + 16) (length x) ≡ show_place store copy i
        show_own x q = show_by false false (some x) (le-ltb 31 i g) q refl

        module _ (q : own_bytes (entry_in copy i) ≡ none) (f : Found) (found : f ≡ found_in store v.last i) where
          u : f.block ≡ block_used store (last (store_history store)) i
          u = ap (λ (x : Found). x.block) (newest_is i found)

          pub show_lacking : f.block ≡ 0 → no_place 8 ≡ show_place store copy i
          show_lacking z =
              show_by false true none (le-ltb 31 i g) q
              (ap not ((block_lacks store v.n v.used F.viewed.opened.accepted (last (store_history store)) i (omega arith)).0 (sym u ∙ z)))

          pub show_there : (f.block ≡ 0 → ⊥) → (s : Span) → s ≡ span_of store f.block → place_of (Ok (InStore s f.revision)) ≡ show_place store copy i
          show_there z s w =
              ap (λ (y : Span). in_store y.start y.len f.revision) (w ∙ block_span store v.n v.used F.viewed.opened.accepted f.block (newest-used i found))
              ∙ ap (λ (x : Found). block_place store x.block x.revision) (newest_is i found)
              ∙ show_by false false none (le-ltb 31 i g) q
              (ap (λ o. not (present o)) (block-holds store v.n v.used F.viewed.opened.accepted (last (store_history store)) i (omega arith) (λ y. z (u ∙ y))))
