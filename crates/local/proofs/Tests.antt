-- The answers of the five calls, one law for each way through their tests.
-- Assumes nothing.
use Rattle.std.specs.Prelude.{Err, Ok, Result}
use Prim.Native.Nat.{◌<◌, ◌≤◌, ℕ}
use mathlib.Core.Bool.{false, true}
use mathlib.Core.List.{List}
use mathlib.Core.Logic.{◌⊎◌, inl, inr}
use mathlib.Core.Option.{Option, none, some}
use mathlib.Core.Path.{◌∙◌, ◌≡◌, ap, refl, subst, sym}
use native.Mathlib.Omega.{arith}
use borrow.Author.Tests.{le-ltb, lt-ltb, ltb-false, not-false}
use lib.ListN.{get_or, length, set}
use lib.Seq.{get_or-set_other}
use Rattle.model.specs.Entry.{Entry, added, empty, is_empty}
use Rattle.model.specs.Machine.{Add, Call, Copy, Delete, Edit, Move, copy_of, done, edited, refused, removed}
use Rattle.model.specs.Refusals.{Clear, conditions, first_of, no_sheet, nothing_in}
use Rattle.model.specs.Types.{answer_of, number_of}
use Rattle.model.specs.WorkCopy.{FitsCopyBlock, copy_bytes, entries_of, entry_block, seat_of}
use Rattle.model.specs.declared.Answer.{Answer}
use Rattle.model.specs.declared.Answer.TheVariants.{Done, Logged, Revision, Status, Stopped}
use Rattle.model.specs.declared.Refusal.{Refusal}
use Rattle.model.specs.declared.Refusal.TheVariants.{Missing, Occupied, Range}
use Rattle.laws.proofs.Conditions.{clear}
use Rattle.laws.proofs.Rows.{or_false}
use Rattle.local.proofs.States.{fits-copy, there_differs}
use Rattle.local.specs.Local.{LocalOut, copy_side, local_by, local_out, out}
use Rattle.workcopy.proofs.Entries.{entry-fits, put-accepted, put_entries, put-seat}
use Rattle.workcopy.specs.Copy.{Accepted}

module _ (l : List ℕ) where
  refused_is : (c : Call) (r : Refusal) → first_of (conditions (copy_side l) c) ≡ some (number_of r) → out (Err r) l ≡ local_out l c
  unfolding local_out
  refused_is c r e = sym (ap (λ (o : Option ℕ). local_by o l c) e)

  done_is : (c : Call) {t : List ℕ} → first_of (conditions (copy_side l) c) ≡ none → local_by none l c ≡ out (Ok Done) t → out (Ok Done) t ≡ local_out l c
  unfolding local_out
  done_is c e d = sym (ap (λ (o : Option ℕ). local_by o l c) e ∙ d)

  module _ (i : ℕ) (x : List ℕ) where
    pub add_range : (31 < i) ⊎ ((i ≤ 31) × (480 < length x)) → out (Err Range) l ≡ local_out l (Add i x)
    add_range (inl h) = refused_is (Add i x) Range (rw (lt-ltb 31 i h))
    add_range (inr h) = refused_is (Add i x) Range (rw (le-ltb 31 i h.0, lt-ltb 480 (length x) h.1))

    pub edit_range : (31 < i) ⊎ ((i ≤ 31) × (480 < length x)) → out (Err Range) l ≡ local_out l (Edit i x)
    edit_range (inl h) = refused_is (Edit i x) Range (rw (lt-ltb 31 i h))
    edit_range (inr h) = refused_is (Edit i x) Range (rw (le-ltb 31 i h.0, lt-ltb 480 (length x) h.1))

    module _ (h : i ≤ 31) (n : length x ≤ 480) where
      pub add_occupied : is_empty (get_or (entries_of l) i empty) ≡ false → out (Err Occupied) l ≡ local_out l (Add i x)
      add_occupied e = refused_is (Add i x) Occupied (rw (le-ltb 31 i h, le-ltb 480 (length x) n, e))

      pub add_done : {t : List ℕ} → is_empty (get_or (entries_of l) i empty) ≡ true → t ≡ copy_bytes (seat_of l) (set (entries_of l) i (added x))
          → out (Ok Done) t ≡ local_out l (Add i x)
      add_done e p = done_is (Add i x) (rw (le-ltb 31 i h, le-ltb 480 (length x) n, e)) (ap (out (Ok Done)) (sym p))

      pub edit_missing : nothing_in (get_or (entries_of l) i empty) ≡ true → out (Err Missing) l ≡ local_out l (Edit i x)
      edit_missing e = refused_is (Edit i x) Missing (rw (le-ltb 31 i h, le-ltb 480 (length x) n, e))

      pub edit_done : {t : List ℕ} → nothing_in (get_or (entries_of l) i empty) ≡ false
          → t ≡ copy_bytes (seat_of l) (set (entries_of l) i (edited x (get_or (entries_of l) i empty))) → out (Ok Done) t ≡ local_out l (Edit i x)
      edit_done e p = done_is (Edit i x) (rw (le-ltb 31 i h, le-ltb 480 (length x) n, e)) (ap (out (Ok Done)) (sym p))

  module _ (i : ℕ) where
    pub delete_far : 31 < i → out (Err Range) l ≡ local_out l (Delete i)
    delete_far h = refused_is (Delete i) Range (rw (lt-ltb 31 i h))

    pub delete_missing : i ≤ 31 → nothing_in (get_or (entries_of l) i empty) ≡ true → out (Err Missing) l ≡ local_out l (Delete i)
    delete_missing h e = refused_is (Delete i) Missing (rw (le-ltb 31 i h, e))

    pub delete-done : {t : List ℕ} → i ≤ 31 → nothing_in (get_or (entries_of l) i empty) ≡ false
        → t ≡ copy_bytes (seat_of l) (set (entries_of l) i (removed (get_or (entries_of l) i empty))) → out (Ok Done) t ≡ local_out l (Delete i)
    delete-done h e p = done_is (Delete i) (rw (le-ltb 31 i h, e)) (ap (out (Ok Done)) (sym p))

  module _ (i j : ℕ) where
    pub copy_range : (31 < i) ⊎ ((i ≤ 31) × (31 < j)) → out (Err Range) l ≡ local_out l (Copy i j)
    copy_range (inl h) = refused_is (Copy i j) Range (rw (lt-ltb 31 i h))
    copy_range (inr h) = refused_is (Copy i j) Range (rw (le-ltb 31 i h.0, lt-ltb 31 j h.1))

    module _ (h : i ≤ 31) (k : j ≤ 31) where
      pub copy_missing : nothing_in (get_or (entries_of l) i empty) ≡ true → out (Err Missing) l ≡ local_out l (Copy i j)
      copy_missing e = refused_is (Copy i j) Missing (rw (le-ltb 31 i h, le-ltb 31 j k, e))

      module _ (e : nothing_in (get_or (entries_of l) i empty) ≡ false) where
        pub copy_occupied : is_empty (get_or (entries_of l) j empty) ≡ false → out (Err Occupied) l ≡ local_out l (Copy i j)
        copy_occupied f = refused_is (Copy i j) Occupied (rw (le-ltb 31 i h, le-ltb 31 j k, e, f))

        pub copy_done : {t : List ℕ} → is_empty (get_or (entries_of l) j empty) ≡ true
            → t ≡ copy_bytes (seat_of l) (set (entries_of l) j (copy_of i (get_or (entries_of l) i empty))) → out (Ok Done) t ≡ local_out l (Copy i j)
        copy_done f p = done_is (Copy i j) (rw (le-ltb 31 i h, le-ltb 31 j k, e, f)) (ap (out (Ok Done)) (sym p))

-- ---- move: copy, then delete the source

not_refused : (a : Answer) (n : ℕ) → answer_of (Ok a) ≡ refused n → ⊥
not_refused Done n e = cc
not_refused Stopped n e = cc
not_refused (Revision r) n e = cc
not_refused (Status s) n e = cc
not_refused (Logged g) n e = cc

module _ (l : List ℕ) (i j : ℕ) {t : List ℕ} where
  -- a copy that is refused refuses the move
  pub move_refused : (r : Refusal) → out (Err r) t ≡ local_out l (Copy i j) → out (Err r) t ≡ local_out l (Move i j)
  unfolding local_out
  move_refused r e = go (first_of (conditions (copy_side l) (Copy i j))) e
    where
      go : (o : Option ℕ) → out (Err r) t ≡ local_by o l (Copy i j) → out (Err r) t ≡ local_by o l (Move i j)
      go (some n) q = q
      go none q = let w : refused (number_of r) ≡ done = ap (λ (x : LocalOut). x.says) q in cc

  -- one that is answered was not refused, and leaves the machine's entries
  copied_so : (a : Answer) → out (Ok a) t ≡ local_out l (Copy i j)
      → (first_of (conditions (copy_side l) (Copy i j)) ≡ none) × (t ≡ copy_bytes (seat_of l) (set (entries_of l) j (copy_of i (get_or (entries_of l) i empty))))
  unfolding local_out
  copied_so a e = go (first_of (conditions (copy_side l) (Copy i j))) refl e
    where
      go : (o : Option ℕ) → first_of (conditions (copy_side l) (Copy i j)) ≡ o → out (Ok a) t ≡ local_by o l (Copy i j)
          → (first_of (conditions (copy_side l) (Copy i j)) ≡ none) × (t ≡ copy_bytes (seat_of l) (set (entries_of l) j (copy_of i (get_or (entries_of l) i empty))))
      go (some n) o q = absurd (not_refused a n (ap (λ (x : LocalOut). x.says) q))
      go none o q = (o, ap (λ (x : LocalOut). x.copy) q)

  module _ (y : Accepted l) (a : Answer) (e : out (Ok a) t ≡ local_out l (Copy i j)) where
    tests : Clear (conditions (copy_side l) (Copy i j))
    tests = clear (conditions (copy_side l) (Copy i j)) (copied_so a e).0

    near : i ≤ 31
    near = ltb-false 31 i (or_false (no_sheet i) (no_sheet j) tests.0).0

    fit : FitsCopyBlock (entry_block (copy_of i (get_or (entries_of l) i empty)))
    fit = fits-copy i (get_or (entries_of l) i empty) near (entry-fits l y i (omega (arith, near)))

    pub copied-accepted : Accepted t
    copied-accepted = subst Accepted (sym (copied_so a e).1) (put-accepted l y j (copy_of i (get_or (entries_of l) i empty)) fit)

    seat : seat_of t ≡ seat_of l
    seat = ap seat_of (copied_so a e).1 ∙ put-seat l y j (copy_of i (get_or (entries_of l) i empty)) fit

    entries : entries_of t ≡ set (entries_of l) j (copy_of i (get_or (entries_of l) i empty))
    entries = ap entries_of (copied_so a e).1 ∙ put_entries l y j (copy_of i (get_or (entries_of l) i empty)) fit

    source : get_or (entries_of t) i empty ≡ get_or (entries_of l) i empty
    source =
        ap (λ (x : List Entry). get_or x i empty) entries
        ∙ get_or-set_other (entries_of l) j i (copy_of i (get_or (entries_of l) i empty)) empty (there_differs l i j tests.1.0 (not-false (is_empty (get_or (entries_of l) j empty)) tests.1.1.0))

    pub move_is : (q : Result Answer Refusal) {u : List ℕ} → out q u ≡ local_out t (Delete i) → out q u ≡ local_out l (Move i j)
    move_is q w =
        let s = seat in
        let n = entries in
        let g = ap removed source in
        w ∙ sym (delete-done t i near (ap nothing_in source ∙ tests.1.0) refl)
        ∙ done_is l (Move i j) (copied_so a e).0 (λ k. out (Ok Done) (copy_bytes (sym s k) (set (sym n k) i (sym g k))))
