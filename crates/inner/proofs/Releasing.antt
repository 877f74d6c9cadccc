-- A release and a panel's reading on a store that is open: what the meanings answer and leave, one way through at a time.
-- Assumes nothing.
use Rattle.std.specs.Prelude.{Err, Ok}
use Prim.Native.Nat.{◌*◌, ◌+◌, ◌<◌, ◌^◌, ◌≤◌, ℕ}
use mathlib.Core.Bool.{Bool, ◌&&◌, ◌||◌, false, not, or-true, true}
use mathlib.Core.List.{List, [], ◌∷◌}
use mathlib.Core.Option.{Option, none, some}
use mathlib.Core.Path.{◌∙◌, ◌≡◌, ap, ap₂, refl, subst, sym}
use native.Mathlib.Omega.{arith}
use borrow.Author.Tests.{le-leb, le-ltb, leb-true, lt-leb, lt-ltb, ltb-false}
use lib.Dec.{eqb, leb, ltb}
use lib.ListN.{length}
use Rattle.block.proofs.Says.{and_true, is_true}
use Rattle.block.specs.Write.{written}
use Rattle.model.specs.Blocks.{fields_of, mark}
use Rattle.model.specs.Calls.{Created, found_place, fresh_copy, mark_by, mark_call, no_place, panel_place, place_by, read_place, release_call, store_conditions, store_only_conditions, store_refusal, store_side}
use Rattle.model.specs.Codec.{encode}
use Rattle.model.specs.History.{Bytes, last, present}
use Rattle.model.specs.Log.{Placed, among, marks, panel_revision, released, releases}
use Rattle.model.specs.Machine.{Answer as Said·, Call, Panel, Release, panel_sheet}
use Rattle.model.specs.Pass.{log_all}
use Rattle.model.specs.Refusals.{Clear, ◌when◌, first_of, full, no_seat, no_sheet, too_late}
use Rattle.model.specs.Store.{block_count, blocks_of, store_history, store_marks, tail_of, used_of}
use Rattle.model.specs.Types.{created_as, number_of}
use Rattle.model.specs.declared.Answer.TheVariants.{Done}
use Rattle.model.specs.declared.Refusal.{Refusal}
use Rattle.model.specs.declared.Refusal.TheVariants.{NoRoom, Range, Released, Tail}
use Rattle.laws.proofs.Accepted.{accepted-kept}
use Rattle.laws.proofs.Codec.{length-encode}
use Rattle.laws.proofs.Conditions.{clear, sized_so}
use Rattle.laws.proofs.CutReleases.{release_written}
use Rattle.laws.proofs.Cutting.{block_written}
use Rattle.laws.proofs.Demand1.{demand_one, fresh-accepted}
use Rattle.laws.proofs.Rows.{and-nothing, is_t, or_false}
use Rattle.laws.proofs.Store.{history-held, used-held}
use Rattle.laws.proofs.Used.{own-laid, own-log, own_room}
use Rattle.filing.specs.declared.Filed.{Filed}
use Rattle.inner.proofs.Refusing.{store_open, store-refused}
use Rattle.inner.specs.Performs.{ReleasesAs, unmoved_as}
use Rattle.marks.specs.Laid.{Laid}
use Rattle.store.proofs.Opening.{open_accepted, open_refused}
use Rattle.store.specs.Opened.{open_of}
use Rattle.store.specs.declared.Header.{Header}

-- the ways through `unreleasable`
pub seat-none : (s : ℕ) (t : Bool) → s < 1 → true ≡ (no_seat s || t)
seat-none s t g = let z : s ≡ 0 = omega arith in rw z refl

pub seat-high : (s : ℕ) (t : Bool) → 4 < s → true ≡ (no_seat s || t)
seat-high s t g = sym (ap (λ (b : Bool). not (leb 1 s && b) || t) (lt-leb s 4 g) ∙ ap (λ (b : Bool). not b || t) (and-nothing (leb 1 s)))

seat-one : (s : ℕ) (t : Bool) → 1 ≤ s → s ≤ 4 → t ≡ (no_seat s || t)
seat-one s t l g = sym (ap₂ (λ (a b : Bool). not (a && b) || t) (le-leb 1 s l) (le-leb s 4 g))

pub revision_late : (s R n : ℕ) → 1 ≤ s → s ≤ 4 → n < R → true ≡ (no_seat s || (eqb R 0 || ltb n R))
revision_late s R n l g h = sym (ap (λ (b : Bool). eqb R 0 || b) (lt-ltb n R h) ∙ or-true (eqb R 0)) ∙ seat-one s (eqb R 0 || ltb n R) l g

pub revision-none : (s R n : ℕ) → 1 ≤ s → s ≤ 4 → R ≤ n → eqb R 0 ≡ (no_seat s || (eqb R 0 || ltb n R))
revision-none s R n l g h = sym (ap (λ (b : Bool). eqb R 0 || b) (le-ltb n R h) ∙ or_nothing (eqb R 0)) ∙ seat-one s (eqb R 0 || ltb n R) l g
  where
    or_nothing : (b : Bool) → (b || false) ≡ b
    or_nothing true = refl
    or_nothing false = refl

module _ (store : Bytes) (R i : ℕ) where
  pub panel-refused : (k : Refusal) → open_of store ≡ Err k → no_place (number_of k) ≡ panel_place store R i
  unfolding panel_place
  panel-refused k e =
      sym (ap (λ (o : Option ℕ). place_by o (found_place store (panel_revision (store_marks store) R) i)) (store-refused store (Panel R i) (number_of k) (open_refused store k e)))

pub release_refused : (store : Bytes) (R seat stamp : ℕ) (k : Refusal) → open_of store ≡ Err k → created_as (Err k) store ≡ release_call store R seat stamp
unfolding mark_call
release_refused store R seat stamp k e =
    sym (ap (λ (o : Option ℕ). mark_by o store (Release R seat stamp)) (store-refused store (Release R seat stamp) (number_of k) (open_refused store k e)))

module _ (store : Bytes) (h : Header) (e : open_of store ≡ Ok h) where
  accepted : first_of (store_conditions store) ≡ none
  accepted = (open_accepted store h e).0

  last_is : h.last ≡ last (store_history store)
  last_is = (open_accepted store h e).1

  used_is : h.used ≡ used_of store
  used_is = (open_accepted store h e).2

  last-low : last (store_history store) < used_of store
  last-low = (accepted-kept store (fresh_copy 1) (fresh-accepted store [] 1 (omega arith) (omega arith) (clear (store_conditions store) accepted))).used

  sized : (length store ≡ block_count store * 512) × (2 ≤ block_count store) × (block_count store ≤ 4_096)
  sized = sized_so store (clear (store_conditions store) accepted).0

  -- the used blocks are laid as commits and marks, and their marks are the store's
  pub open_laid : Laid store h.used
  open_laid =
      subst (Laid store) (sym used_is)
      (record { room = own_room store accepted; few = omega (arith, own_room store accepted, sized); laid = own-laid store accepted })

  marks_are : marks (log_all (blocks_of h.used store)) ≡ store_marks store
  marks_are = ap (λ (n : ℕ). marks (log_all (blocks_of n store))) used_is ∙ ap marks (own-log store accepted)

  -- ---- a panel's reading

  module _ (R i : ℕ) where
    pub panel_late : h.last < R → no_place 7 ≡ panel_place store R i
    unfolding panel_place
    panel_late g =
        let late : too_late (store_history store) R ≡ true = lt-ltb (last (store_history store)) R (omega (arith, last_is)) in
        let d = store_side store in
        sym
        (ap (λ (o : Option ℕ). place_by o (found_place store (panel_revision (store_marks store) R) i)) (store_open store (Panel R i) accepted)
        ∙ ap (λ (b : Bool). place_by (first_of (7 when b ∷ 8 when not (present (panel_sheet d R i)) ∷ [])) (found_place store (panel_revision (store_marks store) R) i))
        (ap (λ (b : Bool). no_sheet i || b) late ∙ or-true (no_sheet i)))

    pub panel_at : R ≤ h.last → {r : ℕ} → r ≡ panel_revision (marks (log_all (blocks_of h.used store))) R → read_place store r i ≡ panel_place store R i
    panel_at g {r} q =
        let s : r ≡ panel_revision (store_marks store) R = q ∙ ap (λ (ps : List Placed). panel_revision ps R) marks_are in
        ap (λ (k : ℕ). read_place store k i) s ∙ sym ((demand_one store []).panel_place_holds R i (omega (arith, last_is)))

  -- ---- a release

  module _ (R seat stamp : ℕ) where
    abbrev c : Call
    c = Release R seat stamp

    -- its lines after 3
    release_by : {a b t f : Bool} → not (eqb (tail_of store) 0) ≡ a → (no_seat seat || (eqb R 0 || too_late (store_history store) R)) ≡ b
        → among R (releases (store_marks store)) ≡ t → full (store_side store) ≡ f → store_refusal store c ≡ first_of (14 when a ∷ 7 when b ∷ 16 when t ∷ 13 when f ∷ [])
    release_by {a} {b} {t} {f} p q r s =
        store_open store c accepted
        ∙ ap₂ (λ (x y : Bool). first_of (14 when x ∷ 7 when y ∷ 16 when among R (releases (store_marks store)) ∷ 13 when full (store_side store) ∷ [])) p q
        ∙ ap₂ (λ (x y : Bool). first_of (14 when a ∷ 7 when b ∷ 16 when x ∷ 13 when y ∷ [])) r s

    -- refused, the store and its numbers stay
    refused_with : (k : Refusal) → store_refusal store c ≡ some (number_of k) → {f : Filed} → f ≡ unmoved_as h k → ReleasesAs (release_call store R seat stamp) f store
    unfolding mark_call
    refused_with k q w =
        subst (λ (f : Filed). ReleasesAs (release_call store R seat stamp) f store) (sym w)
        (record { is = sym (ap (λ (o : Option ℕ). mark_by o store c) q); used = used_is; last = last_is })

    module _ {a : Bool} (p : a ≡ not (eqb (tail_of store) 0)) where
      pub has_tail : a ≡ true → {f : Filed} → f ≡ unmoved_as h Tail → ReleasesAs (release_call store R seat stamp) f store
      has_tail y = refused_with Tail (release_by (sym p ∙ y) refl refl refl)

      module _ (no : a ≡ false) {b : Bool} (q : b ≡ (no_seat seat || (eqb R 0 || ltb h.last R))) where
        range : (no_seat seat || (eqb R 0 || too_late (store_history store) R)) ≡ b
        range = ap (λ (n : ℕ). no_seat seat || (eqb R 0 || ltb n R)) (sym last_is) ∙ sym q

        pub out_of_range : b ≡ true → {f : Filed} → f ≡ unmoved_as h Range → ReleasesAs (release_call store R seat stamp) f store
        out_of_range y = refused_with Range (release_by (sym p ∙ no) (range ∙ y) refl refl)

        module _ (in_range_lem : b ≡ false) {t : Bool} (r : t ≡ among R (releases (marks (log_all (blocks_of h.used store))))) where
          twice : among R (releases (store_marks store)) ≡ t
          twice = ap (λ (ps : List Placed). among R (releases ps)) (sym marks_are) ∙ sym r

          pub released-before : t ≡ true → {f : Filed} → f ≡ unmoved_as h Released → ReleasesAs (release_call store R seat stamp) f store
          released-before y = refused_with Released (release_by (sym p ∙ no) (range ∙ in_range_lem) (twice ∙ y) refl)

          module _ (new : t ≡ false) where
            pub no_block : block_count store ≤ h.used → {f : Filed} → f ≡ unmoved_as h NoRoom → ReleasesAs (release_call store R seat stamp) f store
            no_block g = refused_with NoRoom (release_by (sym p ∙ no) (range ∙ in_range_lem) (twice ∙ new) (lt-ltb (block_count store) (used_of store + 1) (omega (arith, used_is))))

            module _ (g : h.used < block_count store) where
              none-refuses : store_refusal store c ≡ none
              none-refuses = release_by (sym p ∙ no) (range ∙ in_range_lem) (twice ∙ new) (le-ltb (block_count store) (used_of store + 1) (omega (arith, used_is)))

              lines : Clear (store_only_conditions store c)
              unfolding store_refusal
              lines = clear (store_only_conditions store c) none-refuses

              pub room : 512 * h.used + 512 ≤ length store
              room = omega (arith, sized)

              seven : ((no_seat seat ≡ false) × ((eqb R 0 || too_late (store_history store) R) ≡ false))
              seven = or_false (no_seat seat) (eqb R 0 || too_late (store_history store) R) (range ∙ in_range_lem)

              pub seat-small : seat < 256
              seat-small =
                  (let z = leb-true seat 4 (is_true (leb seat 4) (and_true (leb 1 seat) (leb seat 4) (is_t (leb 1 seat && leb seat 4) seven.0)).1) in omega (arith, z))

              pub revision-small : R < 65_536
              revision-small =
                  (let z = ltb-false (last (store_history store)) R (or_false (eqb R 0) (too_late (store_history store) R) seven.1).1 in omega (arith, z, last-low, own_room store accepted, sized))

              pub made : stamp < 2 ^ 32 → {store' : Bytes} → store' ≡ written (512 * h.used) (encode fields_of (mark (released R seat stamp))) store
                  → ReleasesAs (release_call store R seat stamp) (record { answer = (Ok Done); used = h.used + 1; last = h.last }) store'
              unfolding mark_call
              made small {store'} w =
                  let M = (demand_one store []).releases R seat stamp small lines in
                  let o : Created = release_call store R seat stamp in
                  let bytes : Bytes = encode fields_of (mark (released R seat stamp)) in
                  let is : store' ≡ o.buffer =
                  w ∙ ap (λ (n : ℕ). written (512 * n) bytes store) used_is
                  ∙ sym (release_written store R seat stamp small lines ∙ block_written store (used_of store) bytes (length-encode fields_of (mark (released R seat stamp))) (omega (arith, room, used_is))) in
                  let u : used_of o.buffer ≡ used_of store + 1 =
                  used-held (block_count store) o.buffer (store_history store) (used_of store + 1) (tail_of store) M.holds in
                  let k : store_history o.buffer ≡ store_history store =
                  history-held (block_count store) o.buffer (store_history store) (used_of store + 1) (tail_of store) M.holds in
                  record {
                    is = ap₂ (λ (x : Said·) (y : Bytes). record { says = x; buffer = y }) (sym M.says) is;
                    used = omega (arith, used_is, u, ap used_of is);
                    last = last_is ∙ ap last (sym k) ∙ ap (λ (x : Bytes). last (store_history x)) (sym is);
                  }
