-- Read and log, one way through at a time: what the meanings answer where a line refuses the call, and where none does.
-- Assumes nothing.
use Rattle.std.specs.Prelude.{Err, Ok}
use Prim.Native.Nat.{◌<◌, ◌≤◌, ℕ}
use mathlib.Core.Bool.{Bool, ◌||◌, false, not, true}
use mathlib.Core.List.{[], ◌∷◌}
use mathlib.Core.Option.{Option}
use mathlib.Core.Path.{◌∙◌, ◌≡◌, ap, ap₂, refl, subst, sym}
use native.Mathlib.Omega.{arith}
use borrow.Author.Tests.{eq-eqb, le-ltb, lt-ltb, ltb-false, ne_eqb}
use lib.Dec.{eqb, ltb}
use Rattle.model.specs.Calls.{answer_by, block_place, found_place, in_store, log_call, no_place, place_by, read_place, store_side}
use Rattle.model.specs.History.{Bytes, last, present, sheet}
use Rattle.model.specs.Machine.{Log, Read, doing, refused}
use Rattle.model.specs.Refusals.{◌when◌, first_of, no_sheet, too_late}
use Rattle.model.specs.Store.{block_count, block_used, store_history, used_of}
use Rattle.model.specs.Types.{number_of, place_of}
use Rattle.model.specs.declared.Place.TheVariants.{InStore}
use Rattle.model.specs.declared.Refusal.{Refusal}
use Rattle.model.specs.declared.Span.{Span}
use Rattle.laws.proofs.Rows.{or_false}
use Rattle.inner.proofs.Refusing.{store_open, store-refused}
use Rattle.search.proofs.Finding.{block-holds, block_lacks, block_span, block_used_lem, open_asked}
use Rattle.search.specs.Find.{found_in, span_of}
use Rattle.search.specs.declared.Found.{Found}
use Rattle.store.proofs.Opening.{open_accepted, open_refused}
use Rattle.store.specs.Opened.{open_of}
use Rattle.store.specs.declared.Header.{Header}

-- the ways through `beyond`
pub beyond_sheet : (i : ℕ) (t : Bool) → 31 < i → true ≡ (no_sheet i || t)
beyond_sheet i t g = sym (ap (λ (b : Bool). b || t) (lt-ltb 31 i g))

pub beyond_last : (i : ℕ) (t : Bool) → i ≤ 31 → t ≡ (no_sheet i || t)
beyond_last i t g = sym (ap (λ (b : Bool). b || t) (le-ltb 31 i g))

-- log's line 7 is that of read, or that the revision is 0
zero-line : (a b c : Bool) → b ≡ true → (a || (b || c)) ≡ true
zero-line true b c e = refl
zero-line false true c e = refl
zero-line false false c e = let w : ◌≡◌ {A = ℕ} 0 1 = cc in absurd (omega arith)

other-line : (a b c d : Bool) → b ≡ false → (a || c) ≡ d → (a || (b || c)) ≡ d
other-line a false c d z e = e
other-line a true c d z e = let w : ◌≡◌ {A = ℕ} 0 1 = cc in absurd (omega arith)

module _ (store : Bytes) (R i : ℕ) where
  pub read_refused : (k : Refusal) → open_of store ≡ Err k → no_place (number_of k) ≡ read_place store R i
  unfolding read_place
  read_refused k e = sym (ap (λ (o : Option ℕ). place_by o (found_place store R i)) (store-refused store (Read R i) (number_of k) (open_refused store k e)))

  pub log-refused : (k : Refusal) → open_of store ≡ Err k → refused (number_of k) ≡ log_call store R i
  unfolding log_call
  log-refused k e = sym (ap (λ (o : Option ℕ). answer_by o (doing (store_side store) (Log R i)).0) (store-refused store (Log R i) (number_of k) (open_refused store k e)))

  module _ (h : Header) (e : open_of store ≡ Ok h) where
    -- the numbers of the header are the store's
    last_is : h.last ≡ last (store_history store)
    last_is = (open_accepted store h e).1

    -- line 7, with the header's last revision
    line : (a : Bool) → (no_sheet i || ltb h.last R) ≡ a → (no_sheet i || too_late (store_history store) R) ≡ a
    line a b = ap (λ (n : ℕ). no_sheet i || ltb n R) (sym last_is) ∙ b

    read_by_lem : (a b : Bool) → (no_sheet i || too_late (store_history store) R) ≡ a → not (present (sheet (store_history store) R i)) ≡ b
        → place_by (first_of (7 when a ∷ 8 when b ∷ [])) (found_place store R i) ≡ read_place store R i
    unfolding read_place
    read_by_lem a b p q =
        sym
        (ap (λ (o : Option ℕ). place_by o (found_place store R i)) (store_open store (Read R i) (open_accepted store h e).0)
        ∙ ap₂ (λ (x y : Bool). place_by (first_of (7 when x ∷ 8 when y ∷ [])) (found_place store R i)) p q)

    log_by : (a : Bool) → (no_sheet i || (eqb R 0 || too_late (store_history store) R)) ≡ a
        → answer_by (first_of (7 when a ∷ [])) (doing (store_side store) (Log R i)).0 ≡ log_call store R i
    unfolding log_call
    log_by a p =
        sym
        (ap (λ (o : Option ℕ). answer_by o (doing (store_side store) (Log R i)).0) (store_open store (Log R i) (open_accepted store h e).0)
        ∙ ap (λ (x : Bool). answer_by (first_of (7 when x ∷ [])) (doing (store_side store) (Log R i)).0) p)

    pub read_beyond : (no_sheet i || ltb h.last R) ≡ true → no_place 7 ≡ read_place store R i
    read_beyond b = read_by_lem true _ (line true b) refl

    pub log-zero : R ≡ 0 → refused 7 ≡ log_call store R i
    log-zero z = log_by true (zero-line (no_sheet i) (eqb R 0) (too_late (store_history store) R) (eq-eqb R 0 z))

    log-line : (R ≡ 0 → ⊥) → (a : Bool) → (no_sheet i || ltb h.last R) ≡ a → (no_sheet i || (eqb R 0 || too_late (store_history store) R)) ≡ a
    log-line z a b = other-line (no_sheet i) (eqb R 0) (too_late (store_history store) R) a (ne_eqb R 0 z) (line a b)

    pub log_beyond : (R ≡ 0 → ⊥) → (no_sheet i || ltb h.last R) ≡ true → refused 7 ≡ log_call store R i
    log_beyond z b = log_by true (log-line z true b)

    module _ (b : (no_sheet i || ltb h.last R) ≡ false) where
      pub in_range_lem : (i < 32) × (R ≤ last (store_history store))
      in_range_lem =
          let p = or_false (no_sheet i) (too_late (store_history store) R) (line false b) in
          let q : i ≤ 31 = ltb-false 31 i p.0 in
          (omega arith, ltb-false (last (store_history store)) R p.1)

      pub read_lacking : block_used store R i ≡ 0 → no_place 8 ≡ read_place store R i
      read_lacking z = read_by_lem false true (line false b) (ap not ((block_lacks store (block_count store) h.used (open_asked store h e) R i in_range_lem.1).0 z))

      pub read_found : (block_used store R i ≡ 0 → ⊥) → found_place store R i ≡ read_place store R i
      read_found z =
          read_by_lem false false (line false b) (ap (λ o. not (present o)) (block-holds store (block_count store) h.used (open_asked store h e) R i in_range_lem.1 z))

      pub read_there : (f : Found) (x : Span) → f ≡ found_in store R i → (f.block ≡ 0 → ⊥) → x ≡ span_of store f.block → place_of (Ok (InStore x f.revision)) ≡ read_place store R i
      read_there f x u z s =
          let A = open_asked store h e in
          let b : f.block < used_of store = subst (λ (f : Found). f.block < used_of store) (sym u) (block_used_lem store (block_count store) h.used A R i) in
          ap (λ (y : Span). in_store y.start y.len f.revision) (s ∙ block_span store (block_count store) h.used A f.block b)
          ∙ ap (λ (f : Found). block_place store f.block f.revision) u
          ∙ read_found (λ y. z (ap (λ (f : Found). f.block) u ∙ y))

      pub log-there : (R ≡ 0 → ⊥) → (doing (store_side store) (Log R i)).0 ≡ log_call store R i
      log-there z = log_by false (log-line z false b)
