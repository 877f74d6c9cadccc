-- The answers of commit, one law for each way through its tests. What is out of date is pending, so that refusal 11 may be tested before refusal 10.
-- Assumes nothing.
use Rattle.std.specs.Prelude.{Err, Ok, Result}
use Prim.Native.Nat.{◌+◌, ◌<◌, suc, ℕ}
use mathlib.Core.Bool.{Bool, ◌&&◌, ◌||◌, cond, false, not, true}
use mathlib.Core.List.{List, [], ◌∷◌}
use mathlib.Core.Option.{Option, none, some}
use mathlib.Core.Path.{◌∙◌, ◌≡◌, ap, refl, subst, sym}
use native.Mathlib.Omega.{arith}
use borrow.Author.Tests.{eq-eqb, ne_eqb}
use lib.ListN.{take}
use Rattle.model.specs.Calls.{change_by, commit_writes, out, side_in, stopped_by, written_from}
use Rattle.model.specs.Entry.{Entry, added, copied, deleted, empty, modified, normal, pending}
use Rattle.model.specs.History.{Bytes, History, change, last, named_after, names, nothing}
use Rattle.model.specs.Machine.{Commits, CommitsCut, Side, chosen, committed, stopped}
use Rattle.model.specs.Refusals.{conditions, first_of, no_room, nothing_chosen, out_of_date, some_stale}
use Rattle.model.specs.Rows.{some-row}
use Rattle.model.specs.Shows.{Accepted}
use Rattle.model.specs.Store.{store_history, tail_of}
use Rattle.model.specs.Types.{number_of}
use Rattle.model.specs.WorkCopy.{HoldsCopy, copy_bytes, entries_of, seat_of}
use Rattle.model.specs.declared.Answer.TheVariants.{Revision as TheRevision, Stopped as TheStopped}
use Rattle.model.specs.declared.Refusal.{Refusal}
use Rattle.model.specs.declared.Refusal.TheVariants.{NoRoom, NothingPending, OutOfDate, Range}
use Rattle.laws.proofs.Accepted.{accepted-kept, accepted_seen, both}
use Rattle.commits.proofs.Answers.{told-done, told-no_room, told-nothing, told-stopped}
use Rattle.commits.specs.Outcome.{Answered, Asked, RightFlags, enough}
use Rattle.commits.specs.declared.Outcome.{Outcome}
use Rattle.commits.specs.declared.Outcome.TheVariants.{Done, Stopped}
use Rattle.entries.proofs.Checking.{fitting_accepted}
use Rattle.entries.specs.View.{Fitting, out_as}
use Rattle.entries.specs.declared.View.{View}
use Rattle.filing.proofs.Settling.{settled-committed}
use Rattle.filing.specs.Filed.{inner_cut}
use Rattle.filing.specs.Inner.{Settling, settled_rows}
use Rattle.workcopy.proofs.Entries.{held}

-- a row that passes one test passes another
some_also : {A : Type 0} (f g : ℕ → A → Bool) (k : ℕ) (l : List A) → ((i : ℕ) (a : A) → f i a ≡ true → g i a ≡ true) → some-row f k l ≡ true → some-row g k l ≡ true
some_also f g k [] h e = e
some_also f g k (a ∷ l) h e = by (f k a) (g k a) (some-row f (suc k) l) (some-row g (suc k) l) (h k a) (some_also f g (suc k) l h) e
  where
    by : (x y p q : Bool) → (x ≡ true → y ≡ true) → (p ≡ true → q ≡ true) → (x || p) ≡ true → (y || q) ≡ true
    by x true p q s t e = refl
    by true false p q s t e = absurd (let z : ◌≡◌ {A = ℕ} 0 1 = cc (s refl) in omega arith)
    by false false p q s t e = t e

stale-pending : (h : History) (i : ℕ) (e : Entry) → out_of_date h i e ≡ true → pending h i e ≡ true
stale-pending h i empty e = e
stale-pending h i (normal b x) e = by (modified h i b x) (both (modified h i b x) (named_after h b i) e).0
  where
    by : (c : Bool) → c ≡ true → names (cond c (change x) nothing) ≡ true
    by true z = refl
    by false z = z
stale-pending h i (added x) e = refl
stale-pending h i (deleted b) e = refl
stale-pending h i (copied s r x) e = refl

stale-chosen : (d : Side) (mask : ℕ) → some_stale d mask ≡ true → nothing_chosen d mask ≡ false
stale-chosen d mask e =
    ap not (some_also (λ i e. chosen mask i && out_of_date d.history i e) (λ i e. chosen mask i && pending d.history i e) 0 d.entries
    (λ i a. by (chosen mask i) (out_of_date d.history i a) (pending d.history i a) (stale-pending d.history i a)) e)
  where
    by : (c x y : Bool) → (x ≡ true → y ≡ true) → (c && x) ≡ true → (c && y) ≡ true
    by true x y s e = s e
    by false x y s e = e

module _ (store copy : Bytes) (stamp mask n : ℕ) where
  abbrev d : Side
  d = side_in store copy

  refused_is : (r : Refusal) → first_of (conditions d (CommitsCut stamp mask n)) ≡ some (number_of r) → out_as (Err r) store copy ≡ inner_cut store copy stamp mask n
  unfolding inner_cut
  refused_is r e = sym (ap (λ (o : Option ℕ). stopped_by o store copy stamp mask n) e)

  pub commit-none : mask ≡ 0 → out_as (Err Range) store copy ≡ inner_cut store copy stamp mask n
  commit-none z = refused_is Range (rw (eq-eqb mask 0 z))

  module _ (some-mask : mask ≡ 0 → ⊥) where
    pub commit-nothing : {o : Result Outcome Refusal} {store' : Bytes} → o ≡ Err NothingPending → Answered store copy store' stamp mask n o
        → out_as (Err NothingPending) store' copy ≡ inner_cut store copy stamp mask n
    commit-nothing {store' = store'} e A =
        let t = told-nothing store copy store' stamp mask n (subst (Answered store copy store' stamp mask n) e A) in
        ap (λ (x : Bytes). out_as (Err NothingPending) x copy) t.1 ∙ refused_is NothingPending (rw (ne_eqb mask 0 some-mask, t.0))

    module _ {b : Bool} (q : b ≡ some_stale d mask) where
      pub commit-stale : b ≡ true → out_as (Err OutOfDate) store copy ≡ inner_cut store copy stamp mask n
      commit-stale z =
          let s : some_stale d mask ≡ true = sym q ∙ z in
          refused_is OutOfDate (rw (ne_eqb mask 0 some-mask, stale-chosen d mask s, s))

      module _ (z : b ≡ false) {o : Result Outcome Refusal} {store' : Bytes} (A : Answered store copy store' stamp mask n o) where
        pub commit-no_room : o ≡ Err NoRoom → out_as (Err NoRoom) store' copy ≡ inner_cut store copy stamp mask n
        commit-no_room e =
            let t = told-no_room store copy store' stamp mask n (subst (Answered store copy store' stamp mask n) e A) in
            ap (λ (x : Bytes). out_as (Err NoRoom) x copy) t.2 ∙ refused_is NoRoom (rw (ne_eqb mask 0 some-mask, t.0, sym q ∙ z, t.1))

        -- what refuses it then is line 10 or 13
        pub commit-refused : {k : Refusal} → o ≡ Err k → out_as (Err k) store' copy ≡ inner_cut store copy stamp mask n
        commit-refused {k} e = go (nothing_chosen d mask) (no_room d mask) (enough store copy stamp mask n) _ _ A.says
          where
            is : (j : Refusal) → o ≡ Err j → out_as (Err j) store' copy ≡ inner_cut store copy stamp mask n → out_as (Err k) store' copy ≡ inner_cut store copy stamp mask n
            is j q h = subst (λ (x : Refusal). out_as (Err x) store' copy ≡ inner_cut store copy stamp mask n) (cc) h

            go : (x y w : Bool) (o₁ o₂ : Outcome) → o ≡ cond x (Err NothingPending) (cond y (Err NoRoom) (cond w (Ok o₁) (Ok o₂)))
                → out_as (Err k) store' copy ≡ inner_cut store copy stamp mask n
            go true y w o₁ o₂ q = is NothingPending q (commit-nothing q A)
            go false true w o₁ o₂ q = is NoRoom q (commit-no_room q)
            go false false true o₁ o₂ q = cc
            go false false false o₁ o₂ q = cc

        -- no line refuses it: n is enough, or it stops
        by_enough : {c : Bool} → nothing_chosen d mask ≡ false → no_room d mask ≡ false → enough store copy stamp mask n ≡ c
            → cond c (change_by none store copy (Commits stamp mask)) (out stopped (written_from store (take n (commit_writes store copy stamp mask))) copy)
            ≡ inner_cut store copy stamp mask n
        unfolding inner_cut
        by_enough x y w =
            let k : first_of (conditions d (CommitsCut stamp mask n)) ≡ none = rw (ne_eqb mask 0 some-mask, x, sym q ∙ z, y) in
            sym (ap (λ (o : Option ℕ). stopped_by o store copy stamp mask n) k
            ∙ ap (λ (c : Bool). cond c (change_by none store copy (Commits stamp mask)) (out stopped (written_from store (take n (commit_writes store copy stamp mask))) copy)) w)

        pub commit-stopped : o ≡ Ok Stopped → out_as (Ok TheStopped) store' copy ≡ inner_cut store copy stamp mask n
        commit-stopped e =
            let t = told-stopped store copy store' stamp mask n (subst (Answered store copy store' stamp mask n) e A) in
            ap (λ (x : Bytes). out stopped x copy) t.3 ∙ by_enough t.0 t.1 t.2

        pub commit-done : {u R : ℕ} {copy' : Bytes} → o ≡ Ok (Done u) → R ≡ suc (last (store_history store))
            → copy' ≡ copy_bytes (seat_of copy) (committed (store_history store) mask (entries_of copy)) → out_as (Ok (TheRevision R)) store' copy' ≡ inner_cut store copy stamp mask n
        commit-done {u} e r w =
            let t = told-done store copy store' stamp mask n u (subst (Answered store copy store' stamp mask n) e A) in
            (λ i. out_as (Ok (TheRevision (r i))) (t.4 i) (w i)) ∙ by_enough t.0 t.1 t.2

-- ---- what the steps ask for

module _ (store copy : Bytes) (v : View) (F : Fitting store copy v) where
  abbrev taken : Accepted store copy
  taken = fitting_accepted store copy v F

  last-small : last (store_history store) < 4_096
  last-small = let K = accepted-kept store copy taken in omega (arith, K.used, K.room, (accepted_seen store copy taken).many)

  pub next_small : v.last + 1 < 65_536
  next_small = omega (arith, last-small, F.viewed.opened.last)

  pub seat-small : v.seat < 256
  unfolding HoldsCopy
  seat-small = omega (arith, F.seat, (held copy F.viewed.accepted).1.1)

  pub may_commit : {mask : ℕ} {changed places : List ℕ} → tail_of store ≡ 0 → RightFlags store copy mask changed places → Asked store copy v.used (v.last + 1) v.seat mask changed places
  may_commit t R = record {
    taken = taken;
    untailed = t;
    uses = F.viewed.opened.accepted.in_use;
    next = omega (arith, F.viewed.opened.last);
    by = F.seat;
    right = R;
  }

  pub may_settle : Settling copy (v.last + 1)
  may_settle = record { accepted = F.viewed.accepted; low = omega arith; high = next_small }

  pub next_is : v.last + 1 ≡ suc (last (store_history store))
  next_is = omega (arith, F.viewed.opened.last)

  pub left-committed : {mask : ℕ} {changed places : List ℕ} {copy' : Bytes} → RightFlags store copy mask changed places
      → copy' ≡ copy_bytes (seat_of copy) (settled_rows (v.last + 1) changed mask (entries_of copy))
      → copy' ≡ copy_bytes (seat_of copy) (committed (store_history store) mask (entries_of copy))
  left-committed R w = w ∙ ap (copy_bytes (seat_of copy)) (settled-committed store copy F.viewed.accepted R next_is)
