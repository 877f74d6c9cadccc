-- W2: an entry whose bytes are tree R's is no conflict and becomes normal with base R; every other is as it was before W2.
-- Assumes nothing.
use Prim.Native.Nat.{◌<◌, ◌≤◌, ℕ}
use mathlib.Core.Bool.{Bool, ◌&&◌, ◌||◌, cond, false, not, true}
use mathlib.Core.List.{List, ◌++◌}
use mathlib.Core.Logic.{◌⊎◌, inl, inr}
use mathlib.Core.Option.{Option, none, some}
use mathlib.Core.Path.{◌∙◌, ◌≡◌, ap, ap₂, refl, subst, sym}
use native.Mathlib.Nat.{zero-add}
use native.Mathlib.Omega.{arith}
use borrow.Author.Tests.{eqb-true, le-ltb, ltb-false, ne_eqb}
use lib.Dec.{eqb, ltb}
use lib.ListN.{get_or, length}
use Rattle.block.proofs.Says.{says_same, says_true}
use Rattle.model.specs.Calls.{Out, both_conditions, change_by, change_call, commit_call, copy_conditions, refusal_of, side_in, status_call, store_conditions, update_call}
use Rattle.model.specs.Entry.{Entry, added, copied, deleted, empty, modified, normal, own_bytes, pending}
use Rattle.model.specs.History.{Bytes, History, is_bytes, last, named_after, namer, newest, present, sheet}
use Rattle.model.specs.Invariant.{FitsAt, Sound}
use Rattle.model.specs.Machine.{Answer, Call, Commits, Side, Status, Update, agreed, as_in, chosen, doing, done, or_else, refused, same_namer, status, status_of, updated, updated_to}
use Rattle.model.specs.Refusals.{Clear, conditions, conflict, first_of, lacking, nothing_chosen, out_of_date, some_conflict, some_stale, tail_conditions, too_late}
use Rattle.model.specs.Run.{side_by, side_step}
use Rattle.model.specs.SameEdit.{AllAgree, Leaves, Quarrel, SameEdit, Updates, agrees, formerly}
use Rattle.model.specs.Shows.{Accepted, Seen}
use Rattle.model.specs.Store.{block_count, store_history, tail_of}
use Rattle.model.specs.WorkCopy.{entries_of, seat_of}
use Rattle.laws.proofs.Accepted.{accepted-call, accepted-kept, both, stays-accepted}
use Rattle.laws.proofs.Answers.{up_to_date, updated_at}
use Rattle.laws.proofs.Conditions.{clear, clear_first, no_tail}
use Rattle.laws.proofs.Demand1.{refused-leaves}
use Rattle.laws.proofs.Demand3.{no_conflict}
use Rattle.laws.proofs.Rows.{chosen_none, cond_same, no_rows, row-some, some-row_at}
use Rattle.laws.proofs.Trees.{has_bytes, same_namer_lem, unnamed}
use Rattle.laws.proofs.WorkCopy.{holds-copy}

-- ---- one entry

-- a modified entry's bytes aren't those of its base
not_base : (h : History) (i b : ℕ) (x : Bytes) → modified h i b x ≡ true → sheet h b i ≡ some x → ⊥
not_base h i b x m e =
    let s : is_bytes x (sheet h b i) ≡ true = ap (is_bytes x) e ∙ says_true (says_same x x) refl in
    let w : ◌≡◌ {A = ℕ} 0 1 = cc (ap not s, m) in
    omega arith

-- what an agreeing entry becomes
record Takes (h : History) (R i : ℕ) (e : Entry) : Type 0 where
  bytes : Bytes
  own : own_bytes e ≡ some bytes
  there : sheet h R i ≡ some bytes
  becomes : updated_to h R i e ≡ some (normal R bytes)

takes : (h : History) (R i : ℕ) (e : Entry) → agrees h R i e ≡ true → Takes h R i e
takes h R i empty z = let w : ◌≡◌ {A = ℕ} 0 1 = cc in absurd (omega arith)
takes h R i (normal b x) z =
    let p = both (modified h i b x) (is_bytes x (sheet h R i)) z in
    record { bytes = x; own = refl; there = has_bytes x (sheet h R i) p.1; becomes = rw (p.0, p.1) (cond_same (same_namer h i R b) (some (normal R x))) }
takes h R i (added x) z = let t = has_bytes x (sheet h R i) z in record { bytes = x; own = refl; there = t; becomes = rw (z, ap present t) }
takes h R i (deleted b) z = let w : ◌≡◌ {A = ℕ} 0 1 = cc in absurd (omega arith)
takes h R i (copied s r x) z = let t = has_bytes x (sheet h R i) z in record { bytes = x; own = refl; there = t; becomes = rw (z, ap present t) }

-- so one that update makes nothing of does not agree
disagrees : (h : History) (R i : ℕ) (e : Entry) → updated_to h R i e ≡ none → agrees h R i e ≡ false
disagrees h R i e n = go (agrees h R i e) refl
  where
    go : (t : Bool) → agrees h R i e ≡ t → t ≡ false
    go false z = refl
    go true z = let w : ◌≡◌ {A = ℕ} 0 1 = cc (ap lacking n, ap lacking (takes h R i e z).becomes) in absurd (omega arith)

-- every other entry
as_formerly : (h : History) (R i : ℕ) (e : Entry) → agrees h R i e ≡ false → updated_to h R i e ≡ formerly h R i e
as_formerly h R i empty z = refl
as_formerly h R i (normal b x) z = go (modified h i b x) z
  where
    go : (m : Bool) → (m && is_bytes x (sheet h R i)) ≡ false
        → cond m (cond (same_namer h i R b) (some (normal R x)) (agreed R x (sheet h R i))) (some (as_in R (sheet h R i)))
        ≡ cond m (cond (same_namer h i R b) (some (normal R x)) none) (some (as_in R (sheet h R i)))
    go true z = rw z
    go false z = refl
as_formerly h R i (added x) z = rw z
as_formerly h R i (deleted b) z = refl
as_formerly h R i (copied s r x) z = rw z

-- an agreeing entry was a conflict
was_conflict : (h : History) (R i : ℕ) (e : Entry) → Sound h → R ≤ last h → FitsAt h i e → agrees h R i e ≡ true → formerly h R i e ≡ none
was_conflict h R i empty s le f z = let w : ◌≡◌ {A = ℕ} 0 1 = cc in absurd (omega arith)
was_conflict h R i (normal b x) s le f z =
    let p = both (modified h i b x) (is_bytes x (sheet h R i)) z in
    rw p.0 (go (same_namer h i R b) refl p.0 (has_bytes x (sheet h R i) p.1))
  where
    go : (n : Bool) → same_namer h i R b ≡ n → modified h i b x ≡ true → sheet h R i ≡ some x → cond n (some (normal R x)) none ≡ none
    go true n m t = absurd (not_base h i b x m (sym (same_namer_lem h R b i s le f.0.high (eqb-true _ _ n)) ∙ t))
    go false n m t = refl
was_conflict h R i (added x) s le f z = rw (ap present (has_bytes x (sheet h R i) z))
was_conflict h R i (deleted b) s le f z = let w : ◌≡◌ {A = ℕ} 0 1 = cc in absurd (omega arith)
was_conflict h R i (copied s' r x) s le f z = rw (ap present (has_bytes x (sheet h R i) z))

-- an entry that agrees with the last tree is pending, and out of date
is_pending_lem : (h : History) (R i : ℕ) (e : Entry) → agrees h R i e ≡ true → pending h i e ≡ true
is_pending_lem h R i empty z = z
is_pending_lem h R i (normal b x) z = rw (both (modified h i b x) (is_bytes x (sheet h R i)) z).0
is_pending_lem h R i (added x) z = refl
is_pending_lem h R i (deleted b) z = refl
is_pending_lem h R i (copied s r x) z = refl

named-since : (h : History) (i b : ℕ) (x : Bytes) → Sound h → FitsAt h i (normal b x) → agrees h (last h) i (normal b x) ≡ true → named_after h b i ≡ true
named-since h i b x s f z = go (named_after h b i) refl
  where
    go : (n : Bool) → named_after h b i ≡ n → n ≡ true
    go true n = refl
    go false n =
        let p = both (modified h i b x) (is_bytes x (newest h i)) z in
        let l : last h ≤ last h = omega arith in
        let q : namer h (last h) i ≤ b = ltb-false b (namer h (last h) i) n in
        absurd (not_base h i b x p.0 (sym (unnamed h b (last h) i s f.0.high l q) ∙ has_bytes x (newest h i) p.1))

is_stale_lem : (h : History) (i : ℕ) (e : Entry) → Sound h → FitsAt h i e → agrees h (last h) i e ≡ true → out_of_date h i e ≡ true
is_stale_lem h i empty s f z = z
is_stale_lem h i (normal b x) s f z = ap₂ ◌&&◌ (both (modified h i b x) (is_bytes x (newest h i)) z).0 (named-since h i b x s f z)
is_stale_lem h i (added x) s f z = ap present (has_bytes x (newest h i) z)
is_stale_lem h i (deleted b) s f z = let w : ◌≡◌ {A = ℕ} 0 1 = cc in absurd (omega arith)
is_stale_lem h i (copied s' r x) s f z = ap present (has_bytes x (newest h i) z)

-- a mask that chooses a sheet isn't zero
picks : (mask i : ℕ) → chosen mask i ≡ true → mask ≡ 0 → ⊥
picks mask i c z =
    let n : chosen mask i ≡ false = ap (λ (m : ℕ). chosen m i) z ∙ chosen_none i in
    let w : ◌≡◌ {A = ℕ} 0 1 = cc (c, n) in
    omega arith

-- tree R's own bytes, with base R, are not pending
as_in-clear : (h : History) (R i : ℕ) → pending h i (as_in R (sheet h R i)) ≡ false
as_in-clear h R i = go (sheet h R i) refl
  where
    go : (o : Option Bytes) → sheet h R i ≡ o → pending h i (as_in R o) ≡ false
    go none e = refl
    go (some x) e = rw (e, says_true (says_same x x) refl)

-- the two ways of an update
lacks : (o : Option Entry) → lacking o ≡ true → o ≡ none
lacks none z = refl
lacks (some e) z = let w : ◌≡◌ {A = ℕ} 0 1 = cc in absurd (omega arith)

gives : (o : Option Entry) (e : Entry) → lacking o ≡ false → o ≡ some (or_else o e)
gives none e z = let w : ◌≡◌ {A = ℕ} 0 1 = cc in absurd (omega arith)
gives (some x) e z = refl

-- an entry that agrees or is not pending is no conflict
agrees_or : (h : History) (R i : ℕ) (e : Entry) → (agrees h R i e ≡ true) ⊎ (pending h i e ≡ false) → conflict h R i e ≡ false
agrees_or h R i e (inl z) = ap lacking (takes h R i e z).becomes
agrees_or h R i e (inr p) = no_conflict h R i e p

-- ---- the calls on accepted buffers

module _ (store copy : Bytes) (A : Accepted store copy) where
  abbrev h : History
  h = store_history store

  abbrev es : List Entry
  es = entries_of copy

  abbrev d : Side
  d = side_in store copy

  wide : length es ≡ 32
  wide = (accepted-kept store copy A).wide

  module _ (mask R : ℕ) where
    abbrev after : Bytes
    after = (update_call store copy mask R).copy

    -- the update as the machine makes it
    update_says : (mask ≡ 0 → ⊥) → R ≤ last h → (update_call store copy mask R).says ≡ cond (some_conflict d mask R) (refused 12) done
    update_says nz le =
        let seven : (eqb mask 0 || too_late h R) ≡ false = ap₂ ◌||◌ (ne_eqb mask 0 nz) (le-ltb (last h) R le) in
        (accepted-call store copy A (Update mask R) tt).0 ∙ rw seven (go (some_conflict d mask R))
      where
        go : (t : Bool) → (side_by (cond t (some 12) none) d (Update mask R)).0 ≡ cond t (refused 12) done
        go true = refl
        go false = refl

    -- where it is done, no line held, and these are the entries
    module _ (q : (update_call store copy mask R).says ≡ done) where
      no_line_lem : first_of (conditions d (Update mask R)) ≡ none
      no_line_lem = go (first_of (conditions d (Update mask R))) (sym (accepted-call store copy A (Update mask R) tt).0 ∙ q)
        where
          go : (o : Option ℕ) → (side_by o d (Update mask R)).0 ≡ done → o ≡ none
          go none e = refl
          go (some n) e = let w : ◌≡◌ {A = ℕ} 0 1 = cc in absurd (omega arith)

      entries-after : entries_of after ≡ updated h mask R es
      entries-after =
          let r = (accepted-call store copy A (Update mask R) tt).1 in
          let e : side_step d (Update mask R) ≡ doing d (Update mask R) = ap (λ (o : Option ℕ). side_by o d (Update mask R)) no_line_lem in
          let S : Seen (block_count store) (update_call store copy mask R).store after (doing d (Update mask R)).1 =
          subst (λ (x : Answer × Side). Seen (block_count store) (update_call store copy mask R).store after x.1) e r in
          (holds-copy after (seat_of copy) (updated h mask R es) S.copied).3

      entry-after : (i : ℕ) → i < 32 → get_or (entries_of after) i empty ≡ cond (chosen mask i) (or_else (updated_to h R i (get_or es i empty)) (get_or es i empty)) (get_or es i empty)
      entry-after i g = ap (λ (l : List Entry). get_or l i empty) entries-after ∙ updated_at h mask R es i (omega (arith, wide))

      no_quarrel : (i : ℕ) → i < 32 → chosen mask i ≡ true → conflict h R i (get_or es i empty) ≡ false
      no_quarrel i g c = go (conflict h R i (get_or es i empty)) refl
        where
          go : (t : Bool) → conflict h R i (get_or es i empty) ≡ t → t ≡ false
          go false e = refl
          go true e =
              let s = some-row_at (λ i e. chosen mask i && conflict h R i e) empty es i (omega (arith, wide)) (ap₂ ◌&&◌ c e) in
              let n = (clear (conditions d (Update mask R)) no_line_lem).1.0 in
              sym s ∙ n

  -- a conflict among the chosen entries is one that is left
  quarrel : (mask R : ℕ) → some_conflict d mask R ≡ true → Quarrel h mask R es
  quarrel mask R q =
      let r = row-some (λ i e. chosen mask i && conflict h R i e) empty es q in
      let p = both (chosen mask r.0) (conflict h R r.0 (get_or es r.0 empty)) r.2 in
      let n : updated_to h R r.0 (get_or es r.0 empty) ≡ none = lacks (updated_to h R r.0 (get_or es r.0 empty)) p.1 in
      let a : agrees h R r.0 (get_or es r.0 empty) ≡ false = disagrees h R r.0 (get_or es r.0 empty) n in
      record { sheet = r.0; inside = omega (arith, r.1, wide); picked = p.0; other = a; conflict = sym (as_formerly h R r.0 (get_or es r.0 empty) a) ∙ n }

  quarrels : (mask R : ℕ) → Quarrel h mask R es → some_conflict d mask R ≡ true
  quarrels mask R Q =
      some-row_at (λ i e. chosen mask i && conflict h R i e) empty es Q.sheet (omega (arith, Q.inside, wide))
      (ap₂ ◌&&◌ Q.picked (ap lacking (as_formerly h R Q.sheet (get_or es Q.sheet empty) Q.other ∙ Q.conflict)))

  leaves : (mask R : ℕ) → (update_call store copy mask R).says ≡ done → (i : ℕ) → i < 32
      → Leaves h mask R i (get_or es i empty) (get_or (entries_of (update_call store copy mask R).copy) i empty)
  leaves mask R q i g =
      let e : Entry = get_or es i empty in
      let n : get_or (entries_of (update_call store copy mask R).copy) i empty ≡ cond (chosen mask i) (or_else (updated_to h R i e) e) e = entry-after mask R q i g in
      record {
        agreed = λ c z.
            let t = takes h R i e z in
            let b : get_or (entries_of (update_call store copy mask R).copy) i empty ≡ normal R t.bytes = n ∙ rw (c, t.becomes) in
            record {
              bytes = t.bytes;
              typed = t.own;
              stored = t.there;
              becomes = b;
              clear = ap (pending h i) (b ∙ ap (as_in R) (sym t.there)) ∙ as_in-clear h R i;
            };
        other = λ c z. sym (as_formerly h R i e z) ∙ gives (updated_to h R i e) e (no_quarrel mask R q i g c) ∙ ap some (sym (n ∙ rw c));
        unchosen = λ c. n ∙ rw c;
      }

  updates : (mask R : ℕ) → Updates h es mask R (update_call store copy mask R)
  updates mask R = record {
    refuses = λ nz le. (
      λ e. quarrel mask R (twelve (some_conflict d mask R) (sym (update_says mask R nz le) ∙ e)),
      λ Q. update_says mask R nz le ∙ rw (quarrels mask R Q),
    );
    does = λ nz le n. update_says mask R nz le ∙ rw (none_left (some_conflict d mask R) (λ e. n (quarrel mask R e)));
    leaves = leaves mask R;
  }
    where
      twelve : (t : Bool) → cond t (refused 12) done ≡ refused 12 → t ≡ true
      twelve true e = refl
      twelve false e = let w : ◌≡◌ {A = ℕ} 0 1 = cc in absurd (omega arith)

      none_left : (t : Bool) → (t ≡ true → ⊥) → t ≡ false
      none_left true n = absurd (n refl)
      none_left false n = refl

  -- ---- commit and status

  all_agree : (mask R : ℕ) → (mask ≡ 0 → ⊥) → R ≤ last h → AllAgree h mask R es → (update_call store copy mask R).says ≡ done
  all_agree mask R nz le f =
      let n : some_conflict d mask R ≡ false =
      no_rows (λ i e. chosen mask i && conflict h R i e) empty 0 es (λ i g. rw zero-add (each i (omega (arith, g, wide)) (chosen mask i) refl)) in
      update_says mask R nz le ∙ rw n
    where
      each : (i : ℕ) → i < 32 → (c : Bool) → chosen mask i ≡ c → (c && conflict h R i (get_or es i empty)) ≡ false
      each i g false c = refl
      each i g true c = agrees_or h R i (get_or es i empty) (f i g c)

  -- the first line that holds of a call on accepted buffers
  refused-first : (c : Call) (n : ℕ) → Clear (tail_conditions d c) → first_of (conditions d c) ≡ some n → first_of (both_conditions store copy c) ≡ some n
  refused-first c n t e =
      clear_first (store_conditions store) (tail_conditions d c ++ (copy_conditions store copy ++ conditions d c)) (clear (store_conditions store) A.store_taken)
      ∙ clear_first (tail_conditions d c) (copy_conditions store copy ++ conditions d c) t
      ∙ clear_first (copy_conditions store copy) (conditions d c) (clear (copy_conditions store copy) A.copy_taken) ∙ e

  commit-refused : tail_of store ≡ 0 → (stamp mask n : ℕ) → first_of (conditions d (Commits stamp mask)) ≡ some n → (commit_call store copy stamp mask).says ≡ refused n
  commit-refused t stamp mask n e =
      ap (λ (o : Out). o.says) (refused-leaves store copy (Commits stamp mask) n (refused-first (Commits stamp mask) n (no_tail d stamp mask t) e))

  stale : tail_of store ≡ 0 → (stamp mask i : ℕ) → i < 32 → chosen mask i ≡ true → agrees h (last h) i (get_or es i empty) ≡ true → (commit_call store copy stamp mask).says ≡ refused 11
  stale t stamp mask i g c z =
      let K = accepted-kept store copy A in
      let l : i < length es = omega (arith, wide) in
      let seven : eqb mask 0 ≡ false = ne_eqb mask 0 (picks mask i c) in
      let ten : nothing_chosen d mask ≡ false = ap not (some-row_at (λ i e. chosen mask i && pending h i e) empty es i l (ap₂ ◌&&◌ c (is_pending_lem h (last h) i (get_or es i empty) z))) in
      let eleven : some_stale d mask ≡ true = some-row_at (λ i e. chosen mask i && out_of_date h i e) empty es i l (ap₂ ◌&&◌ c (is_stale_lem h i (get_or es i empty) K.sound (K.fits i) z)) in
      commit-refused t stamp mask 11 (rw (seven, ten, eleven))

  needs_merge_lem : (i b : ℕ) (x : Bytes) → i < 32 → get_or es i empty ≡ normal b x → agrees h (last h) i (normal b x) ≡ true → status_call store copy i ≡ status 4 (namer h (last h) i)
  needs_merge_lem i b x g e z =
      let K = accepted-kept store copy A in
      let seven : ltb 31 i ≡ false = le-ltb 31 i (omega arith) in
      let n : named_after h b i ≡ true = named-since h i b x K.sound (subst (FitsAt h i) e (K.fits i)) z in
      let m : modified h i b x ≡ true = (both (modified h i b x) (is_bytes x (newest h i)) z).0 in
      let s : status_of h i (normal b x) ≡ 4 = rw (n, m) in
      (accepted-call store copy A (Status i) tt).0 ∙ rw seven (ap (λ (s : ℕ). status s (namer h (last h) i)) (ap (status_of h i) e ∙ s))

-- nothing chosen is pending
nothing_left : (store copy : Bytes) → Accepted store copy → tail_of store ≡ 0 → (stamp mask : ℕ) → (mask ≡ 0 → ⊥)
    → ((i : ℕ) → i < 32 → chosen mask i ≡ true → pending (store_history store) i (get_or (entries_of copy) i empty) ≡ false) → (commit_call store copy stamp mask).says ≡ refused 10
nothing_left store copy A t stamp mask nz f =
    let h : History = store_history store in
    let seven : eqb mask 0 ≡ false = ne_eqb mask 0 nz in
    let ten : nothing_chosen (side_in store copy) mask ≡ true =
    ap not (no_rows (λ i e. chosen mask i && pending h i e) empty 0 (entries_of copy) (λ i g. rw zero-add (each i (omega (arith, g, wide store copy A)) (chosen mask i) refl))) in
    commit-refused store copy A t stamp mask 10 (rw (seven, ten))
  where
    each : (i : ℕ) → i < 32 → (c : Bool) → chosen mask i ≡ c → (c && pending (store_history store) i (get_or (entries_of copy) i empty)) ≡ false
    each i g false c = refl
    each i g true c = f i g c

-- an update leaves the store
same_store : (store copy : Bytes) (mask R : ℕ) → (update_call store copy mask R).store ≡ store
unfolding change_call
same_store store copy mask R = go (refusal_of store copy (Update mask R))
  where
    go : (o : Option ℕ) → (change_by o store copy (Update mask R)).store ≡ store
    go none = refl
    go (some n) = refl

settles : (store copy : Bytes) → Accepted store copy → (stamp mask R : ℕ) → (mask ≡ 0 → ⊥) → R ≤ last (store_history store) → AllAgree (store_history store) mask R (entries_of copy)
    → ((update_call store copy mask R).says ≡ done) × (tail_of store ≡ 0 → (commit_call (update_call store copy mask R).store (update_call store copy mask R).copy stamp mask).says ≡ refused 10)
settles store copy A stamp mask R nz le f =
    let h : History = store_history store in
    let after : Bytes = (update_call store copy mask R).copy in
    let q = all_agree store copy A mask R nz le f in
    let s = same_store store copy mask R in
    let A' : Accepted store after = subst (λ (x : Bytes). Accepted x after) s (stays-accepted store copy A (Update mask R) tt) in (
      q,
      λ t. ap (λ (x : Bytes). (commit_call x after stamp mask).says) s
          ∙ nothing_left store after A' t stamp mask nz (λ i g c. ap (pending h i) (brought q i g c (f i g c)) ∙ as_in-clear h R i),
    )
  where
    brought : (update_call store copy mask R).says ≡ done → (i : ℕ) → i < 32 → chosen mask i ≡ true
        → (agrees (store_history store) R i (get_or (entries_of copy) i empty) ≡ true) ⊎ (pending (store_history store) i (get_or (entries_of copy) i empty) ≡ false)
        → get_or (entries_of (update_call store copy mask R).copy) i empty ≡ as_in R (sheet (store_history store) R i)
    brought q i g c (inl z) = let S = (leaves store copy A mask R q i g).agreed c z in S.becomes ∙ ap (as_in R) (sym S.stored)
    brought q i g c (inr p) =
        ap (λ (l : List Entry). get_or l i empty) (entries-after store copy A mask R q)
        ∙ up_to_date (store_history store) mask R (entries_of copy) i c (omega (arith, g, wide store copy A)) p

-- THE STATEMENT
pub same_edit : SameEdit
same_edit store copy A = record {
  lost = λ R i le z. was_conflict (store_history store) R i (get_or (entries_of copy) i empty) (accepted-kept store copy A).sound le ((accepted-kept store copy A).fits i) z;
  updates = updates store copy A;
  stale = stale store copy A;
  needs_merge = needs_merge_lem store copy A;
  settles = settles store copy A;
}
