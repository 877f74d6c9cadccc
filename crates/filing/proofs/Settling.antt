-- What a commit leaves in a working copy: each chosen entry settled by its flag, and with right flags these are the machine's entries.
-- Assumes nothing.
use Prim.Native.Nat.{◌+◌, ◌-◌, ◌<◌, ◌^◌, ◌≤◌, suc, ℕ}
use mathlib.Core.Bool.{Bool, cond, false, not, true}
use mathlib.Core.List.{List, [], ◌∷◌}
use mathlib.Core.Path.{◌∙◌, ◌≡◌, ap, ap₂, refl, subst, sym}
use native.Mathlib.Nat.{add-zero, zero-add}
use native.Mathlib.Omega.{arith}
use lib.Dec.{eqb}
use lib.ListN.{get_or, length, set}
use Rattle.block.specs.Buffer.{block_at}
use Rattle.model.specs.Entry.{Entry, added, change_for, copied, deleted, empty, normal}
use Rattle.model.specs.History.{Bytes, change, last, nothing}
use Rattle.model.specs.Machine.{chosen, committed, settled}
use Rattle.model.specs.Rows.{rows}
use Rattle.model.specs.Store.{store_history}
use Rattle.model.specs.Types.{entry_as}
use Rattle.model.specs.WorkCopy.{FitsCopyBlock, HoldsCopy, Revision, copy_bytes, entries_of, entry_block, seat_of}
use Rattle.model.specs.declared.Entry.{Entry as TheEntry}
use Rattle.model.specs.declared.State.{State}
use Rattle.model.specs.declared.State.TheVariants.{Added, Copied, Deleted, Empty, Normal}
use Rattle.laws.proofs.Rows.{cond-any}
use Rattle.commits.specs.Outcome.{RightAt, RightFlags}
use Rattle.entries.specs.View.{entry_in}
use Rattle.filing.specs.Inner.{Settling, settled_as, settled_rows, settled_state, stays_as}
use Rattle.masks.specs.Chosen.{Lowest}
use Rattle.masks.proofs.Visits.{rows_still, rows_visit}
use Rattle.masks.specs.Mask.{at_chosen}
use Rattle.workcopy.proofs.Entries.{entry-fits, held, put-accepted, put_entries, put-seat, same_copy, same-entry}
use Rattle.workcopy.specs.Copy.{Accepted, Carries, PutOk, Reading, bytes_in}

-- ---- one entry

settle_fits : (R flag : ℕ) (e : Entry) → 1 ≤ R → R < 65_536 → FitsCopyBlock (entry_block e) → FitsCopyBlock (entry_block (settled_as R flag e))
settle_fits R flag empty lo hi f = tt
settle_fits R flag (normal b x) lo hi f = (cond-any Revision (eqb flag 0) (λ z. f.0) (λ z. (lo, hi)), f.1)
settle_fits R flag (added x) lo hi f = ((lo, hi), f)
settle_fits R flag (deleted b) lo hi f = tt
settle_fits R flag (copied s r x) lo hi f = ((lo, hi), f.2)

module _ {copy : Bytes} {R : ℕ} (S : Settling copy R) {k : ℕ} (g : k < 32) where
  still_fits : (flag : ℕ) → FitsCopyBlock (entry_block (settled_as R flag (entry_in copy k)))
  still_fits flag = settle_fits R flag (entry_in copy k) S.low S.high (entry-fits copy S.accepted k g)

  module _ (flag : ℕ) {e : TheEntry} (r : Reading copy k e) {b : Bool} (q : b ≡ stays_as flag e.state) where
    abbrev own : Bytes
    own = bytes_in e (block_at copy (k + 1))

    -- it stays
    pub settle_stays : b ≡ true → copy ≡ copy_bytes (seat_of copy) (set (entries_of copy) k (settled_as R flag (entry_in copy k)))
    settle_stays z =
        let s : settled_as R flag (entry_in copy k) ≡ entry_in copy k = ap (settled_as R flag) (sym r.means) ∙ same e.state (sym q ∙ z) ∙ r.means in
        same-entry copy S.accepted k s
      where
        same : (s : State) → stays_as flag s ≡ true → settled_as R flag (entry_as s own) ≡ entry_as s own
        same Empty z = refl
        same (Normal b) z = rw z
        same Added z = let w : ◌≡◌ {A = ℕ} 0 1 = cc in absurd (omega arith)
        same (Deleted b) z = let w : ◌≡◌ {A = ℕ} 0 1 = cc in absurd (omega arith)
        same (Copied s) z = let w : ◌≡◌ {A = ℕ} 0 1 = cc in absurd (omega arith)

    -- or it is named
    module _ (off : b ≡ false) {s : State} (z : s ≡ settled_state R e.state) where
      settle_is : entry_as s own ≡ settled_as R flag (entry_in copy k)
      settle_is = ap (λ (s : State). entry_as s own) z ∙ renewed e.state (sym q ∙ off) ∙ ap (settled_as R flag) r.means
        where
          renewed : (s : State) → stays_as flag s ≡ false → entry_as (settled_state R s) own ≡ settled_as R flag (entry_as s own)
          renewed Empty z = refl
          renewed (Normal b) z = rw z
          renewed Added z = refl
          renewed (Deleted b) z = refl
          renewed (Copied s) z = refl

      pub settle_put : PutOk copy k (record { state = s; len = e.len }) own
      settle_put = record {
        copy = S.accepted;
        inside = g;
        fit = record {
          whole = r.whole;
          carries = subst (λ (s : State). Carries s e.len) (sym z) (carried e.state r.carries);
          fits = subst (λ (y : Entry). FitsCopyBlock (entry_block y)) (sym settle_is) (still_fits flag);
        };
      }
        where
          carried : (s : State) → Carries s e.len → Carries (settled_state R s) e.len
          carried Empty c = c
          carried (Normal b) c = tt
          carried Added c = tt
          carried (Deleted b) c = c
          carried (Copied s) c = tt

      pub settle_leaves : {t : Bytes} → t ≡ copy_bytes (seat_of copy) (set (entries_of copy) k (entry_as s own))
          → t ≡ copy_bytes (seat_of copy) (set (entries_of copy) k (settled_as R flag (entry_in copy k)))
      settle_leaves w = w ∙ ap (λ (y : Entry). copy_bytes (seat_of copy) (set (entries_of copy) k y)) settle_is

-- ---- the chosen entries: those that m chooses are left to settle

abbrev settle_at : ℕ → List ℕ → ℕ → Entry → Entry
settle_at R changed i e = settled_as R (get_or changed i 0) e

pub record Doing (R : ℕ) (changed : List ℕ) (mask : ℕ) (first copy : Bytes) (m : ℕ) : Type 0 where
  pub settling : Settling copy R
  pub seat : seat_of copy ≡ seat_of first
  pub left : settled_rows R changed m (entries_of copy) ≡ settled_rows R changed mask (entries_of first)

module _ {R : ℕ} {changed : List ℕ} {mask : ℕ} {first copy : Bytes} {m : ℕ} (D : Doing R changed mask first copy m) where
  pub doing-next : {t : ℕ} {next : Bytes} → Lowest m t → t < 32
      → next ≡ copy_bytes (seat_of copy) (set (entries_of copy) t (settled_as R (get_or changed t 0) (entry_in copy t))) → Doing R changed mask first next (m - 2 ^ t)
  unfolding HoldsCopy
  doing-next {t} L g e =
      let S = D.settling in
      let y = settled_as R (get_or changed t 0) (entry_in copy t) in
      let f = still_fits S g (get_or changed t 0) in
      let n : t < length (entries_of copy) = omega (arith, (held copy S.accepted).0) in
      subst (λ (x : Bytes). Doing R changed mask first x (m - 2 ^ t)) (sym e)
      (record {
        settling = record { accepted = put-accepted copy S.accepted t y f; low = S.low; high = S.high };
        seat = put-seat copy S.accepted t y f ∙ D.seat;
        left =
            ap (settled_rows R changed (m - 2 ^ t)) (put_entries copy S.accepted t y f)
            ∙ rows_visit (settle_at R changed) L empty (entries_of copy) n ∙ D.left;
      })

  pub doing-length : Settling first R → length copy ≡ length first
  doing-length S = D.settling.accepted.size ∙ sym S.accepted.size

  pub doing_end : m ≡ 0 → copy ≡ copy_bytes (seat_of first) (settled_rows R changed mask (entries_of first))
  doing_end z =
      let e : entries_of copy ≡ settled_rows R changed mask (entries_of first) =
      sym (rows_still (settle_at R changed) (entries_of copy)) ∙ ap (λ (n : ℕ). settled_rows R changed n (entries_of copy)) (sym z) ∙ D.left in
      same_copy copy D.settling.accepted ∙ (λ i. copy_bytes (D.seat i) (e i))

-- ---- in the machine's words

-- a flag that is right settles as the change that the entry stands for
settled-right : (store : Bytes) (R i : ℕ) (e : Entry) (flag place : ℕ) → RightAt store i e flag place → settled_as R flag e ≡ settled R (change_for (store_history store) i e) e
settled-right store R i empty flag place r = refl
settled-right store R i (normal b x) flag place r = sym (ap (λ (c : Bool). settled R (cond c (change x) nothing) (normal b x)) r ∙ by (eqb flag 0))
  where
    by : (c : Bool) → settled R (cond (not c) (change x) nothing) (normal b x) ≡ normal (cond c b R) x
    by true = refl
    by false = refl
settled-right store R i (added x) flag place r = refl
settled-right store R i (deleted b) flag place r = refl
settled-right store R i (copied s v x) flag place r = refl

rows-equal : {A B : Type 0} (f g : ℕ → A → B) (d : A) (k : ℕ) (l : List A) → ((i : ℕ) → i < length l → f (k + i) (get_or l i d) ≡ g (k + i) (get_or l i d)) → rows f k l ≡ rows g k l
rows-equal f g d k [] e = refl
rows-equal {A} {B} f g d k (a ∷ l) e =
    let p : f k a ≡ g k a = rw add-zero at (e 0 (omega arith)) in
    ap₂ (λ (x : B) (y : List B). x ∷ y) p (rows-equal f g d (suc k) l (λ i h. let s : k + suc i ≡ suc k + i = omega arith in rw s at (e (suc i) (omega arith))))

module _ (store copy : Bytes) (a : Accepted copy) {mask R : ℕ} {changed places : List ℕ} (F : RightFlags store copy mask changed places) where
  -- THE STATEMENT: with right flags what is settled is what the machine commits
  pub settled-committed : R ≡ suc (last (store_history store)) → settled_rows R changed mask (entries_of copy) ≡ committed (store_history store) mask (entries_of copy)
  unfolding HoldsCopy
  settled-committed q =
      let h = store_history store in
      let es = entries_of copy in
      ap (λ (R : ℕ). settled_rows R changed mask es) q
      ∙ rows-equal (at_chosen (settle_at (suc (last h)) changed) mask) (λ i e. cond (chosen mask i) (settled (suc (last h)) (change_for h i e) e) e) empty 0 es
      (λ i g. rw zero-add (same i (chosen mask i) refl (omega (arith, (held copy a).0))))
    where
      same : (i : ℕ) (b : Bool) → chosen mask i ≡ b → i < 32
          → cond b (settled_as (suc (last (store_history store))) (get_or changed i 0) (entry_in copy i)) (entry_in copy i)
          ≡ cond b (settled (suc (last (store_history store))) (change_for (store_history store) i (entry_in copy i)) (entry_in copy i)) (entry_in copy i)
      same i true on g =
          settled-right store (suc (last (store_history store))) i (entry_in copy i) (get_or changed i 0) (get_or places i 0) (F.each i g on)
      same i false off g = refl
