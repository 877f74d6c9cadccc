-- What revert and update put in an entry's place, one law for each way through their code.
-- Assumes nothing.
use Prim.Native.Nat.{◌*◌, ◌+◌, ◌-◌, ◌<◌, ◌≤◌, ℕ}
use mathlib.Core.Logic.{inl, inr}
use mathlib.Core.Option.{Option}
use mathlib.Core.Path.{◌∙◌, ◌≡◌, ap, refl, subst, sym}
use native.Mathlib.Omega.{arith}
use lib.ListN.{drop, length, set, take}
use Rattle.block.proofs.Says.{eq_or}
use Rattle.block.specs.Buffer.{block_at}
use Rattle.model.specs.Blocks.{bytes_at}
use Rattle.model.specs.Entry.{Entry, deleted, normal}
use Rattle.model.specs.History.{Bytes, History, present, sheet}
use Rattle.model.specs.Invariant.{Base, FitsAt}
use Rattle.model.specs.Machine.{as_in, or_else, reverted_of}
use Rattle.model.specs.Store.{block_count, store_blocks, store_history, used_of}
use Rattle.model.specs.Types.{entry_as}
use Rattle.model.specs.WorkCopy.{FitsCopyBlock, copy_bytes, entries_of, entry_block, seat_of}
use Rattle.model.specs.declared.Entry.{Entry as TheEntry}
use Rattle.model.specs.declared.Span.{Span}
use Rattle.model.specs.declared.State.{State}
use Rattle.model.specs.declared.State.TheVariants.{Added, Copied, Deleted, Empty, Normal}
use Rattle.laws.proofs.Invariant.{fits-reverted, fits-updated}
use Rattle.laws.proofs.Places.{taken-held}
use Rattle.laws.proofs.Used.{own_room}
use Rattle.entries.proofs.Looking.{found_none, found_some, found-used}
use Rattle.entries.proofs.States.{as_read}
use Rattle.entries.specs.View.{Fitting, Stands, UpdateIs, entry_in, rebased, updated_as}
use Rattle.entries.specs.declared.Update.{Update}
use Rattle.entries.specs.declared.Update.TheVariants.{Conflict, Rebase, Stay, Take}
use Rattle.entries.specs.declared.View.{View}
use Rattle.search.proofs.Finding.{block_span}
use Rattle.search.specs.Find.{Spanned, found_in}
use Rattle.search.specs.declared.Found.{Found}
use Rattle.updates.proofs.Keeping.{fits_limits, kept}
use Rattle.updates.specs.Inner.{Takable, rebased_state, updated_of}
use Rattle.workcopy.proofs.Entries.{same-entry}
use Rattle.workcopy.specs.Copy.{Carries, PutOk, Reading, bytes_in}

-- ---- a block of the store

pub block-there : {store copy : Bytes} {k r p : ℕ} → Takable store copy k r p → p < block_count store
block-there {store} T = omega (arith, T.block, own_room store T.clear)

module _ {store copy : Bytes} {k r p : ℕ} (T : Takable store copy k r p) {x : Span} (s : Spanned store p x) where
  -- its bytes stand in the store
  span_is : x ≡ record { start = 512 * p + 16; len = length (bytes_at (store_blocks store) p) }
  span_is = s.is ∙ block_span store (block_count store) (used_of store) (record { clear = T.clear; count = refl; in_use = refl }) p T.block

  taken-bytes : take (x.start + x.len - x.start) (drop x.start store) ≡ bytes_at (store_blocks store) p
  taken-bytes =
      let n : x.start + x.len - x.start ≡ x.len = omega arith in
      ap (λ (n : ℕ). take n (drop x.start store)) n
      ∙ ap (λ (x : Span). take x.len (drop x.start store)) span_is
      ∙ taken-held store T.clear p T.block

  pub take-leaves : {t : Bytes} → t ≡ copy_bytes (seat_of copy) (set (entries_of copy) k (normal r (take (x.start + x.len - x.start) (drop x.start store))))
      → t ≡ copy_bytes (seat_of copy) (set (entries_of copy) k (normal r (bytes_at (store_blocks store) p)))
  take-leaves w = w ∙ ap (λ (b : Bytes). copy_bytes (seat_of copy) (set (entries_of copy) k (normal r b))) taken-bytes

  pub take_put : PutOk copy k (record { state = Normal r; len = x.len }) (take (x.start + x.len - x.start) (drop x.start store))
  take_put = record {
    copy = T.accepted;
    inside = T.inside;
    fit = record {
      whole = ap length taken-bytes ∙ sym (ap (λ (x : Span). x.len) span_is);
      carries = tt;
      fits = subst (λ (b : Bytes). FitsCopyBlock (entry_block (normal r b))) (sym taken-bytes) T.fits;
    };
  }

module _ {store copy : Bytes} {v : View} (F : Fitting store copy v) where
  abbrev h : History
  h = store_history store

  abbrev put : ℕ → Entry → Bytes
  put k e = copy_bytes (seat_of copy) (set (entries_of copy) k e)

  takable : {k r p : ℕ} → k < 32 → p < used_of store → FitsAt h k (normal r (bytes_at (store_blocks store) p)) → Takable store copy k r p
  takable {k} {r} {p} g n f = record {
    clear = F.viewed.opened.accepted.clear;
    accepted = F.viewed.accepted;
    inside = g;
    block = n;
    fits = fits_limits store copy v F k (normal r (bytes_at (store_blocks store) p)) f;
  }

  -- ---- revert

  pub revert_keeps : (k : ℕ) → FitsAt h k (reverted_of h k (entry_in copy k))
  revert_keeps k = fits-reverted h k (entry_in copy k) (kept store copy v F).sound ((kept store copy v F).fits k)

  -- the block that was found for the sheet of a base
  module _ {b k : ℕ} (B : Base h b k) {f : Found} (e : f ≡ found_in store b k) where
    near : b ≤ v.last
    near = omega (arith, B.high, F.viewed.opened.last)

    base_taken : as_in b (sheet h b k) ≡ normal b (bytes_at (store_blocks store) f.block)
    base_taken =
        elim (eq_or f.block 0) [
          | inl z ↦
              let q = ap present (found_none store v F.viewed.opened b k near e z) in
              let w : ◌≡◌ {A = ℕ} 0 1 = cc (q, B.there) in
              absurd (omega arith)
          | inr n ↦ ap (as_in b) (found_some store v F.viewed.opened b k near e n)
        ]

    pub sheet_takable : k < 32 → Takable store copy k b f.block
    sheet_takable g =
        takable g (found-used store v F.viewed.opened b k near e) (subst (FitsAt h k) base_taken (fits-reverted h k (deleted b) (kept store copy v F).sound B))

    pub sheet-taken : {t : Bytes} → t ≡ put k (normal b (bytes_at (store_blocks store) f.block)) → t ≡ put k (as_in b (sheet h b k))
    sheet-taken w = w ∙ ap (put k) (sym base_taken)

  module _ {k : ℕ} {e : TheEntry} (r : Reading copy k e) where
    pub normal_base : {b : ℕ} → e.state ≡ Normal b → Base h b k
    normal_base q = (subst (FitsAt h k) (as_read r q) ((kept store copy v F).fits k)).0

    pub deleted_base : {b : ℕ} → e.state ≡ Deleted b → Base h b k
    deleted_base q = subst (FitsAt h k) (as_read r q) ((kept store copy v F).fits k)

    pub revert_stays : e.state ≡ Empty → copy ≡ put k (reverted_of h k (entry_in copy k))
    revert_stays q = same-entry copy F.viewed.accepted k (ap (reverted_of h k) (as_read r q) ∙ sym (as_read r q))

  -- ---- update

  pub update_keeps : (k R : ℕ) → R ≤ v.last → FitsAt h k (updated_of h R k (entry_in copy k))
  update_keeps k R le = fits-updated h R k (entry_in copy k) (kept store copy v F).sound (omega (arith, F.viewed.opened.last)) ((kept store copy v F).fits k)

  module _ {k R : ℕ} {u : Update} (U : UpdateIs store copy R k u) where
    left : {w : Update} → u ≡ w → or_else (updated_as w store R (entry_in copy k)) (entry_in copy k) ≡ updated_of h R k (entry_in copy k)
    left q =
        ap (λ (w : Update). or_else (updated_as w store R (entry_in copy k)) (entry_in copy k)) (sym q)
        ∙ ap (λ (o : Option Entry). or_else o (entry_in copy k)) U.means

    pub update_conflict : u ≡ Conflict → copy ≡ put k (updated_of h R k (entry_in copy k))
    update_conflict q = same-entry copy F.viewed.accepted k (sym (left q))

    pub update_stays : u ≡ Stay → copy ≡ put k (updated_of h R k (entry_in copy k))
    update_stays q = same-entry copy F.viewed.accepted k (sym (left q))

    pub update_takable : {p : ℕ} → R ≤ v.last → k < 32 → u ≡ Take p → Takable store copy k R p
    update_takable le g q = takable g (subst (Stands store) q U.stands) (subst (FitsAt h k) (sym (left q)) (update_keeps k R le))

    module _ (q : u ≡ Rebase) {e : TheEntry} (r : Reading copy k e) {s : State} (z : s ≡ rebased_state R e.state) where
      abbrev own : Bytes
      own = bytes_in e (block_at copy (k + 1))

      rebase_is : entry_as s own ≡ updated_of h R k (entry_in copy k)
      rebase_is = ap (λ (s : State). entry_as s own) z ∙ rebased_as e.state own ∙ ap (rebased R) r.means ∙ left q
        where
          rebased_as : (s : State) (x : Bytes) → entry_as (rebased_state R s) x ≡ rebased R (entry_as s x)
          rebased_as Empty x = refl
          rebased_as (Normal b) x = refl
          rebased_as Added x = refl
          rebased_as (Deleted b) x = refl
          rebased_as (Copied s) x = refl

      pub rebase_put : R ≤ v.last → k < 32 → PutOk copy k (record { state = s; len = e.len }) own
      rebase_put le g = record {
        copy = F.viewed.accepted;
        inside = g;
        fit = record {
          whole = r.whole;
          carries = subst (λ (s : State). Carries s e.len) (sym z) (carried e.state e.len r.carries);
          fits = fits_limits store copy v F k (entry_as s own) (subst (FitsAt h k) (sym rebase_is) (update_keeps k R le));
        };
      }
        where
          carried : (s : State) (n : ℕ) → Carries s n → Carries (rebased_state R s) n
          carried Empty n c = c
          carried (Normal b) n c = c
          carried Added n c = c
          carried (Deleted b) n c = c
          carried (Copied s) n c = c
