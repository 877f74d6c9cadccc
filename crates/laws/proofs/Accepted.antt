-- Buffers that no line from 1 to 6 refuses: they are a side of the machine, and every call leaves them so, the copies of the other seats too.
-- Assumes nothing.
use Prim.Native.Nat.{◌+◌, ◌<◌, ◌≤◌, suc, ℕ}
use mathlib.Core.Bool.{Bool, ◌&&◌, false, not, true}
use mathlib.Core.List.{◌++◌, List, [], map}
use mathlib.Core.Option.{Option, none, some}
use mathlib.Core.Path.{◌∙◌, ◌≡◌, ap, refl, subst, sym}
use native.Mathlib.Omega.{arith}
use borrow.Author.Tests.{eqb-true, leb-true, not-false, not-true}
use lib.Dec.{eqb, leb}
use lib.ListN.{get_or-map, get_or, length, length-append, length-set, set}
use Rattle.block.specs.Lists.{All}
use Rattle.model.specs.Blocks.{Block}
use Rattle.model.specs.Calls.{Buffers, both_conditions, call, copy_conditions, side_in, store_conditions}
use Rattle.model.specs.Entry.{Entry, added, copied, deleted, empty, normal}
use Rattle.model.specs.Fitting.{fits_entry, fits_store, has}
use Rattle.model.specs.History.{Bytes, History, last, present, sheet}
use Rattle.model.specs.Invariant.{Base, FitsAt}
use Rattle.model.specs.Machine.{Call, Side}
use Rattle.model.specs.Refusals.{Clear, conditions, first_of, tail_conditions}
use Rattle.model.specs.Rows.{some-row}
use Rattle.model.specs.Run.{Typed, own_conditions, side_by, side_step}
use Rattle.model.specs.Shows.{Accepted, AllAccepted, Seen}
use Rattle.model.specs.Store.{Holds, bare_of, blanks, block_count, front, store_blocks, store_history}
use Rattle.model.specs.WorkCopy.{FitsCopyBlock, HoldsCopy, copy_ok, entries_of, entry_block, seat_of}
use Rattle.laws.proofs.Accepting.{accepted-sound}
use Rattle.laws.proofs.All.{All-get_or}
use Rattle.laws.proofs.Conditions.{clear, clear_split, none-holds, own-none, sized_so}
use Rattle.laws.proofs.Invariant.{KeptSide, fits_still, kept-doing}
use Rattle.laws.proofs.Rows.{is_t, no_row, set-any}
use Rattle.laws.proofs.Steps.{copy-clear, same-seat, side_one, store-clear}
use Rattle.laws.proofs.Store.{taken-holds, taken_tailed}
use Rattle.laws.proofs.WorkCopy.{copy_holds, holds-copy}
use Rattle.laws.proofs.Writing.{front-blanks, holds-blocks}

pub both : (a b : Bool) → (a && b) ≡ true → (a ≡ true) × (b ≡ true)
both true b e = (refl, e)
both false b e = (e, cc)

-- ---- a copy that fits

base_of : (h : History) (b i : ℕ) → 1 ≤ b → has h b i ≡ true → Base h b i
base_of h b i lo e = let p = both (leb b (last h)) (present (sheet h b i)) e in record { low = lo; high = leb-true b (last h) p.0; there = p.1 }

fits_of : (h : History) (i : ℕ) (e : Entry) → fits_entry h i e ≡ true → FitsCopyBlock (entry_block e) → FitsAt h i e
fits_of h i empty t f = tt
fits_of h i (normal b x) t f = (base_of h b i f.0.0 t, record { size = f.1.0; bytes = f.1.1 })
fits_of h i (added x) t f = record { size = f.0; bytes = f.1 }
fits_of h i (deleted b) t f = base_of h b i f.0 t
fits_of h i (copied s r x) t f = (f.0, base_of h r s f.1.0 t, record { size = f.2.0; bytes = f.2.1 })

fits_each : (h : History) (es : List Entry) → fits_store h es ≡ true → All FitsCopyBlock (map entry_block es) → (i : ℕ) → FitsAt h i (get_or es i empty)
fits_each h es t a i =
    let n : some-row (λ i e. not (fits_entry h i e)) 0 es ≡ false = not-true (some-row (λ i e. not (fits_entry h i e)) 0 es) t in
    fits_of h i (get_or es i empty) (not-false (fits_entry h i (get_or es i empty)) (no_row (λ i e. not (fits_entry h i e)) empty (λ i. refl) es i n))
    (subst FitsCopyBlock (get_or-map entry_block es i empty) (All-get_or FitsCopyBlock (map entry_block es) i (entry_block empty) a tt))

module _ (store copy : Bytes) (A : Accepted store copy) where
  abbrev d : Side
  d = side_in store copy

  copy_lines_lem : Clear (copy_conditions store copy)
  copy_lines_lem = clear (copy_conditions store copy) A.copy_taken

  holds : Holds (block_count store) (bare_of store) (store_history store)
  holds = taken-holds store A.store_taken

  holds_mine : HoldsCopy copy (seat_of copy) (entries_of copy)
  holds_mine = copy_holds copy (eqb-true (length copy) 16_896 (not-false (eqb (length copy) 16_896) copy_lines_lem.0)) (is_t (copy_ok copy) copy_lines_lem.1.0)

  pub seats : (1 ≤ seat_of copy) × (seat_of copy ≤ 4)
  unfolding HoldsCopy
  seats = holds_mine.1

  pub accepted_seen : Seen (block_count store) store copy d
  accepted_seen =
      let q = sized_so store (clear (store_conditions store) A.store_taken).0 in
      record {
        few = q.1;
        many = q.2;
        blocks = refl;
        stored = taken_tailed store A.store_taken;
        marked = refl;
        copied = holds_mine;
      }

  pub accepted-kept : KeptSide d
  unfolding HoldsCopy
  accepted-kept =
      let B = holds-blocks (block_count store) (bare_of store) (store_history store) holds in
      let bs : List Block = store_blocks store in
      let r = accepted-sound bs (store_history store) B.fit B.lays in
      let l : length (front bs) + length (blanks bs) ≡ length bs = sym (length-append (front bs) (blanks bs)) ∙ ap length (front-blanks bs) in
      record {
        sound = r.0;
        fits = fits_each (store_history store) (entries_of copy) (not-false (fits_store (store_history store) (entries_of copy)) copy_lines_lem.1.1.0) holds_mine.2;
        wide = holds_mine.0;
        used = r.1;
        room = omega (arith, l, B.count);
      }

  kept_by : (o : Option ℕ) (c : Call) → first_of (own_conditions d c) ≡ o → Typed c → KeptSide (side_by o d c).1
  kept_by (some n) c e ty = accepted-kept
  kept_by none c e ty = kept-doing d c (own-none d c e).0 seats.0 seats.1 ty accepted-kept

  still_by : (o : Option ℕ) (c : Call) → (side_by o d c).1.seat ≡ d.seat
  still_by (some n) c = refl
  still_by none c = (same-seat d c).0

  fits_by : (o : Option ℕ) (c : Call) → first_of (own_conditions d c) ≡ o → (i : ℕ) (e : Entry) → FitsAt d.history i e → FitsAt (side_by o d c).1.history i e
  fits_by (some n) c q i e f = f
  fits_by none c q i e f = fits_still d c (own-none d c q).0 i e f

  -- THE STATEMENT: on accepted buffers a call answers as the machine does on what they hold, and leaves what the machine leaves
  pub accepted-call : (c : Call) → Typed c → ((call store copy c).says ≡ (side_step d c).0) × Seen (block_count store) (call store copy c).store (call store copy c).copy (side_step d c).1
  accepted-call c ty = side_one (block_count store) store copy d accepted_seen accepted-kept seats.0 seats.1 c ty

  -- and they are accepted again
  pub stays-accepted : (c : Call) → Typed c → Accepted (call store copy c).store (call store copy c).copy
  stays-accepted c ty =
      let o : Option ℕ = first_of (own_conditions d c) in
      let r = accepted-call c ty in
      let k : KeptSide (side_by o d c).1 = kept_by o c refl ty in
      let s : (side_by o d c).1.seat ≡ d.seat = still_by o c in
      let lo : 1 ≤ (side_by o d c).1.seat = omega (arith, s, seats.0) in
      let hi : (side_by o d c).1.seat ≤ 4 = omega (arith, s, seats.1) in
      record {
        store_taken = none-holds (store_conditions (call store copy c).store) (store-clear (block_count store) (call store copy c).store (call store copy c).copy (side_by o d c).1 r.1 k lo hi);
        copy_taken = none-holds (copy_conditions (call store copy c).store (call store copy c).copy) (copy-clear (block_count store) (call store copy c).store (call store copy c).copy (side_by o d c).1 r.1 k lo hi);
      }

  -- the copy is its seat's
  seat-stays : (c : Call) → Typed c → seat_of (call store copy c).copy ≡ seat_of copy
  seat-stays c ty =
      let o : Option ℕ = first_of (own_conditions d c) in
      (holds-copy (call store copy c).copy (side_by o d c).1.seat (side_by o d c).1.entries (accepted-call c ty).1.copied).2 ∙ still_by o c

-- and so are the copies of the other seats, with the store as the call left it
pub others-accepted : (store copy other : Bytes) → Accepted store copy → Accepted store other → (c : Call) → Typed c → Accepted (call store copy c).store other
others-accepted store copy other A B c ty =
    let d : Side = side_in store copy in
    let o : Option ℕ = first_of (own_conditions d c) in
    let r = accepted-call store copy A c ty in
    let k : KeptSide (side_by o d c).1 = kept_by store copy A o c refl ty in
    let x : Side = record {
      seat = seat_of other;
      blocks = (side_by o d c).1.blocks;
      used = (side_by o d c).1.used;
      tail = (side_by o d c).1.tail;
      history = (side_by o d c).1.history;
      marks = (side_by o d c).1.marks;
      entries = entries_of other;
    } in
    let V' : Seen (block_count store) (call store copy c).store other x =
    record { few = r.1.few; many = r.1.many; blocks = r.1.blocks; stored = r.1.stored; marked = r.1.marked; copied = holds_mine store other B } in
    let K' : KeptSide x = record {
      sound = k.sound;
      fits = λ i. fits_by store copy A o c refl i (get_or (entries_of other) i empty) ((accepted-kept store other B).fits i);
      wide = (accepted-kept store other B).wide;
      used = k.used;
      room = k.room;
    } in
    record {
      store_taken = none-holds (store_conditions (call store copy c).store) (store-clear (block_count store) (call store copy c).store other x V' K' (seats store other B).0 (seats store other B).1);
      copy_taken = none-holds (copy_conditions (call store copy c).store other) (copy-clear (block_count store) (call store copy c).store other x V' K' (seats store other B).0 (seats store other B).1);
    }

-- a call leaves the four copies accepted
pub turn-accepted : (b : Buffers) → AllAccepted b → (k : ℕ) → k < 4 → (c : Call) → Typed c
    → AllAccepted (record { store = (call b.store (get_or b.copies k []) c).store; copies = set b.copies k (call b.store (get_or b.copies k []) c).copy })
turn-accepted b A k low c ty =
    let s : Bytes = b.store in
    let x : Bytes = get_or b.copies k [] in
    record {
      four = length-set b.copies k (call s x c).copy ∙ A.four;
      each = λ j l.
          set-any (Accepted (call s x c).store) b.copies k j [] (λ z. stays-accepted s x (A.each k low) c ty)
          (others-accepted s x (get_or b.copies j []) (A.each k low) (A.each j l) c ty);
      seats = λ j l. set-any (λ (y : Bytes). seat_of y ≡ suc j) b.copies k j [] (λ z. seat-stays s x (A.each k low) c ty ∙ A.seats k low ∙ ap suc (sym z)) (A.seats j l);
    }

-- where no line of a call holds, its buffers are accepted
pub clear-accepted : (store copy : Bytes) (c : Call) → Clear (both_conditions store copy c)
    → Accepted store copy × Clear (tail_conditions (side_in store copy) c) × Clear (conditions (side_in store copy) c)
clear-accepted store copy c h =
    let d : Side = side_in store copy in
    let p = clear_split (store_conditions store) (tail_conditions d c ++ (copy_conditions store copy ++ conditions d c)) h in
    let w = clear_split (tail_conditions d c) (copy_conditions store copy ++ conditions d c) p.1 in
    let q = clear_split (copy_conditions store copy) (conditions d c) w.1 in
    (record { store_taken = none-holds (store_conditions store) p.0; copy_taken = none-holds (copy_conditions store copy) q.0 }, w.0, q.1)
