-- Every step keeps what `Kept` says: a sound history, entries that fit it, and the count of used blocks.
-- Assumes nothing.
use Prim.Native.Nat.{◌+◌, ◌-◌, ◌<◌, ◌^◌, ◌≤◌, suc, zero, ℕ}
use mathlib.Core.Bool.{Bool, ◌&&◌, ◌||◌, cond, false, true}
use mathlib.Core.List.{List, [], ◌++◌, ◌∷◌}
use mathlib.Core.Option.{Option, none, some}
use mathlib.Core.Path.{◌∙◌, ◌≡◌, ap, refl, sym}
use native.Mathlib.Omega.{arith}
use borrow.Author.Tests.{eqb-true, ltb-false, not-false}
use lib.Dec.{eqb, leb, ltb}
use lib.ListN.{get_or, get_or-replicate, length, length-append, length-set, replicate, set}
use Rattle.block.specs.Lists.{All}
use Rattle.model.specs.Entry.{Entry, added, change_for, copied, deleted, empty, modified, normal, pending}
use Rattle.model.specs.History.{Bytes, Change, Commit, History, add, change, change_of, copy, delete, is_bytes, last, made, named_after, namer, names, newest, nothing, present, sheet}
use Rattle.model.specs.Invariant.{Base, FitsAt, Kept, Made, Right, Short, Sound}
use Rattle.model.specs.Machine.{Add, Answer, Call, Clears, ClearsCut, Commits, CommitsCut, Copy, Delete, Edit, Log, Move, Panel, Read, Release, Revert, Show, Side, State, Status, Update, agreed, as_in, blocks_for, chosen, commit_changes, committing, copy_of, count, doing, edited, entry, fresh, marking, new_commit, or_else, put, removed, reverted_of, same_namer, settled, side_of, updated_to, with_entries, with_entry, with_tail}
use Rattle.model.specs.Log.{Mark, released}
use Rattle.model.specs.Refusals.{conditions, first_of, no_sheet, out_of_date, too_late}
use Rattle.model.specs.Rows.{rows, some-row, total}
use Rattle.model.specs.Run.{AllValid, Turn, Typed, Valid, run, step, step_by, own_conditions}
use Rattle.laws.proofs.Conditions.{clear, own-none}
use Rattle.laws.proofs.Rows.{and_false, and-nothing, cond-any, cond_same, length-rows, no_row, or_false, replicate-any, rows-any, rows_get, set-any}
use Rattle.laws.proofs.Trees.{Small, Wide, base_grown, has_bytes, same_namer_lem, sheet-made, sheet-zero, small-tree, sound-grown, unnamed}

-- ---- one entry

fits-grown : (h : History) (c : Commit) (i : ℕ) (e : Entry) → FitsAt h i e → FitsAt (h ++ (c ∷ [])) i e
fits-grown h c i empty f = tt
fits-grown h c i (normal b x) f = (base_grown h c f.0, f.1)
fits-grown h c i (added x) f = f
fits-grown h c i (deleted b) f = base_grown h c f
fits-grown h c i (copied s r x) f = (f.0, base_grown h c f.1, f.2)

fits-edited : (h : History) (i : ℕ) (y : Bytes) (e : Entry) → Short y → FitsAt h i e → FitsAt h i (edited y e)
fits-edited h i y empty p f = tt
fits-edited h i y (normal b x) p f = (f.0, p)
fits-edited h i y (added x) p f = p
fits-edited h i y (deleted b) p f = f
fits-edited h i y (copied s r x) p f = (f.0, f.1, p)

fits-removed : (h : History) (i : ℕ) (e : Entry) → FitsAt h i e → FitsAt h i (removed e)
fits-removed h i empty f = tt
fits-removed h i (normal b x) f = f.0
fits-removed h i (added x) f = tt
fits-removed h i (deleted b) f = f
fits-removed h i (copied s r x) f = tt

fits-copy_of : (h : History) (i j : ℕ) (e : Entry) → i ≤ 31 → FitsAt h i e → FitsAt h j (copy_of i e)
fits-copy_of h i j empty p f = tt
fits-copy_of h i j (normal b x) p f = (p, f.0, f.1)
fits-copy_of h i j (added x) p f = f
fits-copy_of h i j (deleted b) p f = tt
fits-copy_of h i j (copied s r x) p f = f

positive : (h : History) (R i : ℕ) → present (sheet h R i) ≡ true → 1 ≤ R
positive h zero i e = let w : ◌≡◌ {A = ℕ} 0 1 = cc (ap present (sheet-zero h i)) in omega arith
positive h (suc R) i e = omega arith

-- tree R's sheet, where R is 0 to last
fits-as_in : (h : History) (R i : ℕ) → Sound h → R ≤ last h → FitsAt h i (as_in R (sheet h R i))
fits-as_in h R i s le = go (sheet h R i) refl (small-tree h R i s le)
  where
    go : (o : Option Bytes) → sheet h R i ≡ o → Small o → FitsAt h i (as_in R o)
    go none e p = tt
    go (some x) e p = (record { low = positive h R i (ap present e); high = le; there = ap present e }, p)

pub fits-reverted : (h : History) (i : ℕ) (e : Entry) → Sound h → FitsAt h i e → FitsAt h i (reverted_of h i e)
fits-reverted h i empty s f = tt
fits-reverted h i (normal b x) s f = fits-as_in h b i s f.0.high
fits-reverted h i (added x) s f = tt
fits-reverted h i (deleted b) s f = fits-as_in h b i s f.high
fits-reverted h i (copied s' r x) s f = tt

-- a base moved to R, where one commit last named the sheet up to either
base_moved : (h : History) (R b i : ℕ) → Sound h → R ≤ last h → Base h b i → same_namer h i R b ≡ true → Base h R i
base_moved h R b i s le B e =
    let t : present (sheet h R i) ≡ true = ap present (same_namer_lem h R b i s le B.high (eqb-true _ _ e)) ∙ B.there in
    record { low = positive h R i t; high = le; there = t }

-- an entry whose bytes tree R has, or else as it was
fits-agreed : (h : History) (R i : ℕ) (x : Bytes) (e : Entry) → R ≤ last h → Short x → FitsAt h i e → FitsAt h i (or_else (agreed R x (sheet h R i)) e)
fits-agreed h R i x e le p f =
    cond-any (λ (o : Option Entry). FitsAt h i (or_else o e)) (is_bytes x (sheet h R i))
    (λ z. let t = ap present (has_bytes x (sheet h R i) z) in (record { low = positive h R i t; high = le; there = t }, p))
    (λ z. f)

pub fits-updated : (h : History) (R i : ℕ) (e : Entry) → Sound h → R ≤ last h → FitsAt h i e → FitsAt h i (or_else (updated_to h R i e) e)
fits-updated h R i empty s le f = fits-as_in h R i s le
fits-updated h R i (normal b x) s le f =
    cond-any (λ (o : Option Entry). FitsAt h i (or_else o (normal b x))) (modified h i b x)
    (λ m. cond-any (λ (o : Option Entry). FitsAt h i (or_else o (normal b x))) (same_namer h i R b) (λ e. (base_moved h R b i s le f.0 e, f.1)) (λ e. fits-agreed h R i x (normal b x) le f.1 f))
    (λ m. fits-as_in h R i s le)
fits-updated h R i (added x) s le f =
    cond-any (λ (o : Option Entry). FitsAt h i (or_else o (added x))) (present (sheet h R i)) (λ e. fits-agreed h R i x (added x) le f f) (λ e. f)
fits-updated h R i (deleted b) s le f = cond-any (λ (o : Option Entry). FitsAt h i (or_else o (deleted b))) (same_namer h i R b) (λ e. base_moved h R b i s le f e) (λ e. f)
fits-updated h R i (copied s' r x) s le f =
    cond-any (λ (o : Option Entry). FitsAt h i (or_else o (copied s' r x))) (present (sheet h R i)) (λ e. fits-agreed h R i x (copied s' r x) le f.2 f) (λ e. f)

still_there : (h : History) (b i : ℕ) → Sound h → Base h b i → named_after h b i ≡ false → present (newest h i) ≡ true
still_there h b i s B e =
    let n : namer h (last h) i ≤ b = ltb-false b (namer h (last h) i) e in
    let l : last h ≤ last h = omega arith in
    ap present (unnamed h b (last h) i s B.high l n) ∙ B.there

-- the change that a fitting entry that isn't out of date stands for is right
right-change : (h : History) (i : ℕ) (e : Entry) → Sound h → FitsAt h i e → out_of_date h i e ≡ false → Right h i (change_for h i e)
right-change h i empty s f n = tt
right-change h i (normal b x) s f n =
    cond-any (Right h i) (modified h i b x) (λ m. (still_there h b i s f.0 (and_false (modified h i b x) _ n m), f.1)) (λ m. tt)
right-change h i (added x) s f n = (n, f)
right-change h i (deleted b) s f n = still_there h b i s f n
right-change h i (copied s' r x) s f n = (n, f.0, f.1, f.2)

-- after the commit that names it, an entry fits
fits-settled : (h : History) (c : Commit) (i : ℕ) (a : Change) (e : Entry) → Sound h → Wide c → change_of c i ≡ a → Right h i a → FitsAt h i e
    → FitsAt (h ++ (c ∷ [])) i (settled (suc (last h)) a e)
fits-settled h c i a e s w q r f = go a q r
  where
    new : (a : Change) → change_of c i ≡ a → present (made a (newest h i)) ≡ true → Base (h ++ (c ∷ [])) (suc (last h)) i
    new a q p =
        let l : last (h ++ (c ∷ [])) ≡ suc (last h) = omega (arith, length-append h (c ∷ [])) in
        record {
          low = omega arith;
          high = omega arith;
          there =
              ap (λ (n : ℕ). present (sheet (h ++ (c ∷ [])) n i)) (sym l)
              ∙ ap present (sheet-made h c i s w)
              ∙ ap (λ (b : Change). present (made b (newest h i))) q ∙ p;
        }

    go : (a : Change) → change_of c i ≡ a → Right h i a → FitsAt (h ++ (c ∷ [])) i (settled (suc (last h)) a e)
    go nothing q r = fits-grown h c i e f
    go (add x) q r = (new (add x) q refl, r.1)
    go (change x) q r = (new (change x) q refl, r.1)
    go delete q r = tt
    go (copy s' r' x) q r = (new (copy s' r' x) q refl, r.3)

-- ---- the side of one seat

-- what a step keeps of a seat's side
pub record KeptSide (d : Side) : Type 0 where
  pub sound : Sound d.history
  pub fits : (i : ℕ) → FitsAt d.history i (entry d i)
  pub wide : length d.entries ≡ 32
  pub used : last d.history < d.used
  pub room : d.used ≤ d.blocks

kept-entries : (d : Side) (es : List Entry) → KeptSide d → length es ≡ length d.entries → ((i : ℕ) → FitsAt d.history i (get_or es i empty)) → KeptSide (with_entries d es)
kept-entries d es K n q = record { sound = K.sound; fits = q; wide = n ∙ K.wide; used = K.used; room = K.room }

pub kept_entry : (d : Side) (i : ℕ) (e : Entry) → KeptSide d → FitsAt d.history i e → KeptSide (with_entry d i e)
kept_entry d i e K f =
    kept-entries d (set d.entries i e) K (length-set d.entries i e)
    (λ j. set-any (FitsAt d.history j) d.entries i j empty (λ z. rw z f) (K.fits j))

kept_move : (d : Side) (i j : ℕ) → KeptSide d → i ≤ 31 → KeptSide (with_entries d (set (set d.entries j (copy_of i (entry d i))) i (removed (entry d i))))
kept_move d i j K le =
    let h : History = d.history in
    let e : Entry = entry d i in
    let f : FitsAt h i e = K.fits i in
    kept-entries d (set (set d.entries j (copy_of i e)) i (removed e)) K (simp length-set)
    (λ k. set-any (FitsAt h k) (set d.entries j (copy_of i e)) i k empty (λ z. rw z (fits-removed h i e f))
    (set-any (FitsAt h k) d.entries j k empty (λ z. rw z (fits-copy_of h i j e le f)) (K.fits k)))

-- each chosen entry is changed by g, the others stay
kept-chosen : (d : Side) (mask : ℕ) (g : ℕ → Entry → Entry) → KeptSide d
    → ((i : ℕ) (e : Entry) → FitsAt d.history i e → FitsAt d.history i (g i e))
    → KeptSide (with_entries d (rows (λ i e. cond (chosen mask i) (g i e) e) 0 d.entries))
kept-chosen d mask g K p =
    kept-entries d (rows (λ i e. cond (chosen mask i) (g i e) e) 0 d.entries) K (length-rows _ 0 d.entries)
    (λ i. rows-any (FitsAt d.history i) (λ i e. cond (chosen mask i) (g i e) e) empty empty d.entries i tt
    (cond-any (FitsAt d.history i) (chosen mask i) (λ z. p i (entry d i) (K.fits i)) (λ z. K.fits i)))

-- some chosen entry is pending: the commit has a change
some-change : (h : History) (mask k : ℕ) (es : List Entry) → some-row (λ i e. chosen mask i && pending h i e) k es ≡ true
    → 1 ≤ total count (rows (λ i e. cond (chosen mask i) (change_for h i e) nothing) k es)
some-change h mask k [] p = let w : ◌≡◌ {A = ℕ} 0 1 = cc in omega arith
some-change h mask k (e ∷ es) p = go (chosen mask k) (change_for h k e) (some-row (λ i e. chosen mask i && pending h i e) (suc k) es) (total count (rows (λ i e. cond (chosen mask i) (change_for h i e) nothing) (suc k) es)) p (λ q. some-change h mask (suc k) es q)
  where
    go : (b : Bool) (a : Change) (t : Bool) (n : ℕ) → ((b && names a) || t) ≡ true → (t ≡ true → 1 ≤ n) → 1 ≤ count (cond b a nothing) + n
    go false a t n p r = omega (arith, r p)
    go true nothing t n p r = omega (arith, r p)
    go true (add x) t n p r = omega arith
    go true (change x) t n p r = omega arith
    go true delete t n p r = omega arith
    go true (copy s r' x) t n p r = omega arith

-- what a commit that no line refuses has
pub record Committable (d : Side) (stamp mask : ℕ) : Type 0 where
  pub pend : some-row (λ i e. chosen mask i && pending d.history i e) 0 d.entries ≡ true
  pub late : some-row (λ i e. chosen mask i && out_of_date d.history i e) 0 d.entries ≡ false
  pub room : d.used + blocks_for d.history (commit_changes d.history mask d.entries) ≤ d.blocks
  pub low : 1 ≤ d.seat
  pub high : d.seat ≤ 4
  pub small : stamp < 2 ^ 32

module _ (d : Side) (stamp mask : ℕ) (K : KeptSide d) (C : Committable d stamp mask) where
  right : (i : ℕ) → chosen mask i ≡ true → Right d.history i (change_for d.history i (entry d i))
  right i z =
      right-change d.history i (entry d i) K.sound (K.fits i)
      (and_false (chosen mask i) _
      (no_row (λ i e. chosen mask i && out_of_date d.history i e) empty (λ i. and-nothing (chosen mask i)) d.entries i C.late) z)

  changed : (i : ℕ) → chosen mask i ≡ true → change_of (new_commit d stamp mask) i ≡ change_for d.history i (entry d i)
  changed i z =
      rows_get (λ i e. cond (chosen mask i) (change_for d.history i e) nothing) empty nothing (λ i. cond_same (chosen mask i) nothing) d.entries i
      ∙ rw z

  -- the machine's commit is right on the history
  pub made-commit : Made d.history (new_commit d stamp mask)
  made-commit = record {
    low = C.low;
    high = C.high;
    stamp = C.small;
    wide = length-rows _ 0 d.entries ∙ K.wide;
    some = some-change d.history mask 0 d.entries C.pend;
    right =
        λ i. rows-any (Right d.history i) (λ i e. cond (chosen mask i) (change_for d.history i e) nothing) empty nothing d.entries i tt
        (cond-any (Right d.history i) (chosen mask i) (right i) (λ z. tt));
  }

  kept-commit : KeptSide (committing d stamp mask)
  kept-commit = record {
    sound = sound-grown d.history (new_commit d stamp mask) K.sound made-commit;
    fits =
        λ i. rows-any (FitsAt (d.history ++ (new_commit d stamp mask ∷ [])) i) (λ i e. cond (chosen mask i) (settled (suc (last d.history)) (change_for d.history i e) e) e) empty empty d.entries i tt
        (cond-any (FitsAt (d.history ++ (new_commit d stamp mask ∷ [])) i) (chosen mask i)
        (λ z. fits-settled d.history (new_commit d stamp mask) i _ (entry d i) K.sound made-commit.wide (changed i z) (right i z) (K.fits i))
        (λ z. fits-grown d.history (new_commit d stamp mask) i (entry d i) (K.fits i)));
    wide = length-rows _ 0 d.entries ∙ K.wide;
    used = omega (arith, K.used, length-append d.history (new_commit d stamp mask ∷ []));
    room = C.room;
  }

-- ---- a call

short-enough : (i : ℕ) (x : Bytes) → (no_sheet i || ltb 480 (length x)) ≡ false → All (λ (y : ℕ). y < 256) x → Short x
short-enough i x e b = record { size = ltb-false 480 (length x) (or_false (no_sheet i) (ltb 480 (length x)) e).1; bytes = b }

pub committable : (d : Side) (stamp mask : ℕ) → first_of (conditions d (Commits stamp mask)) ≡ none → 1 ≤ d.seat → d.seat ≤ 4 → stamp < 2 ^ 32 → Committable d stamp mask
committable d stamp mask e lo hi ty =
    let l = clear (conditions d (Commits stamp mask)) e in
    record {
      pend = not-false _ l.1.0;
      late = l.1.1.0;
      room = ltb-false d.blocks (d.used + blocks_for d.history (commit_changes d.history mask d.entries)) l.1.1.1.0;
      low = lo;
      high = hi;
      small = ty;
    }

-- the tail is nothing to the rest
kept-tail : (d : Side) (t : ℕ) → KeptSide d → KeptSide (with_tail d t)
kept-tail d t K = record { sound = K.sound; fits = K.fits; wide = K.wide; used = K.used; room = K.room }

-- one block more, and no revision
kept-mark : (d : Side) (m : Mark) → d.used + 1 ≤ d.blocks → KeptSide d → KeptSide (marking d m)
kept-mark d m r K = record { sound = K.sound; fits = K.fits; wide = K.wide; used = omega (arith, K.used); room = r }

-- a call that is not refused keeps the side
pub kept-doing : (d : Side) (c : Call) → first_of (conditions d c) ≡ none → 1 ≤ d.seat → d.seat ≤ 4 → Typed c → KeptSide d → KeptSide (doing d c).1
kept-doing d (Add i x) e lo hi ty K = kept_entry d i (added x) K (short-enough i x (clear (conditions d (Add i x)) e).0 ty)
kept-doing d (Edit i x) e lo hi ty K =
    kept_entry d i _ K (fits-edited d.history i x (entry d i) (short-enough i x (clear (conditions d (Edit i x)) e).0 ty) (K.fits i))
kept-doing d (Delete i) e lo hi ty K = kept_entry d i _ K (fits-removed d.history i (entry d i) (K.fits i))
kept-doing d (Copy i j) e lo hi ty K =
    kept_entry d j _ K
    (fits-copy_of d.history i j (entry d i) (ltb-false 31 i (or_false (no_sheet i) (no_sheet j) (clear (conditions d (Copy i j)) e).0).0) (K.fits i))
kept-doing d (Move i j) e lo hi ty K = kept_move d i j K (ltb-false 31 i (or_false (no_sheet i) (no_sheet j) (clear (conditions d (Move i j)) e).0).0)
kept-doing d (Commits stamp mask) e lo hi ty K = kept-commit d stamp mask K (committable d stamp mask e lo hi ty)
kept-doing d (Update mask R) e lo hi ty K =
    let l = clear (conditions d (Update mask R)) e in
    kept-chosen d mask (λ i e. or_else (updated_to d.history R i e) e) K
    (λ i e. fits-updated d.history R i e K.sound (ltb-false (last d.history) R (or_false (eqb mask 0) (too_late d.history R) l.0).1))
kept-doing d (Revert mask) e lo hi ty K = kept-chosen d mask (reverted_of d.history) K (λ i e. fits-reverted d.history i e K.sound)
kept-doing d (Read R i) e lo hi ty K = K
kept-doing d (Show i) e lo hi ty K = K
kept-doing d (Status i) e lo hi ty K = K
kept-doing d (Log R i) e lo hi ty K = K
kept-doing d Clears e lo hi ty K = kept-tail d 0 K
kept-doing d (CommitsCut stamp mask n) e lo hi ty K =
    cond-any (λ (x : Answer × Side). KeptSide x.1) (leb (blocks_for d.history (commit_changes d.history mask d.entries)) n)
    (λ t. kept-commit d stamp mask K (committable d stamp mask e lo hi ty)) (λ t. kept-tail d n K)
kept-doing d (ClearsCut n) e lo hi ty K = cond-any (λ (x : Answer × Side). KeptSide x.1) (leb d.tail n) (λ t. kept-tail d 0 K) (λ t. kept-tail d (d.tail - n) K)
kept-doing d (Release R seat stamp) e lo hi ty K = kept-mark d (released R seat stamp) (ltb-false d.blocks (d.used + 1) (clear (conditions d (Release R seat stamp)) e).1.1.0) K
kept-doing d (Panel R i) e lo hi ty K = K

-- a call leaves the block count, and leaves the history or lengthens it by the commit that it asks for
pub fits_still : (d : Side) (c : Call) → first_of (conditions d c) ≡ none → (i : ℕ) (e : Entry) → FitsAt d.history i e → FitsAt (doing d c).1.history i e
fits_still d (Add i x) n j e f = f
fits_still d (Edit i x) n j e f = f
fits_still d (Delete i) n j e f = f
fits_still d (Copy i k) n j e f = f
fits_still d (Move i k) n j e f = f
fits_still d (Commits stamp mask) n j e f = fits-grown d.history (new_commit d stamp mask) j e f
fits_still d (Update mask R) n j e f = f
fits_still d (Revert mask) n j e f = f
fits_still d (Read R i) n j e f = f
fits_still d (Show i) n j e f = f
fits_still d (Status i) n j e f = f
fits_still d (Log R i) n j e f = f
fits_still d Clears n j e f = f
fits_still d (CommitsCut stamp mask m) n j e f =
    cond-any (λ (x : Answer × Side). FitsAt x.1.history j e) (leb (blocks_for d.history (commit_changes d.history mask d.entries)) m)
    (λ t. fits-grown d.history (new_commit d stamp mask) j e f) (λ t. f)
fits_still d (ClearsCut m) n j e f = cond-any (λ (x : Answer × Side). FitsAt x.1.history j e) (leb d.tail m) (λ t. f) (λ t. f)
fits_still d (Release R seat stamp) n j e f = f
fits_still d (Panel R i) n j e f = f

-- ---- a step, and a list of calls

pub kept_side : (s : State) (k : ℕ) → Kept s → 1 ≤ k → k ≤ 4 → KeptSide (side_of s k)
kept_side s k K lo hi = record { sound = K.sound; fits = K.fits (k - 1); wide = K.wide (k - 1) (omega arith); used = K.used; room = K.room }

kept_put : (s : State) (k : ℕ) (d : Side) → Kept s → KeptSide d → ((i : ℕ) (e : Entry) → FitsAt s.history i e → FitsAt d.history i e) → Kept (put s k d)
kept_put s k d K D still = record {
  sound = D.sound;
  fits =
      λ j. set-any (λ (l : List Entry). (i : ℕ) → FitsAt d.history i (get_or l i empty)) s.seats (k - 1) j []
      (λ z i. D.fits i) (λ i. still i (get_or (get_or s.seats j []) i empty) (K.fits j i));
  four = length-set s.seats (k - 1) d.entries ∙ K.four;
  wide = λ j lt. set-any (λ (l : List Entry). length l ≡ 32) s.seats (k - 1) j [] (λ z. D.wide) (K.wide j lt);
  used = D.used;
  room = D.room;
}

kept_by : (o : Option ℕ) (s : State) (k : ℕ) (c : Call) → first_of (own_conditions (side_of s k) c) ≡ o → 1 ≤ k → k ≤ 4 → Typed c → Kept s → Kept (step_by o s k c).1
kept_by (some n) s k c e lo hi ty K = K
kept_by none s k c e lo hi ty K =
    let q = (own-none (side_of s k) c e).0 in
    kept_put s k (doing (side_of s k) c).1 K (kept-doing (side_of s k) c q lo hi ty (kept_side s k K lo hi)) (fits_still (side_of s k) c q)

pub kept_step : (s : State) (t : Turn) → Valid t → Kept s → Kept (step s t.by t.call).1
kept_step s t v K = kept_by (first_of (own_conditions (side_of s t.by) t.call)) s t.by t.call refl v.low v.high v.typed K

pub kept_run : (s : State) (ts : List Turn) → AllValid ts → Kept s → Kept (run s ts)
kept_run s [] v K = K
kept_run s (t ∷ ts) v K = kept_run (step s t.by t.call).1 ts v.1 (kept_step s t v.0 K)

pub kept_fresh : (N : ℕ) → 1 ≤ N → Kept (fresh N)
kept_fresh N le = record {
  sound = λ r lt. absurd (omega arith);
  fits =
      λ k. replicate-any (λ (l : List Entry). (i : ℕ) → FitsAt [] i (get_or l i empty)) 4 k (replicate 32 empty) []
      (λ i. replicate-any (FitsAt [] i) 32 i empty empty tt tt) (λ i. tt);
  four = refl;
  wide = λ k lt. ap length (get_or-replicate 4 k (replicate 32 empty) [] lt);
  used = omega arith;
  room = le;
}

pub kept : (N : ℕ) (ts : List Turn) → 1 ≤ N → AllValid ts → Kept (run (fresh N) ts)
kept N ts le v = kept_run (fresh N) ts v (kept_fresh N le)
