-- An accepted copy beside its entries: what stands in a block, and another entry in its place.
-- Assumes nothing.
use Prim.Native.Nat.{◌+◌, ◌<◌, ◌≤◌, suc, zero, ℕ}
use mathlib.Core.Bool.{Bool, cond, false, true}
use mathlib.Core.List.{List, [], ◌∷◌, map}
use mathlib.Core.Path.{◌∙◌, ◌≡◌, ap, refl, subst, sym}
use native.Mathlib.Numerals.{add-one}
use native.Mathlib.Omega.{arith}
use lib.Dec.{eqb}
use lib.ListN.{get_or-map, drop, get_or, length, length-drop, length-map, length-set, set, take}
use lib.Seq.{length-take-le, set-get_or}
use Rattle.block.specs.Buffer.{block_at, with_block}
use Rattle.block.specs.Field.{two_at}
use Rattle.model.specs.Codec.{encode, padded}
use Rattle.model.specs.Entry.{Entry, added, copied, deleted, empty, normal}
use Rattle.model.specs.Types.{entry_as, entry_of}
use Rattle.model.specs.WorkCopy.{CopyBlock, FitsCopyBlock, HoldsCopy, copy_bytes, copy_fields, entries_of, entry_block, fits_copy_block, parse_copy_block, parse_entry, seat_block, seat_of}
use Rattle.model.specs.declared.Entry.{Entry as TheEntry}
use Rattle.model.specs.declared.State.{State}
use Rattle.model.specs.declared.State.TheVariants.{Added, Copied, Deleted, Empty, Normal}
use Rattle.laws.proofs.All.{All-get_or, All-set}
use Rattle.laws.proofs.Codec.{length-encode, so_passes, two_back}
use Rattle.laws.proofs.EntryCodes.{copy_coded}
use Rattle.laws.proofs.Parts.{joined_at, joined-set}
use Rattle.laws.proofs.WorkCopy.{copy_holds, holds-copy}
use Rattle.workcopy.proofs.Accepting.{entry_first}
use Rattle.workcopy.proofs.Scan.{parse_entry_lem}
use Rattle.workcopy.specs.Copy.{Accepted, Carries, Reading, bytes_in, read_entry}

map-set : (es : List Entry) (i : ℕ) (e : Entry) → map entry_block (set es i e) ≡ set (map entry_block es) i (entry_block e)
map-set [] i e = refl
map-set (x ∷ es) zero e = refl
map-set (x ∷ es) (suc i) e = ap (λ (l : List CopyBlock). entry_block x ∷ l) (map-set es i e)

module _ (l : List ℕ) (a : Accepted l) where
  pub held : HoldsCopy l (seat_of l) (entries_of l)
  held = copy_holds l a.size a.ok

  -- the copy is that of its entries, also with one of them put again
  pub same_copy : l ≡ copy_bytes (seat_of l) (entries_of l)
  same_copy = sym (holds-copy l (seat_of l) (entries_of l) held).4

  pub same-entry : (k : ℕ) {e : Entry} → e ≡ get_or (entries_of l) k empty → l ≡ copy_bytes (seat_of l) (set (entries_of l) k e)
  same-entry k e = same_copy ∙ ap (copy_bytes (seat_of l)) (sym (ap (set (entries_of l) k) e ∙ set-get_or (entries_of l) k empty))

  module _ (i : ℕ) (h : i < 32) where
    -- block 1 + i is that of entry i, which is within the limits
    pub block_is : block_at l (i + 1) ≡ encode copy_fields (entry_block (get_or (entries_of l) i empty))
    unfolding HoldsCopy
    block_is =
        let es = entries_of l in
        let n : length (map entry_block es) ≡ 32 = length-map es entry_block ∙ held.0 in
        let g : get_or (map entry_block es) i (entry_block empty) ≡ entry_block (get_or es i empty) = get_or-map entry_block es i empty in
        ap (λ (x : List ℕ). block_at x (i + 1)) (sym held.3)
        ∙ rw (add-one i) (joined_at copy_fields (seat_block (seat_of l) ∷ map entry_block es) (suc i) (entry_block empty) (omega arith) ∙ ap (encode copy_fields) g)

    pub entry-fits : FitsCopyBlock (entry_block (get_or (entries_of l) i empty))
    unfolding HoldsCopy
    entry-fits =
        subst FitsCopyBlock (get_or-map entry_block (entries_of l) i empty)
        (All-get_or FitsCopyBlock (map entry_block (entries_of l)) i (entry_block empty) held.2 tt)

    -- THE STATEMENT: with the bytes of e in block 1 + i the copy is that of the entries with e at i
    pub put_is : (e : Entry) → with_block l (i + 1) (encode copy_fields (entry_block e)) ≡ copy_bytes (seat_of l) (set (entries_of l) i e)
    unfolding HoldsCopy copy_bytes
    put_is e =
        let es = entries_of l in
        let n : length (map entry_block es) ≡ 32 = length-map es entry_block ∙ held.0 in
        ap (λ (x : List ℕ). with_block x (i + 1) (encode copy_fields (entry_block e))) (sym held.3)
        ∙ rw (add-one i, map-set es i e) (joined-set copy_fields (seat_block (seat_of l) ∷ map entry_block es) (suc i) (entry_block e) (omega arith))

  -- and that copy is accepted, with these entries
  module _ (i : ℕ) (e : Entry) (f : FitsCopyBlock (entry_block e)) where
    put_holds : HoldsCopy (copy_bytes (seat_of l) (set (entries_of l) i e)) (seat_of l) (set (entries_of l) i e)
    unfolding HoldsCopy copy_bytes
    put_holds =
        let es = entries_of l in
        (length-set es i e ∙ held.0, held.1, rw (map-set es i e) (All-set FitsCopyBlock (map entry_block es) i (entry_block e) held.2 f), refl)

    pub put-accepted : Accepted (copy_bytes (seat_of l) (set (entries_of l) i e))
    put-accepted = let q = holds-copy (copy_bytes (seat_of l) (set (entries_of l) i e)) (seat_of l) (set (entries_of l) i e) put_holds in record { size = q.0; ok = q.1 }

    pub put-seat : seat_of (copy_bytes (seat_of l) (set (entries_of l) i e)) ≡ seat_of l
    put-seat = (holds-copy (copy_bytes (seat_of l) (set (entries_of l) i e)) (seat_of l) (set (entries_of l) i e) put_holds).2

    pub put_entries : entries_of (copy_bytes (seat_of l) (set (entries_of l) i e)) ≡ set (entries_of l) i e
    put_entries = (holds-copy (copy_bytes (seat_of l) (set (entries_of l) i e)) (seat_of l) (set (entries_of l) i e) put_holds).3

-- ---- an entry that is read

through : {A B : Type 0} (f : A → B) (b : Bool) (x y : A) → f (cond b x y) ≡ cond b (f x) (f y)
through f true x y = refl
through f false x y = refl

-- what the code reads from a block means, with the block's bytes, what the block would be
read_means : (p : List ℕ) → entry_of (read_entry p) (bytes_in (read_entry p) p) ≡ parse_entry (get_or p 1 0) p
unfolding read_entry
read_means p =
    let c = get_or p 1 0 in
    let m : State → Entry = λ s. entry_as s (take (two_at p 2) (drop 16 p)) in
    let last : State = Copied (record { sheet = get_or p 6 0; revision = two_at p 8 }) in
    through m (eqb c 0) Empty (cond (eqb c 1) (Normal (two_at p 4)) (cond (eqb c 2) Added (cond (eqb c 3) (Deleted (two_at p 4)) last)))
    ∙ ap (cond (eqb c 0) empty) (through m (eqb c 1) (Normal (two_at p 4)) (cond (eqb c 2) Added (cond (eqb c 3) (Deleted (two_at p 4)) last))
    ∙ ap (cond (eqb c 1) (m (Normal (two_at p 4)))) (through m (eqb c 2) Added (cond (eqb c 3) (Deleted (two_at p 4)) last)
    ∙ ap (cond (eqb c 2) (m Added)) (through m (eqb c 3) (Deleted (two_at p 4)) last)))

read_short : (e : Entry) → FitsCopyBlock (entry_block e) → (read_entry (encode copy_fields (entry_block e))).len ≤ 480
unfolding read_entry encode padded
read_short empty f = omega arith
read_short (normal b x) f = rw (two_back (length x)) f.1.0
read_short (added x) f = rw (two_back (length x)) f.0
read_short (deleted b) f = omega arith
read_short (copied s r x) f = rw (two_back (length x)) f.2.0

read_carries : (e : Entry) → Carries (read_entry (encode copy_fields (entry_block e))).state (read_entry (encode copy_fields (entry_block e))).len
unfolding read_entry encode padded
read_carries empty = refl
read_carries (normal b x) = tt
read_carries (added x) = tt
read_carries (deleted b) = refl
read_carries (copied s r x) = tt

pub reading : (l : List ℕ) (i : ℕ) {r : TheEntry} → Accepted l → i < 32 → r ≡ read_entry (block_at l (i + 1)) → Reading l i r
reading l i {r} a h e =
    let p = block_at l (i + 1) in
    let E = get_or (entries_of l) i empty in
    let b : p ≡ encode copy_fields (entry_block E) = block_is l a i h in
    let f = entry-fits l a i h in
    let q = so_passes copy_fields parse_copy_block fits_copy_block FitsCopyBlock copy_coded p (entry_block E) f (sym b) in
    let k : get_or p 0 0 ≡ 5 = entry_first p {e = E} q.1 q.2 in
    let m : parse_entry (get_or p 1 0) p ≡ E = inside (sym (parse_entry_lem p k) ∙ q.2) in
    let n : length p ≡ 512 = ap length b ∙ length-encode copy_fields (entry_block E) in
    let r' : r ≡ read_entry (encode copy_fields (entry_block E)) = e ∙ ap read_entry b in
    let s : r.len ≤ 480 = subst (λ (x : TheEntry). x.len ≤ 480) (sym r') (read_short E f) in
    record {
      means = ap (λ (x : TheEntry). entry_of x (bytes_in x p)) e ∙ read_means p ∙ m;
      whole = length-take-le r.len (drop 16 p) (simp length-drop (omega arith));
      carries = subst (λ (x : TheEntry). Carries x.state x.len) (sym r') (read_carries E);
      short = s;
    }
  where
    inside : {a b : Entry} → entry_block a ≡ entry_block b → a ≡ b
    inside e = cc
