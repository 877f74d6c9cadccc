-- A whole working copy: which 16,896 bytes are one, of which seat, and with which 32 entries.
-- Assumes nothing.
use Prim.Native.Nat.{◌*◌, ◌≤◌, suc, ℕ}
use mathlib.Core.Bool.{◌&&◌}
use mathlib.Core.List.{List, [], ◌∷◌, map}
use mathlib.Core.Path.{◌∙◌, ◌≡◌, ap, refl, subst, subst₂, sym}
use native.Mathlib.Omega.{arith}
use lib.Dec.{T}
use lib.ListN.{length, length-append, length-map}
use Rattle.block.proofs.Says.{and_true, true_and}
use Rattle.block.specs.Check.{sealed}
use Rattle.block.specs.Lists.{All, all}
use Rattle.model.specs.Codec.{encode, joined, parts, shaped}
use Rattle.model.specs.Entry.{Entry}
use Rattle.model.specs.WorkCopy.{CopyBlock, FitsCopyBlock, HoldsCopy, arranged, copy_blocks_of, copy_bytes, copy_fields, copy_ok, entries_in, entries_of, entry_block, entry_in, fits_copy_block, is_entry, parse_copy_block, seat_block, seat_in, seat_of}
use Rattle.laws.proofs.Codec.{length-encode, length-parts, parts_so, so_parts}
use Rattle.laws.proofs.EntryCodes.{copy_coded}

entries-back : (es : List Entry) → map entry_in (map entry_block es) ≡ es
entries-back [] = refl
entries-back (e ∷ es) = ap (λ (l : List Entry). e ∷ l) (entries-back es)

all-entries : (es : List Entry) → T (all is_entry (map entry_block es))
all-entries [] = tt
all-entries (e ∷ es) = all-entries es

are_entries : (ps : List CopyBlock) → T (all is_entry ps) → map entry_block (map entry_in ps) ≡ ps
are_entries [] t = refl
are_entries (seat_block seat ∷ ps) t = absurd t
are_entries (entry_block e ∷ ps) t = ap (λ (l : List CopyBlock). entry_block e ∷ l) (are_entries ps t)

arranged_so : (ps : List CopyBlock) → T (arranged ps) → seat_block (seat_in ps) ∷ map entry_block (entries_in ps) ≡ ps
arranged_so [] t = absurd t
arranged_so (seat_block seat ∷ ps) t = ap (λ (l : List CopyBlock). seat_block seat ∷ l) (are_entries ps t)
arranged_so (entry_block e ∷ ps) t = absurd t

length-entries : (ps : List CopyBlock) → T (arranged ps) → length ps ≡ suc (length (entries_in ps))
length-entries [] t = absurd t
length-entries (seat_block seat ∷ ps) t = ap suc (sym (length-map ps entry_in))
length-entries (entry_block e ∷ ps) t = absurd t

pub length-joined : {A : Type 0} (fields : A → List ℕ) (rs : List A) → length (joined fields rs) ≡ length rs * 512
length-joined fields [] = refl
length-joined fields (r ∷ rs) =
    length-append (encode fields r) (joined fields rs)
    ∙ (let e : length (encode fields r) ≡ 512 = length-encode fields r in
    let q : length (joined fields rs) ≡ length rs * 512 = length-joined fields rs in omega (arith, e, q))

-- THE STATEMENT: 16,896 bytes pass exactly where they are the layout of a seat with 32 entries, and these are what is read
pub copy_holds : (l : List ℕ) → length l ≡ 16_896 → T (copy_ok l) → HoldsCopy l (seat_of l) (entries_of l)
unfolding copy_ok seat_of entries_of copy_blocks_of HoldsCopy
copy_holds l e t =
    let p = and_true (all sealed (parts 33 l)) (all (shaped copy_fields parse_copy_block fits_copy_block) (parts 33 l) && arranged (map parse_copy_block (parts 33 l))) t in
    let q = and_true (all (shaped copy_fields parse_copy_block fits_copy_block) (parts 33 l)) (arranged (map parse_copy_block (parts 33 l))) p.1 in
    let r = parts_so copy_fields parse_copy_block fits_copy_block FitsCopyBlock copy_coded 33 l e p.0 q.0 in
    let ps = map parse_copy_block (parts 33 l) in
    let a : seat_block (seat_in ps) ∷ map entry_block (entries_in ps) ≡ ps = arranged_so ps q.1 in
    let f : All FitsCopyBlock (seat_block (seat_in ps) ∷ map entry_block (entries_in ps)) = subst (All FitsCopyBlock) (sym a) r.0 in
    let n : length ps ≡ 33 = length-parts copy_fields parse_copy_block fits_copy_block FitsCopyBlock copy_coded 33 l in
    (omega (arith, n, length-entries ps q.1), f.0, f.1, ap (joined copy_fields) a ∙ r.1)

pub holds-copy : (l : List ℕ) (seat : ℕ) (es : List Entry) → HoldsCopy l seat es
    → (length l ≡ 16_896) × T (copy_ok l) × (seat_of l ≡ seat) × (entries_of l ≡ es) × (copy_bytes seat es ≡ l)
unfolding copy_ok seat_of entries_of copy_blocks_of HoldsCopy copy_bytes
holds-copy l seat es m =
    let ps = seat_block seat ∷ map entry_block es in
    let n : length ps ≡ 33 = (let k = length-map es entry_block in omega (arith, m.0, k)) in
    let s = so_parts copy_fields parse_copy_block fits_copy_block FitsCopyBlock copy_coded ps (m.1, m.2) in
    let u : T (all sealed (parts 33 l)) × T (all (shaped copy_fields parse_copy_block fits_copy_block) (parts 33 l)) × (map parse_copy_block (parts 33 l) ≡ ps) =
    subst₂ (λ (x : ℕ) (y : List ℕ). T (all sealed (parts x y)) × T (all (shaped copy_fields parse_copy_block fits_copy_block) (parts x y)) × (map parse_copy_block (parts x y) ≡ ps)) n m.3 s in (
      ap length (sym m.3) ∙ length-joined copy_fields ps ∙ omega (arith, n),
      true_and (all sealed (parts 33 l)) (all (shaped copy_fields parse_copy_block fits_copy_block) (parts 33 l) && arranged (map parse_copy_block (parts 33 l))) u.0
          (true_and (all (shaped copy_fields parse_copy_block fits_copy_block) (parts 33 l)) (arranged (map parse_copy_block (parts 33 l))) u.1 (rw u.2 (all-entries es))),
      ap seat_in u.2,
      ap entries_in u.2 ∙ entries-back es,
      m.3,
    )

-- the bytes that create and each call leave are a working copy's
pub copy_bytes_lem : (seat : ℕ) (es : List Entry) → length es ≡ 32 → 1 ≤ seat → seat ≤ 4 → All FitsCopyBlock (map entry_block es) → HoldsCopy (copy_bytes seat es) seat es
unfolding HoldsCopy copy_bytes
copy_bytes_lem seat es n lo hi a = (n, (lo, hi), a, refl)
