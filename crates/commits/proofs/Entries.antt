-- The bytes of a working copy's entry: the row that they give is the plan of the change that the entry stands for.
-- Assumes nothing.
use Prim.Native.Nat.{◌%◌, ◌*◌, ◌+◌, ◌/◌, ◌<◌, ◌≤◌, suc, zero, ℕ}
use mathlib.Core.Bool.{Bool, cond, false, not, true}
use mathlib.Core.List.{List, [], ◌++◌, ◌∷◌, append_assoc, map}
use mathlib.Core.Path.{◌∙◌, ◌≡◌, ap, ap₂, refl, subst, sym}
use native.Mathlib.Omega.{arith}
use lib.Dec.{eqb}
use lib.ListN.{get_or-map, drop, get_or, length, length-map, take}
use lib.Seq.{drop-append-add, drop-cons, drop-nil, get_or-drop}
use Rattle.block.specs.Field.{two_at}
use Rattle.block.specs.Lists.{same}
use Rattle.model.specs.Blocks.{changes, copies}
use Rattle.model.specs.Codec.{encode, joined, pad_to, padded}
use Rattle.model.specs.Entry.{Entry, added, change_for, copied, deleted, empty, modified, normal}
use Rattle.model.specs.History.{History, change, nothing}
use Rattle.model.specs.Layout.{Table, user}
use Rattle.model.specs.WorkCopy.{CopyBlock, FitsCopyBlock, HoldsCopy, body_at, copy_fields, entry_block, seat_block}
use Rattle.model.specs.Writing.{fresh, plan_copy, plan_of, shared, skip}
use Rattle.laws.proofs.All.{All-get_or}
use Rattle.laws.proofs.Codec.{length-encode, two_back}
use Rattle.commits.specs.Plan.{plan_as, row_of}
use Rattle.writer.proofs.Joins.{Carries}
use Rattle.writer.specs.Blocks.{sheet_in, size_in}

-- ---- an entry's bytes
state_of : Entry → ℕ
state_of empty = 0
state_of (normal r b) = 1
state_of (added b) = 2
state_of (deleted r) = 3
state_of (copied s v b) = 4

source_of : Entry → ℕ
source_of empty = 0
source_of (normal r b) = 0
source_of (added b) = 0
source_of (deleted r) = 0
source_of (copied s v b) = s

revision_of : Entry → ℕ
revision_of empty = 0
revision_of (normal r b) = 0
revision_of (added b) = 0
revision_of (deleted r) = 0
revision_of (copied s v b) = v

bytes_of : Entry → List ℕ
bytes_of empty = []
bytes_of (normal r b) = b
bytes_of (added b) = b
bytes_of (deleted r) = []
bytes_of (copied s v b) = b

drop-joined : (i : ℕ) (ps : List CopyBlock) → drop (512 * i) (joined copy_fields ps) ≡ joined copy_fields (drop i ps)
drop-joined zero ps = refl
drop-joined (suc i) [] = drop-nil (512 * suc i)
drop-joined (suc i) (p ∷ ps) =
    let e : 512 * suc i ≡ length (encode copy_fields p) + 512 * i = omega (arith, length-encode copy_fields p) in
    ap (λ (k : ℕ). drop k (encode copy_fields p ++ joined copy_fields ps)) e
    ∙ drop-append-add (encode copy_fields p) (joined copy_fields ps) (512 * i) ∙ drop-joined i ps

module _ (wc : List ℕ) (seat : ℕ) (es : List Entry) (H : HoldsCopy wc seat es) where
  -- entry i stands at block 1 + i
  entry_at : (i : ℕ) → i < 32 → drop (512 * (i + 1)) wc ≡ encode copy_fields (entry_block (get_or es i empty)) ++ joined copy_fields (drop (suc i) (map entry_block es))
  unfolding HoldsCopy
  entry_at i h =
      let e : 512 * (i + 1) ≡ 512 * suc i = omega arith in
      ap₂ (λ (k : ℕ) (l : List ℕ). drop k l) e (sym H.3)
      ∙ drop-joined (suc i) (seat_block seat ∷ map entry_block es)
      ∙ ap (joined copy_fields) (drop-cons (map entry_block es) i (entry_block empty) (omega (arith, H.0, length-map es entry_block)))
      ∙ ap (λ (p : CopyBlock). encode copy_fields p ++ joined copy_fields (drop (suc i) (map entry_block es))) (get_or-map entry_block es i empty)

  fits_at_lem : (i : ℕ) → FitsCopyBlock (entry_block (get_or es i empty))
  unfolding HoldsCopy
  fits_at_lem i = subst FitsCopyBlock (get_or-map entry_block es i empty) (All-get_or FitsCopyBlock (map entry_block es) i (entry_block empty) H.2 tt)

  byte_at : (i k : ℕ) → i < 32 → get_or wc (512 * (i + 1) + k) 0 ≡ get_or (encode copy_fields (entry_block (get_or es i empty)) ++ joined copy_fields (drop (suc i) (map entry_block es))) k 0
  byte_at i k h = sym (get_or-drop (512 * (i + 1)) wc k 0) ∙ ap (λ (l : List ℕ). get_or l k 0) (entry_at i h)

state_byte : (e : Entry) (z : List ℕ) → get_or (encode copy_fields (entry_block e) ++ z) 1 0 ≡ state_of e
unfolding encode padded state_of
state_byte empty z = refl
state_byte (normal r b) z = refl
state_byte (added b) z = refl
state_byte (deleted r) z = refl
state_byte (copied s v b) z = refl

source_byte : (e : Entry) (z : List ℕ) → get_or (encode copy_fields (entry_block e) ++ z) 6 0 ≡ source_of e
unfolding encode padded source_of
source_byte empty z = refl
source_byte (normal r b) z = refl
source_byte (added b) z = refl
source_byte (deleted r) z = refl
source_byte (copied s v b) z = refl

revision-bytes : (e : Entry) (z : List ℕ) → get_or (encode copy_fields (entry_block e) ++ z) 8 0 + 256 * get_or (encode copy_fields (entry_block e) ++ z) 9 0 ≡ revision_of e
unfolding encode padded revision_of
revision-bytes empty z = refl
revision-bytes (normal r b) z = refl
revision-bytes (added b) z = refl
revision-bytes (deleted r) z = refl
revision-bytes (copied s v b) z = two_back v

size-bytes : (e : Entry) (z : List ℕ) → get_or (encode copy_fields (entry_block e) ++ z) 2 0 + 256 * get_or (encode copy_fields (entry_block e) ++ z) 3 0 ≡ length (bytes_of e)
unfolding encode padded bytes_of
size-bytes empty z = refl
size-bytes (normal r b) z = two_back (length b)
size-bytes (added b) z = two_back (length b)
size-bytes (deleted r) z = refl
size-bytes (copied s v b) z = two_back (length b)

short-bytes : (e : Entry) → FitsCopyBlock (entry_block e) → length (bytes_of e) ≤ 480
unfolding bytes_of
short-bytes empty f = omega arith
short-bytes (normal r b) f = f.1.0
short-bytes (added b) f = f.0
short-bytes (deleted r) f = omega arith
short-bytes (copied s v b) f = f.2.0

take-padded : (n : ℕ) (b z : List ℕ) → length b ≤ n → take (length b) (pad_to n b ++ z) ≡ b
take-padded n [] z h = refl
take-padded zero (x ∷ b) z h = absurd (omega arith)
take-padded (suc n) (x ∷ b) z h = ap (λ (y : List ℕ). x ∷ y) (take-padded n b z (omega arith))

body_of : (b : List ℕ) (w z : List ℕ) (n : ℕ) → length b ≤ 480 → n ≡ length b → take n ((pad_to 492 b ++ w) ++ z) ≡ b
body_of b w z n h e = ap₂ (λ (k : ℕ) (l : List ℕ). take k l) e (append_assoc (pad_to 492 b) w z) ∙ take-padded 492 b (w ++ z) (omega arith)

body_bytes : (e : Entry) (z : List ℕ) → FitsCopyBlock (entry_block e) → body_at (encode copy_fields (entry_block e) ++ z) ≡ bytes_of e
unfolding encode padded bytes_of
body_bytes empty z f = refl
body_bytes (normal r b) z f = body_of b _ z (length b % 256 + 256 * (length b / 256)) f.1.0 (two_back (length b))
body_bytes (added b) z f = body_of b _ z (length b % 256 + 256 * (length b / 256)) f.0 (two_back (length b))
body_bytes (deleted r) z f = refl
body_bytes (copied s v b) z f = body_of b _ z (length b % 256 + 256 * (length b / 256)) f.2.0 (two_back (length b))

-- the row and the bytes of a sheet, by its entry
module _ (wc : List ℕ) (seat : ℕ) (es : List Entry) (H : HoldsCopy wc seat es) (i : ℕ) (h : i < 32) where
  row-entry : (flags places : List ℕ)
      → row_of wc flags places i ≡ plan_as (state_of (get_or es i empty)) (get_or flags i 0) (get_or places i 0) (source_of (get_or es i empty)) (revision_of (get_or es i empty))
  unfolding row_of
  row-entry flags places =
      let e = get_or es i empty in
      let z = joined copy_fields (drop (suc i) (map entry_block es)) in
      let n : suc (512 * (i + 1) + 8) ≡ 512 * (i + 1) + 9 = omega arith in
      let a = byte_at wc seat es H i 1 h ∙ state_byte e z in
      let b = byte_at wc seat es H i 6 h ∙ source_byte e z in
      let c : two_at wc (512 * (i + 1) + 8) ≡ revision_of e =
      ap₂ (λ (x y : ℕ). x + 256 * y) (byte_at wc seat es H i 8 h) (ap (λ (k : ℕ). get_or wc k 0) n ∙ byte_at wc seat es H i 9 h) ∙ revision-bytes e z in
      λ x. plan_as (a x) (get_or flags i 0) (get_or places i 0) (b x) (c x)

  sheet-entry : sheet_in wc i ≡ bytes_of (get_or es i empty)
  unfolding sheet_in
  sheet-entry = ap body_at (entry_at wc seat es H i h) ∙ body_bytes (get_or es i empty) (joined copy_fields (drop (suc i) (map entry_block es))) (fits_at_lem wc seat es H i)

-- ---- the plan of the change that an entry stands for

-- what a flag and a place say, where the trees are read off the tables
abbrev pub Agrees : History → (ℕ → List ℕ) → List Table → ℕ → Entry → ℕ → ℕ → Type 0
Agrees h look tables i empty flag place = Unit {0}
Agrees h look tables i (normal b x) flag place = modified h i b x ≡ not (eqb flag 0)
Agrees h look tables i (added x) flag place = Unit {0}
Agrees h look tables i (deleted b) flag place = Unit {0}
Agrees h look tables i (copied s v x) flag place = (same x (look (get_or (get_or tables v []) s 0)) ≡ eqb flag 0) × (place ≡ get_or (get_or tables v []) s 0)

module _ (h : History) (look : ℕ → List ℕ) (at : ℕ) (tables : List Table) where
  row_plan : (i flag place : ℕ) (e : Entry) → Agrees h look tables i e flag place
      → plan_as (state_of e) flag place (source_of e) (revision_of e) ≡ plan_of look at 0 tables (change_for h i e)
  unfolding plan_as state_of source_of revision_of
  row_plan i flag place empty g = refl
  row_plan i flag place (normal b x) g = go (eqb flag 0) ∙ ap (λ (t : Bool). plan_of look at 0 tables (cond t (change x) nothing)) (sym g)
    where
      go : (t : Bool) → cond t skip (fresh changes 0 0) ≡ plan_of look at 0 tables (cond (not t) (change x) nothing)
      go true = refl
      go false = refl
  row_plan i flag place (added x) g = refl
  row_plan i flag place (deleted b) g = refl
  row_plan i flag place (copied s v x) g =
      ap (λ (q : ℕ). cond (eqb flag 0) (shared copies q s v) (fresh copies s v)) g.1
      ∙ go (eqb flag 0)
      ∙ ap (λ (t : Bool). plan_copy look at 0 tables t s v) (sym g.0)
    where
      go : (t : Bool) → cond t (shared copies (user look at 0 tables v s) s v) (fresh copies s v) ≡ plan_copy look at 0 tables t s v
      go true = refl
      go false = refl

carries : (h : History) (i : ℕ) (e : Entry) (x : List ℕ) → x ≡ bytes_of e → Carries x (change_for h i e)
unfolding bytes_of
carries h i empty x q = tt
carries h i (normal b y) x q = go (modified h i b y)
  where
    go : (t : Bool) → Carries x (cond t (change y) nothing)
    go true = q
    go false = tt
carries h i (added y) x q = q
carries h i (deleted b) x q = tt
carries h i (copied s v y) x q = q

-- THE STATEMENTS
module _ (wc : List ℕ) (seat : ℕ) (es : List Entry) (H : HoldsCopy wc seat es) (i : ℕ) (low : i < 32) where
  -- the row of a sheet whose flag and place are right
  pub row_is : (h : History) (look : ℕ → List ℕ) (at : ℕ) (tables : List Table) (flags places : List ℕ)
      → Agrees h look tables i (get_or es i empty) (get_or flags i 0) (get_or places i 0)
      → row_of wc flags places i ≡ plan_of look at 0 tables (change_for h i (get_or es i empty))
  row_is h look at tables flags places g =
      row-entry wc seat es H i low flags places ∙ row_plan h look at tables i (get_or flags i 0) (get_or places i 0) (get_or es i empty) g

  -- the bytes of its change
  pub bytes_are : (h : History) → Carries (sheet_in wc i) (change_for h i (get_or es i empty))
  bytes_are h = carries h i (get_or es i empty) (sheet_in wc i) (sheet-entry wc seat es H i low)

  -- how many there are
  pub size_at : size_in wc i ≤ 480
  unfolding size_in
  size_at =
      let z = joined copy_fields (drop (suc i) (map entry_block es)) in
      let n : suc (512 * (i + 1) + 2) ≡ 512 * (i + 1) + 3 = omega arith in
      let q : two_at wc (512 * (i + 1) + 2) ≡ length (bytes_of (get_or es i empty)) =
      ap₂ (λ (x y : ℕ). x + 256 * y) (byte_at wc seat es H i 2 low) (ap (λ (k : ℕ). get_or wc k 0) n ∙ byte_at wc seat es H i 3 low)
      ∙ size-bytes (get_or es i empty) z in
      omega (arith, q, short-bytes (get_or es i empty) (fits_at_lem wc seat es H i))
