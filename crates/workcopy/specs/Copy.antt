-- An accepted working copy, what acceptance answers, and the entries that are read from it and put into it.
-- Assumes nothing.
use Rattle.std.specs.Prelude.{◌+◌, ◌<◌, ◌≤◌, ℕ, cond, List, [], ◌∷◌, ◌⊎◌, ◌≡◌, T, eqb, drop, get_or, length, take, Err, Ok, Result}
use Rattle.block.specs.Buffer.{block_at}
use Rattle.block.specs.Field.{two, two_at}
use Rattle.model.specs.Entry.{empty}
use Rattle.model.specs.Types.{entry_of}
use Rattle.model.specs.WorkCopy.{FitsCopyBlock, copy_ok, entries_of, entry_block, seat_of}
use Rattle.model.specs.declared.Entry.{Entry}
use Rattle.model.specs.declared.Refusal.TheVariants.{CopyLayout, CopyLength}
use Rattle.model.specs.declared.State.{State}
use Rattle.model.specs.declared.State.TheVariants.{Added, Copied, Deleted, Empty, Normal}
use Rattle.model.specs.declared.Refusal.{Refusal}

-- neither refusal 4 nor refusal 5 names these bytes
pub record Accepted (l : List ℕ) : Type 0 where
  pub size : length l ≡ 16_896
  pub ok : T (copy_ok l)

-- "4. The working copy's length isn't 16,896. 5. The working copy has a wrong check or a broken layout": else the seat
unfoldable pub accept_of : List ℕ → Result ℕ Refusal
accept_of l = cond (eqb (length l) 16_896) (cond (copy_ok l) (Ok (seat_of l)) (Err CopyLayout)) (Err CopyLength)

-- ---- an entry of the code, and its bytes in a block

-- "bytes from 16"
abbrev pub bytes_in : Entry → List ℕ → List ℕ
bytes_in e p = take e.len (drop 16 p)

-- "an empty or deleted entry has length 0"
abbrev pub Carries : State → ℕ → Type 0
Carries Empty n = n ≡ 0
Carries (Normal b) n = Unit {0}
Carries Added n = Unit {0}
Carries (Deleted b) n = n ≡ 0
Carries (Copied s) n = Unit {0}

-- e is the entry of sheet i: with the bytes that stand in its block it means what the copy states, and its length is theirs
pub record Reading (l : List ℕ) (i : ℕ) (e : Entry) : Type 0 where
  pub means : entry_of e (bytes_in e (block_at l (i + 1))) ≡ get_or (entries_of l) i empty
  pub whole : length (bytes_in e (block_at l (i + 1))) ≡ e.len
  pub carries : Carries e.state e.len
  pub short : e.len ≤ 480

-- e and the bytes b are an entry within the limits
pub record Fit (e : Entry) (b : List ℕ) : Type 0 where
  pub whole : length b ≡ e.len
  pub carries : Carries e.state e.len
  pub fits : FitsCopyBlock (entry_block (entry_of e b))

-- e with the bytes b can be put at sheet i
pub record PutOk (l : List ℕ) (i : ℕ) (e : Entry) (b : List ℕ) : Type 0 where
  pub copy : Accepted l
  pub inside : i < 32
  pub fit : Fit e b

-- e can be put at sheet `to` with the first bytes of sheet `from`
pub record CopyOk (l : List ℕ) (from to : ℕ) (e : Entry) : Type 0 where
  pub inside : from < 32
  pub differ : from ≡ to → ⊥
  pub put : PutOk l to e (bytes_in e (block_at l (from + 1)))

-- n bytes at a and n bytes at b lie apart, within m
pub record Apart (a b n m : ℕ) : Type 0 where
  pub first : a + n ≤ m
  pub second : b + n ≤ m
  pub apart : (a + n ≤ b) ⊎ (b + n ≤ a)

-- ---- the fields of an entry's block

-- "1 state 0 to 4, 2–3 length, 4–5 base, 6 source sheet and 8–9 source revision"
abbrev pub state_in : ℕ → ℕ → ℕ → ℕ → State
state_in state base sheet revision =
    cond (eqb state 0) Empty (cond (eqb state 1) (Normal base) (cond (eqb state 2) Added (cond (eqb state 3) (Deleted base)
    (Copied (record { sheet = sheet; revision = revision })))))

unfoldable pub read_entry : List ℕ → Entry
read_entry p = record { state = state_in (get_or p 1 0) (two_at p 4) (get_or p 6 0) (two_at p 8); len = two_at p 2 }

-- the first 16 bytes
abbrev pub head_bytes : ℕ → ℕ → ℕ → ℕ → ℕ → List ℕ
head_bytes state n base source revision = 5 ∷ state ∷ two n (two base (source ∷ 0 ∷ two revision (0 ∷ 0 ∷ 0 ∷ 0 ∷ 0 ∷ 0 ∷ [])))

abbrev pub head_of : State → ℕ → List ℕ
head_of Empty n = head_bytes 0 n 0 0 0
head_of (Normal b) n = head_bytes 1 n b 0 0
head_of Added n = head_bytes 2 n 0 0 0
head_of (Deleted b) n = head_bytes 3 n b 0 0
head_of (Copied s) n = head_bytes 4 n 0 s.sheet s.revision

-- the numbers fit the bytes that are there for them
abbrev pub Small : State → ℕ → Type 0
Small Empty n = n ≤ 480
Small (Normal b) n = (n ≤ 480) × (b < 65_536)
Small Added n = n ≤ 480
Small (Deleted b) n = (n ≤ 480) × (b < 65_536)
Small (Copied s) n = (n ≤ 480) × (s.sheet < 256) × (s.revision < 65_536)
