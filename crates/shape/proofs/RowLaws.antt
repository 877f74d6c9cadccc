-- Rows of the flat array of tables: what a row has, and that a row copied and then put line by line is the next tree's table.
-- Assumes nothing.
use Prim.Native.Nat.{◌*◌, ◌+◌, ◌-◌, ◌<◌, ◌≤◌, suc, zero, ℕ}
use mathlib.Core.List.{List, [], ◌++◌, ◌∷◌}
use mathlib.Core.Path.{◌∙◌, ◌≡◌, ap, ap₂, refl, sym}
use native.Mathlib.Numerals.{add-one}
use native.Mathlib.Omega.{arith}
use lib.ListN.{drop, get_or, length, length-drop, set, take}
use lib.Seq.{drop-set-add, ext_get_or, get_or-drop, get_or-take, length-take-le, take-set-lt}
use Rattle.block.specs.Field.{two_at}
use Rattle.model.specs.Blocks.{Line, parse_line, parse_lines}
use Rattle.model.specs.Layout.{Table, latest, next, puts}
use Rattle.model.specs.Pass.{grown}
use Rattle.laws.proofs.Tables.{latest_snoc}
use Rattle.shape.proofs.Forward.{forward, forward_puts}
use Rattle.shape.proofs.LineLaws.{block_of, left-all, left-none, left_step, sheet_of}
use Rattle.shape.specs.Lines.{left}
use Rattle.shape.specs.Rows.{Growable, row_of, rows_of}

-- below n the two lists are the same
abbrev pub Alike : ℕ → List ℕ → List ℕ → Type 0
Alike n k l = (i : ℕ) → i < n → get_or k i 0 ≡ get_or l i 0

length-row : (v : ℕ) (l : List ℕ) → 32 * v + 32 ≤ length l → length (row_of v l) ≡ 32
length-row v l h = length-take-le 32 (drop (32 * v) l) (simp length-drop (omega arith))

pub row_at : (v i : ℕ) (l : List ℕ) → i < 32 → get_or (row_of v l) i 0 ≡ get_or l (32 * v + i) 0
row_at v i l h = get_or-take 32 (drop (32 * v) l) i 0 h ∙ get_or-drop (32 * v) l i 0

pub row_same : (v w : ℕ) (k l : List ℕ) → 32 * v + 32 ≤ length k → 32 * w + 32 ≤ length l
    → ((i : ℕ) → i < 32 → get_or k (32 * v + i) 0 ≡ get_or l (32 * w + i) 0) → row_of v k ≡ row_of w l
row_same v w k l h g e =
    let p = length-row v k h in
    ext_get_or 0 (row_of v k) (row_of w l) (p ∙ sym (length-row w l g))
    (λ i b. row_at v i k (omega arith) ∙ e i (omega arith) ∙ sym (row_at w i l (omega arith)))

-- rows below r do not see what is written from 32 * r on
pub rows_same : (n r : ℕ) (k l : List ℕ) → n ≤ r → 32 * r ≤ length k → 32 * r ≤ length l → Alike (32 * r) k l → rows_of n k ≡ rows_of n l
unfolding rows_of
rows_same zero r k l h g w e = refl
rows_same (suc n) r k l h g w e =
    ap₂ (λ (a : List Table) (b : Table). a ++ (b ∷ [])) (rows_same n r k l (omega arith) g w e)
    (row_same n n k l (omega arith) (omega arith) (λ i b. e (32 * n + i) (omega arith)))

latest-row : (r : ℕ) (l : List ℕ) → 1 ≤ r → latest (rows_of r l) ≡ row_of (r - 1) l
unfolding rows_of
latest-row zero l h = absurd (omega arith)
latest-row (suc r) l h = let e : suc r - 1 ≡ r = omega arith in latest_snoc (rows_of r l) (row_of r l) ∙ ap (λ (v : ℕ). row_of v l) (sym e)

rows-suc : (r : ℕ) (l : List ℕ) → rows_of (r + 1) l ≡ rows_of r l ++ (row_of r l ∷ [])
rows-suc r l = ap (λ (n : ℕ). rows_of n l) (add-one r) ∙ unfold rows_of in refl

-- what is left to put, into the row as it is now
abbrev pub Putting : List ℕ → ℕ → ℕ → ℕ → ℕ → List ℕ → List ℕ
Putting s base m j r tab = forward (λ (l : Line). l.block) (left s base m j) (row_of r tab)

-- the whole: E at entry, C with the row copied, P with the lines put
pub grow_done : (E C P s : List ℕ) (r base m j : ℕ) → Growable E r s base m → length C ≡ length E → length P ≡ length E
    → Alike (32 * r) C E → ((i : ℕ) → i < 32 → get_or C (32 * r + i) 0 ≡ get_or E (32 * (r - 1) + i) 0)
    → Alike (32 * r) P C → m ≤ j → Putting s base m j r P ≡ Putting s base m 0 r C
    → rows_of (r + 1) P ≡ grown (rows_of r E) (parse_lines m (drop base s))
unfolding next
grow_done E C P s r base m j G lc lp ce row pc h put =
    rows-suc r P
    ∙ ap₂ (λ (a : List Table) (b : Table). a ++ (b ∷ []))
    (rows_same r r P E (omega arith) (omega arith) (omega arith) (λ i b. pc i b ∙ ce i b))
    (ap (λ (x : List Line). forward (λ (l : Line). l.block) x (row_of r P)) (sym (left-none s base m j h))
    ∙ put
    ∙ ap (λ (x : List Line). forward (λ (l : Line). l.block) x (row_of r C)) (left-all s base m)
    ∙ forward_puts (λ (l : Line). l.block) (parse_lines m (drop base s)) (row_of r C) G.once
    ∙ ap (puts (λ (l : Line). l.block) (parse_lines m (drop base s)))
    (row_same r (r - 1) C E (omega arith) (omega arith) row ∙ sym (latest-row r E G.some)))

-- one line put
pub put_step : (tab s : List ℕ) (r base m j sheet block : ℕ) → j < m → sheet < 32
    → sheet ≡ get_or s (base + 8 * j) 0 → block ≡ two_at s (base + 8 * j + 2)
    → Putting s base m (j + 1) r (set tab (32 * r + sheet) block) ≡ Putting s base m j r tab
put_step tab s r base m j sheet block h g e f =
    let d : (parse_line (drop (base + 8 * j) s)).sheet ≡ sheet = sheet_of s (base + 8 * j) ∙ sym e in
    let b : (parse_line (drop (base + 8 * j) s)).block ≡ block = block_of s (base + 8 * j) ∙ sym f in
    ap (forward (λ (l : Line). l.block) (left s base m (j + 1)))
    (ap (take 32) (drop-set-add (32 * r) tab sheet block) ∙ take-set-lt 32 (drop (32 * r) tab) sheet block g
    ∙ ap₂ (λ (x y : ℕ). set (row_of r tab) x y) (sym d) (sym b))
    ∙ ap (λ (x : List Line). forward (λ (l : Line). l.block) x (row_of r tab)) (sym (left_step s base m j h))
