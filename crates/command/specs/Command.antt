-- What a line of the program says: a call of the machine and its seat, or nothing. Every definition computes.
-- "Lines: `add SEAT SHEET HEX`, `set SEAT SHEET HEX` (edit), `del SEAT SHEET`, `cp SEAT FROM TO`, `mv SEAT FROM TO`, `put SEAT STAMP` and `up SEAT REV` (all sheets),
-- `get REV SHEET`."
-- Assumes nothing.
use Rattle.std.specs.Prelude.{◌≤◌, ℕ, Bool, ◌||◌, cond, List, [], ◌∷◌, eqb, take, Option as TheOption, None, Some}
use Rattle.std.proofs.Math.Option.{Option, none, some}
use Rattle.block.specs.Lists.{same}
use Rattle.model.specs.Machine.{Add, Call, Commits, Copy, Delete, Edit, Move, Read, Update}
use Rattle.model.specs.Run.{Turn}
use Rattle.text.specs.Text.{bytes_or, hex_of, number_of, words}
use Rattle.command.specs.declared.Call.{Call as TheCall}
use Rattle.command.specs.declared.Call.TheVariants.{Add as TheAdd, Commit as TheCommit, Copy as TheCopy, Delete as TheDelete, Edit as TheEdit, Move as TheMove, Update as TheUpdate}
use Rattle.command.specs.declared.Key.{Key}
use Rattle.command.specs.declared.Key.TheVariants.{Add as KeyAdd, Cp, Del, Get, Mv, Put, Set, Up}
use Rattle.command.specs.declared.Line.{Line}
use Rattle.command.specs.declared.Line.TheVariants.{By, Get as GetLine}

-- a word is this text
unfoldable pub is_word : List ℕ → List ℕ → Bool
is_word w k = same w k

-- the first word
unfoldable pub key_of : List ℕ → TheOption Key
key_of w =
    cond (is_word w (97 ∷ 100 ∷ 100 ∷ [])) (Some KeyAdd)
    (cond (is_word w (115 ∷ 101 ∷ 116 ∷ [])) (Some Set)
    (cond (is_word w (100 ∷ 101 ∷ 108 ∷ [])) (Some Del)
    (cond (is_word w (99 ∷ 112 ∷ [])) (Some Cp)
    (cond (is_word w (109 ∷ 118 ∷ [])) (Some Mv)
    (cond (is_word w (112 ∷ 117 ∷ 116 ∷ [])) (Some Put)
    (cond (is_word w (117 ∷ 112 ∷ [])) (Some Up)
    (cond (is_word w (103 ∷ 101 ∷ 116 ∷ [])) (Some Get) None)))))))

-- "`put SEAT STAMP` and `up SEAT REV` (all sheets)"
abbrev pub all_sheets : ℕ
all_sheets = 4_294_967_295

abbrev pub turn : ℕ → Call → Turn
turn k c = record { by = k; call = c }

-- "so too a seat but 1 or 2"
abbrev pub seated : ℕ → Call → Option Turn
seated k c = cond (eqb k 1 || eqb k 2) (some (turn k c)) none

-- where a word is what it should be
abbrev pub given : {A : Type 0} → Option A → (A → Option Turn) → Option Turn
given none f = none
given (some x) f = f x

-- a line of three words; read takes the store alone, so its seat is any
abbrev pub three : Key → ℕ → ℕ → Option Turn
three KeyAdd a b = none
three Set a b = none
three Del a b = seated a (Delete b)
three Cp a b = none
three Mv a b = none
three Put a b = seated a (Commits b all_sheets)
three Up a b = seated a (Update all_sheets b)
three Get a b = some (turn 1 (Read a b))

abbrev pub three_of : TheOption Key → Option ℕ → Option ℕ → Option Turn
three_of None x y = none
three_of (Some k) x y = given x (λ a. given y (λ b. three k a b))

-- a line of four words, the last of them as a number and as HEX
abbrev pub four : Key → ℕ → ℕ → Option ℕ → Option (List ℕ) → Option Turn
four KeyAdd a b z h = given h (λ x. seated a (Add b x))
four Set a b z h = given h (λ x. seated a (Edit b x))
four Del a b z h = none
four Cp a b z h = given z (λ e. seated a (Copy b e))
four Mv a b z h = given z (λ e. seated a (Move b e))
four Put a b z h = none
four Up a b z h = none
four Get a b z h = none

abbrev pub four_of : TheOption Key → Option ℕ → Option ℕ → Option ℕ → Option (List ℕ) → Option Turn
four_of None x y z h = none
four_of (Some k) x y z h = given x (λ a. given y (λ b. four k a b z h))

-- "Any other line prints `?`": it is no call
unfoldable pub turn_of : List (List ℕ) → Option Turn
turn_of [] = none
turn_of (k ∷ []) = none
turn_of (k ∷ x ∷ []) = none
turn_of (k ∷ x ∷ y ∷ []) = three_of (key_of k) (number_of x) (number_of y)
turn_of (k ∷ x ∷ y ∷ z ∷ []) = four_of (key_of k) (number_of x) (number_of y) (number_of z) (hex_of z)
turn_of (k ∷ x ∷ y ∷ z ∷ u ∷ ws) = none

abbrev pub line_turn : List ℕ → Option Turn
line_turn line = turn_of (words line)

-- ---- the answers of the code

-- the machine's call; add and edit have their bytes at the start of a buffer
abbrev pub call_in : TheCall → List ℕ → Call
call_in (TheAdd i n) l = Add i (take n l)
call_in (TheEdit i n) l = Edit i (take n l)
call_in (TheDelete i) l = Delete i
call_in (TheCopy i j) l = Copy i j
call_in (TheMove i j) l = Move i j
call_in (TheCommit stamp) l = Commits stamp all_sheets
call_in (TheUpdate R) l = Update all_sheets R

abbrev pub turn_in : TheOption Line → List ℕ → Option Turn
turn_in (Some (By k c)) l = some (turn k (call_in c l))
turn_in (Some (GetLine R i)) l = some (turn 1 (Read R i))
turn_in None l = none

-- the bytes lie within a buffer of m bytes, and the seat is 1 or 2
abbrev pub CallFits : TheCall → ℕ → Type 0
CallFits (TheAdd i n) m = n ≤ m
CallFits (TheEdit i n) m = n ≤ m
CallFits (TheDelete i) m = Unit {0}
CallFits (TheCopy i j) m = Unit {0}
CallFits (TheMove i j) m = Unit {0}
CallFits (TheCommit stamp) m = Unit {0}
CallFits (TheUpdate R) m = Unit {0}

abbrev pub LineFits : TheOption Line → ℕ → Type 0
LineFits (Some (By k c)) m = (1 ≤ k) × (k ≤ 2) × CallFits c m
LineFits (Some (GetLine R i)) m = Unit {0}
LineFits None m = Unit {0}

-- the bytes that the code leaves in the buffer: those of a fourth and last word that is HEX
unfoldable pub fourth_of : List (List ℕ) → List ℕ
fourth_of [] = []
fourth_of (k ∷ []) = []
fourth_of (k ∷ x ∷ []) = []
fourth_of (k ∷ x ∷ y ∷ []) = []
fourth_of (k ∷ x ∷ y ∷ z ∷ []) = bytes_or (hex_of z)
fourth_of (k ∷ x ∷ y ∷ z ∷ u ∷ ws) = []
