-- The room that an output takes: a line of `get` has at least seven bytes, and a sheet at most 480, so that 121 bytes for each byte of the input and for one more always do.
-- Assumes nothing.
use Prim.Native.Nat.{◌*◌, ◌+◌, ◌<◌, ◌≤◌, suc, ℕ}
use mathlib.Core.Bool.{Bool, ◌||◌, cond, false, true}
use mathlib.Core.List.{List, [], ◌++◌, ◌∷◌}
use mathlib.Core.Option.{Option, none, some}
use mathlib.Core.Path.{◌∙◌, ◌≡◌, ap, refl, subst}
use native.Mathlib.Omega.{arith}
use borrow.Author.Tests.{le-leb, leb-false, leb-true, lt-leb, ltb-false}
use lib.Dec.{eqb, leb}
use lib.ListN.{length, length-append}
use Rattle.std.specs.Prelude.{Option as TheOption, None, Some}
use Rattle.block.proofs.Says.{says_same, true_says}
use Rattle.command.specs.Command.{four, four_of, is_word, key_of, line_turn, seated, three, three_of, turn, turn_of}
use Rattle.command.specs.declared.Key.{Key}
use Rattle.command.specs.declared.Key.TheVariants.{Add as KeyAdd, Cp, Del, Get, Mv, Put, Set, Up}
use Rattle.laws.proofs.Conditions.{clear}
use Rattle.laws.proofs.Invariant.{kept_fresh, kept_step}
use Rattle.laws.proofs.Rows.{or_false}
use Rattle.laws.proofs.Trees.{Small, small-tree}
use Rattle.model.specs.History.{Bytes, last, namer, sheet}
use Rattle.model.specs.Invariant.{Kept}
use Rattle.model.specs.Machine.{Add, Call, Clears, ClearsCut, Commits, CommitsCut, Copy, Delete, Edit, Log, Move, Panel, Read, Release, Revert, Show, State, Status, Update, as_bytes, fresh, side_of}
use Rattle.model.specs.Refusals.{conditions, first_of, no_sheet, too_late}
use Rattle.model.specs.Run.{Turn, Valid, own_conditions, step_by}
use Rattle.text.proofs.Laws.{length_decimal, length_hex}
use Rattle.text.specs.Text.{decimal_of, heads, hex_of, lines, number_of, words}
use Rattle.program.specs.Output.{answered, output, text_of, transcript, unknown}
use Rattle.program.proofs.Turns.{Every, line-valid}

-- ---- words and lines

-- the bytes of some texts, with one more for the end of each
abbrev sizes : List (List ℕ) → ℕ
sizes [] = 0
sizes (w ∷ ws) = length w + 1 + sizes ws

sizes_heads : (x : ℕ) (ws : List (List ℕ)) → 0 < sizes ws → sizes (heads x ws) ≡ sizes ws + 1
sizes_heads x [] h = absurd (omega arith)
sizes_heads x (w ∷ ws) h = omega arith

sizes_words : (s : List ℕ) → sizes (words s) ≡ length s + 1
unfolding words
sizes_words [] = refl
sizes_words (x ∷ s) = go (eqb x 32) (sizes_words s)
  where
    go : (t : Bool) → sizes (words s) ≡ length s + 1 → sizes (cond t ([] ∷ words s) (heads x (words s))) ≡ length (x ∷ s) + 1
    go true ih = omega arith
    go false ih = omega (arith, sizes_heads x (words s) (omega arith))

sizes_lines : (s : List ℕ) → sizes (lines s) ≤ length s + 1
unfolding lines
sizes_lines [] = omega arith
sizes_lines (x ∷ s) = go (eqb x 10) (lines s) (sizes_lines s)
  where
    go : (t : Bool) (ls : List (List ℕ)) → sizes ls ≤ length s + 1 → sizes (cond t ([] ∷ ls) (heads x ls)) ≤ length (x ∷ s) + 1
    go true ls ih = omega arith
    go false [] ih = omega arith
    go false (l ∷ ls) ih = omega arith

-- ---- a line of n - 1 bytes that is a read has at least seven; none is a show

abbrev Room : ℕ → Call → Type 0
Room n (Add i x) = Unit {0}
Room n (Edit i x) = Unit {0}
Room n (Delete i) = Unit {0}
Room n (Copy i j) = Unit {0}
Room n (Move i j) = Unit {0}
Room n (Commits stamp mask) = Unit {0}
Room n (Update mask R) = Unit {0}
Room n (Revert mask) = Unit {0}
Room n (Read R i) = 8 ≤ n
Room n (Show i) = ⊥
Room n (Status i) = Unit {0}
Room n (Log R i) = Unit {0}
Room n Clears = Unit {0}
Room n (CommitsCut stamp mask m) = ⊥
Room n (ClearsCut m) = ⊥
Room n (Release R seat stamp) = ⊥
Room n (Panel R i) = ⊥

abbrev Roomy : ℕ → Option Turn → Type 0
Roomy n o = Every (λ (t : Turn). Room n t.call) o

seated-room : (n k : ℕ) (c : Call) → Room n c → Roomy n (seated k c)
seated-room n k c r = go (eqb k 1 || eqb k 2)
  where
    go : (t : Bool) → Roomy n (cond t (some (turn k c)) none)
    go true = r
    go false = tt

abbrev is_get : TheOption Key → Bool
is_get None = false
is_get (Some KeyAdd) = false
is_get (Some Set) = false
is_get (Some Del) = false
is_get (Some Cp) = false
is_get (Some Mv) = false
is_get (Some Put) = false
is_get (Some Up) = false
is_get (Some Get) = true

-- not the key, so a later one
other : (t : Bool) (x r : TheOption Key) → is_get x ≡ false → is_get (cond t x r) ≡ true → is_get r ≡ true
other true x r f e = let z : ◌≡◌ {A = ℕ} 0 1 = cc in absurd (omega arith)
other false x r f e = e

this : (t : Bool) → is_get (cond t (Some Get) None) ≡ true → t ≡ true
this true e = refl
this false e = let z : ◌≡◌ {A = ℕ} 0 1 = cc in absurd (omega arith)

get_long : (k : List ℕ) → is_get (key_of k) ≡ true → length k ≡ 3
unfolding key_of is_word
get_long k e =
    ap length (true_says (says_same k (103 ∷ 101 ∷ 116 ∷ []))
    (this (is_word k (103 ∷ 101 ∷ 116 ∷ []))
    (other (is_word k (117 ∷ 112 ∷ [])) (Some Up) _ refl
    (other (is_word k (112 ∷ 117 ∷ 116 ∷ [])) (Some Put) _ refl
    (other (is_word k (109 ∷ 118 ∷ [])) (Some Mv) _ refl
    (other (is_word k (99 ∷ 112 ∷ [])) (Some Cp) _ refl
    (other (is_word k (100 ∷ 101 ∷ 108 ∷ [])) (Some Del) _ refl
    (other (is_word k (115 ∷ 101 ∷ 116 ∷ [])) (Some Set) _ refl
    (other (is_word k (97 ∷ 100 ∷ 100 ∷ [])) (Some KeyAdd) _ refl e)))))))))

three-room : (n : ℕ) (k : Key) (a b : ℕ) → (is_get (Some k) ≡ true → 8 ≤ n) → Roomy n (three k a b)
three-room n KeyAdd a b f = tt
three-room n Set a b f = tt
three-room n Del a b f = seated-room n a (Delete b) tt
three-room n Cp a b f = tt
three-room n Mv a b f = tt
three-room n Put a b f = seated-room n a (Commits b 4_294_967_295) tt
three-room n Up a b f = seated-room n a (Update 4_294_967_295 b) tt
three-room n Get a b f = f refl

four-room : (n : ℕ) (k : Key) (a b : ℕ) (z : Option ℕ) (h : Option (List ℕ)) → Roomy n (four k a b z h)
four-room n KeyAdd a b z none = tt
four-room n KeyAdd a b z (some x) = seated-room n a (Add b x) tt
four-room n Set a b z none = tt
four-room n Set a b z (some x) = seated-room n a (Edit b x) tt
four-room n Del a b z h = tt
four-room n Cp a b none h = tt
four-room n Cp a b (some e) h = seated-room n a (Copy b e) tt
four-room n Mv a b none h = tt
four-room n Mv a b (some e) h = seated-room n a (Move b e) tt
four-room n Put a b z h = tt
four-room n Up a b z h = tt
four-room n Get a b z h = tt

some_long : (w : List ℕ) (m : ℕ) → number_of w ≡ some m → 1 ≤ length w
unfolding number_of
some_long [] m e = let z : ◌≡◌ {A = ℕ} 0 1 = cc in absurd (omega arith)
some_long (x ∷ w) m e = omega arith

abbrev long : Option ℕ → List ℕ → Type 0
long o w = Every (λ (m : ℕ). 1 ≤ length w) o

number_long : (w : List ℕ) → long (number_of w) w
number_long w = go (number_of w) refl
  where
    go : (o : Option ℕ) → number_of w ≡ o → long o w
    go none e = tt
    go (some m) e = some_long w m e

turn-room : (ws : List (List ℕ)) → Roomy (sizes ws) (turn_of ws)
unfolding turn_of
turn-room [] = tt
turn-room (k ∷ []) = tt
turn-room (k ∷ x ∷ []) = tt
turn-room (k ∷ x ∷ y ∷ []) = go (key_of k) refl (number_of x) (number_of y) (number_long x) (number_long y)
  where
    go : (o : TheOption Key) → key_of k ≡ o → (u v : Option ℕ) → long u x → long v y → Roomy (sizes (k ∷ x ∷ y ∷ [])) (three_of o u v)
    go None f u v p q = tt
    go (Some w) f none v p q = tt
    go (Some w) f (some a) none p q = tt
    go (Some w) f (some a) (some b) p q = three-room (sizes (k ∷ x ∷ y ∷ [])) w a b (λ e. omega (arith, p, q, get_long k (ap is_get f ∙ e)))
turn-room (k ∷ x ∷ y ∷ z ∷ []) = go (key_of k) (number_of x) (number_of y)
  where
    go : (o : TheOption Key) (u v : Option ℕ) → Roomy (sizes (k ∷ x ∷ y ∷ z ∷ [])) (four_of o u v (number_of z) (hex_of z))
    go None u v = tt
    go (Some w) none v = tt
    go (Some w) (some a) none = tt
    go (Some w) (some a) (some b) = four-room (sizes (k ∷ x ∷ y ∷ z ∷ [])) w a b (number_of z) (hex_of z)
turn-room (k ∷ x ∷ y ∷ z ∷ u ∷ ws) = tt

line-room : (line : List ℕ) → Roomy (length line + 1) (line_turn line)
line-room line = subst (λ (n : ℕ). Roomy n (line_turn line)) (sizes_words line) (turn-room (words line))

-- ---- the text of an answer

number_text : (a b c n : ℕ) → length (a ∷ b ∷ c ∷ (decimal_of n ++ (10 ∷ []))) ≤ 14
number_text a b c n = simp length-append (omega (arith, length_decimal 10 n))

sheet_text_lem : (n : ℕ) (o : Option Bytes) → Small o → length (text_of (as_bytes n o)) ≤ 965
sheet_text_lem n none p = omega (arith, number_text 110 111 32 8)
sheet_text_lem n (some x) p = simp length-append (omega (arith, length_hex x, p.size))

answer-room : (s : State) (k n : ℕ) (c : Call) (o : Option ℕ) → first_of (own_conditions (side_of s k) c) ≡ o → Kept s → 1 ≤ n → Room n c → length (text_of (step_by o s k c).0) ≤ 121 * n
answer-room s k n c (some m) e K h r = omega (arith, number_text 110 111 32 m)
answer-room s k n (Add i x) none e K h r = omega arith
answer-room s k n (Edit i x) none e K h r = omega arith
answer-room s k n (Delete i) none e K h r = omega arith
answer-room s k n (Copy i j) none e K h r = omega arith
answer-room s k n (Move i j) none e K h r = omega arith
answer-room s k n (Commits stamp mask) none e K h r = omega (arith, number_text 111 107 32 (suc (last s.history)))
answer-room s k n (Update mask R) none e K h r = omega arith
answer-room s k n (Revert mask) none e K h r = omega arith
answer-room s k n (Read R i) none e K h r =
    let l = clear (conditions (side_of s k) (Read R i)) e in
    let le : R ≤ last s.history = ltb-false (last s.history) R (or_false (no_sheet i) (too_late s.history R) l.0).1 in
    omega (arith, sheet_text_lem (namer s.history R i) (sheet s.history R i) (small-tree s.history R i K.sound le))
answer-room s k n (Show i) none e K h r = absurd r
answer-room s k n (Status i) none e K h r = omega arith
answer-room s k n (Log R i) none e K h r = omega arith
answer-room s k n Clears none e K h r = omega arith
answer-room s k n (CommitsCut stamp mask m) none e K h r = absurd r
answer-room s k n (ClearsCut m) none e K h r = absurd r
answer-room s k n (Release R seat stamp) none e K h r = absurd r
answer-room s k n (Panel R i) none e K h r = absurd r

text_room : (s : State) (n : ℕ) (o : Option Turn) → Roomy n o → Kept s → 1 ≤ n → length (answered s o).0 ≤ 121 * n
text_room s n none r K h = omega arith
text_room s n (some t) r K h = answer-room s t.by n t.call (first_of (own_conditions (side_of s t.by) t.call)) refl K h r

line_kept : (s : State) (o : Option Turn) → ((t : Turn) → o ≡ some t → Valid t) → Kept s → Kept (answered s o).1
line_kept s none v K = K
line_kept s (some t) v K = kept_step s t (v t refl) K

transcript-room : (s : State) (ls : List Bytes) → Kept s → length (transcript s ls) ≤ 121 * sizes ls
unfolding transcript
transcript-room s [] K = omega arith
transcript-room s (l ∷ ls) K =
    let a = answered s (line_turn l) in
    let n = length-append a.0 (transcript a.1 ls) in
    let p = text_room s (length l + 1) (line_turn l) (line-room l) K (omega arith) in
    let q = transcript-room a.1 ls (line_kept s (line_turn l) (line-valid l) K) in
    omega (arith, n, p, q)

-- ---- the output

pub too_long : (input : Bytes) → 4_096 < length input → output input ≡ unknown
unfolding output
too_long input h = simp (lt-leb _ _ h)

pub not_long : (input : Bytes) → length input ≤ 4_096 → output input ≡ transcript (fresh 32) (lines input)
unfolding output
not_long input h = simp (le-leb _ _ h)

-- THE STATEMENT
pub output-room : (input : Bytes) → length (output input) ≤ 495_737
output-room input = go (leb (length input) 4_096) refl
  where
    go : (t : Bool) → leb (length input) 4_096 ≡ t → length (output input) ≤ 495_737
    go true e =
        let h : length input ≤ 4_096 = leb-true _ _ e in
        omega (arith, ap length (not_long input h), transcript-room (fresh 32) (lines input) (kept_fresh 32 (omega arith)), sizes_lines input)
    go false e = let h : 4_096 < length input = leb-false _ _ e in omega (arith, ap length (too_long input h))
