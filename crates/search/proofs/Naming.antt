-- The revision that the search back finds is the last commit that names the sheet.
-- Assumes nothing.
use Prim.Native.Nat.{◌+◌, ◌-◌, ◌<◌, ◌≤◌, suc, zero, ℕ}
use mathlib.Core.Bool.{Bool, ◌&&◌, cond, false, true}
use mathlib.Core.List.{List, [], ◌++◌, ◌∷◌, append-nil}
use mathlib.Core.Logic.{inl, inr}
use mathlib.Core.Path.{◌∙◌, ◌≡◌, ap, ap₂, refl, subst, sym}
use native.Mathlib.Omega.{arith}
use borrow.Author.Tests.{eq-eqb, ne_eqb}
use lib.Dec.{T, eqb}
use lib.ListN.{get_or, length, replicate, set, take}
use lib.Seq.{get_or-set_other, get_or-set_same, take-suc}
use Rattle.block.proofs.Says.{and_true, eq_or}
use Rattle.block.specs.Lists.{All}
use Rattle.model.specs.Blocks.{Action, Block, Line, adds, blank, bytes_at, changes, commit, content, copies, deletes, label, mark}
use Rattle.model.specs.History.{History, namer, namer_from, names, nothing}
use Rattle.model.specs.Layout.{Table, means, means_as, puts}
use Rattle.model.specs.Pass.{grown, laid, no_changes, ok_from, read_from, stated}
use Rattle.model.specs.Store.{blocks_of, history_of}
use Rattle.laws.proofs.Acceptance.{no_change, places}
use Rattle.laws.proofs.Puts.{length-puts}
use Rattle.laws.proofs.Trees.{namer-append}
use Rattle.search.proofs.Halving.{back_all, in_any}
use Rattle.search.proofs.Revisions.{Passed, after-mark, counted, first_read, Stated, kinds, ok_all, opened, states, stating, used-few, used_is, used_in}
use Rattle.search.specs.Find.{Bound, count, hit_in}
use Rattle.search.specs.declared.Found.{Found}
use Rattle.shape.specs.Shape.{kind_of}
use Rattle.shape.specs.declared.BlockKind.TheVariants.{Mark as MarkKind}

-- ---- a commit

abbrev any_names : ℕ → List Line → Bool
any_names i [] = false
any_names i (l ∷ ls) = cond (eqb l.sheet i) true (any_names i ls)

hit_revision : (i r : ℕ) (ls : List Line) (older : Found) → (hit_in i r ls older).revision ≡ cond (any_names i ls) r older.revision
hit_revision i r [] older = refl
hit_revision i r (l ∷ ls) older = go (hit_revision i r ls older) (eqb l.sheet i)
  where
    go : (hit_in i r ls older).revision ≡ cond (any_names i ls) r older.revision → (t : Bool)
        → (cond t (record { block = l.block; revision = r }) (hit_in i r ls older)).revision ≡ cond (cond t true (any_names i ls)) r older.revision
    go e true = refl
    go e false = e

means-names : (look : ℕ → List ℕ) (l : Line) → names (means look l) ≡ true
unfolding means
means-names look l = go l.action
  where
    go : (a : Action) → names (means_as look a l) ≡ true
    go adds = refl
    go changes = refl
    go deletes = refl
    go copies = refl

stated-names : (look : ℕ → List ℕ) (i : ℕ) → i < 32 → (ls : List Line) → names (get_or (puts (means look) ls no_changes) i nothing) ≡ any_names i ls
stated-names look i h [] = ap names (no_change i)
stated-names look i h (l ∷ ls) =
    elim (eq_or l.sheet i) [
      | inl e ↦ rw (eq-eqb l.sheet i e)
          (subst (λ (j : ℕ). names (get_or (set (puts (means look) ls no_changes) l.sheet (means look l)) j nothing) ≡ true) e
          (ap names (get_or-set_same (puts (means look) ls no_changes) l.sheet (means look l) nothing (rw (length-puts (means look) ls no_changes, places, e) h)) ∙ means-names look l))
      | inr o ↦ rw (ne_eqb l.sheet i o)
          (ap names (get_or-set_other (puts (means look) ls no_changes) l.sheet i (means look l) nothing (λ q. o (sym q))) ∙ stated-names look i h ls)
    ]

-- ---- blocks in use

abbrev Solid : List Block → Type 0
Solid xs = All Stated xs

solid_take : (look : ℕ → List ℕ) (at k : ℕ) (tables : List Table) (bs : List Block) → T (ok_from look at k tables bs) → (b : ℕ) → b ≤ used_in bs → Solid (take b bs)
unfolding ok_from
solid_take look at k tables bs t zero h = tt
solid_take look at k tables [] t (suc b) h = absurd (omega arith)
solid_take look at k tables (label ∷ bs) t (suc b) h = absurd t
solid_take look at k tables (blank ∷ bs) t (suc b) h = absurd (omega arith)
solid_take look at k tables (content r x ∷ bs) t (suc b) h =
    (tt, solid_take look at (suc k) tables bs (and_true (eqb r (length tables)) (ok_from look at (suc k) tables bs) t).1 b (omega arith))
solid_take look at k tables (commit r s q ls ∷ bs) t (suc b) h =
    let u = (and_true (eqb r (length tables)) (laid look at k tables s ls && ok_from look (suc (at + k)) 0 (grown tables ls) bs) t).1 in
    (tt, solid_take look (suc (at + k)) 0 (grown tables ls) bs (and_true (laid look at k tables s ls) (ok_from look (suc (at + k)) 0 (grown tables ls) bs) u).1 b (omega arith))
solid_take look at k tables (mark m ∷ bs) t (suc b) h = (tt, solid_take look (suc at) 0 tables bs (after-mark look at k tables m bs t) b (omega arith))

read_snoc : (look : ℕ → List ℕ) (xs : List Block) (x : Block) → Solid xs → read_from look (xs ++ (x ∷ [])) ≡ read_from look xs ++ read_from look (x ∷ [])
unfolding read_from
read_snoc look [] x a = refl
read_snoc look (label ∷ xs) x a = absurd a.0
read_snoc look (content r b ∷ xs) x a = read_snoc look xs x a.1
read_snoc look (commit r s q ls ∷ xs) x a = ap {B = History} (λ y. stated look s q ls ∷ y) (read_snoc look xs x a.1)
read_snoc look (mark m ∷ xs) x a = read_snoc look xs x a.1
read_snoc look (blank ∷ xs) x a = absurd a.0

read_count : (look : ℕ → List ℕ) (xs : List Block) → Solid xs → length (read_from look xs) ≡ count xs
unfolding read_from
read_count look [] a = refl
read_count look (label ∷ xs) a = absurd a.0
read_count look (content r b ∷ xs) a = read_count look xs a.1
read_count look (commit r s q ls ∷ xs) a = ap suc (read_count look xs a.1)
read_count look (mark m ∷ xs) a = read_count look xs a.1
read_count look (blank ∷ xs) a = absurd a.0

read_take : (look : ℕ → List ℕ) (bs : List Block) (q : ℕ) → Solid (take q bs) → read_from look (take q bs) ≡ take (count (take q bs)) (read_from look bs)
unfolding read_from
read_take look bs zero a = refl
read_take look [] (suc q) a = refl
read_take look (label ∷ bs) (suc q) a = absurd a.0
read_take look (content r b ∷ bs) (suc q) a = read_take look bs q a.1
read_take look (commit r s t ls ∷ bs) (suc q) a = ap {B = History} (λ y. stated look s t ls ∷ y) (read_take look bs q a.1)
read_take look (mark m ∷ bs) (suc q) a = read_take look bs q a.1
read_take look (blank ∷ bs) (suc q) a = absurd a.0

-- one block more
one_more : (look : ℕ → List ℕ) (i : ℕ) → i < 32 → (xs : List Block) (x : Block) (older : Found) → Solid xs → Stated x
    → ((kind_of x ≡ MarkKind → ⊥) → stating x ≡ 1 + count xs)
    → older.revision ≡ namer_from 0 0 (read_from look xs) i → (in_any i x older).revision ≡ namer_from 0 0 (read_from look (xs ++ (x ∷ []))) i
unfolding read_from stated
one_more look i h xs label older a k e w = absurd k
one_more look i h xs (content r b) older a k e w = w ∙ ap (λ (y : History). namer_from 0 0 y i) (sym (read_snoc look xs (content r b) a ∙ append-nil (read_from look xs)))
one_more look i h xs (commit r s q ls) older a k e w =
    let c = stated look s q ls in
    let n : r ≡ suc (0 + length (read_from look xs)) = omega (arith, read_count look xs a, e (λ z. cc)) in
    hit_revision i r ls older
    ∙ ap₂ (λ (x y : ℕ). cond (any_names i ls) x y) n w
    ∙ ap (λ (t : Bool). cond t (suc (0 + length (read_from look xs))) (namer_from 0 0 (read_from look xs) i)) (sym (stated-names look i h ls))
    ∙ sym (ap (λ (y : History). namer_from 0 0 y i) (read_snoc look xs (commit r s q ls) a) ∙ namer-append 0 0 (read_from look xs) (stated look s q ls ∷ []) i)
one_more look i h xs (mark m) older a k e w = w ∙ ap (λ (y : History). namer_from 0 0 y i) (sym (read_snoc look xs (mark m) a ∙ append-nil (read_from look xs)))
one_more look i h xs blank older a k e w = absurd k

back-names : (look : ℕ → List ℕ) (bs : List Block) → T (ok_from look 1 0 (replicate 32 0 ∷ []) bs) → (i : ℕ) → i < 32 → (b : ℕ) → b ≤ used_in bs
    → (back_all (label ∷ bs) i (suc b)).revision ≡ namer_from 0 0 (read_from look (take b bs)) i
unfolding back_all read_from
back-names look bs t i h zero g = refl
back-names look bs t i h (suc b) g =
    let m : b < length bs = omega (arith, used-few bs) in
    let e = take-suc bs b blank m in
    let k = kinds look 1 0 (replicate 32 0 ∷ []) bs t b (omega arith) in
    one_more look i h (take b bs) (get_or bs b blank) (back_all (label ∷ bs) i (suc b)) (solid_take look 1 0 (replicate 32 0 ∷ []) bs t b (omega arith)) k
    (states look 1 0 (replicate 32 0 ∷ []) bs t b (omega arith)).1 (back-names look bs t i h b (omega arith))
    ∙ ap (λ (x : List Block). namer_from 0 0 (read_from look x) i) (sym e)

-- THE STATEMENT: before the bound of r the search finds the revision of the last commit up to r that names the sheet
pub named-last : (s : List ℕ) (n used r b i : ℕ) → Passed s n used → Bound (blocks_of n s) used r b → r ≤ length (history_of n s) → i < 32
    → (back_all (blocks_of n s) i b).revision ≡ namer (history_of n s) r i
unfolding history_of
named-last s n used r b i A G last h =
    let q = opened (blocks_of n s) (ok_all s n used A) in
    let bs = q.0 in
    let look = bytes_at (blocks_of n s) in
    let e : b ≡ suc (b - 1) = omega (arith, G.low) in
    let u : b - 1 ≤ used_in bs = omega (arith, G.high, used_is s n used A) in
    ap (λ (x : List Block). (back_all x i b).revision) q.1
    ∙ ap (λ (x : ℕ). (back_all (label ∷ bs) i x).revision) e
    ∙ back-names look bs q.2 i h (b - 1) u
    ∙ ap (λ (y : History). namer_from 0 0 y i) (read_take look bs (b - 1) (solid_take look 1 0 (replicate 32 0 ∷ []) bs q.2 (b - 1) u)
    ∙ ap₂ (λ (x : ℕ) (y : History). take x y) (counted s n used A r last b G) (sym (first_read (blocks_of n s) bs q.1)))
