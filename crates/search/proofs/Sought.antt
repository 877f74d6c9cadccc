-- What the search back finds is what the table of the tree has.
-- Assumes nothing.
use Prim.Native.Nat.{◌-◌, ◌<◌, ◌≤◌, suc, zero, ℕ}
use mathlib.Core.Bool.{Bool, cond, false, true}
use mathlib.Core.List.{List, [], ◌++◌, ◌∷◌}
use mathlib.Core.Logic.{inl, inr}
use mathlib.Core.Path.{◌∙◌, ◌≡◌, ap, refl, subst, sym}
use native.Mathlib.Omega.{arith}
use borrow.Author.Tests.{eq-eqb, ne_eqb}
use lib.Dec.{eqb}
use lib.ListN.{get_or, get_or-replicate, length, replicate, set, take}
use lib.Seq.{get_or-set_other, get_or-set_same, take-suc}
use Rattle.block.proofs.Says.{eq_or}
use Rattle.model.specs.Blocks.{Block, Line, blank, bytes_at, commit, content, label, mark}
use Rattle.model.specs.Layout.{Table, next, puts}
use Rattle.model.specs.Pass.{tables_of}
use Rattle.model.specs.Store.{blocks_of, history_of}
use Rattle.laws.proofs.Bridge.{tables_trail}
use Rattle.laws.proofs.Puts.{length-puts}
use Rattle.laws.proofs.Tables.{length-next, trail, trail_of}
use Rattle.search.proofs.Halving.{back_all, in_any}
use Rattle.search.proofs.Revisions.{Passed, after, counted, ok_all, opened, trail_after, used-few, used_is, used_in}
use Rattle.search.specs.Find.{Bound, hit_in}
use Rattle.search.specs.declared.Found.{Found}

-- change by change: the block of the first line that names the sheet, or else what an older commit has
abbrev hit : ℕ → List Line → ℕ → ℕ
hit i [] older = older
hit i (l ∷ ls) older = cond (eqb l.sheet i) l.block (hit i ls older)

next_at : (ls : List Line) (t : Table) (i : ℕ) → i < length t → get_or (next ls t) i 0 ≡ hit i ls (get_or t i 0)
unfolding next
next_at [] t i h = refl
next_at (l ∷ ls) t i h =
    elim (eq_or l.sheet i) [
      | inl e ↦
          rw (eq-eqb l.sheet i e)
          (subst (λ (j : ℕ). get_or (set N l.sheet l.block) j 0 ≡ l.block) e
          (get_or-set_same N l.sheet l.block 0 (rw (length-puts (λ (x : Line). x.block) ls t, e) h)))
      | inr n ↦ rw (ne_eqb l.sheet i n) (get_or-set_other N l.sheet i l.block 0 (λ e. n (sym e)) ∙ next_at ls t i h)
    ]
  where
    N : Table
    N = puts (λ (x : Line). x.block) ls t

hit_block : (i r : ℕ) (ls : List Line) (older : Found) → (hit_in i r ls older).block ≡ hit i ls older.block
hit_block i r [] older = refl
hit_block i r (l ∷ ls) older = go (hit_block i r ls older) (eqb l.sheet i)
  where
    go : (hit_in i r ls older).block ≡ hit i ls older.block → (t : Bool)
        → (cond t (record { block = l.block; revision = r }) (hit_in i r ls older)).block ≡ cond t l.block (hit i ls older.block)
    go e true = refl
    go e false = e

abbrev one : Block → Table → Table
one label t = t
one (content r b) t = t
one (commit r s q ls) t = next ls t
one (mark m) t = t
one blank t = t

after_snoc : (xs : List Block) (x : Block) (t : Table) → after (xs ++ (x ∷ [])) t ≡ one x (after xs t)
after_snoc [] label t = refl
after_snoc [] (content r b) t = refl
after_snoc [] (commit r s q ls) t = refl
after_snoc [] (mark m) t = refl
after_snoc [] blank t = refl
after_snoc (label ∷ xs) x t = after_snoc xs x t
after_snoc (content r b ∷ xs) x t = after_snoc xs x t
after_snoc (commit r s q ls ∷ xs) x t = after_snoc xs x (next ls t)
after_snoc (mark m ∷ xs) x t = after_snoc xs x t
after_snoc (blank ∷ xs) x t = after_snoc xs x t

length-after : (xs : List Block) (t : Table) → length (after xs t) ≡ length t
length-after [] t = refl
length-after (label ∷ xs) t = length-after xs t
length-after (content r b ∷ xs) t = length-after xs t
length-after (commit r s q ls ∷ xs) t = length-after xs (next ls t) ∙ length-next ls t
length-after (mark m ∷ xs) t = length-after xs t
length-after (blank ∷ xs) t = length-after xs t

one_block : (i : ℕ) (x : Block) (older : Found) (t : Table) → i < length t → older.block ≡ get_or t i 0 → (in_any i x older).block ≡ get_or (one x t) i 0
one_block i label older t h e = e
one_block i (content r b) older t h e = e
one_block i (commit r s q ls) older t h e = hit_block i r ls older ∙ ap (hit i ls) e ∙ sym (next_at ls t i h)
one_block i (mark m) older t h e = e
one_block i blank older t h e = e

back-after : (bs : List Block) (i : ℕ) → i < 32 → (b : ℕ) → b ≤ length bs → (back_all (label ∷ bs) i (suc b)).block ≡ get_or (after (take b bs) (replicate 32 0)) i 0
unfolding back_all
back-after bs i h zero g = sym (get_or-replicate 32 i 0 0 h)
back-after bs i h (suc b) g =
    let t = after (take b bs) (replicate 32 0) in
    one_block i (get_or bs b blank) (back_all (label ∷ bs) i (suc b)) t (subst (λ (x : ℕ). i < x) (sym (length-after (take b bs) (replicate 32 0))) h) (back-after bs i h b (omega arith))
    ∙ ap (λ (x : Table). get_or x i 0) (sym (ap (λ (x : List Block). after x (replicate 32 0)) (take-suc bs b blank (omega arith))
    ∙ after_snoc (take b bs) (get_or bs b blank) (replicate 32 0)))

-- THE STATEMENT: before the bound of r stands what tree r's table has
pub sought : (s : List ℕ) (n used r b i : ℕ) → Passed s n used → Bound (blocks_of n s) used r b → r ≤ length (history_of n s) → i < 32
    → (back_all (blocks_of n s) i b).block ≡ get_or (get_or (tables_of (blocks_of n s)) r []) i 0
unfolding trail_of
sought s n used r b i A G last h =
    let q = opened (blocks_of n s) (ok_all s n used A) in
    let bs = q.0 in
    let e : b ≡ suc (b - 1) = omega (arith, G.low) in
    let u : b - 1 ≤ used_in bs = omega (arith, G.high, used_is s n used A) in
    ap (λ (x : List Block). (back_all x i b).block) q.1
    ∙ ap (λ (x : ℕ). (back_all (label ∷ bs) i x).block) e
    ∙ back-after bs i h (b - 1) (omega (arith, used-few bs))
    ∙ ap (λ (x : Table). get_or x i 0) (sym (trail_after (bytes_at (blocks_of n s)) 1 0 (replicate 32 0 ∷ []) (replicate 32 0) bs q.2 (b - 1) u))
    ∙ ap (λ (x : ℕ). get_or (get_or (trail (replicate 32 0) bs) x []) i 0) (counted s n used A r last b G)
    ∙ ap (λ (x : List Block). get_or (get_or (trail_of x) r []) i 0) (sym q.1)
    ∙ ap (λ (x : List Table). get_or (get_or x r []) i 0) (sym (tables_trail (blocks_of n s)))
