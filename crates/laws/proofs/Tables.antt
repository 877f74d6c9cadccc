-- The tables of block numbers are the trees of the history: what table r has for a sheet is the block with the bytes that tree r has.
-- Assumes nothing.
use Prim.Native.Nat.{◌+◌, ◌<◌, ◌≤◌, suc, zero, ℕ}
use mathlib.Core.Bool.{◌&&◌, cond}
use mathlib.Core.List.{List, [], ◌++◌, ◌∷◌, map}
use mathlib.Core.Logic.{inl, inr}
use mathlib.Core.Option.{Option, none, some}
use mathlib.Core.Path.{◌∙◌, ◌≡◌, ap, refl, subst, sym}
use native.Mathlib.Omega.{arith}
use borrow.Author.Tests.{ne_eqb}
use lib.Dec.{T, eqb, lit≤}
use lib.ListN.{get_or-map, get_or, length, length-map, replicate, set, take}
use lib.Seq.{ext_get_or, get_or-set_other, get_or-set_same}
use Rattle.block.proofs.Says.{and_true, eq_or}
use Rattle.block.specs.Lists.{All}
use Rattle.model.specs.Blocks.{Action, Block, Line, adds, blank, bytes_at, changes, commit, content, copies, deletes, label, mark}
use Rattle.model.specs.History.{Change, Tree, applied, made, nothing, tree, tree_from, tree₀}
use Rattle.model.specs.Layout.{Rule, RuleAs, Table, latest, means, next, puts}
use Rattle.model.specs.Pass.{grown, laid, no_changes, ok, ok_from, read_all, read_from, stands, stated}
use Rattle.laws.proofs.Acceptance.{laid_so, no_change, places}
use Rattle.laws.proofs.Puts.{length-puts}

pub applied_at : (cs : List Change) (t : Tree) (i : ℕ) → length cs ≡ length t → get_or (applied cs t) i none ≡ made (get_or cs i nothing) (get_or t i none)
applied_at [] [] i e = refl
applied_at [] (o ∷ t) i e = absurd (omega arith)
applied_at (c ∷ cs) [] i e = absurd (omega arith)
applied_at (c ∷ cs) (o ∷ t) zero e = refl
applied_at (c ∷ cs) (o ∷ t) (suc i) e = applied_at cs t i (omega arith)

pub length-applied : (cs : List Change) (t : Tree) → length cs ≡ length t → length (applied cs t) ≡ length t
length-applied [] [] e = refl
length-applied [] (o ∷ t) e = absurd (omega arith)
length-applied (c ∷ cs) [] e = absurd (omega arith)
length-applied (c ∷ cs) (o ∷ t) e = ap suc (length-applied cs t (omega arith))

-- what a tree has for a sheet whose block number is p
unfoldable pub slot : (ℕ → List ℕ) → ℕ → Option (List ℕ)
slot look p = cond (eqb p 0) none (some (look p))

-- the tables from this one on
unfoldable pub trail : Table → List Block → List Table
trail t [] = t ∷ []
trail t (label ∷ bs) = t ∷ []
trail t (content r b ∷ bs) = trail t bs
trail t (commit r seat stamp ls ∷ bs) = t ∷ trail (next ls t) bs
trail t (mark m ∷ bs) = trail t bs
trail t (blank ∷ bs) = t ∷ []

pub slot_some : (look : ℕ → List ℕ) (p : ℕ) → 1 ≤ p → slot look p ≡ some (look p)
unfolding slot
slot_some look p h = rw (ne_eqb p 0 (λ e. omega arith))

pub slot_none : (look : ℕ → List ℕ) → slot look 0 ≡ none
unfolding slot
slot_none look = refl

pub length-next : (ls : List Line) (t : Table) → length (next ls t) ≡ length t
unfolding next
length-next ls t = length-puts (λ (l : Line). l.block) ls t

pub slot_at : (look : ℕ → List ℕ) (t : Table) (i : ℕ) → get_or (map (slot look) t) i none ≡ slot look (get_or t i 0)
slot_at look t i = subst (λ (d : Option (List ℕ)). get_or (map (slot look) t) i d ≡ slot look (get_or t i 0)) (slot_none look) (get_or-map (slot look) t i 0)

no_sheets : (look : ℕ → List ℕ) → map (slot look) (replicate 32 0) ≡ tree₀
unfolding slot
no_sheets look = refl

module _ (look : ℕ → List ℕ) (at k : ℕ) (tables : List Table) (low : 1 ≤ at) where
  -- a line's block number and what the line does to the tree agree
  line-fits : (a : Action) (l : Line) → l.action ≡ a → RuleAs look at k tables a l → (old : Option (List ℕ)) → slot look l.block ≡ made (means look l) old
  unfolding means
  line-fits adds l e r old = rw e (slot_some look l.block (omega (arith, r.1.0)))
  line-fits changes l e r old = rw e (slot_some look l.block (omega (arith, r.1.0)))
  line-fits deletes l e r old = rw e (ap (slot look) r.1 ∙ slot_none look)
  line-fits copies l e r old = rw e (slot_some look l.block (elim r.3 [ inl o ↦ omega (arith, o.0.0) | inr q ↦ omega (arith, r.2, q) ]))

  lines_fit : (ls : List Line) (t : Table) (i : ℕ) → All (Rule look at k tables) ls → i < length t → length t ≡ 32
      → slot look (get_or (puts (λ (l : Line). l.block) ls t) i 0) ≡ made (get_or (puts (means look) ls no_changes) i nothing) (slot look (get_or t i 0))
  lines_fit [] t i a h e = rw (no_change i)
  lines_fit (l ∷ ls) t i a h e =
      elim (eq_or l.sheet i) [
        | inl q ↦
            let sA : get_or (set A l.sheet l.block) i 0 ≡ l.block =
            subst (λ (j : ℕ). get_or (set A l.sheet l.block) j 0 ≡ l.block) q (get_or-set_same A l.sheet l.block 0 (rw (length-puts, e) a.0.0)) in
            let sB : get_or (set B l.sheet (means look l)) i nothing ≡ means look l =
            subst (λ (j : ℕ). get_or (set B l.sheet (means look l)) j nothing ≡ means look l) q
            (get_or-set_same B l.sheet (means look l) nothing (rw (length-puts, places) a.0.0)) in
            rw (sA, sB) (line-fits l.action l refl a.0.1 (slot look (get_or t i 0)))
        | inr n ↦
            rw (get_or-set_other A l.sheet i l.block 0 (λ q. n (sym q)), get_or-set_other B l.sheet i (means look l) nothing (λ q. n (sym q)))
            (lines_fit ls t i a.1 h e)
      ]
    where
      A : List ℕ
      A = puts (λ (x : Line). x.block) ls t

      B : List Change
      B = puts (means look) ls no_changes

  -- the next table is the next tree
  pub next-tree : (ls : List Line) (t : Table) → All (Rule look at k tables) ls → length t ≡ 32
      → map (slot look) (next ls t) ≡ applied (puts (means look) ls no_changes) (map (slot look) t)
  unfolding next
  next-tree ls t a e =
      let lC : length C ≡ 32 = length-puts (means look) ls no_changes ∙ places in
      let lS : length (map (slot look) t) ≡ 32 = length-map t (slot look) ∙ e in
      let lN : length (map (slot look) N) ≡ 32 = length-map N (slot look) ∙ (length-puts (λ (l : Line). l.block) ls t ∙ e) in
      ext_get_or none (map (slot look) N) (applied C (map (slot look) t)) (lN ∙ sym (length-applied C (map (slot look) t) (lC ∙ sym lS) ∙ lS))
      (λ i h.
      slot_at look N i
      ∙ lines_fit ls t i a (omega arith) e
      ∙ sym (applied_at C (map (slot look) t) i (lC ∙ sym lS) ∙ ap (made (get_or C i nothing)) (slot_at look t i)))
    where
      C : List Change
      C = puts (means look) ls no_changes

      N : Table
      N = puts (λ (l : Line). l.block) ls t

pub latest_snoc : (ts : List Table) (t : Table) → latest (ts ++ (t ∷ [])) ≡ t
latest_snoc [] t = refl
latest_snoc (u ∷ []) t = refl
latest_snoc (u ∷ (v ∷ ts)) t = latest_snoc (v ∷ ts) t

module _ (look : ℕ → List ℕ) where
  trail_trees : (at k : ℕ) (tables : List Table) (t : Table) (bs : List Block) → 1 ≤ at → latest tables ≡ t → length t ≡ 32
      → T (ok_from look at k tables bs) → (j : ℕ) → j ≤ length (read_from look bs)
      → map (slot look) (get_or (trail t bs) j []) ≡ tree_from (map (slot look) t) (take j (read_from look bs))
  unfolding ok_from read_from trail stated
  trail_trees at k tables t [] low e w p zero h = refl
  trail_trees at k tables t [] low e w p (suc j) h = absurd (omega arith)
  trail_trees at k tables t (label ∷ bs) low e w p j h = absurd p
  trail_trees at k tables t (content r b ∷ bs) low e w p j h =
      trail_trees at (suc k) tables t bs low e w (and_true (eqb r (length tables)) (ok_from look at (suc k) tables bs) p).1 j h
  trail_trees at k tables t (commit r seat stamp ls ∷ bs) low e w p zero h = refl
  trail_trees at k tables t (commit r seat stamp ls ∷ bs) low e w p (suc j) h =
      let q = (and_true (eqb r (length tables)) (laid look at k tables seat ls && ok_from look (suc (at + k)) 0 (grown tables ls) bs) p).1 in
      let o = and_true (laid look at k tables seat ls) (ok_from look (suc (at + k)) 0 (grown tables ls) bs) q in
      let n = next-tree look at k tables low ls t (laid_so look at k tables seat stamp ls o.0).rules w in
      trail_trees (suc (at + k)) 0 (grown tables ls) (next ls t) bs (omega arith) (latest_snoc tables (next ls (latest tables)) ∙ ap (next ls) e) (length-next ls t ∙ w) o.1 j (omega arith)
      ∙ ap (λ (x : Tree). tree_from x (take j (read_from look bs))) n
  trail_trees at k tables t (mark m ∷ bs) low e w p j h =
      let q = (and_true (eqb k 0) (stands tables m && ok_from look (suc at) 0 tables bs) p).1 in
      trail_trees (suc at) 0 tables t bs (omega arith) e w (and_true (stands tables m) (ok_from look (suc at) 0 tables bs) q).1 j h
  trail_trees at k tables t (blank ∷ bs) low e w p zero h = refl
  trail_trees at k tables t (blank ∷ bs) low e w p (suc j) h = absurd (omega arith)

-- the tables of a whole store
unfoldable pub trail_of : List Block → List Table
trail_of [] = []
trail_of (b ∷ bs) = trail (replicate 32 0) bs

-- table r, with bytes for block numbers, is tree r
pub tables_trees : (bs : List Block) → T (ok bs) → (r : ℕ) → r ≤ length (read_all bs)
    → map (slot (bytes_at bs)) (get_or (trail_of bs) r []) ≡ tree (read_all bs) r
unfolding ok read_all trail_of tree
tables_trees [] t r h = absurd t
tables_trees (label ∷ bs) t r h =
    trail_trees (bytes_at (label ∷ bs)) 1 0 (replicate 32 0 ∷ []) (replicate 32 0) bs (lit≤ tt) refl refl t r h
    ∙ ap (λ (x : Tree). tree_from x (take r (read_from (bytes_at (label ∷ bs)) bs))) (no_sheets (bytes_at (label ∷ bs)))
tables_trees (content r b ∷ bs) t j h = absurd t
tables_trees (commit r seat stamp ls ∷ bs) t j h = absurd t
tables_trees (mark m ∷ bs) t j h = absurd t
tables_trees (blank ∷ bs) t j h = absurd t
