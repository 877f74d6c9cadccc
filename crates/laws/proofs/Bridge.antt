-- The rules speak of tables; a machine speaks of trees. At the end of a store's used blocks the two say the same.
-- Assumes nothing.
use Prim.Native.Nat.{◌≤◌, suc, ℕ}
use mathlib.Core.Bool.{not}
use mathlib.Core.List.{List, [], ◌++◌, ◌∷◌, append_assoc, map}
use mathlib.Core.Logic.{◌↔◌, inl, inr}
use mathlib.Core.Option.{none, some}
use mathlib.Core.Path.{◌∙◌, ◌≡◌, ap, refl, subst, sym}
use native.Mathlib.Omega.{arith}
use lib.Dec.{T}
use lib.ListN.{get_or, length, replicate}
use Rattle.block.proofs.Says.{eq_or}
use Rattle.block.specs.Lists.{All, all}
use Rattle.model.specs.Blocks.{Block, blank, bytes_at, commit, content, label, mark}
use Rattle.model.specs.History.{Change, History, Tree, add, change, copy, delete, nothing, tree}
use Rattle.model.specs.Layout.{Lays, Table, latest, next}
use Rattle.model.specs.Pass.{is_blank, ok, read_all, read_from, tables_after, tables_of}
use Rattle.laws.proofs.Acceptance.{lays_accepted}
use Rattle.laws.proofs.Tables.{latest_snoc, slot, slot_at, slot_none, slot_some, tables_trees, trail, trail_of}
use Rattle.laws.proofs.Writer.{Lawful}

-- the tables that a pass gathers are the trail
ends_from : (pre : List Table) (t : Table) (bs : List Block) → tables_after (pre ++ (t ∷ [])) bs ≡ pre ++ trail t bs
unfolding tables_after trail
ends_from pre t [] = refl
ends_from pre t (label ∷ bs) = refl
ends_from pre t (content r b ∷ bs) = ends_from pre t bs
ends_from pre t (commit r seat stamp ls ∷ bs) =
    ap (λ (x : Table). tables_after (pre ++ (t ∷ []) ++ (next ls x ∷ [])) bs) (latest_snoc pre t)
    ∙ ends_from (pre ++ (t ∷ [])) (next ls t) bs
    ∙ append_assoc pre (t ∷ []) (trail (next ls t) bs)
ends_from pre t (mark m ∷ bs) = ends_from pre t bs
ends_from pre t (blank ∷ bs) = refl

pub tables_trail : (bs : List Block) → tables_of bs ≡ trail_of bs
unfolding tables_of trail_of
tables_trail [] = refl
tables_trail (b ∷ bs) = ends_from [] (replicate 32 0) bs

-- blank blocks at the end add nothing to it
pub trail_blanks : (t : Table) (front bl : List Block) → All (λ (b : Block). b ≡ blank) bl → trail t (front ++ bl) ≡ trail t front
unfolding trail
trail_blanks t [] [] z = refl
trail_blanks t [] (b ∷ bl) z = ap (λ (x : Block). trail t (x ∷ bl)) z.0
trail_blanks t (label ∷ front) bl z = refl
trail_blanks t (content r b ∷ front) bl z = trail_blanks t front bl z
trail_blanks t (commit r seat stamp ls ∷ front) bl z = ap (λ (x : List Table). t ∷ x) (trail_blanks (next ls t) front bl z)
trail_blanks t (mark m ∷ front) bl z = trail_blanks t front bl z
trail_blanks t (blank ∷ front) bl z = refl

-- a table that is a tree has 0 exactly where the tree lacks the sheet, and else a block with the sheet's bytes
module _ (look : ℕ → List ℕ) (t : Table) (tr : Tree) (e : map (slot look) t ≡ tr) where
  at : (i : ℕ) → slot look (get_or t i 0) ≡ get_or tr i none
  at i = sym (slot_at look t i) ∙ ap (λ (x : Tree). get_or x i none) e

  pub lacks : (i : ℕ) → get_or t i 0 ≡ 0 → get_or tr i none ≡ none
  lacks i z = sym (at i) ∙ ap (slot look) z ∙ slot_none look

  pub has : (i : ℕ) → (get_or t i 0 ≡ 0 → ⊥) → get_or tr i none ≡ some (look (get_or t i 0))
  has i n = sym (at i) ∙ slot_some look (get_or t i 0) (omega arith)

  pub absent-iff : (i : ℕ) → (get_or t i 0 ≡ 0) ↔ (get_or tr i none ≡ none)
  absent-iff i = (
    lacks i,
    λ z. elim (eq_or (get_or t i 0) 0) [ inl q ↦ q | inr n ↦ (let w = has i n in let y : ◌≡◌ {A = ℕ} 0 1 = cc in absurd (omega arith)) ],
  )

length_trail : (look : ℕ → List ℕ) (bs : List Block) (t : Table) → length (trail t bs) ≡ suc (length (read_from look bs))
unfolding trail read_from
length_trail look [] t = refl
length_trail look (label ∷ bs) t = refl
length_trail look (content r b ∷ bs) t = length_trail look bs t
length_trail look (commit r seat stamp ls ∷ bs) t = ap suc (length_trail look bs (next ls t))
length_trail look (mark m ∷ bs) t = length_trail look bs t
length_trail look (blank ∷ bs) t = refl

latest_at : (t : Table) (ts : List Table) → latest (t ∷ ts) ≡ get_or (t ∷ ts) (length ts) []
latest_at t [] = refl
latest_at t (u ∷ ts) = latest_at u ts

latest_of : (ts : List Table) (n : ℕ) → length ts ≡ suc n → latest ts ≡ get_or ts n []
latest_of [] n e = absurd (omega arith)
latest_of (t ∷ ts) n e = let d : length ts ≡ n = omega arith in latest_at t ts ∙ ap (λ (x : ℕ). get_or (t ∷ ts) x []) d

-- the tables at the end of the used blocks are the trees of the history
pub record Trees (front bl : List Block) (h : History) : Type 0 where
  pub count : length (tables_of front) ≡ suc (length h)
  pub each : (v : ℕ) → v ≤ length h → map (slot (bytes_at (front ++ bl))) (get_or (tables_of front) v []) ≡ tree h v
  pub last : latest (tables_of front) ≡ get_or (tables_of front) (length h) []

pub trees_of : (front bl : List Block) (h : History) → T (all (λ b. not (is_blank b)) front) → All (λ (b : Block). b ≡ blank) bl → 1 ≤ length front
    → Lays (front ++ bl) h → Trees front bl h
unfolding ok read_all tables_of trail_of
trees_of [] bl h n z s m = absurd (omega arith)
trees_of (label ∷ front) bl h n z s m =
    let look = bytes_at (label ∷ (front ++ bl)) in
    let a = lays_accepted (label ∷ (front ++ bl)) h m in
    let e : tables_after (replicate 32 0 ∷ []) front ≡ trail (replicate 32 0) (front ++ bl) = ends_from [] (replicate 32 0) front ∙ sym (trail_blanks (replicate 32 0) front bl z) in
    let c : length (tables_after (replicate 32 0 ∷ []) front) ≡ suc (length h) = ap length e ∙ length_trail look (front ++ bl) (replicate 32 0) ∙ ap (λ (x : History). suc (length x)) a.1 in
    record {
      count = c;
      each = λ v g.
          ap (λ (x : List Table). map (slot look) (get_or x v [])) e
          ∙ tables_trees (label ∷ (front ++ bl)) a.0 v (subst (λ (x : History). v ≤ length x) (sym a.1) g) ∙ ap (λ (x : History). tree x v) a.1;
      last = latest_of (tables_after (replicate 32 0 ∷ []) front) (length h) c;
    }
trees_of (content r b ∷ front) bl h n z s m = absurd (lays_accepted (content r b ∷ (front ++ bl)) h m).0
trees_of (commit r seat stamp ls ∷ front) bl h n z s m = absurd (lays_accepted (commit r seat stamp ls ∷ (front ++ bl)) h m).0
trees_of (mark q ∷ front) bl h n z s m = absurd (lays_accepted (mark q ∷ (front ++ bl)) h m).0
trees_of (blank ∷ front) bl h n z s m = absurd n

-- THE RULES AS THE DOCUMENT HAS THEM: of a change to sheet i, after history h
abbrev pub Allowed : History → ℕ → Change → Type 0
Allowed h i nothing = Unit {0}
Allowed h i (add b) = get_or (tree h (length h)) i none ≡ none
Allowed h i (change b) = get_or (tree h (length h)) i none ≡ none → ⊥
Allowed h i delete = get_or (tree h (length h)) i none ≡ none → ⊥
Allowed h i (copy s v b) = (get_or (tree h (length h)) i none ≡ none) × ((1 ≤ v) × (v ≤ length h)) × (get_or (tree h v) s none ≡ none → ⊥)

in_tree : (front bl : List Block) (h : History) → Trees front bl h → (v : ℕ) → v ≤ length h → (i : ℕ)
    → (get_or (get_or (tables_of front) v []) i 0 ≡ 0) ↔ (get_or (tree h v) i none ≡ none)
in_tree front bl h t v g i = absent-iff (bytes_at (front ++ bl)) (get_or (tables_of front) v []) (tree h v) (t.each v g) i

pub allowed_lawful : (front bl : List Block) (h : History) (at k : ℕ) → Trees front bl h → (i : ℕ) (c : Change)
    → Allowed h i c → Lawful (bytes_at (front ++ bl)) at k (tables_of front) i c
allowed_lawful front bl h at k t i nothing a = tt
allowed_lawful front bl h at k t i (add b) a = rw t.last ((in_tree front bl h t (length h) (omega arith) i).1 a)
allowed_lawful front bl h at k t i (change b) a = rw t.last (λ q. a ((in_tree front bl h t (length h) (omega arith) i).0 q))
allowed_lawful front bl h at k t i delete a = rw t.last (λ q. a ((in_tree front bl h t (length h) (omega arith) i).0 q))
allowed_lawful front bl h at k t i (copy s v b) a = (
  rw t.last ((in_tree front bl h t (length h) (omega arith) i).1 a.0),
  (a.1.0, omega (arith, t.count, a.1.1)),
  (λ q. a.2 ((in_tree front bl h t v a.1.1 s).0 q)),
)
