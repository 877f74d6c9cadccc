-- The eras of the blocks of an accepted store, and the revisions that its content and commit blocks state: one more than the commits before.
-- Assumes nothing.
use Prim.Native.Nat.{◌*◌, ◌+◌, ◌-◌, ◌<◌, ◌≤◌, suc, zero, ℕ}
use mathlib.Core.Bool.{◌&&◌, true}
use mathlib.Core.List.{List, [], ◌∷◌}
use mathlib.Core.Logic.{inl, inr}
use mathlib.Core.Path.{◌∙◌, ◌≡◌, ap, refl, subst, sym}
use native.Mathlib.Numerals.{add-one}
use native.Mathlib.Omega.{arith}
use lib.Dec.{T, eqb, eqb→eq, leb, ltb, ltb→lt}
use lib.ListN.{get_or, length, length-append, replicate, take}
use Rattle.block.proofs.Says.{and_true, eq_or}
use Rattle.block.specs.Field.{two_at}
use Rattle.block.specs.Lists.{all}
use Rattle.model.specs.Blocks.{Block, blank, bytes_at, commit, content, fields_of, fits_block, label, mark, parse}
use Rattle.model.specs.Calls.{store_conditions}
use Rattle.model.specs.Codec.{parts, shaped}
use Rattle.model.specs.History.{Commit}
use Rattle.model.specs.Layout.{Table, latest, next}
use Rattle.model.specs.Log.{Mark, marks, marks_ok, released}
use Rattle.model.specs.Pass.{grown, laid, log_all, ok, ok_from, read_all, read_from, stands, tables_of}
use Rattle.model.specs.Store.{blocks_of, front, history_of, lawful, store_blocks, store_history, used_of}
use Rattle.laws.proofs.Conditions.{clear, sized_so}
use Rattle.laws.proofs.Tables.{trail}
use Rattle.laws.proofs.Used.{own-history, own-lawful, own_room, own_tables, own-used}
use Rattle.search.specs.Find.{Accepted, Bound, count, era_at}
use Rattle.shape.specs.Shape.{kind_of}
use Rattle.shape.specs.declared.BlockKind.{BlockKind}
use Rattle.shape.specs.declared.BlockKind.TheVariants.{Blank, Commit as CommitKind, Content, Label, Mark as MarkKind}
use Rattle.store.proofs.Blocks.{block_at, length-blocks, lent}
use Rattle.store.proofs.PassLaws.{block_of, parse_kind}

-- how many blocks are used
abbrev pub used_in : List Block → ℕ
used_in bs = length (front bs)

-- n blocks at the start of a store that lay out a history, with U of them used
pub record Passed (s : List ℕ) (n used : ℕ) : Type 0 where
  pub whole : n * 512 ≤ length s
  pub few : n ≤ 4_096
  pub laws : lawful n s ≡ true
  pub in_use : used ≡ used_in (blocks_of n s)

-- what is asked of a store, taken apart: its used blocks
pub passed : (s : List ℕ) (n used : ℕ) → Accepted s n used → Passed s used used
passed s n used A =
    let o = sized_so s (clear (store_conditions s) A.clear).0 in
    let u : used ≡ used_of s = A.in_use in
    let w : used * 512 ≤ length s = subst (λ (m : ℕ). m * 512 ≤ length s) (sym u) (own_room s A.clear) in
    record {
      whole = w;
      few = omega (arith, o.0, o.2);
      laws = subst (λ (m : ℕ). lawful m s ≡ true) (sym u) (own-lawful s A.clear);
      in_use = u ∙ sym (ap (λ (m : ℕ). used_in (blocks_of m s)) u ∙ own-used s A.clear);
    }

-- and what is read off them
pub same-history : (s : List ℕ) (n used : ℕ) → Accepted s n used → history_of used s ≡ store_history s
same-history s n used A = ap (λ (m : ℕ). history_of m s) A.in_use ∙ own-history s A.clear

pub same_tables : (s : List ℕ) (n used : ℕ) → Accepted s n used → tables_of (blocks_of used s) ≡ tables_of (store_blocks s)
same_tables s n used A = ap (λ (m : ℕ). tables_of (blocks_of m s)) A.in_use ∙ own_tables s A.clear

pub first_read : (bs rest : List Block) → bs ≡ label ∷ rest → read_all bs ≡ read_from (bytes_at bs) rest
unfolding read_all
first_read bs rest e = subst (λ (x : List Block). read_all x ≡ read_from (bytes_at x) rest) (sym e) refl

abbrev pub stating : Block → ℕ
stating label = 0
stating (content r b) = r
stating (commit r s t ls) = r
stating (mark (released r seat stamp)) = r
stating blank = 0

-- the table after the commits of a list
abbrev pub after : List Block → Table → Table
after [] t = t
after (label ∷ bs) t = after bs t
after (content r b ∷ bs) t = after bs t
after (commit r s q ls ∷ bs) t = after bs (next ls t)
after (mark m ∷ bs) t = after bs t
after (blank ∷ bs) t = after bs t

pub count_more : (bs : List Block) (p q : ℕ) → p ≤ q → count (take p bs) ≤ count (take q bs)
count_more bs zero q h = omega arith
count_more [] (suc p) q h = omega arith
count_more (b ∷ bs) (suc p) zero h = absurd (omega arith)
count_more (label ∷ bs) (suc p) (suc q) h = count_more bs p q (omega arith)
count_more (content r b ∷ bs) (suc p) (suc q) h = count_more bs p q (omega arith)
count_more (commit r s t ls ∷ bs) (suc p) (suc q) h = let i = count_more bs p q (omega arith) in omega arith
count_more (mark m ∷ bs) (suc p) (suc q) h = count_more bs p q (omega arith)
count_more (blank ∷ bs) (suc p) (suc q) h = count_more bs p q (omega arith)

-- one block more
count_next : (bs : List Block) (p : ℕ) → count (take (suc p) bs) ≡ count (take p bs) + count (get_or bs p blank ∷ [])
count_next [] zero = refl
count_next [] (suc p) = refl
count_next (b ∷ bs) zero = omega arith
count_next (label ∷ bs) (suc p) = count_next bs p
count_next (content r b ∷ bs) (suc p) = count_next bs p
count_next (commit r s t ls ∷ bs) (suc p) = let i = count_next bs p in omega arith
count_next (mark m ∷ bs) (suc p) = count_next bs p
count_next (blank ∷ bs) (suc p) = count_next bs p

pub count-one : (bs : List Block) (p : ℕ) → count (take (p + 1) bs) ≤ count (take p bs) + 1
count-one bs p = subst (λ (x : ℕ). count (take x bs) ≤ count (take p bs) + 1) (sym (add-one p)) (omega (arith, count_next bs p, one (get_or bs p blank)))
  where
    one : (b : Block) → count (b ∷ []) ≤ 1
    one label = omega arith
    one (content r b) = omega arith
    one (commit r s t ls) = omega arith
    one (mark m) = omega arith
    one blank = omega arith

-- a mark ends no era
pub era_mark : (bs : List Block) (p : ℕ) → kind_of (get_or bs p blank) ≡ MarkKind → era_at bs (p + 1) ≡ era_at bs p
era_mark bs p e =
    let w : count (take (p + 1) bs) ≡ count (take (suc p) bs) = ap (λ (x : ℕ). count (take x bs)) (add-one p) in
    omega (arith, w, count_next bs p, none (get_or bs p blank) e)
  where
    none : (b : Block) → kind_of b ≡ MarkKind → count (b ∷ []) ≡ 0
    none label h = refl
    none (content r b) h = refl
    none (commit r s t ls) h = cc
    none (mark m) h = refl
    none blank h = refl

-- what follows a mark is laid out too
pub after-mark : (look : ℕ → List ℕ) (at k : ℕ) (tables : List Table) (m : Mark) (bs : List Block) → T (ok_from look at k tables (mark m ∷ bs)) → T (ok_from look (suc at) 0 tables bs)
unfolding ok_from
after-mark look at k tables m bs t =
    (and_true (stands tables m) (ok_from look (suc at) 0 tables bs) (and_true (eqb k 0) (stands tables m && ok_from look (suc at) 0 tables bs) t).1).1

-- a content or a commit block states one more than the commits before it, and a mark no more than that
pub states : (look : ℕ → List ℕ) (at k : ℕ) (tables : List Table) (bs : List Block) → T (ok_from look at k tables bs) → (p : ℕ) → p < used_in bs
    → (stating (get_or bs p blank) ≤ length tables + count (take p bs)) × ((kind_of (get_or bs p blank) ≡ MarkKind → ⊥) → stating (get_or bs p blank) ≡ length tables + count (take p bs))
unfolding ok_from
states look at k tables [] t p h = absurd (omega arith)
states look at k tables (label ∷ bs) t p h = absurd t
states look at k tables (blank ∷ bs) t p h = absurd (omega arith)
states look at k tables (content r b ∷ bs) t zero h =
    let e = eqb→eq r (length tables) (and_true (eqb r (length tables)) (ok_from look at (suc k) tables bs) t).0 in (omega arith, (λ d. omega arith))
states look at k tables (content r b ∷ bs) t (suc p) h = states look at (suc k) tables bs (and_true (eqb r (length tables)) (ok_from look at (suc k) tables bs) t).1 p (omega arith)
states look at k tables (commit r s q ls ∷ bs) t zero h =
    let e = eqb→eq r (length tables) (and_true (eqb r (length tables)) (laid look at k tables s ls && ok_from look (suc (at + k)) 0 (grown tables ls) bs) t).0 in
    (omega arith, (λ d. omega arith))
states look at k tables (commit r s q ls ∷ bs) t (suc p) h =
    let u = (and_true (eqb r (length tables)) (laid look at k tables s ls && ok_from look (suc (at + k)) 0 (grown tables ls) bs) t).1 in
    let i = states look (suc (at + k)) 0 (grown tables ls) bs (and_true (laid look at k tables s ls) (ok_from look (suc (at + k)) 0 (grown tables ls) bs) u).1 p (omega arith) in
    let g = length-append tables (next ls (latest tables) ∷ []) in
    (omega (arith, i.0, g), (λ d. i.1 d ∙ omega (arith, g)))
states look at k tables (mark (released r seat stamp) ∷ bs) t zero h =
    let m = released r seat stamp in
    let u = (and_true (stands tables m) (ok_from look (suc at) 0 tables bs) (and_true (eqb k 0) (stands tables m && ok_from look (suc at) 0 tables bs) t).1).0 in
    let v = (and_true (leb 1 r && ltb r (length tables)) (leb 1 seat && leb seat 4) u).0 in
    (omega (arith, ltb→lt r (length tables) (and_true (leb 1 r) (ltb r (length tables)) v).1), (λ d. absurd (d refl)))
states look at k tables (mark m ∷ bs) t (suc p) h = states look (suc at) 0 tables bs (after-mark look at k tables m bs t) p (omega arith)

-- all commits stand in the blocks in use
counts_all : (look : ℕ → List ℕ) (bs : List Block) → length (read_from look bs) ≤ count (take (used_in bs) bs)
unfolding read_from
counts_all look [] = omega arith
counts_all look (label ∷ bs) = omega arith
counts_all look (content r b ∷ bs) = counts_all look bs
counts_all look (commit r s t ls ∷ bs) = let i = counts_all look bs in omega arith
counts_all look (mark m ∷ bs) = counts_all look bs
counts_all look (blank ∷ bs) = omega arith

-- the trail's table is the one after the blocks that have so many commits
first-table : (t : Table) (bs : List Block) → get_or (trail t bs) 0 [] ≡ t
unfolding trail
first-table t [] = refl
first-table t (label ∷ bs) = refl
first-table t (content r b ∷ bs) = first-table t bs
first-table t (commit r s q ls ∷ bs) = refl
first-table t (mark m ∷ bs) = first-table t bs
first-table t (blank ∷ bs) = refl

pub trail_after : (look : ℕ → List ℕ) (at k : ℕ) (tables : List Table) (t : Table) (bs : List Block) → T (ok_from look at k tables bs) → (q : ℕ) → q ≤ used_in bs
    → get_or (trail t bs) (count (take q bs)) [] ≡ after (take q bs) t
unfolding ok_from trail
trail_after look at k tables t bs u zero h = first-table t bs
trail_after look at k tables t [] u (suc q) h = absurd (omega arith)
trail_after look at k tables t (label ∷ bs) u (suc q) h = absurd u
trail_after look at k tables t (blank ∷ bs) u (suc q) h = absurd (omega arith)
trail_after look at k tables t (content r b ∷ bs) u (suc q) h =
    trail_after look at (suc k) tables t bs (and_true (eqb r (length tables)) (ok_from look at (suc k) tables bs) u).1 q (omega arith)
trail_after look at k tables t (commit r s w ls ∷ bs) u (suc q) h =
    let v = (and_true (eqb r (length tables)) (laid look at k tables s ls && ok_from look (suc (at + k)) 0 (grown tables ls) bs) u).1 in
    trail_after look (suc (at + k)) 0 (grown tables ls) (next ls t) bs (and_true (laid look at k tables s ls) (ok_from look (suc (at + k)) 0 (grown tables ls) bs) v).1 q (omega arith)
trail_after look at k tables t (mark m ∷ bs) u (suc q) h = trail_after look (suc at) 0 tables t bs (after-mark look at k tables m bs u) q (omega arith)

-- ---- the store

pub opened : (bs : List Block) → T (ok bs) → (rest : List Block) × (bs ≡ label ∷ rest) × T (ok_from (bytes_at bs) 1 0 (replicate 32 0 ∷ []) rest)
unfolding ok
opened [] t = absurd t
opened (label ∷ bs) t = (bs, refl, t)
opened (content r b ∷ bs) t = absurd t
opened (commit r s q ls ∷ bs) t = absurd t
opened (mark m ∷ bs) t = absurd t
opened (blank ∷ bs) t = absurd t

pub used-few : (bs : List Block) → used_in bs ≤ length bs
used-few [] = omega arith
used-few (label ∷ bs) = let i = used-few bs in omega arith
used-few (content r b ∷ bs) = let i = used-few bs in omega arith
used-few (commit r s q ls ∷ bs) = let i = used-few bs in omega arith
used-few (mark m ∷ bs) = let i = used-few bs in omega arith
used-few (blank ∷ bs) = omega arith

-- a content or a commit block or a mark
abbrev pub Stated : Block → Type 0
Stated label = ⊥
Stated (content r b) = Unit {0}
Stated (commit r s t ls) = Unit {0}
Stated (mark m) = Unit {0}
Stated blank = ⊥

-- a block in use after the label
pub kinds : (look : ℕ → List ℕ) (at k : ℕ) (tables : List Table) (bs : List Block) → T (ok_from look at k tables bs) → (p : ℕ) → p < used_in bs → Stated (get_or bs p blank)
unfolding ok_from
kinds look at k tables [] t p h = absurd (omega arith)
kinds look at k tables (label ∷ bs) t p h = absurd t
kinds look at k tables (blank ∷ bs) t p h = absurd (omega arith)
kinds look at k tables (content r b ∷ bs) t zero h = tt
kinds look at k tables (content r b ∷ bs) t (suc p) h =
    kinds look at (suc k) tables bs (and_true (eqb r (length tables)) (ok_from look at (suc k) tables bs) t).1 p (omega arith)
kinds look at k tables (commit r s q ls ∷ bs) t zero h = tt
kinds look at k tables (commit r s q ls ∷ bs) t (suc p) h =
    let u = (and_true (eqb r (length tables)) (laid look at k tables s ls && ok_from look (suc (at + k)) 0 (grown tables ls) bs) t).1 in
    kinds look (suc (at + k)) 0 (grown tables ls) bs (and_true (laid look at k tables s ls) (ok_from look (suc (at + k)) 0 (grown tables ls) bs) u).1 p (omega arith)
kinds look at k tables (mark m ∷ bs) t zero h = tt
kinds look at k tables (mark m ∷ bs) t (suc p) h = kinds look (suc at) 0 tables bs (after-mark look at k tables m bs t) p (omega arith)

stating_kind : (l : List ℕ) (k : BlockKind) → Stated (block_of l k) → stating (block_of l k) ≡ two_at l 4
stating_kind l Label h = absurd h
stating_kind l Content h = refl
stating_kind l CommitKind h = refl
stating_kind l MarkKind h = refl
stating_kind l Blank h = absurd h

stating_two : (l : List ℕ) → Stated (parse l) → stating (parse l) ≡ two_at l 4
stating_two l h = ap stating (parse_kind l) ∙ stating_kind l (kind_of (parse l)) (subst Stated (parse_kind l) h)

module _ (s : List ℕ) (n used : ℕ) (A : Passed s n used) where
  pub ok_all : T (ok (blocks_of n s))
  unfolding lawful
  ok_all = (and_true (ok (blocks_of n s)) (marks_ok (marks (log_all (blocks_of n s)))) (and_true (all (shaped fields_of parse fits_block) (parts n s)) (ok (blocks_of n s) && marks_ok (marks (log_all (blocks_of n s)))) (subst T (sym A.laws) tt)).1).0

  abbrev rest : List Block
  rest = (opened (blocks_of n s) ok_all).0

  whole : blocks_of n s ≡ label ∷ rest
  whole = (opened (blocks_of n s) ok_all).1

  pub used_is : used ≡ suc (used_in rest)
  used_is = A.in_use ∙ ap used_in whole

  pub used_low : 1 ≤ used
  used_low = omega (arith, used_is)

  pub used_high : used ≤ n
  used_high = omega (arith, A.in_use, used-few (blocks_of n s), length-blocks n s)

  -- no commit block stands in the label's place
  pub after-label : (p : ℕ) → kind_of (get_or (blocks_of n s) p blank) ≡ CommitKind → 1 ≤ p
  after-label zero e = absurd (let l = ap (λ (x : List Block). kind_of (get_or x 0 blank)) whole in cc (l, e))
  after-label (suc p) e = omega arith

  -- the era of block p
  pub era_rest : (p : ℕ) → 1 ≤ p → era_at (blocks_of n s) p ≡ 1 + count (take (p - 1) rest)
  era_rest zero h = absurd (omega arith)
  era_rest (suc p) h =
      let e : p ≡ suc p - 1 = omega arith in
      ap (λ (x : List Block). era_at x (suc p)) whole ∙ ap (λ (x : ℕ). 1 + count (take x rest)) e

  block-rest : (p : ℕ) → get_or (blocks_of n s) (suc p) blank ≡ get_or rest p blank
  block-rest p = ap (λ (x : List Block). get_or x (suc p) blank) whole

  -- what block p states: its era, and a mark no later one
  pub era_stated : (p : ℕ) → 1 ≤ p → p < used
      → (stating (get_or (blocks_of n s) p blank) ≤ era_at (blocks_of n s) p) × ((kind_of (get_or (blocks_of n s) p blank) ≡ MarkKind → ⊥) → stating (get_or (blocks_of n s) p blank) ≡ era_at (blocks_of n s) p)
  era_stated zero h g = absurd (omega arith)
  era_stated (suc p) h g =
      let b = block-rest p in
      let e : era_at (blocks_of n s) (suc p) ≡ 1 + count (take p rest) = ap (λ (x : List Block). era_at x (suc p)) whole in
      let w = states (bytes_at (blocks_of n s)) 1 0 (replicate 32 0 ∷ []) rest (opened (blocks_of n s) ok_all).2 p (omega (arith, used_is)) in
      (omega (arith, ap stating b, e, w.0), (λ d. ap stating b ∙ w.1 (λ x. d (ap kind_of b ∙ x)) ∙ sym e))

  used-kind : (p : ℕ) → 1 ≤ p → p < used → Stated (get_or (blocks_of n s) p blank)
  used-kind zero h g = absurd (omega arith)
  used-kind (suc p) h g =
      subst Stated (sym (block-rest p))
      (kinds (bytes_at (blocks_of n s)) 1 0 (replicate 32 0 ∷ []) rest (opened (blocks_of n s) ok_all).2 p (omega (arith, used_is)))

  -- the same by its bytes
  module _ (p : ℕ) (h : 1 ≤ p) (g : p < used) where
    lent_is_block : parse (lent s p) ≡ get_or (blocks_of n s) p blank
    lent_is_block = sym (block_at n p s (omega (arith, used_high)))

    stated_at : two_at (lent s p) 4 ≡ stating (get_or (blocks_of n s) p blank)
    stated_at = sym (stating_two (lent s p) (subst Stated (sym lent_is_block) (used-kind p h g))) ∙ ap stating lent_is_block

    pub rev_at : (kind_of (parse (lent s p)) ≡ MarkKind → ⊥) → two_at (lent s p) 4 ≡ era_at (blocks_of n s) p
    rev_at d = stated_at ∙ (era_stated p h g).1 (λ e. d (ap kind_of lent_is_block ∙ e))

    pub rev_low : two_at (lent s p) 4 ≤ era_at (blocks_of n s) p
    rev_low = omega (arith, stated_at, (era_stated p h g).0)

  history-count : length (history_of n s) ≤ count (take (used_in rest) rest)
  unfolding history_of
  history-count = subst (λ (x : List Commit). length x ≤ count (take (used_in rest) rest)) (sym (first_read (blocks_of n s) rest whole)) (counts_all (bytes_at (blocks_of n s)) rest)

  module _ (r : ℕ) (last : r ≤ length (history_of n s)) where
    -- past the used blocks every commit stands before
    pub era_end : r < era_at (blocks_of n s) used
    era_end =
        let d : used - 1 ≡ used_in rest = omega (arith, used_is) in
        let e : era_at (blocks_of n s) used ≡ 1 + count (take (used_in rest) rest) = era_rest used used_low ∙ ap (λ (x : ℕ). 1 + count (take x rest)) d in
        omega (arith, e, history-count)

    -- just r commits stand before the bound
    module _ (b : ℕ) (G : Bound (blocks_of n s) used r b) where
      at_most : count (take (b - 1) rest) ≤ r
      at_most =
          elim (eq_or b 1) [
            | inl e ↦ (let d : b - 1 ≡ 0 = omega arith in rw d (omega arith))
            | inr o ↦ (
                let v = era_rest (b - 1) (omega (arith, G.low)) in
                let w = G.before (b - 1) (omega (arith, G.low)) (omega (arith, G.low)) in
                let d : b - 1 - 1 + 1 ≡ b - 1 = omega (arith, G.low) in
                let c : count (take (b - 1) rest) ≤ count (take (b - 1 - 1) rest) + 1 = subst (λ (x : ℕ). count (take x rest) ≤ count (take (b - 1 - 1) rest) + 1) d
                (count-one rest (b - 1 - 1)) in
                omega arith)
          ]

      at_least : r ≤ count (take (b - 1) rest)
      at_least =
          let v = era_rest b G.low in
          elim (eq_or b used) [
            | inl e ↦ (let w = subst (λ (x : ℕ). r < era_at (blocks_of n s) x) (sym e) era_end in omega arith)
            | inr o ↦ omega (arith, v, G.after b (omega arith) (omega (arith, G.high)))
          ]

      pub counted : count (take (b - 1) rest) ≡ r
      counted = omega (arith, at_most, at_least)
