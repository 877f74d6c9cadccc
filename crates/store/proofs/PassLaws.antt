-- The forward pass, one law for each way through a turn.
-- Assumes nothing.
use Rattle.std.specs.Prelude.{Err, Ok, Result}
use Prim.Native.Nat.{◌*◌, ◌+◌, ◌-◌, ◌<◌, ◌≤◌, suc, ℕ}
use mathlib.Core.Bool.{Bool, ◌&&◌, cond, false, true}
use mathlib.Core.List.{List, [], ◌∷◌}
use mathlib.Core.Logic.{inl, inr}
use mathlib.Core.Path.{◌∙◌, ◌≡◌, ap, ap₂, refl, subst, sym}
use native.Mathlib.Numerals.{add-one}
use native.Mathlib.Omega.{arith}
use borrow.Author.Tests.{eq-eqb, le-leb, lt-leb, ne_eqb}
use lib.Dec.{eqb, leb, ltb}
use lib.ListN.{drop, drop_of_length-le, get_or, length, length-append, replicate, take}
use lib.Seq.{drop-cons}
use Rattle.block.proofs.Says.{eq_or}
use Rattle.block.specs.Field.{four_at, two_at}
use Rattle.model.specs.Blocks.{Block, Line, blank, bytes_at, commit, content, label, mark, parse, parse_lines}
use Rattle.model.specs.Layout.{Table, latest, next}
use Rattle.model.specs.Log.{Mark, released}
use Rattle.model.specs.Pass.{grown, laid, read_from, stands}
use Rattle.model.specs.Store.{blocks_of}
use Rattle.model.specs.declared.Refusal.{Refusal}
use Rattle.model.specs.declared.Refusal.TheVariants.{StoreLayout}
use Rattle.marks.specs.Revisions.{is_mark}
use Rattle.shape.specs.Rows.{rows_of}
use Rattle.shape.specs.Shape.{kind_of}
use Rattle.shape.specs.declared.BlockKind.{BlockKind}
use Rattle.shape.specs.declared.BlockKind.TheVariants.{Blank, Commit, Content, Label, Mark as MarkKind}
use Rattle.store.proofs.Blocks.{block_at, length-blocks, lent, lent_is}
use Rattle.store.proofs.RuleLaws.{length-rows}
use Rattle.store.specs.Known.{mark_in}
use Rattle.store.specs.Opened.{PassedAs, ok_tail, passed, passed_all, reached}
use Rattle.store.specs.declared.Header.{Header}

-- ---- block after block

pub rest-step : (n : ℕ) (s : List ℕ) (pos : ℕ) → pos < n → drop pos (blocks_of n s) ≡ parse (lent s pos) ∷ drop (pos + 1) (blocks_of n s)
rest-step n s pos h =
    drop-cons (blocks_of n s) pos blank (omega (arith, length-blocks n s))
    ∙ ap₂ (λ (b : Block) (x : ℕ). b ∷ drop x (blocks_of n s)) (block_at n pos s h) (sym (add-one pos))

pub rest-none : (n : ℕ) (s : List ℕ) (pos : ℕ) → n ≤ pos → drop pos (blocks_of n s) ≡ []
rest-none n s pos h = drop_of_length-le (blocks_of n s) {i = pos} (omega (arith, length-blocks n s))

-- ---- what a block is, by its kind

abbrev pub content_of : List ℕ → Block
content_of l = content (two_at l 4) (take (two_at l 2) (drop 16 l))

abbrev pub commit_of : List ℕ → Block
commit_of l = commit (two_at l 4) (get_or l 6 0) (four_at l 8) (parse_lines (two_at l 2) (drop 16 l))

abbrev pub release_of : List ℕ → Mark
release_of l = released (two_at l 4) (get_or l 6 0) (four_at l 8)

-- the block of a kind that bytes would say
abbrev pub block_of : List ℕ → BlockKind → Block
block_of l Label = label
block_of l Content = content_of l
block_of l Commit = commit_of l
block_of l MarkKind = mark (release_of l)
block_of l Blank = blank

module _ (l : List ℕ) where
  abbrev picked : Bool → Bool → Bool → Bool → Block
  picked x y z v = cond x label (cond y (content_of l) (cond z (commit_of l) (cond v (mark (release_of l)) blank)))

  picked_kind : (x y z v : Bool) → picked x y z v ≡ block_of l (kind_of (picked x y z v))
  picked_kind true y z v = refl
  picked_kind false true z v = refl
  picked_kind false false true v = refl
  picked_kind false false false true = refl
  picked_kind false false false false = refl

  pub parse_kind : parse l ≡ block_of l (kind_of (parse l))
  unfolding parse
  parse_kind = picked_kind (eqb (get_or l 0 0) 1) (eqb (get_or l 0 0) 2) (eqb (get_or l 0 0) 3) (eqb (get_or l 0 0) 6)

  pub parse-label : kind_of (parse l) ≡ Label → parse l ≡ label
  parse-label e = parse_kind ∙ ap (block_of l) e

  pub parse-content : kind_of (parse l) ≡ Content → parse l ≡ content_of l
  parse-content e = parse_kind ∙ ap (block_of l) e

  pub parse-commit : kind_of (parse l) ≡ Commit → parse l ≡ commit_of l
  parse-commit e = parse_kind ∙ ap (block_of l) e

  pub parse-mark : kind_of (parse l) ≡ MarkKind → parse l ≡ mark (release_of l)
  parse-mark e = parse_kind ∙ ap (block_of l) e

-- ---- the pass

module _ (look : ℕ → List ℕ) (at k : ℕ) (tables : List Table) (bs : List Block) where
  pub passed-label : passed look at k tables (label ∷ bs) ≡ Err StoreLayout
  unfolding passed ok_tail
  passed-label = refl

  pub passed-content : (r : ℕ) (b : List ℕ) → r ≡ length tables → passed look at k tables (content r b ∷ bs) ≡ passed look at (k + 1) tables bs
  unfolding passed ok_tail reached read_from
  passed-content r b e = rw (eq-eqb r (length tables) e, add-one k)

  pub passed_elsewhere : (r : ℕ) (b : List ℕ) → (r ≡ length tables → ⊥) → passed look at k tables (content r b ∷ bs) ≡ Err StoreLayout
  unfolding passed ok_tail
  passed_elsewhere r b n = rw (ne_eqb r (length tables) n)

  module _ (r seat stamp : ℕ) (ls : List Line) where
    pub passed-other : (r ≡ length tables → ⊥) → passed look at k tables (commit r seat stamp ls ∷ bs) ≡ Err StoreLayout
    unfolding passed ok_tail
    passed-other n = rw (ne_eqb r (length tables) n)

    pub passed_unlaid : r ≡ length tables → laid look at k tables seat ls ≡ false → passed look at k tables (commit r seat stamp ls ∷ bs) ≡ Err StoreLayout
    unfolding passed ok_tail
    passed_unlaid e f = rw (eq-eqb r (length tables) e, f)

    pub passed-commit : r ≡ length tables → 1 ≤ length tables → laid look at k tables seat ls ≡ true
        → passed look at k tables (commit r seat stamp ls ∷ bs) ≡ passed look (at + k + 1) 0 (grown tables ls) bs
    unfolding passed ok_tail reached read_from
    passed-commit e some t =
        let g : length (grown tables ls) ≡ length tables + 1 = length-append tables (next ls (latest tables) ∷ []) in
        let v : length tables - 1 + suc (length (read_from look bs)) ≡ length (grown tables ls) - 1 + length (read_from look bs) = omega arith in
        rw (eq-eqb r (length tables) e, t, v, add-one (at + k))

  module _ (m : Mark) where
    -- between a content block and its commit block
    pub passed-inside : (k ≡ 0 → ⊥) → passed look at k tables (mark m ∷ bs) ≡ Err StoreLayout
    unfolding passed ok_tail
    passed-inside n = rw (ne_eqb k 0 n)

    pub passed_astray : k ≡ 0 → stands tables m ≡ false → passed look at k tables (mark m ∷ bs) ≡ Err StoreLayout
    unfolding passed ok_tail
    passed_astray e f = rw (eq-eqb k 0 e, f)

    pub passed-mark : k ≡ 0 → stands tables m ≡ true → passed look at k tables (mark m ∷ bs) ≡ passed look (suc at) 0 tables bs
    unfolding passed ok_tail reached read_from
    passed-mark e t = rw (eq-eqb k 0 e, t)

  pub passed-blank : passed look at k tables (blank ∷ bs) ≡ Err StoreLayout
  unfolding passed ok_tail
  passed-blank = refl

module _ (look : ℕ → List ℕ) (at k last : ℕ) (tables : List Table) (e : length tables ≡ last + 1) where
  -- nothing is left
  pub passed_end : k ≤ 32 → passed look at k tables [] ≡ Ok (record { last = last; used = at })
  unfolding passed ok_tail reached read_from
  passed_end h = let d : length tables - 1 + 0 ≡ last = omega arith in rw (le-leb k 32 h, d)

  pub passed-many : 32 < k → passed look at k tables [] ≡ Err StoreLayout
  unfolding passed ok_tail
  passed-many h = rw (lt-leb k 32 h)

-- a mark stands by these tests, in the code's order
pub stands_is : (l tab : List ℕ) (last : ℕ) → kind_of (parse l) ≡ MarkKind
    → stands (rows_of (last + 1) tab) (mark_in (parse l)) ≡ ((leb 1 (two_at l 4) && ltb (two_at l 4) (last + 1)) && (leb 1 (get_or l 6 0) && leb (get_or l 6 0) 4))
stands_is l tab last e =
    ap (λ (b : Block). stands (rows_of (last + 1) tab) (mark_in b)) (parse-mark l e)
    ∙ ap (λ (n : ℕ). (leb 1 (two_at l 4) && ltb (two_at l 4) n) && (leb 1 (get_or l 6 0) && leb (get_or l 6 0) 4)) (length-rows (last + 1) tab)

-- ---- a turn, at block `pos`

module _ (look : ℕ → List ℕ) (n : ℕ) (s : List ℕ) (at k last : ℕ) (tab : List ℕ) where
  rows_here : length (rows_of (last + 1) tab) ≡ last + 1
  rows_here = length-rows (last + 1) tab

  module _ (pos : ℕ) (h : n ≤ pos) where
    none : passed look at k (rows_of (last + 1) tab) (drop pos (blocks_of n s)) ≡ passed look at k (rows_of (last + 1) tab) []
    none = ap (passed look at k (rows_of (last + 1) tab)) (rest-none n s pos h)

    pub turn_end : k ≤ 32 → passed look at k (rows_of (last + 1) tab) (drop pos (blocks_of n s)) ≡ Ok (record { last = last; used = at })
    turn_end g = none ∙ passed_end look at k last (rows_of (last + 1) tab) rows_here g

    pub turn_many : 32 < k → passed look at k (rows_of (last + 1) tab) (drop pos (blocks_of n s)) ≡ Err StoreLayout
    turn_many g = none ∙ passed-many look at k last (rows_of (last + 1) tab) rows_here g

  module _ {pos : ℕ} (h : pos < n) where
    step : (b : Block) → parse (lent s pos) ≡ b
        → passed look at k (rows_of (last + 1) tab) (drop pos (blocks_of n s)) ≡ passed look at k (rows_of (last + 1) tab) (b ∷ drop (pos + 1) (blocks_of n s))
    step b e = ap (passed look at k (rows_of (last + 1) tab)) (rest-step n s pos h ∙ ap (λ (x : Block). x ∷ drop (pos + 1) (blocks_of n s)) e)

    -- a zero block, or another label
    pub turn_neither : (kind_of (parse (lent s pos)) ≡ Content → ⊥) → (kind_of (parse (lent s pos)) ≡ Commit → ⊥) → (kind_of (parse (lent s pos)) ≡ MarkKind → ⊥)
        → passed look at k (rows_of (last + 1) tab) (drop pos (blocks_of n s)) ≡ Err StoreLayout
    turn_neither n₂ n₃ n₄ = go (parse (lent s pos)) refl n₂ n₃ n₄
      where
        go : (b : Block) → parse (lent s pos) ≡ b → (kind_of b ≡ Content → ⊥) → (kind_of b ≡ Commit → ⊥) → (kind_of b ≡ MarkKind → ⊥)
            → passed look at k (rows_of (last + 1) tab) (drop pos (blocks_of n s)) ≡ Err StoreLayout
        go label e n₂ n₃ n₄ = step label e ∙ passed-label look at k (rows_of (last + 1) tab) (drop (pos + 1) (blocks_of n s))
        go (content r x) e n₂ n₃ n₄ = absurd (n₂ refl)
        go (commit r seat stamp ls) e n₂ n₃ n₄ = absurd (n₃ refl)
        go (mark m) e n₂ n₃ n₄ = absurd (n₄ refl)
        go blank e n₂ n₃ n₄ = step blank e ∙ passed-blank look at k (rows_of (last + 1) tab) (drop (pos + 1) (blocks_of n s))

    module _ (e : kind_of (parse (lent s pos)) ≡ Content) where
      here₂ : passed look at k (rows_of (last + 1) tab) (drop pos (blocks_of n s))
          ≡ passed look at k (rows_of (last + 1) tab) (content_of (lent s pos) ∷ drop (pos + 1) (blocks_of n s))
      here₂ = step (content_of (lent s pos)) (parse-content (lent s pos) e)

      pub turn-content : two_at (lent s pos) 4 ≡ last + 1
          → passed look at k (rows_of (last + 1) tab) (drop pos (blocks_of n s)) ≡ passed look at (k + 1) (rows_of (last + 1) tab) (drop (pos + 1) (blocks_of n s))
      turn-content q =
          let x = lent s pos in
          here₂ ∙ passed-content look at k (rows_of (last + 1) tab) (drop (pos + 1) (blocks_of n s)) (two_at x 4) (take (two_at x 2) (drop 16 x)) (q ∙ sym rows_here)

      pub turn_elsewhere : (two_at (lent s pos) 4 ≡ last + 1 → ⊥) → passed look at k (rows_of (last + 1) tab) (drop pos (blocks_of n s)) ≡ Err StoreLayout
      turn_elsewhere q =
          let x = lent s pos in
          here₂
          ∙ passed_elsewhere look at k (rows_of (last + 1) tab) (drop (pos + 1) (blocks_of n s)) (two_at x 4) (take (two_at x 2) (drop 16 x)) (λ y. q (y ∙ rows_here))

    module _ (e : kind_of (parse (lent s pos)) ≡ Commit) where
      here₃ : passed look at k (rows_of (last + 1) tab) (drop pos (blocks_of n s))
          ≡ passed look at k (rows_of (last + 1) tab) (commit_of (lent s pos) ∷ drop (pos + 1) (blocks_of n s))
      here₃ = step (commit_of (lent s pos)) (parse-commit (lent s pos) e)

      pub turn_other : (two_at (lent s pos) 4 ≡ last + 1 → ⊥) → passed look at k (rows_of (last + 1) tab) (drop pos (blocks_of n s)) ≡ Err StoreLayout
      turn_other q =
          let x = lent s pos in
          here₃ ∙ passed-other look at k (rows_of (last + 1) tab) (drop (pos + 1) (blocks_of n s)) (two_at x 4) (get_or x 6 0) (four_at x 8)
          (parse_lines (two_at x 2) (drop 16 x)) (λ y. q (y ∙ rows_here))

      module _ (q : two_at (lent s pos) 4 ≡ last + 1) where
        pub turn_unlaid : laid look at k (rows_of (last + 1) tab) (get_or (lent s pos) 6 0) (parse_lines (two_at (lent s pos) 2) (drop 16 (lent s pos))) ≡ false
            → passed look at k (rows_of (last + 1) tab) (drop pos (blocks_of n s)) ≡ Err StoreLayout
        turn_unlaid f =
            let x = lent s pos in
            here₃ ∙ passed_unlaid look at k (rows_of (last + 1) tab) (drop (pos + 1) (blocks_of n s)) (two_at x 4) (get_or x 6 0) (four_at x 8)
            (parse_lines (two_at x 2) (drop 16 x)) (q ∙ sym rows_here) f

        pub turn-commit : (m : ℕ) (new : List ℕ) → at + k ≡ pos → m ≡ two_at (lent s pos) 2
            → laid look at k (rows_of (last + 1) tab) (get_or (lent s pos) 6 0) (parse_lines (two_at (lent s pos) 2) (drop 16 (lent s pos))) ≡ true
            → rows_of (last + 1 + 1) new ≡ grown (rows_of (last + 1) tab) (parse_lines m (drop 16 (lent s pos)))
            → passed look at k (rows_of (last + 1) tab) (drop pos (blocks_of n s)) ≡ passed look (pos + 1) 0 (rows_of (last + 1 + 1) new) (drop (pos + 1) (blocks_of n s))
        turn-commit m new p em t g =
            let x = lent s pos in
            let lr = rows_here in
            here₃ ∙ passed-commit look at k (rows_of (last + 1) tab) (drop (pos + 1) (blocks_of n s)) (two_at x 4) (get_or x 6 0) (four_at x 8)
            (parse_lines (two_at x 2) (drop 16 x)) (q ∙ sym lr) (omega arith) t
            ∙ ap₂ (λ (y : List Table) (z : ℕ). passed look (z + 1) 0 y (drop (pos + 1) (blocks_of n s)))
            (ap (λ (y : ℕ). grown (rows_of (last + 1) tab) (parse_lines y (drop 16 x))) (sym em) ∙ sym g) p

    module _ (e : kind_of (parse (lent s pos)) ≡ MarkKind) where
      mark_here : mark_in (parse (lent s pos)) ≡ release_of (lent s pos)
      mark_here = ap mark_in (parse-mark (lent s pos) e)

      here₄ : passed look at k (rows_of (last + 1) tab) (drop pos (blocks_of n s))
          ≡ passed look at k (rows_of (last + 1) tab) (mark (mark_in (parse (lent s pos))) ∷ drop (pos + 1) (blocks_of n s))
      here₄ = step (mark (mark_in (parse (lent s pos)))) (parse-mark (lent s pos) e ∙ ap mark (sym mark_here))

      pub turn_inside : (k ≡ 0 → ⊥) → passed look at k (rows_of (last + 1) tab) (drop pos (blocks_of n s)) ≡ Err StoreLayout
      turn_inside z = here₄ ∙ passed-inside look at k (rows_of (last + 1) tab) (drop (pos + 1) (blocks_of n s)) (mark_in (parse (lent s pos))) z

      pub turn_astray : k ≡ 0 → stands (rows_of (last + 1) tab) (mark_in (parse (lent s pos))) ≡ false
          → passed look at k (rows_of (last + 1) tab) (drop pos (blocks_of n s)) ≡ Err StoreLayout
      turn_astray z f = here₄ ∙ passed_astray look at k (rows_of (last + 1) tab) (drop (pos + 1) (blocks_of n s)) (mark_in (parse (lent s pos))) z f

      pub turn-mark : at + k ≡ pos → k ≡ 0 → stands (rows_of (last + 1) tab) (mark_in (parse (lent s pos))) ≡ true
          → passed look at k (rows_of (last + 1) tab) (drop pos (blocks_of n s)) ≡ passed look (pos + 1) k (rows_of (last + 1) tab) (drop (pos + 1) (blocks_of n s))
      turn-mark p z t =
          let a : suc at ≡ pos + 1 = omega arith in
          here₄ ∙ passed-mark look at k (rows_of (last + 1) tab) (drop (pos + 1) (blocks_of n s)) (mark_in (parse (lent s pos))) z t
          ∙ ap₂ (λ (x y : ℕ). passed look x y (rows_of (last + 1) tab) (drop (pos + 1) (blocks_of n s))) a (sym z)

-- ---- no mark so far

pub plain-content : (b : Block) → kind_of b ≡ Content → is_mark b ≡ false
plain-content label e = refl
plain-content (content r x) e = refl
plain-content (commit r seat stamp ls) e = refl
plain-content (mark m) e = cc
plain-content blank e = refl

pub plain-commit : (b : Block) → kind_of b ≡ Commit → is_mark b ≡ false
plain-commit label e = refl
plain-commit (content r x) e = refl
plain-commit (commit r seat stamp ls) e = refl
plain-commit (mark m) e = cc
plain-commit blank e = refl

-- of the blocks after the label and before block i
abbrev pub Plainly : List ℕ → ℕ → Type 0
Plainly s i = (p : ℕ) → 1 ≤ p → p < i → is_mark (parse (lent s p)) ≡ false

pub plain-next : (s : List ℕ) (i : ℕ) → Plainly s i → is_mark (parse (lent s i)) ≡ false → Plainly s (i + 1)
plain-next s i f n p lo hi =
    elim (eq_or p i) [
      | inl z ↦ subst (λ (x : ℕ). is_mark (parse (lent s x)) ≡ false) (sym z) n
      | inr o ↦ f p lo (omega arith)
    ]

pub plain-all : (s : List ℕ) (pos at : ℕ) → at ≤ pos → Plainly s pos → (p : ℕ) → 1 ≤ p → p < at → is_mark (parse (take 512 (drop (p * 512) s))) ≡ false
plain-all s pos at h f p lo hi = ap (λ (l : List ℕ). is_mark (parse l)) (sym (lent_is s p)) ∙ f p lo (omega arith)

-- what the pass knows when it comes to block `pos`: what is left to pass gives the whole, and where no mark was met there is none
pub record Reached (n : ℕ) (s : List ℕ) (pos at k last : ℕ) (tab : List ℕ) (met : Bool) : Type 0 where
  pub below : last < at
  pub here : at + k ≡ pos
  pub left : passed (bytes_at (blocks_of n s)) at k (rows_of (last + 1) tab) (drop pos (blocks_of n s)) ≡ passed_all n s
  pub plain : met ≡ false → Plainly s pos

-- the same, under the names of the variables after a turn
pub renamed : {n : ℕ} {s : List ℕ} {pos at k last at' k' last' : ℕ} {tab tab' : List ℕ} {met met' : Bool} → at ≡ at' → k ≡ k' → last ≡ last' → tab ≡ tab' → met ≡ met'
    → Reached n s pos at' k' last' tab' met' → Reached n s pos at k last tab met
renamed {n} {s} {pos} a b c d e r =
    subst (λ (x : ℕ × ℕ × ℕ × List ℕ × Bool). Reached n s pos x.0 x.1 x.2 x.3 x.4) (λ i. (sym a i, sym b i, sym c i, sym d i, sym e i)) r

-- the pass refuses
pub refused : {n : ℕ} {s : List ℕ} {x : Result Header Refusal} → x ≡ passed_all n s → x ≡ Err StoreLayout → PassedAs n s (Err StoreLayout)
refused e r = record { is = sym r ∙ e; markless = tt }

pub start : (n : ℕ) (s tab : List ℕ) → rows_of 1 tab ≡ replicate 32 0 ∷ [] → Reached n s 1 1 0 0 tab false
unfolding passed_all
start n s tab e =
    record {
      below = omega arith;
      here = refl;
      left = ap (λ (x : List Table). passed (bytes_at (blocks_of n s)) 1 0 x (drop 1 (blocks_of n s))) e;
      plain = λ z p lo hi. absurd (omega arith);
    }
