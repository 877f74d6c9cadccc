-- The blocks that a commit writes are those that the history gives in W1's order, and they keep the rule of the order.
-- Assumes nothing.
use Prim.Native.Nat.{◌+◌, ◌<◌, ◌≤◌, suc, ℕ}
use mathlib.Core.Bool.{Bool, ◌&&◌, cond, false, not, true}
use mathlib.Core.List.{List, [], ◌++◌, ◌∷◌, append_assoc, map}
use mathlib.Core.Option.{Option, some}
use mathlib.Core.Path.{◌∙◌, ◌≡◌, ap, ap₂, refl, sym}
use native.Mathlib.Omega.{arith}
use borrow.Author.Tests.{le-leb, lt-leb}
use lib.Dec.{T, eqb}
use lib.ListN.{get_or, length, length-map, replicate}
use Rattle.block.proofs.Says.{and_true}
use Rattle.block.specs.Lists.{All, all, same}
use Rattle.model.specs.Blocks.{Block, Line, adds, blank, bytes_at, changes, commit, content, copies, deletes, label, mark}
use Rattle.model.specs.History.{Bytes, Change, Commit, History, add, change, copy, delete, is_bytes, last, nothing, sheet}
use Rattle.model.specs.Invariant.{Base, Made}
use Rattle.model.specs.Layout.{Lays, Table, user}
use Rattle.model.specs.Log.{Mark}
use Rattle.model.specs.Order.{InOrder, RisingFrom, commit_blocks, contents_after, lines_after, own_blocks, plan_after, up_from}
use Rattle.model.specs.Pass.{grown, is_blank, laid, ok, ok_from, stands, tables_after, tables_of}
use Rattle.model.specs.Store.{blanks, front}
use Rattle.model.specs.Writing.{Plan, contents_for, fresh, lines_for, new_blocks, plan_copy, plan_of, plans, shared, skip}
use Rattle.laws.proofs.Acceptance.{lays_accepted}
use Rattle.laws.proofs.Grows.{length-contents}
use Rattle.laws.proofs.Writer.{Low, freshes}
use Rattle.laws.proofs.Writing.{Sources, lays_split, made_sources, no_blank, some-used, source-bytes, trees_in, user_below}

-- ---- how each change is written: by the bytes of the blocks, and by the history

module _ (look : ℕ → List ℕ) (at : ℕ) (tables : List Table) (h : History)
    (source : (v s : ℕ) → Base h v s → sheet h v s ≡ some (look (user look at 0 tables v s)))
  where
    same_copy : (s v : ℕ) (x : Bytes) → Base h v s → plan_of look at 0 tables (copy s v x) ≡ plan_after h tables (copy s v x)
    same_copy s v x B =
        go (same x (look (user look at 0 tables v s)))
        ∙ ap (λ (o : Option Bytes). cond (is_bytes x o) (shared copies (get_or (get_or tables v []) s 0) s v) (fresh copies s v)) (sym (source v s B))
      where
        go : (t : Bool) → plan_copy look at 0 tables t s v ≡ cond t (shared copies (get_or (get_or tables v []) s 0) s v) (fresh copies s v)
        go true = refl
        go false = refl

    same-plans : (cs : List Change) → Sources h cs → map (plan_of look at 0 tables) cs ≡ map (plan_after h tables) cs
    same-plans [] r = refl
    same-plans (nothing ∷ cs) r = ap (λ (l : List Plan). skip ∷ l) (same-plans cs r)
    same-plans (add x ∷ cs) r = ap (λ (l : List Plan). fresh adds 0 0 ∷ l) (same-plans cs r)
    same-plans (change x ∷ cs) r = ap (λ (l : List Plan). fresh changes 0 0 ∷ l) (same-plans cs r)
    same-plans (delete ∷ cs) r = ap (λ (l : List Plan). shared deletes 0 0 0 ∷ l) (same-plans cs r)
    same-plans (copy s v x ∷ cs) r = ap₂ ◌∷◌ (same_copy s v x r.0) (same-plans cs r.1)

-- ---- the rule

lower : (i j : ℕ) (ls : List Line) → i ≤ j → RisingFrom j ls → RisingFrom i ls
lower i j [] le r = tt
lower i j (l ∷ ls) le r = (omega (arith, r.0), r.1)

lines_rise : (ps : List Plan) (i p : ℕ) → RisingFrom i (lines_for i p ps)
lines_rise [] i p = tt
lines_rise (skip ∷ ps) i p = lower i (suc i) (lines_for (suc i) p ps) (omega arith) (lines_rise ps (suc i) p)
lines_rise (fresh a s v ∷ ps) i p = (omega arith, lines_rise ps (suc i) (suc p))
lines_rise (shared a q s v ∷ ps) i p = (omega arith, lines_rise ps (suc i) p)

own_in_turn_lem : (at : ℕ) (ps : List Plan) (i p : ℕ) → All (Low at) ps → at ≤ p → own_blocks at (lines_for i p ps) ≡ up_from p (freshes ps)
own_in_turn_lem at [] i p l le = refl
own_in_turn_lem at (skip ∷ ps) i p l le = own_in_turn_lem at ps (suc i) p l.1 le
own_in_turn_lem at (fresh a s v ∷ ps) i p l le = rw (le-leb at p le) (ap (λ (x : List ℕ). p ∷ x) (own_in_turn_lem at ps (suc i) (suc p) l.1 (omega arith)))
own_in_turn_lem at (shared a q s v ∷ ps) i p l le = rw (lt-leb at q l.0) (own_in_turn_lem at ps (suc i) p l.1 le)

module _ (h : History) (tables : List Table) (at : ℕ) (one : 1 ≤ at) (below : (v s : ℕ) → get_or (get_or tables v []) s 0 < at) where
  low-plans : (cs : List Change) → All (Low at) (map (plan_after h tables) cs)
  low-plans [] = tt
  low-plans (nothing ∷ cs) = (tt, low-plans cs)
  low-plans (add x ∷ cs) = (tt, low-plans cs)
  low-plans (change x ∷ cs) = (tt, low-plans cs)
  low-plans (delete ∷ cs) = (one, low-plans cs)
  low-plans (copy s v x ∷ cs) = (go (is_bytes x (sheet h v s)), low-plans cs)
    where
      go : (t : Bool) → Low at (cond t (shared copies (get_or (get_or tables v []) s 0) s v) (fresh copies s v))
      go true = below v s
      go false = tt

  -- a commit in W1's order keeps the rule, where no table names a block from `at` on
  in_order : (c : Commit) → InOrder at (length (contents_after h tables c)) (lines_after h tables at c)
  in_order c =
      let ps : List Plan = map (plan_after h tables) c.changes in
      record {
        rising = lines_rise ps 0 at;
        contents =
            own_in_turn_lem at ps 0 at (low-plans c.changes) (omega arith)
            ∙ ap (up_from at) (sym (length-contents c.changes ps (length-map c.changes (plan_after h tables))));
      }

-- ---- the tables after further blocks

after-append : (look : ℕ → List ℕ) (at k : ℕ) (tables : List Table) (used bl new : List Block) → T (ok_from look at k tables (used ++ bl))
    → T (all (λ b. not (is_blank b)) used) → tables_after tables (used ++ new) ≡ tables_after (tables_after tables used) new
unfolding ok_from tables_after
after-append look at k tables [] bl new t n = refl
after-append look at k tables (label ∷ used) bl new t n = absurd t
after-append look at k tables (content r b ∷ used) bl new t n =
    after-append look at (suc k) tables used bl new (and_true (eqb r (length tables)) (ok_from look at (suc k) tables (used ++ bl)) t).1 n
after-append look at k tables (commit r seat stamp ls ∷ used) bl new t n =
    let p = and_true (eqb r (length tables)) (laid look at k tables seat ls && ok_from look (suc (at + k)) 0 (grown tables ls) (used ++ bl)) t in
    after-append look (suc (at + k)) 0 (grown tables ls) used bl new (and_true (laid look at k tables seat ls) (ok_from look (suc (at + k)) 0 (grown tables ls) (used ++ bl)) p.1).1 n
after-append look at k tables (mark m ∷ used) bl new t n =
    let p = and_true (eqb k 0) (stands tables m && ok_from look (suc at) 0 tables (used ++ bl)) t in
    after-append look (suc at) 0 tables used bl new (and_true (stands tables m) (ok_from look (suc at) 0 tables (used ++ bl)) p.1).1 n
after-append look at k tables (blank ∷ used) bl new t n = absurd n

tables_append : (used bl new : List Block) (h : History) → T (all (λ b. not (is_blank b)) used) → 1 ≤ length used → Lays (used ++ bl) h
    → tables_of (used ++ new) ≡ tables_after (tables_of used) new
unfolding ok tables_of
tables_append [] bl new h n low m = absurd (omega arith)
tables_append (label ∷ used) bl new h n low m =
    after-append (bytes_at (label ∷ (used ++ bl))) 1 0 (replicate 32 0 ∷ []) used bl new (lays_accepted (label ∷ (used ++ bl)) h m).0 n
tables_append (content r b ∷ used) bl new h n low m = absurd (lays_accepted (content r b ∷ (used ++ bl)) h m).0
tables_append (commit r seat stamp ls ∷ used) bl new h n low m = absurd (lays_accepted (commit r seat stamp ls ∷ (used ++ bl)) h m).0
tables_append (mark q ∷ used) bl new h n low m = absurd (lays_accepted (mark q ∷ (used ++ bl)) h m).0
tables_append (blank ∷ used) bl new h n low m = absurd n

after-contents : (r : ℕ) (cs : List (List ℕ)) (ts : List Table) (bs : List Block) → tables_after ts (map (content r) cs ++ bs) ≡ tables_after ts bs
unfolding tables_after
after-contents r [] ts bs = refl
after-contents r (b ∷ cs) ts bs = after-contents r cs ts bs

-- a mark moves no tree
pub tables_mark : (bs : List Block) (h : History) → Lays bs h → (m : Mark) → tables_of (front bs ++ (mark m ∷ [])) ≡ tables_of (front bs)
unfolding tables_after
tables_mark bs h L m = tables_append (front bs) (blanks bs) (mark m ∷ []) h (no_blank bs) (some-used bs h L) (lays_split bs h L)

-- ---- a commit on blocks that lay out a history

module _ (bs : List Block) (h : History) (c : Commit) (L : Lays bs h) where
  abbrev at : ℕ
  at = length (front bs)

  abbrev tables : List Table
  tables = tables_of (front bs)

  -- it keeps the rule of the order
  pub laid_in_order : InOrder at (length (contents_after h tables c)) (lines_after h tables at c)
  laid_in_order = in_order h tables at (some-used bs h L) (user_below bs h L) c

  -- the tables after it are those before and that of its tree
  pub tables_after_lem : tables_of (front bs ++ commit_blocks h tables at c) ≡ grown tables (lines_after h tables at c)
  unfolding tables_after
  tables_after_lem =
      let one : List Block = commit (suc (last h)) c.seat c.stamp (lines_after h tables at c) ∷ [] in
      tables_append (front bs) (blanks bs) (commit_blocks h tables at c) h (no_blank bs) (some-used bs h L) (lays_split bs h L)
      ∙ after-contents (suc (last h)) (contents_after h tables c) tables one

  -- what commit writes is in W1's order
  pub written_ordered : Made h c → (rest : List Block) → new_blocks (front bs) (blanks bs) c rest ≡ commit_blocks h tables at c ++ rest
  written_ordered M rest =
      let put : ℕ → List Plan → List Block → List Block =
      λ r ps more. map (content r) (contents_for c.changes ps) ++ (commit r c.seat c.stamp (lines_for 0 at ps) ∷ more) in
      let e : plans (front bs) (blanks bs) c ≡ map (plan_after h tables) c.changes =
      same-plans (bytes_at (front bs ++ blanks bs)) at tables h (source-bytes bs h L) c.changes (made_sources h c M) in
      ap₂ (λ (r : ℕ) (ps : List Plan). put r ps rest) (trees_in bs h L).count e
      ∙ sym (append_assoc (map (content (suc (last h))) (contents_after h tables c)) (commit (suc (last h)) c.seat c.stamp (lines_after h tables at c) ∷ []) rest)
