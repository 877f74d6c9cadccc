-- What is written for the lines of a commit is the commit as the meanings lay it out (`with_commit`).
-- Assumes nothing.
use Prim.Native.Nat.{◌*◌, ◌+◌, ◌<◌, ◌≤◌, suc, ℕ}
use mathlib.Core.Bool.{Bool, false, true}
use mathlib.Core.List.{List, [], ◌++◌, ◌∷◌, append_assoc, map}
use mathlib.Core.Path.{◌∙◌, ◌≡◌, ap, ap₂, refl, sym}
use native.Mathlib.Nat.{add-zero}
use native.Mathlib.Omega.{arith}
use lib.ListN.{drop, get_or, length, length-append, length-map, take, take-append-drop}
use lib.Seq.{length-take-le}
use Rattle.block.proofs.Writing.{written_at}
use Rattle.block.specs.Lists.{same}
use Rattle.block.specs.Write.{written}
use Rattle.model.specs.Blocks.{Block, bytes_at, commit, content, fields_of}
use Rattle.model.specs.Codec.{joined}
use Rattle.model.specs.History.{Change, Commit, History, add, change, change_of, copy, delete, last, nothing}
use Rattle.model.specs.Layout.{Lays, Table, user}
use Rattle.model.specs.Pass.{tables_of}
use Rattle.model.specs.Store.{blanks, front}
use Rattle.model.specs.Writing.{Plan, bytes_in, contents_for, fresh, line_of, lines_for, new_blocks, new_contents, new_lines, plan_copy, plan_of, shared, skip, with_commit}
use Rattle.laws.proofs.Parts.{joined-append}
use Rattle.laws.proofs.WorkCopy.{length-joined}
use Rattle.laws.proofs.Writing.{front-blanks, some-used, trees_in, user_below}
use Rattle.writer.proofs.Contents.{content-other, content-own}
use Rattle.writer.specs.Blocks.{commit_blocks, contents_by}

-- what a row of the plan asks of the code that writes it: the sheet's bytes for a block of its own, and a block before `at` for one that is shared
abbrev Writes : List ℕ → ℕ → Change → Plan → Type 0
Writes x at c skip = Unit {0}
Writes x at c (fresh a s v) = x ≡ bytes_in c
Writes x at c (shared a q s v) = q < at

module _ (bytes : ℕ → List ℕ) (at : ℕ) (f : Change → Plan) where
  contents_planned : (cs : List Change) (i p : ℕ) → at ≤ p
      → ((j : ℕ) → j < length cs → Writes (bytes (i + j)) at (get_or cs j nothing) (f (get_or cs j nothing)))
      → contents_by bytes p (lines_for i p (map f cs)) ≡ contents_for cs (map f cs)
  contents_planned [] i p h w = unfold contents_by in refl
  contents_planned (c ∷ cs) i p h w =
      go (f c) here (λ k g. contents_planned cs (suc i) k g (λ j l. let s : suc i + j ≡ i + suc j = omega arith in rw s (w (suc j) (omega arith))))
    where
      here : Writes (bytes i) at c (f c)
      here = rw add-zero at (w 0 (omega arith))

      go : (q : Plan) → Writes (bytes i) at c q
          → ((k : ℕ) → at ≤ k → contents_by bytes k (lines_for (suc i) k (map f cs)) ≡ contents_for cs (map f cs))
          → contents_by bytes p (lines_for i p (q ∷ map f cs)) ≡ contents_for (c ∷ cs) (q ∷ map f cs)
      go skip x rest = rest p h
      go (fresh a s v) x rest =
          content-own bytes (line_of i a p s v) (lines_for (suc i) (suc p) (map f cs)) p refl
          ∙ ap₂ (λ (y : List ℕ) (z : List (List ℕ)). y ∷ z) x (rest (suc p) (omega arith))
      go (shared a q s v) x rest = content-other bytes (line_of i a q s v) (lines_for (suc i) p (map f cs)) p (λ e. omega arith) ∙ rest p h

-- a change with bytes has these
abbrev pub Carries : List ℕ → Change → Type 0
Carries x nothing = Unit {0}
Carries x (add b) = x ≡ b
Carries x (change b) = x ≡ b
Carries x delete = Unit {0}
Carries x (copy s v b) = x ≡ b

plan_writes : (look : ℕ → List ℕ) (at : ℕ) (tables : List Table) → 1 ≤ at → ((v s : ℕ) → user look at 0 tables v s < at)
    → (x : List ℕ) (c : Change) → Carries x c → Writes x at c (plan_of look at 0 tables c)
plan_writes look at tables low below x nothing k = tt
plan_writes look at tables low below x (add b) k = k
plan_writes look at tables low below x (change b) k = k
plan_writes look at tables low below x delete k = low
plan_writes look at tables low below x (copy s v b) k = go (same b (look (user look at 0 tables v s)))
  where
    go : (t : Bool) → Writes x at (copy s v b) (plan_copy look at 0 tables t s v)
    go true = below v s
    go false = k

-- bytes written from a block on are blocks written
written-blocks : (used old new rest : List Block) → length old ≡ length new
    → written (512 * length used) (joined fields_of new) (joined fields_of (used ++ (old ++ rest))) ≡ joined fields_of (used ++ (new ++ rest))
written-blocks used old new rest e =
    ap (written (512 * length used) (joined fields_of new)) (both old)
    ∙ written_at (512 * length used) (joined fields_of used) (joined fields_of old) (joined fields_of new) (joined fields_of rest)
    (omega (arith, length-joined fields_of used)) (omega (arith, length-joined fields_of old, length-joined fields_of new, e))
    ∙ sym (both new)
  where
    both : (mid : List Block) → joined fields_of (used ++ (mid ++ rest)) ≡ joined fields_of used ++ (joined fields_of mid ++ joined fields_of rest)
    both mid = joined-append fields_of used (mid ++ rest) ∙ ap (λ (x : List ℕ). joined fields_of used ++ x) (joined-append fields_of mid rest)

-- THE STATEMENT: blocks bs that are the layout of h, a commit c, and a working copy that has the bytes of its changes
module _ (bs : List Block) (h : History) (L : Lays bs h) (c : Commit) (bytes : ℕ → List ℕ) (carried : (i : ℕ) → i < length c.changes → Carries (bytes i) (change_of c i)) where
  pub contents_new : contents_by bytes (length (front bs)) (new_lines (front bs) (blanks bs) c) ≡ new_contents (front bs) (blanks bs) c
  contents_new =
      let look = bytes_at (front bs ++ blanks bs) in
      let at = length (front bs) in
      contents_planned bytes at (plan_of look at 0 (tables_of (front bs))) c.changes 0 at (omega arith)
      (λ j g. let z : 0 + j ≡ j = omega arith in
      rw z (plan_writes look at (tables_of (front bs)) (some-used bs h L) (user_below bs h L) (bytes j) (change_of c j) (carried j g)))

  abbrev blocks : List Block
  blocks = commit_blocks bytes (length (front bs)) (suc (last h)) c.seat c.stamp (new_lines (front bs) (blanks bs) c)

  pub blocks_new : blocks ≡ new_blocks (front bs) (blanks bs) c []
  unfolding commit_blocks
  blocks_new =
      ap₂ (λ (r : ℕ) (x : List (List ℕ)). map (content r) x ++ (commit r c.seat c.stamp (new_lines (front bs) (blanks bs) c) ∷ []))
      (sym (trees_in bs h L).count) contents_new

  pub written-commit : length (new_contents (front bs) (blanks bs) c) < length (blanks bs)
      → written (512 * length (front bs)) (joined fields_of blocks) (joined fields_of bs) ≡ joined fields_of (with_commit bs c)
  written-commit room =
      let n = suc (length (new_contents (front bs) (blanks bs) c)) in
      let r = length (tables_of (front bs)) in
      let new = new_blocks (front bs) (blanks bs) c [] in
      let cs = map (content r) (new_contents (front bs) (blanks bs) c) in
      let last' : List Block = commit r c.seat c.stamp (new_lines (front bs) (blanks bs) c) ∷ [] in
      let size : length new ≡ n = omega (arith, length-append cs last', length-map (new_contents (front bs) (blanks bs) c) (content r)) in
      ap₂ (λ (x y : List Block). written (512 * length (front bs)) (joined fields_of x) (joined fields_of y)) blocks_new
      (sym (front-blanks bs) ∙ ap (λ (x : List Block). front bs ++ x) (sym (take-append-drop n (blanks bs))))
      ∙ written-blocks (front bs) (take n (blanks bs)) new (drop n (blanks bs)) (length-take-le n (blanks bs) room ∙ sym size)
      ∙ ap (λ (x : List Block). joined fields_of (front bs ++ x)) (append_assoc cs last' (drop n (blanks bs)))
