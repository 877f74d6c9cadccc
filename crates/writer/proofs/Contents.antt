-- The content blocks of a commit, written one by one from a working copy; and a writing that stops after n blocks.
-- Assumes nothing.
use Rattle.std.proofs.Common.{◌*◌, ◌+◌, ◌-◌, ◌<◌, ◌≤◌, ◌≢◌, ◌≡◌, ◌∙◌, suc, ℕ, Bool, true, false, cond, eqb, List, [], ◌++◌, ◌∷◌, All, map, ap, ap₂, subst, sym, add-zero, append-nil, arith, drop, get_or, length, take, length-append, length-take}
use Rattle.std.proofs.Math.ListN.{length-map, take-append-drop}
use Rattle.std.proofs.lemmas.List.{map-append, map_more, take-append-le, take-map, take_all, take_at}
use Rattle.std.proofs.lemmas.List.Elements.{All-get_or}
use borrow.Author.Tests.{eq-eqb, ne_eqb}
use lib.Seq.{drop-drop, get_or-drop}
use Rattle.block.proofs.Writing.{written_both, written_none}
use Rattle.block.specs.Field.{two_at}
use Rattle.block.specs.Write.{written}
use Rattle.model.specs.Blocks.{Block, Line, commit, content, fields_of}
use Rattle.model.specs.Codec.{encode, joined}
use Rattle.laws.proofs.Parts.{joined-append}
use Rattle.laws.proofs.WorkCopy.{length-joined}
use Rattle.writer.specs.Blocks.{PutContents, Wrote, commit_blocks, contents_by, line_in, lines_in, sheet_in}
use Rattle.writer.specs.declared.Line.{Line as TheLine}

-- the part of a working copy that a content block is written from
pub part_sheet : (copy : List ℕ) (i n k : ℕ) → n ≡ two_at copy (512 * (i + 1) + 2) → k ≡ n → take k (drop (512 * (i + 1) + 16) copy) ≡ sheet_in copy i
unfolding sheet_in
part_sheet copy i n k e q =
    let at = 512 * (i + 1) in
    let z : suc (at + 2) ≡ at + 3 = omega arith in
    let s : k ≡ two_at (drop at copy) 2 =
    q ∙ e ∙ ap₂ (λ (x y : ℕ). x + 256 * y) (sym (get_or-drop at copy 2 0)) (ap (λ (x : ℕ). get_or copy x 0) z ∙ sym (get_or-drop at copy 3 0)) in
    ap₂ (λ (x : ℕ) (y : List ℕ). take x y) s (sym (drop-drop 16 at copy))

module _ (bytes : ℕ → List ℕ) where
  pub content-own : (l : Line) (ls : List Line) (p : ℕ) → l.block ≡ p → contents_by bytes p (l ∷ ls) ≡ bytes l.sheet ∷ contents_by bytes (suc p) ls
  unfolding contents_by
  content-own l ls p e = rw (eq-eqb l.block p e)

  pub content-other : (l : Line) (ls : List Line) (p : ℕ) → (l.block ≡ p → ⊥) → contents_by bytes p (l ∷ ls) ≡ contents_by bytes p ls
  unfolding contents_by
  content-other l ls p ne = rw (ne_eqb l.block p ne)

  -- the contents of some lines, and of the lines after them
  contents-append : (ls ks : List Line) (p : ℕ) → contents_by bytes p (ls ++ ks) ≡ contents_by bytes p ls ++ contents_by bytes (p + length (contents_by bytes p ls)) ks
  unfolding contents_by
  contents-append [] ks p = ap (λ k. contents_by bytes k ks) (sym (add-zero p))
  contents-append (l ∷ ls) ks p = go (eqb l.block p) (contents-append ls ks p) (contents-append ls ks (suc p))
    where
      go : (b : Bool) → contents_by bytes p (ls ++ ks) ≡ contents_by bytes p ls ++ contents_by bytes (p + length (contents_by bytes p ls)) ks
          → contents_by bytes (suc p) (ls ++ ks) ≡ contents_by bytes (suc p) ls ++ contents_by bytes (suc p + length (contents_by bytes (suc p) ls)) ks
          → cond b (bytes l.sheet ∷ contents_by bytes (suc p) (ls ++ ks)) (contents_by bytes p (ls ++ ks))
          ≡ cond b (bytes l.sheet ∷ contents_by bytes (suc p) ls) (contents_by bytes p ls)
          ++ contents_by bytes (p + length (cond b (bytes l.sheet ∷ contents_by bytes (suc p) ls) (contents_by bytes p ls))) ks
      go true other own =
          let e : suc p + length (contents_by bytes (suc p) ls) ≡ p + suc (length (contents_by bytes (suc p) ls)) = omega arith in
          ap (λ x. bytes l.sheet ∷ x) (own ∙ ap (λ k. contents_by bytes (suc p) ls ++ contents_by bytes k ks) e)
      go false other own = other

-- one block more
block_more : (used next : ℕ) (us : List Block) (b : Block) (s s₁ s₂ : List ℕ) → next ≡ used + length us
    → s₁ ≡ written (512 * used) (joined fields_of us) s → s₂ ≡ written (512 * next) (encode fields_of b) s₁
    → s₂ ≡ written (512 * used) (joined fields_of (us ++ (b ∷ []))) s
block_more used next us b s s₁ s₂ e e₁ e₂ =
    let z : 512 * next ≡ 512 * used + length (joined fields_of us) = omega (arith, length-joined fields_of us) in
    e₂ ∙ ap₂ (λ (k : ℕ) (y : List ℕ). written k (encode fields_of b) y) z e₁
    ∙ sym (written_both (512 * used) (joined fields_of us) (encode fields_of b) s)
    ∙ ap (λ (x : List ℕ). written (512 * used) x s)
    (ap (λ (x : List ℕ). joined fields_of us ++ x) (sym (append-nil (encode fields_of b))) ∙ sym (joined-append fields_of us (b ∷ [])))

-- the sheet of a line
pub sheet_low : (ls : List TheLine) (i : ℕ) (l₀ : TheLine) (k : ℕ) → All (λ l. l.sheet < 32) ls → i < length ls → k ≡ (get_or ls i l₀).sheet → k < 32
sheet_low ls i l₀ k named h e = rw e (All-get_or (λ l. l.sheet < 32) ls i l₀ h named)

-- ---- the loop over the lines: the contents of the first i lines were written
pub put_none : (bytes : ℕ → List ℕ) (s : List ℕ) (n used r : ℕ) → PutContents s s n used r (contents_by bytes used []) used n
unfolding contents_by
put_none bytes s n used r = record { bytes = sym (written_none (512 * used) s); place = omega arith; spare = omega arith }

module _ (bytes : ℕ → List ℕ) (s₀ : List ℕ) (n used r : ℕ) (ls : List TheLine) (s : List ℕ) (next left i : ℕ)
    (P : PutContents s₀ s n used r (contents_by bytes used (lines_in (take i ls))) next left) where
  abbrev first : ℕ → List (List ℕ)
  first k = contents_by bytes used (lines_in (take k ls))

  abbrev all : List (List ℕ)
  all = contents_by bytes used (lines_in ls)

  split : (k : ℕ) → all ≡ first k ++ contents_by bytes (used + length (first k)) (lines_in (drop k ls))
  split k =
      ap (λ x. contents_by bytes used (lines_in x)) (sym (take-append-drop k ls))
      ∙ ap (contents_by bytes used) (map-append line_in (take k ls) (drop k ls))
      ∙ contents-append bytes (lines_in (take k ls)) (lines_in (drop k ls)) used

  -- no write is left, or no line
  pub put_out : left ≡ 0 → PutContents s₀ s n used r (take n all) next left
  put_out z =
      let e : take n all ≡ first i = ap (take n) (split i) ∙ take_at (first i) _ n (omega (arith, P.spare)) in
      subst (λ x. PutContents s₀ s n used r x next left) (sym e) P

  pub put_all : length ls ≤ i → PutContents s₀ s n used r (take n all) next left
  put_all h =
      let w : first i ≡ all = ap (λ x. contents_by bytes used (lines_in x)) (take_all i ls h) in
      let e : first i ≡ take n all = w ∙ sym (take_all n all (omega (arith, P.spare, ap length w))) in
      subst (λ x. PutContents s₀ s n used r x next left) e P

  module _ (l₀ : TheLine) (h : i < length ls) where
    abbrev line : TheLine
    line = get_or ls i l₀

    more : first (i + 1) ≡ first i ++ contents_by bytes next (line_in line ∷ [])
    more =
        ap (contents_by bytes used) (map_more line_in ls i l₀ h) ∙ contents-append bytes (lines_in (take i ls)) (line_in line ∷ []) used
        ∙ ap (λ k. first i ++ contents_by bytes k (line_in line ∷ [])) (sym P.place)

    -- a line whose block is there already, or that has none
    pub put_other : line.block ≢ next → PutContents s₀ s n used r (first (i + 1)) next left
    unfolding contents_by
    put_other ne =
        let e : first (i + 1) ≡ first i = more ∙ ap (λ x. first i ++ x) (content-other bytes (line_in line) [] next ne) ∙ append-nil (first i) in
        subst (λ x. PutContents s₀ s n used r x next left) (sym e) P

    -- a line that points to the next block
    module _ (own : line.block ≡ next) where
      one-more : first (i + 1) ≡ first i ++ (bytes line.sheet ∷ [])
      unfolding contents_by
      one-more = more ∙ ap (λ x. first i ++ x) (content-own bytes (line_in line) [] next own)

      pub put_room : next + 1 ≤ used + length all
      put_room = omega (arith, P.place, ap length (split (i + 1)), ap length one-more, length-append (first i) (bytes line.sheet ∷ []), length-append (first (i + 1)) (contents_by bytes (used + length (first (i + 1))) (lines_in (drop (i + 1) ls))))

      pub put_own : (s' : List ℕ) (k : ℕ) → left ≢ 0 → k ≡ line.sheet → s' ≡ written (512 * next) (encode fields_of (content r (bytes k))) s
          → PutContents s₀ s' n used r (first (i + 1)) (next + 1) (left - 1)
      put_own s' k some e w =
          let m : length (first (i + 1)) ≡ length (first i) + 1 = ap length one-more ∙ length-append (first i) (bytes line.sheet ∷ []) in
          let place : next ≡ used + length (map (content r) (first i)) = P.place ∙ ap (λ k. used + k) (sym (length-map (first i) (content r))) in
          record {
            bytes =
                block_more used next (map (content r) (first i)) (content r (bytes line.sheet)) s₀ s s' place P.bytes (rw e at w)
                ∙ ap (λ x. written (512 * used) (joined fields_of x) s₀) (sym (ap (map (content r)) one-more ∙ map-append (content r) (first i) (bytes line.sheet ∷ [])));
            place = omega (arith, P.place, m);
            spare = omega (arith, P.spare, m);
          }

-- ---- a writing that stops after n blocks
-- the writes ran out among the contents; or they did not: all contents are there, and the commit block after them
module _ (bytes : ℕ → List ℕ) (n used next left r seat stamp : ℕ) (ls : List Line) where
  abbrev cs : List (List ℕ)
  cs = contents_by bytes used ls

  abbrev c : Block
  c = commit r seat stamp ls

  pub cut_short : (s s₁ : List ℕ) → PutContents s s₁ n used r (take n cs) next left → left ≡ 0 → Wrote s s₁ used next (take n (commit_blocks bytes used r seat stamp ls))
  unfolding commit_blocks
  cut_short s s₁ P z =
      let q : map (content r) (take n cs) ≡ take n (map (content r) cs ++ (c ∷ [])) =
      sym (take-map (content r) n cs)
      ∙ sym (take-append-le n (map (content r) cs) (c ∷ []) (omega (arith, P.spare, length-take n cs, length-map cs (content r)))) in
      record {
        bytes = P.bytes ∙ ap (λ (x : List Block). written (512 * used) (joined fields_of x) s) q;
        count = omega (arith, P.place, length-map (take n cs) (content r), ap length q);
      }

  pub cut_none : (s s₁ s₂ : List ℕ) → PutContents s s₁ n used r (take n cs) next left → (left ≡ 0 → ⊥) → s₂ ≡ written (512 * next) (encode fields_of c) s₁
      → Wrote s s₂ used (next + 1) (take n (commit_blocks bytes used r seat stamp ls))
  unfolding commit_blocks
  cut_none s s₁ s₂ P z e₂ =
      let w : take n cs ≡ cs = take_all n cs (omega (arith, P.spare, length-take n cs)) in
      let n' : next ≡ used + length (map (content r) cs) = P.place ∙ ap (λ (x : List (List ℕ)). used + length x) w ∙ ap (λ (k : ℕ). used + k) (sym (length-map cs (content r))) in
      let b : s₁ ≡ written (512 * used) (joined fields_of (map (content r) cs)) s = P.bytes ∙ ap (λ (x : List (List ℕ)). written (512 * used) (joined fields_of (map (content r) x)) s) w in
      let d : map (content r) cs ++ (c ∷ []) ≡ take n (map (content r) cs ++ (c ∷ [])) =
      sym (take_all n (map (content r) cs ++ (c ∷ [])) (omega (arith, P.spare, ap length w, length-append (map (content r) cs) (c ∷ []), length-map cs (content r)))) in
      record {
        bytes = block_more used next (map (content r) cs) c s s₁ s₂ n' b e₂ ∙ ap (λ (x : List Block). written (512 * used) (joined fields_of x) s) d;
        count = omega (arith, n', length-append (map (content r) cs) (c ∷ []), ap length d);
      }
