-- Accepted blocks: the revisions that are read off block by block are those of the log, and each is less than the blocks are many.
-- Assumes nothing.
use Prim.Native.Nat.{◌+◌, ◌<◌, ◌≤◌, suc, zero, ℕ}
use mathlib.Core.Bool.{◌&&◌}
use mathlib.Core.List.{List, [], ◌∷◌}
use mathlib.Core.Path.{◌≡◌, ap, refl, subst, sym}
use native.Mathlib.Omega.{arith}
use borrow.Author.Tests.{ne_eqb}
use lib.Dec.{T, eqb, leb, ltb}
use lib.ListN.{get_or, length, length-append, replicate}
use Rattle.block.proofs.Says.{and_true, says-le, says-lt}
use Rattle.block.specs.Lists.{All, all}
use Rattle.model.specs.Blocks.{Block, FitsBlock, blank, bytes_at, commit, content, fields_of, fits_block, label, mark, parse}
use Rattle.model.specs.Layout.{Table, latest, next}
use Rattle.model.specs.Log.{Mark, marks, marks_from, released, releases}
use Rattle.model.specs.Pass.{grown, is_blank, laid, log_all, log_from, ok, ok_from, stands}
use Rattle.model.specs.Store.{blocks_of}
use Rattle.laws.proofs.BlockCodes.{block_coded}
use Rattle.laws.proofs.Codec.{length-parts}
use Rattle.laws.proofs.Rows.{cond-any}
use Rattle.marks.specs.Laid.{Laid}
use Rattle.marks.specs.Revisions.{released_by, revision_of, revisions_in}

blank_none : (bs : List Block) → T (all is_blank bs) → revisions_in bs ≡ []
blank_none [] t = refl
blank_none (label ∷ bs) t = absurd t
blank_none (content r b ∷ bs) t = absurd t
blank_none (commit r seat stamp ls ∷ bs) t = absurd t
blank_none (mark m ∷ bs) t = absurd t
blank_none (blank ∷ bs) t = blank_none bs t

blank-low : (n : ℕ) (bs : List Block) → 0 < n → T (all is_blank bs) → All (λ (b : Block). revision_of b < n) bs
blank-low n [] h t = tt
blank-low n (label ∷ bs) h t = absurd t
blank-low n (content r b ∷ bs) h t = absurd t
blank-low n (commit r seat stamp ls ∷ bs) h t = absurd t
blank-low n (mark m ∷ bs) h t = absurd t
blank-low n (blank ∷ bs) h t = (h, blank-low n bs h t)

-- a mark names a revision that is there
mark-low : (tables : List Table) (m : Mark) → T (stands tables m) → (1 ≤ released_by m) × (released_by m < length tables)
mark-low tables (released R seat stamp) t =
    let p = and_true (leb 1 R) (ltb R (length tables)) (and_true (leb 1 R && ltb R (length tables)) (leb 1 seat && leb seat 4) t).0 in
    ((says-le 1 R).true_so p.0, (says-lt R (length tables)).true_so p.1)

module _ (look : ℕ → List ℕ) where
  from_log : (at k n : ℕ) (tables : List Table) (bs : List Block) → T (ok_from look at k tables bs) → revisions_in bs ≡ releases (marks_from n (log_from look bs))
  unfolding ok_from log_from
  from_log at k n tables [] t = refl
  from_log at k n tables (label ∷ bs) t = absurd t
  from_log at k n tables (content r b ∷ bs) t = from_log at (suc k) n tables bs (and_true (eqb r (length tables)) (ok_from look at (suc k) tables bs) t).1
  from_log at k n tables (commit r seat stamp ls ∷ bs) t =
      let p = and_true (eqb r (length tables)) (laid look at k tables seat ls && ok_from look (suc (at + k)) 0 (grown tables ls) bs) t in
      from_log (suc (at + k)) 0 (suc n) (grown tables ls) bs (and_true (laid look at k tables seat ls) (ok_from look (suc (at + k)) 0 (grown tables ls) bs) p.1).1
  from_log at k n tables (mark (released R seat stamp) ∷ bs) t =
      let m = released R seat stamp in
      let p = and_true (stands tables m) (ok_from look (suc at) 0 tables bs) (and_true (eqb k 0) (stands tables m && ok_from look (suc at) 0 tables bs) t).1 in
      rw (ne_eqb R 0 (λ e. omega (arith, mark-low tables m p.0))) (ap (λ (rs : List ℕ). R ∷ rs) (from_log (suc at) 0 n tables bs p.1))
  from_log at k n tables (blank ∷ bs) t = blank_none bs (and_true (eqb k 0) (all is_blank bs) t).1

  all-low : (at k n : ℕ) (tables : List Table) (bs : List Block) → length tables + length bs ≤ n → T (ok_from look at k tables bs) → All (λ (b : Block). revision_of b < n) bs
  unfolding ok_from
  all-low at k n tables [] h t = tt
  all-low at k n tables (label ∷ bs) h t = absurd t
  all-low at k n tables (content r b ∷ bs) h t =
      (omega arith, all-low at (suc k) n tables bs (omega arith) (and_true (eqb r (length tables)) (ok_from look at (suc k) tables bs) t).1)
  all-low at k n tables (commit r seat stamp ls ∷ bs) h t =
      let p = and_true (eqb r (length tables)) (laid look at k tables seat ls && ok_from look (suc (at + k)) 0 (grown tables ls) bs) t in (
        omega arith,
        all-low (suc (at + k)) 0 n (grown tables ls) bs (omega (arith, length-append tables (next ls (latest tables) ∷ [])))
            (and_true (laid look at k tables seat ls) (ok_from look (suc (at + k)) 0 (grown tables ls) bs) p.1).1,
      )
  all-low at k n tables (mark m ∷ bs) h t =
      let p = and_true (stands tables m) (ok_from look (suc at) 0 tables bs) (and_true (eqb k 0) (stands tables m && ok_from look (suc at) 0 tables bs) t).1 in
      (omega (arith, mark-low tables m p.0), all-low (suc at) 0 n tables bs (omega arith) p.1)
  all-low at k n tables (blank ∷ bs) h t = (omega arith, blank-low n bs (omega arith) (and_true (eqb k 0) (all is_blank bs) t).1)

ok-log : (bs : List Block) → T (ok bs) → revisions_in bs ≡ releases (marks (log_all bs))
unfolding ok log_all
ok-log [] t = absurd t
ok-log (label ∷ bs) t = from_log (bytes_at (label ∷ bs)) 1 0 0 (replicate 32 0 ∷ []) bs t
ok-log (content r b ∷ bs) t = absurd t
ok-log (commit r seat stamp ls ∷ bs) t = absurd t
ok-log (mark m ∷ bs) t = absurd t
ok-log (blank ∷ bs) t = absurd t

ok-low : (n : ℕ) (bs : List Block) → length bs ≤ n → T (ok bs) → All (λ (b : Block). revision_of b < n) bs
unfolding ok
ok-low n [] h t = absurd t
ok-low n (label ∷ bs) h t = (omega arith, all-low (bytes_at (label ∷ bs)) 1 0 n (replicate 32 0 ∷ []) bs (omega arith) t)
ok-low n (content r b ∷ bs) h t = absurd t
ok-low n (commit r seat stamp ls ∷ bs) h t = absurd t
ok-low n (mark m ∷ bs) h t = absurd t
ok-low n (blank ∷ bs) h t = absurd t

length-blocks : (n : ℕ) (s : List ℕ) → length (blocks_of n s) ≡ n
unfolding blocks_of
length-blocks n s = length-parts fields_of parse fits_block FitsBlock block_coded n s

-- what a table of 4,096 places has room for
abbrev pub Low : List Block → Type 0
Low bs = All (λ (b : Block). revision_of b < 4_096) bs

lows : (bs : List Block) → Low bs → All (λ (x : ℕ). x < 4_096) (revisions_in bs)
lows [] l = tt
lows (b ∷ bs) l =
    cond-any (λ (xs : List ℕ). All (λ (x : ℕ). x < 4_096) xs) (eqb (revision_of b) 0) (λ t. lows bs l.1) (λ t. (l.0, lows bs l.1))

at : (xs : List ℕ) (k : ℕ) → All (λ (x : ℕ). x < 4_096) xs → k < length xs → get_or xs k 0 < 4_096
at [] k l h = absurd (omega arith)
at (x ∷ xs) zero l h = l.0
at (x ∷ xs) (suc k) l h = at xs k l.1 (omega arith)

-- THE STATEMENTS
module _ (s : List ℕ) (n : ℕ) (L : Laid s n) where
  accepted : T (ok (blocks_of n s))
  accepted = subst T (sym L.laid) tt

  pub laid_revisions : revisions_in (blocks_of n s) ≡ releases (marks (log_all (blocks_of n s)))
  laid_revisions = ok-log (blocks_of n s) accepted

  pub laid-low : Low (blocks_of n s)
  laid-low = ok-low 4_096 (blocks_of n s) (omega (arith, length-blocks n s, L.few)) accepted

  -- each has its place in a table of 4,096
  pub low_at : (k : ℕ) → k < length (releases (marks (log_all (blocks_of n s)))) → get_or (releases (marks (log_all (blocks_of n s)))) k 0 < 4_096
  low_at k h = subst (λ (xs : List ℕ). k < length xs → get_or xs k 0 < 4_096) laid_revisions (at (revisions_in (blocks_of n s)) k (lows (blocks_of n s) laid-low)) h
