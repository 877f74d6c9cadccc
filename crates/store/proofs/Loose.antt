-- The forward pass with a tail, against the base's pass over the blocks before the tail and blank ones after them.
-- Assumes nothing.
use Prim.Native.Nat.{◌+◌, ◌≤◌, suc, zero, ℕ}
use mathlib.Core.Bool.{Bool, ◌&&◌, and_assoc, and-false, false, not, true}
use mathlib.Core.List.{List, [], ◌++◌, ◌∷◌}
use mathlib.Core.Path.{◌∙◌, ◌≡◌, ap, refl, sym}
use native.Mathlib.Omega.{arith}
use lib.Dec.{T, eqb, eqb→eq, leb}
use lib.ListN.{drop, length, replicate}
use Rattle.block.proofs.Says.{and_true}
use Rattle.block.specs.Lists.{all}
use Rattle.model.specs.Blocks.{Block, blank, commit, content, label, mark}
use Rattle.model.specs.History.{History}
use Rattle.model.specs.Layout.{Table}
use Rattle.model.specs.Pass.{grown, is_blank, laid, ok_from, read_from, stands, stated, tables_after}
use Rattle.model.specs.Store.{carries, on_stem, stem}
use Rattle.store.specs.Opened.{ok_tail, reached}

-- only content blocks are left
abbrev pub loose : List Table → ℕ → List Block → Bool
loose tables k bs = all (carries (length tables)) bs && leb (k + length bs) 32

pass_loose : (look : ℕ → List ℕ) (at k : ℕ) (tables : List Table) (bs : List Block) → stem bs ≡ [] → ok_tail look at k tables bs ≡ loose tables k bs
unfolding ok_tail
pass_loose look at k tables [] e = let z : k + 0 ≡ k = omega arith in rw z
pass_loose look at k tables (content r b ∷ bs) e = go (stem bs) refl e (λ q. pass_loose look at (suc k) tables bs q)
  where
    go : (s : List Block) → stem bs ≡ s → on_stem (content r b) s ≡ [] → (stem bs ≡ [] → ok_tail look at (suc k) tables bs ≡ loose tables (suc k) bs) → (eqb r (length tables) && ok_tail look at (suc k) tables bs) ≡ ((eqb r (length tables) && all (carries (length tables)) bs) && leb (k + suc (length bs)) 32)
    go [] q w ih =
        let z : k + suc (length bs) ≡ suc k + length bs = omega arith in
        rw z (ap (λ (x : Bool). eqb r (length tables) && x) (ih q) ∙ sym (and_assoc (eqb r (length tables)) (all (carries (length tables)) bs) (leb (suc k + length bs) 32)))
    go (c ∷ cs) q w ih = let z : ◌≡◌ {A = ℕ} 0 1 = cc in absurd (omega arith)
pass_loose look at k tables (label ∷ bs) e = go (stem bs) e
  where
    go : (s : List Block) → on_stem label s ≡ [] → false ≡ ((false && all (carries (length tables)) bs) && leb (k + suc (length bs)) 32)
    go s w = refl
pass_loose look at k tables (commit r t u ls ∷ bs) e = absurd (go (stem bs) e)
  where
    go : (s : List Block) → on_stem (commit r t u ls) s ≡ [] → ⊥
    go [] w = let z : ◌≡◌ {A = ℕ} 0 1 = cc in omega arith
    go (c ∷ cs) w = let z : ◌≡◌ {A = ℕ} 0 1 = cc in omega arith
pass_loose look at k tables (mark m ∷ bs) e = absurd (go (stem bs) e)
  where
    go : (s : List Block) → on_stem (mark m) s ≡ [] → ⊥
    go [] w = let z : ◌≡◌ {A = ℕ} 0 1 = cc in omega arith
    go (c ∷ cs) w = let z : ◌≡◌ {A = ℕ} 0 1 = cc in omega arith
pass_loose look at k tables (blank ∷ bs) e = refl

-- the blocks before the tail are s: none is blank, and what is left is loose
abbrev pub ends : List Table → List Block → List Block → Bool
ends tables s bs = all (λ b. not (is_blank b)) s && loose (tables_after tables s) 0 (drop (length s) bs)

pub blank_ok : (look : ℕ → List ℕ) (at : ℕ) (tables : List Table) (z : ℕ) → ok_from look at 0 tables (replicate z blank) ≡ true
unfolding ok_from
blank_ok look at tables zero = refl
blank_ok look at tables (suc z) = every z
  where
    every : (n : ℕ) → all is_blank (replicate n blank) ≡ true
    every zero = refl
    every (suc n) = every n

shift : (a b c d : Bool) → (a && (b && (c && d))) ≡ ((a && (b && c)) && d)
shift true true c d = refl
shift true false c d = refl
shift false b c d = refl

-- THE LAW: the code's pass is the base's pass over the blocks before the tail and then blank ones, and the rules of the tail
pub pass_stem : (look : ℕ → List ℕ) (at k : ℕ) (tables : List Table) (z : ℕ) (bs : List Block) → 1 ≤ length (stem bs)
    → ok_tail look at k tables bs ≡ (ok_from look at k tables (stem bs ++ replicate z blank) && ends tables (stem bs) bs)
unfolding ok_tail ok_from tables_after
pass_stem look at k tables z [] h = absurd (omega arith)
pass_stem look at k tables z (label ∷ bs) h = go (stem bs)
  where
    go : (s : List Block) → false ≡ (ok_from look at k tables (on_stem label s ++ replicate z blank) && ends tables (on_stem label s) (label ∷ bs))
    go [] = refl
    go (c ∷ cs) = refl
pass_stem look at k tables z (blank ∷ bs) h = go (stem bs)
  where
    go : (s : List Block) → false ≡ (ok_from look at k tables (on_stem blank s ++ replicate z blank) && ends tables (on_stem blank s) (blank ∷ bs))
    go [] = sym (and-false (ok_from look at k tables (blank ∷ replicate z blank)))
    go (c ∷ cs) = sym (and-false (ok_from look at k tables (blank ∷ c ∷ (cs ++ replicate z blank))))
pass_stem look at k tables z (content r b ∷ bs) h = go (stem bs) h (λ g. pass_stem look at (suc k) tables z bs g)
  where
    go : (s : List Block) → 1 ≤ length (on_stem (content r b) s)
        → (1 ≤ length s → ok_tail look at (suc k) tables bs ≡ (ok_from look at (suc k) tables (s ++ replicate z blank) && ends tables s bs))
        → (eqb r (length tables) && ok_tail look at (suc k) tables bs)
        ≡ (ok_from look at k tables (on_stem (content r b) s ++ replicate z blank) && ends tables (on_stem (content r b) s) (content r b ∷ bs))
    go [] g ih = absurd (omega arith)
    go (c ∷ cs) g ih =
        ap (λ (x : Bool). eqb r (length tables) && x) (ih (omega arith))
        ∙ sym (and_assoc (eqb r (length tables)) (ok_from look at (suc k) tables (c ∷ (cs ++ replicate z blank))) (ends tables (c ∷ cs) bs))
pass_stem look at k tables z (commit r t u ls ∷ bs) h = go (stem bs) refl (λ g. pass_stem look (suc (at + k)) 0 (grown tables ls) z bs g)
  where
    go : (s : List Block) → stem bs ≡ s
        → (1 ≤ length s → ok_tail look (suc (at + k)) 0 (grown tables ls) bs ≡ (ok_from look (suc (at + k)) 0 (grown tables ls) (s ++ replicate z blank) && ends (grown tables ls) s bs))
        → (eqb r (length tables) && (laid look at k tables t ls && ok_tail look (suc (at + k)) 0 (grown tables ls) bs))
        ≡ (ok_from look at k tables (on_stem (commit r t u ls) s ++ replicate z blank) && ends tables (on_stem (commit r t u ls) s) (commit r t u ls ∷ bs))
    go [] q ih =
        ap (λ (x : Bool). eqb r (length tables) && (laid look at k tables t ls && x)) (pass_loose look (suc (at + k)) 0 (grown tables ls) bs q)
        ∙ (rw (blank_ok look (suc (at + k)) (grown tables ls) z) (shift (eqb r (length tables)) (laid look at k tables t ls) true (loose (grown tables ls) 0 bs)))
    go (c ∷ cs) q ih =
        ap (λ (x : Bool). eqb r (length tables) && (laid look at k tables t ls && x)) (ih (omega arith))
        ∙ shift (eqb r (length tables)) (laid look at k tables t ls) (ok_from look (suc (at + k)) 0 (grown tables ls) (c ∷ (cs ++ replicate z blank))) (ends (grown tables ls) (c ∷ cs) bs)
pass_stem look at k tables z (mark m ∷ bs) h = go (stem bs) refl (λ g. pass_stem look (suc at) 0 tables z bs g)
  where
    go : (s : List Block) → stem bs ≡ s
        → (1 ≤ length s → ok_tail look (suc at) 0 tables bs ≡ (ok_from look (suc at) 0 tables (s ++ replicate z blank) && ends tables s bs))
        → (eqb k 0 && (stands tables m && ok_tail look (suc at) 0 tables bs))
        ≡ (ok_from look at k tables (on_stem (mark m) s ++ replicate z blank) && ends tables (on_stem (mark m) s) (mark m ∷ bs))
    go [] q ih =
        ap (λ (x : Bool). eqb k 0 && (stands tables m && x)) (pass_loose look (suc at) 0 tables bs q)
        ∙ (rw (blank_ok look (suc at) tables z) (shift (eqb k 0) (stands tables m) true (loose tables 0 bs)))
    go (c ∷ cs) q ih =
        ap (λ (x : Bool). eqb k 0 && (stands tables m && x)) (ih (omega arith))
        ∙ shift (eqb k 0) (stands tables m) (ok_from look (suc at) 0 tables (c ∷ (cs ++ replicate z blank))) (ends tables (c ∷ cs) bs)

-- the same from a commit's first block on, where all may be loose
pub pass_bare : (look : ℕ → List ℕ) (at : ℕ) (tables : List Table) (z : ℕ) (bs : List Block)
    → ok_tail look at 0 tables bs ≡ (ok_from look at 0 tables (stem bs ++ replicate z blank) && ends tables (stem bs) bs)
unfolding tables_after
pass_bare look at tables z bs = go (stem bs) refl (λ h. pass_stem look at 0 tables z bs h)
  where
    go : (s : List Block) → stem bs ≡ s → (1 ≤ length (stem bs) → ok_tail look at 0 tables bs ≡ (ok_from look at 0 tables (stem bs ++ replicate z blank) && ends tables (stem bs) bs))
        → ok_tail look at 0 tables bs ≡ (ok_from look at 0 tables (s ++ replicate z blank) && ends tables s bs)
    go [] q p = rw (blank_ok look at tables z) (pass_loose look at 0 tables bs q)
    go (c ∷ cs) q p = let h : 1 ≤ length (stem bs) = omega (arith, ap length q) in p h ∙ ap (λ (s : List Block). ok_from look at 0 tables (s ++ replicate z blank) && ends tables s bs) q

-- what is read is read off the blocks before the tail
pub read_stem : (look : ℕ → List ℕ) (z : ℕ) (bs : List Block) → read_from look bs ≡ read_from look (stem bs ++ replicate z blank)
unfolding read_from
read_stem look zero [] = refl
read_stem look (suc z) [] = refl
read_stem look z (label ∷ bs) = go (stem bs)
  where
    go : (s : List Block) → [] ≡ read_from look (on_stem label s ++ replicate z blank)
    go [] = refl
    go (c ∷ cs) = refl
read_stem look z (content r b ∷ bs) = go (stem bs) (read_stem look z bs)
  where
    go : (s : List Block) → read_from look bs ≡ read_from look (s ++ replicate z blank) → read_from look bs ≡ read_from look (on_stem (content r b) s ++ replicate z blank)
    go [] e = e
    go (c ∷ cs) e = e
read_stem look z (commit r t u ls ∷ bs) = go (stem bs) (read_stem look z bs)
  where
    go : (s : List Block) → read_from look bs ≡ read_from look (s ++ replicate z blank)
        → stated look t u ls ∷ read_from look bs ≡ read_from look (on_stem (commit r t u ls) s ++ replicate z blank)
    go [] e = ap (λ (h : History). stated look t u ls ∷ h) e
    go (c ∷ cs) e = ap (λ (h : History). stated look t u ls ∷ h) e
read_stem look z (mark m ∷ bs) = go (stem bs) (read_stem look z bs)
  where
    go : (s : List Block) → read_from look bs ≡ read_from look (s ++ replicate z blank) → read_from look bs ≡ read_from look (on_stem (mark m) s ++ replicate z blank)
    go [] e = e
    go (c ∷ cs) e = e
read_stem look z (blank ∷ bs) = go (stem bs)
  where
    go : (s : List Block) → [] ≡ read_from look (on_stem blank s ++ replicate z blank)
    go [] = refl
    go (c ∷ cs) = refl

-- the block after the last commit block or mark is the first of the tail
abbrev reached_by : ℕ → ℕ → List Block → ℕ
reached_by at k [] = at
reached_by at k (c ∷ cs) = at + k + length (c ∷ cs)

reached-stem : (look : ℕ → List ℕ) (at k : ℕ) (tables : List Table) (bs : List Block) → T (ok_tail look at k tables bs) → reached at k bs ≡ reached_by at k (stem bs)
unfolding ok_tail reached
reached-stem look at k tables [] t = refl
reached-stem look at k tables (label ∷ bs) t = absurd t
reached-stem look at k tables (content r b ∷ bs) t =
    go (stem bs) (reached-stem look at (suc k) tables bs (and_true (eqb r (length tables)) (ok_tail look at (suc k) tables bs) t).1)
  where
    go : (s : List Block) → reached at (suc k) bs ≡ reached_by at (suc k) s → reached at (suc k) bs ≡ reached_by at k (on_stem (content r b) s)
    go [] e = e
    go (c ∷ cs) e = e ∙ omega arith
reached-stem look at k tables (commit r t u ls ∷ bs) ok =
    let p = (and_true (eqb r (length tables)) (laid look at k tables t ls && ok_tail look (suc (at + k)) 0 (grown tables ls) bs) ok).1 in
    go (stem bs) (reached-stem look (suc (at + k)) 0 (grown tables ls) bs (and_true (laid look at k tables t ls) (ok_tail look (suc (at + k)) 0 (grown tables ls) bs) p).1)
  where
    go : (s : List Block) → reached (suc (at + k)) 0 bs ≡ reached_by (suc (at + k)) 0 s → reached (suc (at + k)) 0 bs ≡ reached_by at k (on_stem (commit r t u ls) s)
    go [] e = e ∙ omega arith
    go (c ∷ cs) e = e ∙ omega arith
reached-stem look at k tables (mark m ∷ bs) ok =
    let p = and_true (eqb k 0) (stands tables m && ok_tail look (suc at) 0 tables bs) ok in
    go (stem bs) (eqb→eq k 0 p.0) (reached-stem look (suc at) 0 tables bs (and_true (stands tables m) (ok_tail look (suc at) 0 tables bs) p.1).1)
  where
    go : (s : List Block) → k ≡ 0 → reached (suc at) 0 bs ≡ reached_by (suc at) 0 s → reached (suc at) 0 bs ≡ reached_by at k (on_stem (mark m) s)
    go [] z e = e ∙ omega arith
    go (c ∷ cs) z e = e ∙ omega arith
reached-stem look at k tables (blank ∷ bs) t = absurd t

pub reached-tail : (look : ℕ → List ℕ) (at : ℕ) (tables : List Table) (bs : List Block) → T (ok_tail look at 0 tables bs) → reached at 0 bs ≡ at + length (stem bs)
reached-tail look at tables bs t = go (stem bs) (reached-stem look at 0 tables bs t)
  where
    go : (s : List Block) → reached at 0 bs ≡ reached_by at 0 s → reached at 0 bs ≡ at + length s
    go [] e = e ∙ omega arith
    go (c ∷ cs) e = e ∙ omega arith
