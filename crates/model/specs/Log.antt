-- What stands in a store beside its commits: releases, each at its place among them. Trees, the last revision and what an engineer finds follow from the commits alone, so
-- History stays as it is. A mark is what stands in one block of its own and is no revision.
-- Assumes nothing.
use Rattle.std.specs.Prelude.{◌≤◌, suc, ℕ, Bool, cond, false, true, List, [], ◌∷◌, ◌⊎◌, ◌≡◌, eqb, leb, ltb}
use Rattle.model.specs.History.{Commit, History}

-- the release of a revision, by a seat, with a stamp; it "isn't a revision itself"
pub data Mark : Type 0 where
  released : ℕ → ℕ → ℕ → Mark

-- "For layout and W1 a history includes its releases and their places.": the commits and the marks in their common order
pub data Item : Type 0 where
  a_commit : Commit → Item
  a_mark : Mark → Item

abbrev pub Log : Type 0
Log = List Item

-- the commits alone
abbrev pub commits : Log → History
commits [] = []
commits (a_commit c ∷ g) = c ∷ commits g
commits (a_mark m ∷ g) = commits g

-- a mark and its place, the last revision before it. The commits, and the marks with their places, fix the log: laws/proofs/Logs
pub record Placed : Type 0 where
  pub after : ℕ
  pub mark : Mark

-- the marks with their places, where n commits stand before
abbrev pub marks_from : ℕ → Log → List Placed
marks_from n [] = []
marks_from n (a_commit c ∷ g) = marks_from (suc n) g
marks_from n (a_mark m ∷ g) = record { after = n; mark = m } ∷ marks_from n g

abbrev pub marks : Log → List Placed
marks = marks_from 0

-- ---- releases

abbrev pub revisions_of : Mark → List ℕ → List ℕ
revisions_of (released R seat stamp) rs = R ∷ rs

-- the released revisions, in the order of their releases
abbrev pub releases : List Placed → List ℕ
releases [] = []
releases (p ∷ ps) = revisions_of p.mark (releases ps)

-- x is one of them
abbrev pub among : ℕ → List ℕ → Bool
among x [] = false
among x (y ∷ ys) = cond (eqb y x) true (among x ys)

-- "none twice"
abbrev pub Once : List ℕ → Type 0
Once [] = Unit {0}
Once (x ∷ xs) = (among x xs ≡ false) × Once xs

abbrev pub once : List ℕ → Bool
once [] = true
once (x ∷ xs) = cond (among x xs) false (once xs)

abbrev pub greater : ℕ → ℕ → ℕ
greater x y = cond (ltb x y) y x

-- "the greatest released revision up to R", 0 if there is none
abbrev pub greatest : ℕ → List ℕ → ℕ
greatest R [] = 0
greatest R (x ∷ xs) = cond (leb x R) (greater x (greatest R xs)) (greatest R xs)

-- what that is; proved of it in laws/proofs/Logs
pub record Greatest (R : ℕ) (xs : List ℕ) (x : ℕ) : Type 0 where
  pub up_to : x ≤ R
  pub one_of : (x ≡ 0) ⊎ (among x xs ≡ true)
  pub most : (y : ℕ) → among y xs ≡ true → y ≤ R → y ≤ x

abbrev pub panel_revision : List Placed → ℕ → ℕ
panel_revision ps R = greatest R (releases ps)

-- ---- what is asked of all marks of a log together; what is asked of each by itself is in Layout

abbrev pub Marked : List Placed → Type 0
Marked ps = Once (releases ps)

abbrev pub marks_ok : List Placed → Bool
marks_ok ps = once (releases ps)
