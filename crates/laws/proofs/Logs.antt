-- Logs: the commits and the marks of a longer log; that no revision is released twice; what a panel reads; that commits and placed marks fix the log.
-- Assumes nothing.
use Prim.Native.Nat.{◌+◌, ◌≤◌, suc, ℕ}
use mathlib.Core.Bool.{Bool, cond, false, true}
use mathlib.Core.List.{List, [], ◌++◌, ◌∷◌, append-nil}
use mathlib.Core.Logic.{◌⊎◌, inl, inr}
use mathlib.Core.Path.{◌∙◌, ◌≡◌, ap, ap₂, refl, subst, sym}
use native.Mathlib.Nat.{zero-add}
use native.Mathlib.Omega.{arith}
use borrow.Author.Tests.{eq-eqb, eqb-true, le-leb, leb-true, ltb-false, ltb-true, ne_eqb}
use lib.Dec.{T, eqb, leb, ltb}
use lib.ListN.{drop, get_or, length}
use Rattle.block.proofs.Says.{Says}
use Rattle.model.specs.History.{Commit, History, last}
use Rattle.model.specs.Log.{Greatest, Log, Mark, Marked, Once, Placed, a_commit, a_mark, among, commits, greatest, marks, marks_from, marks_ok, once, releases, revisions_of, released}
use Rattle.laws.proofs.Rows.{cond-any, cond_same}

-- ---- a longer log

pub commits-append : (g k : Log) → commits (g ++ k) ≡ commits g ++ commits k
commits-append [] k = refl
commits-append (a_commit c ∷ g) k = ap (λ (h : History). c ∷ h) (commits-append g k)
commits-append (a_mark m ∷ g) k = commits-append g k

pub marks-append : (n : ℕ) (g k : Log) → marks_from n (g ++ k) ≡ marks_from n g ++ marks_from (n + length (commits g)) k
marks-append n [] k = let e : n + 0 ≡ n = omega arith in rw e
marks-append n (a_commit c ∷ g) k =
    let e : suc n + length (commits g) ≡ n + suc (length (commits g)) = omega arith in
    marks-append (suc n) g k ∙ ap (λ (x : ℕ). marks_from (suc n) g ++ marks_from x k) e
marks-append n (a_mark m ∷ g) k = ap (λ (ps : List Placed). record { after = n; mark = m } ∷ ps) (marks-append n g k)

-- a commit leaves the marks
pub marks-commit : (g : Log) (c : Commit) → marks (g ++ (a_commit c ∷ [])) ≡ marks g
marks-commit g c = marks-append 0 g (a_commit c ∷ []) ∙ append-nil (marks g)

-- a mark stands after the last revision
pub marks-mark : (g : Log) (m : Mark) → marks (g ++ (a_mark m ∷ [])) ≡ marks g ++ (record { after = last (commits g); mark = m } ∷ [])
marks-mark g m = marks-append 0 g (a_mark m ∷ []) ∙ ap (λ (n : ℕ). marks g ++ (record { after = n; mark = m } ∷ [])) (zero-add (length (commits g)))

-- and leaves the commits
pub commits-mark : (g : Log) (m : Mark) → commits (g ++ (a_mark m ∷ [])) ≡ commits g
commits-mark g m = commits-append g (a_mark m ∷ []) ∙ append-nil (commits g)

-- ---- none twice

either_false : (b c : Bool) → cond b true c ≡ false → (b ≡ false) × (c ≡ false)
either_false true c e = let z : ◌≡◌ {A = ℕ} 0 1 = cc in absurd (omega arith)
either_false false c e = (refl, e)

among_snoc : (x y : ℕ) (xs : List ℕ) → among x xs ≡ false → (y ≡ x → ⊥) → among x (xs ++ (y ∷ [])) ≡ false
among_snoc x y [] e n = rw (ne_eqb y x n)
among_snoc x y (z ∷ xs) e n =
    let p = either_false (eqb z x) (among x xs) e in
    ap (λ (b : Bool). cond b true (among x (xs ++ (y ∷ [])))) p.0 ∙ among_snoc x y xs p.1 n

once_snoc : (xs : List ℕ) (y : ℕ) → Once xs → among y xs ≡ false → Once (xs ++ (y ∷ []))
once_snoc [] y o e = (refl, tt)
once_snoc (x ∷ xs) y o e =
    let p = either_false (eqb x y) (among y xs) e in (
      among_snoc x y xs o.0 (λ q. let t : true ≡ false = cc (eq-eqb x y (let w : x ≡ y = cc in w), p.0) in let z : ◌≡◌ {A = ℕ} 0 1 = cc in omega arith),
      once_snoc xs y o.1 p.1,
    )

once-left : (xs ys : List ℕ) (y : ℕ) → Once (xs ++ (y ∷ ys)) → among y xs ≡ false
once-left [] ys y o = refl
once-left (x ∷ xs) ys y o = ap₂ (λ (b c : Bool). cond b true c) (ne_eqb x y apart) (once-left xs ys y o.1)
  where
    apart : x ≡ y → ⊥
    apart e = let t : true ≡ false = sym (here xs) ∙ ap (λ (z : ℕ). among z (xs ++ (y ∷ ys))) (sym e) ∙ o.0 in let z : ◌≡◌ {A = ℕ} 0 1 = cc in omega arith
      where
        here : (zs : List ℕ) → among y (zs ++ (y ∷ ys)) ≡ true
        here [] = rw (eq-eqb y y refl)
        here (z ∷ zs) = rw (here zs) (cond_same (eqb z y) true)

releases-append : (ps qs : List Placed) → releases (ps ++ qs) ≡ releases ps ++ releases qs
releases-append [] qs = refl
releases-append (p ∷ ps) qs = each p.mark (releases (ps ++ qs)) (releases ps) (releases-append ps qs)
  where
    each : (m : Mark) (rs ks : List ℕ) → rs ≡ ks ++ releases qs → revisions_of m rs ≡ revisions_of m ks ++ releases qs
    each (released Q s t) rs ks e = ap (λ (xs : List ℕ). Q ∷ xs) e

-- of a log that goes on with a release, that revision was not released before
pub marked_new : (g k : Log) (R seat stamp : ℕ) → Marked (marks (g ++ (a_mark (released R seat stamp) ∷ k))) → among R (releases (marks g)) ≡ false
marked_new g k R seat stamp o =
    let n : ℕ = length (commits g) in
    let more : List Placed = marks_from n k in
    let e : releases (marks (g ++ (a_mark (released R seat stamp) ∷ k))) ≡ releases (marks g) ++ (R ∷ releases more) =
    ap releases (marks-append 0 g (a_mark (released R seat stamp) ∷ k) ∙ ap (λ (x : ℕ). marks g ++ marks_from x (a_mark (released R seat stamp) ∷ k)) (zero-add n))
    ∙ releases-append (marks g) (marks_from n (a_mark (released R seat stamp) ∷ k)) in
    once-left (releases (marks g)) (releases more) R (subst Once e o)

-- one release more, of a revision that was not released
pub marked_more : (ps : List Placed) (n R seat stamp : ℕ) → Marked ps → among R (releases ps) ≡ false → Marked (ps ++ (record { after = n; mark = released R seat stamp } ∷ []))
marked_more ps n R seat stamp o e = rw (releases-append ps (record { after = n; mark = released R seat stamp } ∷ [])) (once_snoc (releases ps) R o e)

says-once : (xs : List ℕ) → Says (once xs) (Once xs)
says-once [] = record { true_so = λ t. tt; so_true = λ t. tt }
says-once (x ∷ xs) = record { true_so = to (says-once xs).true_so (among x xs) refl; so_true = λ o. rw o.0 ((says-once xs).so_true o.1) }
  where
    to : (T (once xs) → Once xs) → (b : Bool) → among x xs ≡ b → T (cond b false (once xs)) → Once (x ∷ xs)
    to f true e t = absurd t
    to f false e t = (e, f t)

pub says-marked : (ps : List Placed) → Says (marks_ok ps) (Marked ps)
says-marked ps = says-once (releases ps)

-- ---- what a panel reads

pub greatest-low : (R : ℕ) (xs : List ℕ) → greatest R xs ≤ R
greatest-low R [] = omega arith
greatest-low R (x ∷ xs) =
    let ih : greatest R xs ≤ R = greatest-low R xs in
    cond-any (λ (y : ℕ). y ≤ R) (leb x R) (λ t. let l : x ≤ R = leb-true x R t in cond-any (λ (y : ℕ). y ≤ R) (ltb x (greatest R xs)) (λ q. ih) (λ q. l)) (λ t. ih)

among-cons : (x y : ℕ) (xs : List ℕ) → (y ≡ x) ⊎ (among x xs ≡ true) → among x (y ∷ xs) ≡ true
among-cons x y xs (inl e) = rw (eq-eqb y x e)
among-cons x y xs (inr e) = rw e (cond_same (eqb y x) true)

cons-among : (x y : ℕ) (xs : List ℕ) → among x (y ∷ xs) ≡ true → (y ≡ x) ⊎ (among x xs ≡ true)
cons-among x y xs e = go (eqb y x) refl e
  where
    go : (b : Bool) → eqb y x ≡ b → cond b true (among x xs) ≡ true → (y ≡ x) ⊎ (among x xs ≡ true)
    go true q e = inl (eqb-true y x q)
    go false q e = inr e

pub greatest_is : (R : ℕ) (xs : List ℕ) → Greatest R xs (greatest R xs)
greatest_is R xs = record { up_to = greatest-low R xs; one_of = one xs; most = most xs }
  where
    one : (xs : List ℕ) → (greatest R xs ≡ 0) ⊎ (among (greatest R xs) xs ≡ true)
    one [] = inl refl
    one (x ∷ xs) =
        cond-any (λ (z : ℕ). (z ≡ 0) ⊎ (among z (x ∷ xs) ≡ true)) (leb x R)
        (λ t. cond-any (λ (z : ℕ). (z ≡ 0) ⊎ (among z (x ∷ xs) ≡ true)) (ltb x (greatest R xs)) (λ q. later (one xs)) (λ q. inr (among-cons x x xs (inl refl))))
        (λ t. later (one xs))
      where
        later : {z : ℕ} → (z ≡ 0) ⊎ (among z xs ≡ true) → (z ≡ 0) ⊎ (among z (x ∷ xs) ≡ true)
        later {z} (inl e) = inl e
        later {z} (inr e) = inr (among-cons z x xs (inr e))

    most : (xs : List ℕ) (y : ℕ) → among y xs ≡ true → y ≤ R → y ≤ greatest R xs
    most [] y e l = let z : ◌≡◌ {A = ℕ} 0 1 = cc in absurd (omega arith)
    most (x ∷ xs) y e l =
        elim (cons-among y x xs e) [
          | inl q ↦ rw (le-leb x R (omega arith)) (cond-any (λ (z : ℕ). y ≤ z) (ltb x (greatest R xs)) (λ t. omega (arith, ltb-true x (greatest R xs) t)) (λ t. omega arith))
          | inr q ↦
              let ih : y ≤ greatest R xs = most xs y q l in
              cond-any (λ (z : ℕ). y ≤ z) (leb x R)
              (λ t. cond-any (λ (z : ℕ). y ≤ z) (ltb x (greatest R xs)) (λ t. ih) (λ t. omega (arith, ih, ltb-false x (greatest R xs) t))) (λ t. ih)
        ]

-- no release up to R: 0
pub greatest-none : (R : ℕ) (xs : List ℕ) → ((x : ℕ) → among x xs ≡ true → x ≤ R → ⊥) → greatest R xs ≡ 0
greatest-none R xs n =
    let G = greatest_is R xs in
    elim G.one_of [ inl e ↦ e | inr e ↦ absurd (n (greatest R xs) e G.up_to) ]

-- ---- the commits, and the marks with their places, fix the log

-- a mark's place is no earlier than where the list begins
later_marks : (n : ℕ) (g : Log) (p : Placed) (ps : List Placed) → marks_from n g ≡ p ∷ ps → n ≤ p.after
later_marks n [] p ps e = let z : ◌≡◌ {A = ℕ} 0 1 = cc in absurd (omega arith)
later_marks n (a_commit c ∷ g) p ps e = omega (arith, later_marks (suc n) g p ps e)
later_marks n (a_mark m ∷ g) p ps e = let q : n ≡ p.after = ap (λ (l : List Placed). (get_or l 0 p).after) e in omega (arith, q)

fixed_from : (n : ℕ) (g k : Log) → commits g ≡ commits k → marks_from n g ≡ marks_from n k → g ≡ k
fixed_from n [] [] e f = refl
fixed_from n [] (a_commit c ∷ k) e f = let z : 0 ≡ suc (length (commits k)) = ap length e in absurd (omega arith)
fixed_from n [] (a_mark m ∷ k) e f = let z : 0 ≡ suc (length (marks_from n k)) = ap length f in absurd (omega arith)
fixed_from n (a_commit c ∷ g) [] e f = let z : suc (length (commits g)) ≡ 0 = ap length e in absurd (omega arith)
fixed_from n (a_mark m ∷ g) [] e f = let z : suc (length (marks_from n g)) ≡ 0 = ap length f in absurd (omega arith)
fixed_from n (a_commit c ∷ g) (a_commit b ∷ k) e f =
    let q : c ≡ b = ap (λ (h : History). get_or h 0 c) e in
    ap₂ (λ (x : Commit) (l : Log). a_commit x ∷ l) q (fixed_from (suc n) g k (ap (λ (h : History). drop 1 h) e) f)
fixed_from n (a_mark m ∷ g) (a_mark w ∷ k) e f =
    let q : m ≡ w = ap (λ (l : List Placed). (get_or l 0 (record { after = n; mark = m })).mark) f in
    ap₂ (λ (x : Mark) (l : Log). a_mark x ∷ l) q (fixed_from n g k e (ap (λ (l : List Placed). drop 1 l) f))
fixed_from n (a_commit c ∷ g) (a_mark m ∷ k) e f = absurd (omega (arith, later_marks (suc n) g (record { after = n; mark = m }) (marks_from n k) f))
fixed_from n (a_mark m ∷ g) (a_commit c ∷ k) e f = absurd (omega (arith, later_marks (suc n) k (record { after = n; mark = m }) (marks_from n g) (sym f)))

pub log_fixed : (g k : Log) → commits g ≡ commits k → marks g ≡ marks k → g ≡ k
log_fixed g k e f = fixed_from 0 g k e f
