-- Laws on trees: of a grown history, of the commit that last named a sheet, of what a sound history holds.
-- Assumes nothing.
use Prim.Native.Nat.{◌+◌, ◌-◌, ◌<◌, ◌≤◌, suc, zero, ℕ}
use mathlib.Core.Bool.{Bool, cond, false, true}
use mathlib.Core.List.{[], ◌++◌, ◌∷◌}
use mathlib.Core.Option.{Option, none, some}
use mathlib.Core.Path.{◌∙◌, ◌≡◌, ap, refl, subst, sym}
use native.Mathlib.Omega.{arith}
use borrow.Author.Tests.{leb-false, leb-true}
use lib.Dec.{leb}
use lib.ListN.{get_or-append, drop, get_or, length, length-append, length-take, take}
use lib.Seq.{get_or-append_seam, get_or-take, length-take-le, take-add, take-append-le, take-append_seam, take-length, take-suc, take-take}
use Rattle.block.proofs.Says.{says_same, true_says}
use Rattle.block.specs.Lists.{All}
use Rattle.model.specs.History.{Bytes, Change, Commit, History, Tree, add, applied, change, change_of, commit_at, copy, delete, is_bytes, last, made, namer, namer_from, names, newest, no_commit, nothing, present, sheet, tree, tree_from, tree₀}
use Rattle.model.specs.Invariant.{Base, Made, Right, Short, Sound}
use Rattle.laws.proofs.All.{all_drop, all_take}
use Rattle.laws.proofs.Rows.{cond-any, replicate-any}
use Rattle.laws.proofs.Tables.{applied_at, length-applied}

-- a sheet that passes the test has these bytes
pub has_bytes : (x : Bytes) (o : Option Bytes) → is_bytes x o ≡ true → o ≡ some x
has_bytes x none z = let w : ◌≡◌ {A = ℕ} 0 1 = cc in absurd (omega arith)
has_bytes x (some y) z = ap some (sym (true_says (says_same x y) z))

-- ---- a grown history

pub sheet-grown : (h g : History) (R i : ℕ) → R ≤ last h → sheet (h ++ g) R i ≡ sheet h R i
unfolding tree
sheet-grown h g R i le = ap (λ (k : History). get_or (tree_from tree₀ k) i none) (take-append-le R h g le)

pub namer-grown : (h g : History) (R i : ℕ) → R ≤ last h → namer (h ++ g) R i ≡ namer h R i
namer-grown h g R i le = ap (λ (k : History). namer_from 0 0 k i) (take-append-le R h g le)

-- each commit has 32 rows
abbrev pub Wide : Commit → Type 0
Wide c = length c.changes ≡ 32

length-tree_from : (t : Tree) (h : History) → length t ≡ 32 → All Wide h → length (tree_from t h) ≡ 32
length-tree_from t [] e w = e
length-tree_from t (c ∷ h) e w =
    length-tree_from (applied c.changes t) h (length-applied c.changes t (w.0 ∙ sym e) ∙ e) w.1

pub tree_from-append : (t : Tree) (h g : History) → tree_from t (h ++ g) ≡ tree_from (tree_from t h) g
tree_from-append t [] g = refl
tree_from-append t (c ∷ h) g = tree_from-append (applied c.changes t) h g

wide_of : (h : History) → Sound h → All Wide h
wide_of h s = go h (λ r lt. (s r lt).wide)
  where
    go : (h : History) → ((r : ℕ) → r < length h → Wide (get_or h r no_commit)) → All Wide h
    go [] f = tt
    go (c ∷ h) f = (f 0 (omega arith), go h (λ r lt. f (suc r) (omega arith)))

-- "Tree R is tree R−1 with commit R's changes made", sheet by sheet
pub sheet-made : (h : History) (c : Commit) (i : ℕ) → Sound h → Wide c → newest (h ++ (c ∷ [])) i ≡ made (change_of c i) (newest h i)
unfolding tree
sheet-made h c i s w =
    let e : length (tree_from tree₀ h) ≡ 32 = length-tree_from tree₀ h refl (wide_of h s) in
    ap (λ (k : History). get_or (tree_from tree₀ k) i none) (take-length (h ++ (c ∷ [])))
    ∙ ap (λ (t : Tree). get_or t i none) (tree_from-append tree₀ h (c ∷ []))
    ∙ applied_at c.changes (tree_from tree₀ h) i (w ∙ sym e)
    ∙ ap (λ (k : History). made (change_of c i) (get_or (tree_from tree₀ k) i none)) (sym (take-length h))

pub sheet-zero : (h : History) (i : ℕ) → sheet h 0 i ≡ none
unfolding tree
sheet-zero h i = replicate-any (λ (o : Option Bytes). o ≡ none) 32 i none none refl refl

-- the newest of the first R is tree R
newest-up_to : (h : History) (R i : ℕ) → R ≤ last h → newest (take R h) i ≡ sheet h R i
unfolding tree
newest-up_to h R i le = ap (λ (k : History). get_or (tree_from tree₀ k) i none) (take-length (take R h))

-- ---- the first R of a sound history, and one commit more

pub sound-up_to : (h : History) (R : ℕ) → Sound h → Sound (take R h)
sound-up_to h R s r lt =
    let lr : r < R = omega (arith, length-take R h) in
    let lh : r < length h = omega (arith, length-take R h) in
    let e : take r (take R h) ≡ take r h = take-take r R h (omega arith) in
    let d : get_or (take R h) r no_commit ≡ get_or h r no_commit = get_or-take R h r no_commit lr in
    rw (e, d) (s r lh)

pub sound-grown : (h : History) (c : Commit) → Sound h → Made h c → Sound (h ++ (c ∷ []))
sound-grown h c s m r lt = go (leb (suc r) (length h)) refl
  where
    go : (t : Bool) → leb (suc r) (length h) ≡ t → Made (take r (h ++ (c ∷ []))) (get_or (h ++ (c ∷ [])) r no_commit)
    go true e =
        let le : r < length h = leb-true (suc r) (length h) e in
        let p : take r (h ++ (c ∷ [])) ≡ take r h = take-append-le r h (c ∷ []) (omega arith) in
        let q : get_or (h ++ (c ∷ [])) r no_commit ≡ get_or h r no_commit = get_or-append h (c ∷ []) no_commit r le in
        rw (p, q) (s r le)
    go false e =
        let z : r ≡ length h = omega (arith, leb-false (suc r) (length h) e, length-append h (c ∷ [])) in
        let p : take r (h ++ (c ∷ [])) ≡ h = ap (λ (n : ℕ). take n (h ++ (c ∷ []))) z ∙ take-append_seam h (c ∷ []) in
        let q : get_or (h ++ (c ∷ [])) r no_commit ≡ c = ap (λ (n : ℕ). get_or (h ++ (c ∷ [])) n no_commit) z ∙ get_or-append_seam h c [] no_commit in
        rw (p, q) m

-- ---- the commit that last named a sheet

namer_ge : (n f : ℕ) (h : History) (i : ℕ) → f ≤ n → f ≤ namer_from n f h i
namer_ge n f [] i le = omega arith
namer_ge n f (c ∷ h) i le =
    cond-any (λ (g : ℕ). f ≤ namer_from (suc n) g h i) (names (change_of c i))
    (λ e. omega (arith, namer_ge (suc n) (suc n) h i (omega arith)))
    (λ e. namer_ge (suc n) f h i (omega arith))

namer-le : (n f : ℕ) (h : History) (i : ℕ) → f ≤ n → namer_from n f h i ≤ n + last h
namer-le n f [] i le = omega arith
namer-le n f (c ∷ h) i le =
    cond-any (λ (g : ℕ). namer_from (suc n) g h i ≤ n + suc (last h)) (names (change_of c i))
    (λ e. omega (arith, namer-le (suc n) (suc n) h i (omega arith)))
    (λ e. omega (arith, namer-le (suc n) f h i (omega arith)))

pub namer-append : (n f : ℕ) (h g : History) (i : ℕ) → namer_from n f (h ++ g) i ≡ namer_from (n + last h) (namer_from n f h i) g i
namer-append n f [] g i = let e : n + 0 ≡ n = omega arith in rw e
namer-append n f (c ∷ h) g i =
    let e : n + suc (last h) ≡ suc n + last h = omega arith in
    rw e (namer-append (suc n) (cond (names (change_of c i)) (suc n) f) h g i)

unmade : (a : Change) (o : Option Bytes) → names a ≡ false → made a o ≡ o
unmade nothing o e = refl
unmade (add x) o e = let z : ◌≡◌ {A = ℕ} 0 1 = cc in absurd (omega arith)
unmade (change x) o e = let z : ◌≡◌ {A = ℕ} 0 1 = cc in absurd (omega arith)
unmade delete o e = let z : ◌≡◌ {A = ℕ} 0 1 = cc in absurd (omega arith)
unmade (copy s r x) o e = let z : ◌≡◌ {A = ℕ} 0 1 = cc in absurd (omega arith)

-- commits of which none names the sheet leave it
quiet : (n f : ℕ) (t : Tree) (h : History) (i : ℕ) → length t ≡ 32 → All Wide h → namer_from n f h i ≤ n → get_or (tree_from t h) i none ≡ get_or t i none
quiet n f t [] i e w le = refl
quiet n f t (c ∷ h) i e w le = go (names (change_of c i)) refl le (λ l. quiet (suc n) f (applied c.changes t) h i (length-applied c.changes t (w.0 ∙ sym e) ∙ e) w.1 l)
  where
    go : (b : Bool) → names (change_of c i) ≡ b → namer_from (suc n) (cond b (suc n) f) h i ≤ n
        → (namer_from (suc n) f h i ≤ suc n → get_or (tree_from (applied c.changes t) h) i none ≡ get_or (applied c.changes t) i none)
        → get_or (tree_from (applied c.changes t) h) i none ≡ get_or t i none
    go true q l rec = absurd (omega (arith, namer_ge (suc n) (suc n) h i (omega arith)))
    go false q l rec = rec (omega arith) ∙ applied_at c.changes t i (w.0 ∙ sym e) ∙ unmade (change_of c i) (get_or t i none) q

-- up to R no commit after b names the sheet: tree R has what tree b has
pub unnamed : (h : History) (b R i : ℕ) → Sound h → b ≤ R → R ≤ last h → namer h R i ≤ b → sheet h R i ≡ sheet h b i
unfolding tree
unnamed h b R i s p q n =
    let d : take R h ≡ take b h ++ take (R - b) (drop b h) = (let e : b + (R - b) ≡ R = omega arith in ap (λ (k : ℕ). take k h) (sym e) ∙ take-add b (R - b) h) in
    let lb : last (take b h) ≡ b = length-take-le b h (omega arith) in
    let m : namer_from 0 0 (take R h) i ≡ namer_from b (namer h b i) (take (R - b) (drop b h)) i =
    ap (λ (k : History). namer_from 0 0 k i) d ∙ namer-append 0 0 (take b h) (take (R - b) (drop b h)) i
    ∙ ap (λ (k : ℕ). namer_from k (namer h b i) (take (R - b) (drop b h)) i) (let z : 0 + last (take b h) ≡ b = omega arith in z) in
    ap (λ (k : History). get_or (tree_from tree₀ k) i none) d
    ∙ ap (λ (t : Tree). get_or t i none) (tree_from-append tree₀ (take b h) (take (R - b) (drop b h)))
    ∙ quiet b (namer h b i) (tree_from tree₀ (take b h)) (take (R - b) (drop b h)) i
    (length-tree_from tree₀ (take b h) refl (all_take Wide b h (wide_of h s)))
    (all_take Wide (R - b) (drop b h) (all_drop Wide b h (wide_of h s))) (omega (arith, m, n))

pub namer-up_to : (h : History) (R i : ℕ) → R ≤ last h → namer h R i ≤ R
namer-up_to h R i le = omega (arith, namer-le 0 0 (take R h) i (omega arith), length-take-le R h le)

-- one commit more: it, if it names the sheet
pub namer-step : (h : History) (R i : ℕ) → R < last h → namer h (suc R) i ≡ cond (names (change_of (commit_at h (suc R)) i)) (suc R) (namer h R i)
namer-step h R i lt =
    let e : suc R - 1 ≡ R = omega arith in
    let n : 0 + last (take R h) ≡ R = omega (arith, length-take-le R h (omega arith)) in
    ap (λ (k : History). namer_from 0 0 k i) (take-suc h R no_commit lt)
    ∙ namer-append 0 0 (take R h) (get_or h R no_commit ∷ []) i
    ∙ rw (n, e)

-- a sheet that tree R has was named
pub present-named : (h : History) (R i : ℕ) → Sound h → R ≤ last h → present (sheet h R i) ≡ true → 1 ≤ namer h R i
present-named h R i s le p = let n : namer h R i ≤ 0 → ⊥ = lacks in omega arith
  where
    lacks : namer h R i ≤ 0 → ⊥
    lacks l =
        let q : sheet h R i ≡ none = unnamed h 0 R i s (omega arith) le l ∙ sheet-zero h i in
        let z : ◌≡◌ {A = ℕ} 0 1 = cc (p, ap present q) in
        omega arith

-- "the last commit naming the sheet up to R is the one up to b": the two trees have the same bytes of it
pub same_namer_lem : (h : History) (R b i : ℕ) → Sound h → R ≤ last h → b ≤ last h → namer h R i ≡ namer h b i → sheet h R i ≡ sheet h b i
same_namer_lem h R b i s p q e = go (leb b R) refl
  where
    go : (t : Bool) → leb b R ≡ t → sheet h R i ≡ sheet h b i
    go true z = unnamed h b R i s (leb-true b R z) p (omega (arith, namer-up_to h b i q))
    go false z = sym (unnamed h R b i s (omega (arith, leb-false b R z)) q (omega (arith, namer-up_to h R i p)))

-- ---- bases stay, and trees hold short sheets

pub base_grown : (h : History) (c : Commit) {b i : ℕ} → Base h b i → Base (h ++ (c ∷ [])) b i
base_grown h c {b} {i} B = record {
  low = B.low;
  high = omega (arith, B.high, length-append h (c ∷ []));
  there = ap present (sheet-grown h (c ∷ []) b i B.high) ∙ B.there;
}

abbrev pub Small : Option Bytes → Type 0
Small none = Unit {0}
Small (some x) = Short x

small-made : (h : History) (i : ℕ) (a : Change) (o : Option Bytes) → Right h i a → Small o → Small (made a o)
small-made h i nothing o r p = p
small-made h i (add x) o r p = r.1
small-made h i (change x) o r p = r.1
small-made h i delete o r p = tt
small-made h i (copy s r' x) o r p = r.3

take-one : (h : History) (R : ℕ) → R < last h → take (suc R) h ≡ take R h ++ (get_or h R no_commit ∷ [])
take-one h R l = take-suc h R no_commit l

-- "Tree R is tree R−1 with commit R's changes made": one step of a search back
pub sheet-step : (h : History) (R i : ℕ) → Sound h → R < last h → sheet h (suc R) i ≡ made (change_of (get_or h R no_commit) i) (sheet h R i)
sheet-step h R i s le =
    sym (newest-up_to h (suc R) i le) ∙ ap (λ (k : History). newest k i) (take-one h R le)
    ∙ sheet-made (take R h) (get_or h R no_commit) i (sound-up_to h R s) (s R le).wide
    ∙ ap (made (change_of (get_or h R no_commit) i)) (newest-up_to h R i (omega arith))

pub small-tree : (h : History) (R i : ℕ) → Sound h → R ≤ last h → Small (sheet h R i)
small-tree h zero i s le = subst Small (sym (sheet-zero h i)) tt
small-tree h (suc R) i s le =
    let m : Made (take R h) (get_or h R no_commit) = s R (omega arith) in
    subst Small (sym (sheet-step h R i s le))
    (small-made (take R h) i (change_of (get_or h R no_commit) i) (sheet h R i) (m.right i) (small-tree h R i s (omega arith)))
