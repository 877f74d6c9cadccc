-- Every commit that the rules allow, written with its changes in the order of the sheets and its content blocks in the order of the changes, keeps the rules.
-- Assumes nothing.
use Prim.Native.Nat.{◌+◌, ◌<◌, ◌≤◌, suc, zero, ℕ}
use mathlib.Core.Bool.{Bool, false, true}
use mathlib.Core.List.{List, [], ◌∷◌, map}
use mathlib.Core.Logic.{inl, inr}
use mathlib.Core.Path.{◌∙◌, ◌≡◌, ap, refl, subst, sym}
use native.Mathlib.Nat.{add-zero, zero-add}
use native.Mathlib.Omega.{arith}
use borrow.Author.Tests.{eq-eqb, ne_eqb}
use lib.Dec.{T, lit≤}
use lib.ListN.{get_or, length, length-map}
use Rattle.block.proofs.Says.{eq_or, says_same}
use Rattle.block.specs.Lists.{All, same}
use Rattle.model.specs.Blocks.{Line}
use Rattle.model.specs.History.{Change, Commit, add, change, copy, delete, nothing}
use Rattle.model.specs.Layout.{Absent, Laid, NoneTwice, Own, Present, Rule, Table, means, named, pointed, user}
use Rattle.model.specs.Writing.{Plan, bytes_in, contents_for, fresh, line_of, lines_for, plan_copy, plan_of, shared, skip}
use Rattle.laws.proofs.All.{All-map}
use Rattle.laws.proofs.Puts.{unnamed}

-- "k is the number of adds, changes, and copies whose bytes differ"
abbrev pub freshes : List Plan → ℕ
freshes [] = 0
freshes (skip ∷ ps) = freshes ps
freshes (fresh a s v ∷ ps) = suc (freshes ps)
freshes (shared a q s v ∷ ps) = freshes ps

at_suc : {A : Type 0} (f : ℕ → A) (i j : ℕ) {a : A} → f (i + suc j) ≡ a → f (suc i + j) ≡ a
at_suc f i j q = let s : suc i + j ≡ i + suc j = omega arith in rw s q

at_zero : {A : Type 0} (f : ℕ → A) (i : ℕ) {a : A} → f (i + 0) ≡ a → f i ≡ a
at_zero f i q = rw add-zero at q

unnamed_for : (ps : List Plan) (i p j : ℕ) → j < i → named j (lines_for i p ps) ≡ 0
unnamed_for [] i p j h = refl
unnamed_for (skip ∷ ps) i p j h = unnamed_for ps (suc i) p j (omega arith)
unnamed_for (fresh a s v ∷ ps) i p j h = rw (ne_eqb i j (λ e. omega arith)) (unnamed_for ps (suc i) (suc p) j (omega arith))
unnamed_for (shared a q s v ∷ ps) i p j h = rw (ne_eqb i j (λ e. omega arith)) (unnamed_for ps (suc i) p j (omega arith))

none_twice_for : (ps : List Plan) (i p : ℕ) → NoneTwice (lines_for i p ps)
none_twice_for [] i p = tt
none_twice_for (skip ∷ ps) i p = none_twice_for ps (suc i) p
none_twice_for (fresh a s v ∷ ps) i p = (unnamed_for ps (suc i) (suc p) i (omega arith), none_twice_for ps (suc i) (suc p))
none_twice_for (shared a q s v ∷ ps) i p = (unnamed_for ps (suc i) p i (omega arith), none_twice_for ps (suc i) p)

-- blocks that are shared stand before block `at`
abbrev pub Low : ℕ → Plan → Type 0
Low at skip = Unit {0}
Low at (fresh a s v) = Unit {0}
Low at (shared a q s v) = q < at

unpointed_for : (at : ℕ) (ps : List Plan) (i p x : ℕ) → All (Low at) ps → at ≤ x → x < p → pointed x (lines_for i p ps) ≡ 0
unpointed_for at [] i p x l h g = refl
unpointed_for at (skip ∷ ps) i p x l h g = unpointed_for at ps (suc i) p x l.1 h g
unpointed_for at (fresh a s v ∷ ps) i p x l h g = rw (ne_eqb p x (λ e. omega arith)) (unpointed_for at ps (suc i) (suc p) x l.1 h (omega arith))
unpointed_for at (shared a q s v ∷ ps) i p x l h g = rw (ne_eqb q x (λ e. omega (arith, l.0))) (unpointed_for at ps (suc i) p x l.1 h g)

pointed_for : (at : ℕ) (ps : List Plan) (i p x : ℕ) → All (Low at) ps → at ≤ p → p ≤ x → x < p + freshes ps → pointed x (lines_for i p ps) ≡ 1
pointed_for at [] i p x l h g k = absurd (omega arith)
pointed_for at (skip ∷ ps) i p x l h g k = pointed_for at ps (suc i) p x l.1 h g k
pointed_for at (fresh a s v ∷ ps) i p x l h g k =
    elim (eq_or p x) [
      | inl e ↦ rw (eq-eqb p x e) (ap suc (unpointed_for at ps (suc i) (suc p) x l.1 (omega arith) (omega arith)))
      | inr ne ↦ rw (ne_eqb p x ne) (pointed_for at ps (suc i) (suc p) x l.1 (omega arith) (omega arith) (omega arith))
    ]
pointed_for at (shared a q s v ∷ ps) i p x l h g k = rw (ne_eqb q x (λ e. omega (arith, l.0))) (pointed_for at ps (suc i) p x l.1 h g k)

few : (ps : List Plan) (i p : ℕ) → length (lines_for i p ps) ≤ length ps
few [] i p = lit≤ tt
few (skip ∷ ps) i p = omega (arith, few ps (suc i) p)
few (fresh a s v ∷ ps) i p = omega (arith, few ps (suc i) (suc p))
few (shared a q s v ∷ ps) i p = omega (arith, few ps (suc i) p)

module _ (look : ℕ → List ℕ) (at k : ℕ) (tables : List Table) where
  -- the rules, as they speak of a change and a tree
  abbrev pub Lawful : ℕ → Change → Type 0
  Lawful i nothing = Unit {0}
  Lawful i (add b) = Absent look at k tables i
  Lawful i (change b) = Present look at k tables i
  Lawful i delete = Present look at k tables i
  Lawful i (copy s v b) =
      Absent look at k tables i × ((1 ≤ v) × (v < length tables)) × (user look at k tables v s ≡ 0 → ⊥)

  -- a line that keeps the rules and means the change
  abbrev Fine : Change → Line → Type 0
  Fine c l = Rule look at k tables l × (c ≡ means look l)

  abbrev Good : ℕ → Change → Plan → Type 0
  Good i c skip = c ≡ nothing
  Good i c (fresh a s v) = (p : ℕ) → Own look at k tables p → look p ≡ bytes_in c → Fine c (line_of i a p s v)
  Good i c (shared a q s v) = Fine c (line_of i a q s v) × (q < at)

  abbrev Goods : ℕ → List Change → List Plan → Type 0
  Goods i [] [] = Unit {0}
  Goods i [] (q ∷ ps) = ⊥
  Goods i (c ∷ cs) [] = ⊥
  Goods i (c ∷ cs) (q ∷ ps) = Good i c q × Goods (suc i) cs ps

  abbrev pub LawfulFrom : ℕ → List Change → Type 0
  LawfulFrom i [] = Unit {0}
  LawfulFrom i (c ∷ cs) = Lawful i c × LawfulFrom (suc i) cs

  goods_low : (cs : List Change) (ps : List Plan) (i : ℕ) → Goods i cs ps → All (Low at) ps
  goods_low [] [] i g = tt
  goods_low [] (q ∷ ps) i g = absurd g
  goods_low (c ∷ cs) [] i g = absurd g
  goods_low (c ∷ cs) (skip ∷ ps) i g = (tt, goods_low cs ps (suc i) g.1)
  goods_low (c ∷ cs) (fresh a s v ∷ ps) i g = (tt, goods_low cs ps (suc i) g.1)
  goods_low (c ∷ cs) (shared a q s v ∷ ps) i g = (g.0.1, goods_low cs ps (suc i) g.1)

  fine_for : (ch : ℕ → Change) (cs : List Change) (ps : List Plan) (i p : ℕ) → Goods i cs ps → at ≤ p → p + freshes ps ≡ at + k
      → ((j : ℕ) → j < freshes ps → look (p + j) ≡ get_or (contents_for cs ps) j []) → ((j : ℕ) → ch (i + j) ≡ get_or cs j nothing)
      → All (λ (l : Line). Rule look at k tables l × (ch l.sheet ≡ means look l)) (lines_for i p ps)
  fine_for ch [] [] i p g h e w f = tt
  fine_for ch [] (q ∷ ps) i p g h e w f = absurd g
  fine_for ch (c ∷ cs) [] i p g h e w f = absurd g
  fine_for ch (c ∷ cs) (skip ∷ ps) i p g h e w f = fine_for ch cs ps (suc i) p g.1 h e w (λ j. at_suc ch i j (f (suc j)))
  fine_for ch (c ∷ cs) (fresh a s v ∷ ps) i p g h e w f =
      let r = g.0 p (h, omega arith) (at_zero look p (w 0 (omega arith))) in (
        (r.0, at_zero ch i (f 0) ∙ r.1),
        fine_for ch cs ps (suc i) (suc p) g.1 (omega arith) (omega arith) (λ j q. at_suc look p j (w (suc j) (omega arith))) (λ j. at_suc ch i j (f (suc j))),
      )
  fine_for ch (c ∷ cs) (shared a q s v ∷ ps) i p g h e w f =
      ((g.0.0.0, at_zero ch i (f 0) ∙ g.0.0.1), fine_for ch cs ps (suc i) p g.1 h e w (λ j. at_suc ch i j (f (suc j))))

  others_for : (cs : List Change) (ps : List Plan) (i p : ℕ) → Goods i cs ps → (j : ℕ) → named (i + j) (lines_for i p ps) ≡ 0 → get_or cs j nothing ≡ nothing
  others_for [] [] i p g j z = refl
  others_for [] (q ∷ ps) i p g j z = absurd g
  others_for (c ∷ cs) [] i p g j z = absurd g
  others_for (c ∷ cs) (skip ∷ ps) i p g zero z = g.0
  others_for (c ∷ cs) (skip ∷ ps) i p g (suc j) z =
      others_for cs ps (suc i) p g.1 j (at_suc (λ x. named x (lines_for (suc i) p ps)) i j z)
  others_for (c ∷ cs) (fresh a s v ∷ ps) i p g zero z = absurd ((unnamed (i + 0) (line_of i a p s v) (lines_for (suc i) (suc p) ps) z).0 (omega arith))
  others_for (c ∷ cs) (fresh a s v ∷ ps) i p g (suc j) z =
      others_for cs ps (suc i) (suc p) g.1 j
      (at_suc (λ x. named x (lines_for (suc i) (suc p) ps)) i j (unnamed (i + suc j) (line_of i a p s v) (lines_for (suc i) (suc p) ps) z).1)
  others_for (c ∷ cs) (shared a q s v ∷ ps) i p g zero z = absurd ((unnamed (i + 0) (line_of i a q s v) (lines_for (suc i) p ps) z).0 (omega arith))
  others_for (c ∷ cs) (shared a q s v ∷ ps) i p g (suc j) z =
      others_for cs ps (suc i) p g.1 j
      (at_suc (λ x. named x (lines_for (suc i) p ps)) i j (unnamed (i + suc j) (line_of i a q s v) (lines_for (suc i) p ps) z).1)

  module _ (low : 1 ≤ at) (used : (v s : ℕ) → user look at k tables v s < at) where
    good : (i : ℕ) (c : Change) → i < 32 → Lawful i c → Good i c (plan_of look at k tables c)
    unfolding means
    good i nothing h w = refl
    good i (add b) h w = λ p o e. ((h, (w, o, (refl, refl))), ap add (sym e))
    good i (change b) h w = λ p o e. ((h, (w, o, (refl, refl))), ap change (sym e))
    good i delete h w = (((h, (w, refl, (refl, refl))), refl), low)
    good i (copy s v b) h w = go (same b (look (user look at k tables v s))) refl
      where
        go : (t : Bool) → same b (look (user look at k tables v s)) ≡ t → Good i (copy s v b) (plan_copy look at k tables t s v)
        go true e =
            let d : b ≡ look (user look at k tables v s) = (says_same b (look (user look at k tables v s))).true_so (subst T (sym e) tt) in
            (((h, (w.0, w.1, w.2, inr refl)), ap (copy s v) d), used v s)
        go false e =
            let n : b ≡ look (user look at k tables v s) → ⊥ = λ d. subst T e ((says_same b (look (user look at k tables v s))).so_true d) in
            λ p o d. ((h, (w.0, w.1, w.2, inl (o, λ x. n (sym d ∙ x)))), ap (copy s v) (sym d))

    goods : (cs : List Change) (i : ℕ) → i + length cs ≤ 32 → LawfulFrom i cs → Goods i cs (map (plan_of look at k tables) cs)
    goods [] i h w = tt
    goods (c ∷ cs) i h w = (good i c (omega arith) w.0, goods cs (suc i) (omega arith) w.1)

    -- THE STATEMENT: a commit that the rules allow is laid by these lines, where the blocks from `at` on hold these contents
    pub lawful-laid : (c : Commit) → 1 ≤ c.seat → c.seat ≤ 4 → length c.changes ≡ 32 → LawfulFrom 0 c.changes
        → 1 ≤ length (lines_for 0 at (map (plan_of look at k tables) c.changes)) → k ≡ freshes (map (plan_of look at k tables) c.changes)
        → ((j : ℕ) → j < k → look (at + j) ≡ get_or (contents_for c.changes (map (plan_of look at k tables) c.changes)) j [])
        → Laid look at k tables (lines_for 0 at (map (plan_of look at k tables) c.changes)) c
    lawful-laid c s₁ s₄ size w one n f =
        let ps = map (plan_of look at k tables) c.changes in
        let g = goods c.changes 0 (omega arith) w in
        let fine = fine_for (λ j. get_or c.changes j nothing) c.changes ps 0 at g (omega arith) (omega arith)
        (λ j h. f j (omega arith)) (λ j. ap (λ x. get_or c.changes x nothing) (zero-add j)) in
        record {
          seat-low = s₁;
          seat-high = s₄;
          some-line = one;
          few-lines = omega (arith, few ps 0 at, length-map c.changes (plan_of look at k tables));
          rules = All-map _ (Rule look at k tables) (lines_for 0 at ps) (λ l r. r.0) fine;
          none_twice_holds = none_twice_for ps 0 at;
          one_each = λ p h q. pointed_for at ps 0 at p (goods_low c.changes ps 0 g) (omega arith) h (omega arith);
          size = size;
          meant = All-map _ (λ (l : Line). get_or c.changes l.sheet nothing ≡ means look l) (lines_for 0 at ps) (λ l r. r.1) fine;
          others = λ i z. others_for c.changes ps 0 at g i (rw zero-add z);
        }
