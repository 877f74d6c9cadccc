-- Laws on lists of conditions: the first that holds, and that none does; and what line 1 says of a store's size.
-- Assumes nothing.
use Prim.Native.Nat.{◌%◌, ◌*◌, ◌≤◌, ℕ}
use mathlib.Core.Bool.{Bool, ◌||◌, cond, false, not, true}
use mathlib.Core.List.{List, [], ◌++◌, ◌∷◌}
use mathlib.Core.Logic.{◌↔◌, inl, inr}
use mathlib.Core.Option.{Option, none, some}
use mathlib.Core.Path.{◌∙◌, ◌≡◌, ap, ap₂, refl}
use native.Mathlib.Omega.{arith}
use borrow.Author.Tests.{eq-eqb, eqb-true, le-ltb, ltb-false, not-false}
use lib.Dec.{eqb, ltb}
use lib.ListN.{length}
use Rattle.model.specs.Calls.{size_condition}
use Rattle.model.specs.History.{Bytes}
use Rattle.model.specs.Machine.{Call, Commits, Side}
use Rattle.model.specs.Refusals.{Clear, Condition, First, conditions, first_of, tail_conditions}
use Rattle.model.specs.Run.{own_conditions}
use Rattle.model.specs.Store.{block_count}
use Rattle.laws.proofs.Rows.{or_false}

pub clear : (cs : List Condition) → first_of cs ≡ none → Clear cs
clear [] e = tt
clear (c ∷ cs) e = let r = one c.holds c.number (first_of cs) e in (r.0, clear cs r.1)
  where
    one : (b : Bool) (n : ℕ) (o : Option ℕ) → cond b (some n) o ≡ none → (b ≡ false) × (o ≡ none)
    one true n o e = (cc, cc)
    one false n o e = (refl, e)

pub none-holds : (cs : List Condition) → Clear cs → first_of cs ≡ none
none-holds [] h = refl
none-holds (c ∷ cs) h = ap (λ (b : Bool). cond b (some c.number) (first_of cs)) h.0 ∙ none-holds cs h.1

-- conditions of which none holds say nothing
pub clear_first : (cs ds : List Condition) → Clear cs → first_of (cs ++ ds) ≡ first_of ds
clear_first [] ds h = refl
clear_first (c ∷ cs) ds h = ap (λ (b : Bool). cond b (some c.number) (first_of (cs ++ ds))) h.0 ∙ clear_first cs ds h.1

-- nor do they in the middle
pub clear_mid : (cs ds es : List Condition) → Clear ds → first_of (cs ++ (ds ++ es)) ≡ first_of (cs ++ es)
clear_mid [] ds es h = clear_first ds es h
clear_mid (c ∷ cs) ds es h = ap (λ (o : Option ℕ). cond c.holds (some c.number) o) (clear_mid cs ds es h)

pub clear_split : (cs ds : List Condition) → Clear (cs ++ ds) → Clear cs × Clear ds
clear_split [] ds h = (tt, h)
clear_split (c ∷ cs) ds h = let r = clear_split cs ds h.1 in ((h.0, r.0), r.1)

-- where none of the machine's lines holds, none from 7 on does, and not 14
pub own-none : (d : Side) (c : Call) → first_of (own_conditions d c) ≡ none → (first_of (conditions d c) ≡ none) × Clear (tail_conditions d c)
own-none d c e =
    let p = clear_split (tail_conditions d c) (conditions d c) (clear (own_conditions d c) e) in
    (none-holds (conditions d c) p.1, p.0)

-- 14 does not hold of a commit on a store without a tail, and on no other
pub no_tail : (d : Side) (stamp mask : ℕ) → d.tail ≡ 0 → Clear (tail_conditions d (Commits stamp mask))
no_tail d stamp mask e = (ap (λ (t : ℕ). not (eqb t 0)) e, tt)

pub untailed_so : (d : Side) (stamp mask : ℕ) → Clear (tail_conditions d (Commits stamp mask)) → d.tail ≡ 0
untailed_so d stamp mask c = eqb-true d.tail 0 (not-false (eqb d.tail 0) c.0)

-- the number that `first_of` gives is that of the first condition that holds
pub first-iff : (cs : List Condition) (n : ℕ) → (first_of cs ≡ some n) ↔ First cs n
first-iff [] n = (λ e. let z : ◌≡◌ {A = ℕ} 0 1 = cc in omega arith, λ f. absurd f)
first-iff (c ∷ cs) n = (to c.holds refl (first-iff cs n).0, from (first-iff cs n).1)
  where
    to : (b : Bool) → c.holds ≡ b → (first_of cs ≡ some n → First cs n) → cond b (some c.number) (first_of cs) ≡ some n → First (c ∷ cs) n
    to true h r e = inl (h, cc)
    to false h r e = inr (h, r e)

    from : (First cs n → first_of cs ≡ some n) → First (c ∷ cs) n → first_of (c ∷ cs) ≡ some n
    from r (inl f) = rw f.0 (ap some f.1)
    from r (inr f) = rw f.0 (r f.1)

-- ---- line 1

pub sized_so : (store : Bytes) → (size_condition store).holds ≡ false → (length store ≡ block_count store * 512) × (2 ≤ block_count store) × (block_count store ≤ 4_096)
sized_so store e =
    let p = or_false (not (eqb (length store % 512) 0)) (ltb (block_count store) 2 || ltb 4_096 (block_count store)) e in
    let q = or_false (ltb (block_count store) 2) (ltb 4_096 (block_count store)) p.1 in
    let m : length store % 512 ≡ 0 = eqb-true (length store % 512) 0 (not-false (eqb (length store % 512) 0) p.0) in
    (omega (arith, m), ltb-false (block_count store) 2 q.0, ltb-false 4_096 (block_count store) q.1)

pub so_sized : (N : ℕ) (store : Bytes) → length store ≡ N * 512 → 2 ≤ N → N ≤ 4_096 → (size_condition store).holds ≡ false
so_sized N store e lo hi =
    let m : length store % 512 ≡ 0 = omega (arith, e) in
    let two : 2 ≤ block_count store = omega (arith, e) in
    let top : block_count store ≤ 4_096 = omega (arith, e) in
    ap (λ (x : Bool). not x || (ltb (block_count store) 2 || ltb 4_096 (block_count store))) (eq-eqb (length store % 512) 0 m)
    ∙ ap₂ ◌||◌ (le-ltb (block_count store) 2 two) (le-ltb 4_096 (block_count store) top)
