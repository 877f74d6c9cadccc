-- The blocks of a store one after the other, and the revisions that they release.
-- Assumes nothing.
use Prim.Native.Nat.{◌*◌, ◌+◌, ◌-◌, ◌/◌, ◌<◌, ◌≤◌, suc, zero, ℕ}
use mathlib.Core.Bool.{Bool, cond, false, true}
use mathlib.Core.List.{List, [], ◌∷◌, ◌++◌, map}
use mathlib.Core.Path.{◌∙◌, ◌≡◌, ap, ap₂, refl, subst, sym}
use native.Mathlib.Omega.{arith}
use lib.Dec.{eqb}
use lib.ListN.{drop, get_or, length, length-append, length-take, take}
use lib.Seq.{drop-append_seam, take-append_seam, take-take}
use Rattle.std.proofs.lemmas.List.{drop-take, get_or_default}
use Rattle.std.proofs.lemmas.Iterator.{YieldsList}
use Rattle.std.proofs.lemmas.Iterator.Consumers.{YieldsList-end, YieldsList-turn}
use Rattle.std.specs.Iterator.{Yields}
use Rattle.std.proofs.lemmas.Iterator.Splits.{YieldsList-from_shown_while}
use Rattle.std.specs.declared.slice.ChunksExact.{ChunksExact}
use Rattle.std.specs.Slice.Iter.{chunks_exact_rest, chunks_exact_size, chunks_exact_steps}
use Rattle.std.specs.List.{cons_option, filter_map}
use Rattle.std.proofs.Common.{None, Option, Some}
use Rattle.model.specs.Blocks.{parse}
use Rattle.model.specs.Codec.{parts}
use Rattle.model.specs.Log.{marks, releases}
use Rattle.model.specs.Pass.{log_all}
use Rattle.model.specs.Store.{blocks_of}
use Rattle.marks.proofs.Accepted.{laid_revisions, low_at}
use Rattle.marks.specs.Laid.{Laid}
use Rattle.marks.specs.Revisions.{nonzero, onto, revision_of, revisions_in}

-- all parts of what is there
abbrev all_parts : List ℕ → List (List ℕ)
all_parts l = parts (length l / 512) l

first_part : (l x t : List ℕ) → l ≡ x ++ t → length x ≡ 512 → all_parts l ≡ x ∷ all_parts t
first_part l x t d e =
    let n : length l / 512 ≡ suc (length t / 512) = omega (arith, ap length d, length-append x t) in
    let front : take 512 l ≡ x = ap₂ take (sym e) d ∙ take-append_seam x t in
    let rest : drop 512 l ≡ t = ap₂ drop (sym e) d ∙ drop-append_seam x t in
    ap (λ k. parts k l) n ∙ ap₂ (λ (y z : List ℕ). y ∷ parts (length t / 512) z) front rest

parts-none : (l : List ℕ) → length l < 512 → length (all_parts l) ≡ 0
parts-none l h = let n : length l / 512 ≡ 0 = omega arith in rw n

parts_of_first : (n m : ℕ) (l : List ℕ) → n * 512 ≤ m → parts n (take m l) ≡ parts n l
parts_of_first zero m l h = refl
parts_of_first (suc n) m l h =
    let e : 512 + (m - 512) ≡ m = omega arith in
    let front : take 512 (take m l) ≡ take 512 l = take-take 512 m l (omega arith) in
    let rest : drop 512 (take m l) ≡ take (m - 512) (drop 512 l) = ap (λ k. drop 512 (take k l)) (sym e) ∙ drop-take 512 (m - 512) l in
    ap₂ (λ (y : List ℕ) (z : List (List ℕ)). y ∷ z) front (ap (parts n) rest ∙ parts_of_first n (m - 512) (drop 512 l) (omega arith))

-- a walk over the n blocks by parts of 512 bytes
pub blocks_come : (store : List ℕ) (n : ℕ) (s : ChunksExact ℕ) → n * 512 ≤ length store → chunks_exact_size s ≡ 512 → chunks_exact_rest s ≡ take (n * 512) store
    → YieldsList (chunks_exact_steps {A = ℕ}) (λ y. y.now) s (parts n store)
blocks_come store n s h size rest =
    subst (λ xs. YieldsList (chunks_exact_steps {A = ℕ}) (λ y. y.now) s xs)
    (rw rest (let e : length (take (n * 512) store) / 512 ≡ n = simp length-take (omega arith) in ap (λ k. parts k (take (n * 512) store)) e ∙ parts_of_first n (n * 512) store (omega arith)))
    (YieldsList-from_shown_while (chunks_exact_steps {A = ℕ}) (λ y. y.now) (λ t. all_parts (chunks_exact_rest t)) (λ t. chunks_exact_size t ≡ 512)
    (λ u t p q. parts-none (chunks_exact_rest u) (omega (arith, q.1.0, p)))
    (λ u x t p q. (q.0 ∙ p, first_part (chunks_exact_rest u) x.now (chunks_exact_rest t) q.1.0 (q.1.1 ∙ p))) s size)

-- the revisions of blocks
abbrev pub of_block : List ℕ → Option ℕ
of_block b = nonzero (revision_of (parse b))

each_onto : (bs : List (List ℕ)) → filter_map of_block bs ≡ revisions_in (map parse bs)
each_onto [] = refl
each_onto (b ∷ bs) = one (revision_of (parse b)) (eqb (revision_of (parse b)) 0) ∙ ap (onto (revision_of (parse b))) (each_onto bs)
  where
    one : (x : ℕ) (t : Bool) → cons_option (cond t None (Some x)) (filter_map of_block bs) ≡ cond t (filter_map of_block bs) (x ∷ filter_map of_block bs)
    one x true = refl
    one x false = refl

pub releases_come : (store : List ℕ) (n : ℕ) → Laid store n → filter_map of_block (parts n store) ≡ releases (marks (log_all (blocks_of n store)))
unfolding blocks_of
releases_come store n L = each_onto (parts n store) ∙ laid_revisions store n L

-- ---- a loop over the revisions, which has given xs
abbrev pub released_in : List ℕ → ℕ → List ℕ
released_in store n = releases (marks (log_all (blocks_of n store)))

-- x is the next after k
pub record Next (store : List ℕ) (n k x : ℕ) : Type 0 where
  pub place : k < length (released_in store n)
  pub item : x ≡ get_or (released_in store n) k x
  pub low : x < 4_096

module _ (store : List ℕ) (n : ℕ) (L : Laid store n) {S : Type 0} {steps : S → Option ℕ → S → Type 0} {s : S} (e : YieldsList steps (λ x. x) s (filter_map of_block (parts n store)))
    (xs : List ℕ) (t : S) (y : Yields steps s xs t) where
  pub next_is : (r : Option ℕ) (u : S) (x : ℕ) → r ≡ Some x → steps t r u → Next store n (length xs) x
  next_is r u x i g =
      let k = YieldsList-turn e xs t y r u x i g in
      let place : length xs < length (released_in store n) = omega (arith, k.0, ap length (releases_come store n L)) in
      let item : x ≡ get_or (released_in store n) (length xs) x = k.1 ∙ ap (λ (zs : List ℕ). get_or zs (length xs) x) (releases_come store n L) in
      record {
        place = place;
        item = item;
        low = omega (arith, item ∙ get_or_default (released_in store n) (length xs) x 0 place, low_at store n L (length xs) place);
      }

  pub all_came : (r : Option ℕ) (u : S) → r ≡ None → steps t r u → length (released_in store n) ≤ length xs
  all_came r u i g = omega (arith, (YieldsList-end e xs t y r u i g).1, ap length (releases_come store n L))
