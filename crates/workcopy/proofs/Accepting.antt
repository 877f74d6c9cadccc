-- Acceptance as the code goes about it: the first block passes as the seat's, and then each of 32 as an entry's.
-- Assumes nothing.
use Rattle.std.specs.Prelude.{Err, Ok}
use Prim.Native.Nat.{◌*◌, suc, zero, ℕ}
use mathlib.Core.Bool.{Bool, ◌&&◌, cond, false, true}
use mathlib.Core.List.{List, [], ◌∷◌, map}
use mathlib.Core.Path.{◌∙◌, ◌≡◌, ap, refl, subst, sym}
use native.Mathlib.Omega.{arith}
use borrow.Author.Tests.{eq-eqb, eqb-true, ne_eqb}
use lib.Dec.{T, eqb}
use lib.ListN.{drop, get_or, length, length-append, take}
use lib.Seq.{drop_at, get_or-take, take_at}
use Rattle.std.proofs.lemmas.Iterator.{YieldsList}
use Rattle.std.specs.Iterator.{AlwaysYields}
use Rattle.std.specs.List.{list_all}
use Rattle.std.specs.Slice.Iter.{chunks_exact_rest, chunks_exact_size, chunks_exact_steps}
use Rattle.std.specs.declared.slice.ChunksExact.{ChunksExact}
use Rattle.block.proofs.Says.{Says, and_true, says_alike, says_and3, says_eq, says_same, true_and}
use Rattle.block.specs.Check.{sealed}
use Rattle.block.specs.Lists.{all, same}
use Rattle.model.specs.Codec.{padded, parts, shaped}
use Rattle.model.specs.Entry.{added, copied, deleted, empty, normal}
use Rattle.model.specs.WorkCopy.{CopyBlock, arranged, copy_blocks_of, copy_fields, copy_ok, entry_block, fits_copy_block, is_entry, parse_copy_block, seat_block, seat_in, seat_of}
use Rattle.model.specs.declared.Refusal.TheVariants.{CopyLayout, CopyLength}
use Rattle.workcopy.proofs.Scan.{parse-seat}
use Rattle.workcopy.specs.Copy.{Accepted, accept_of}
use Rattle.workcopy.specs.Shape.{ok_block, shaped_block}

-- ---- one block

kind : CopyBlock → ℕ
kind (seat_block seat) = 4
kind (entry_block e) = 5

first_byte : (q : CopyBlock) → get_or (padded (copy_fields q)) 0 0 ≡ kind q
unfolding padded kind
first_byte (seat_block seat) = refl
first_byte (entry_block empty) = refl
first_byte (entry_block (normal b x)) = refl
first_byte (entry_block (added x)) = refl
first_byte (entry_block (deleted b)) = refl
first_byte (entry_block (copied s r x)) = refl

shaped-kind : (p : List ℕ) → T (shaped_block p) → get_or p 0 0 ≡ kind (parse_copy_block p)
unfolding shaped
shaped-kind p t =
    let q = parse_copy_block p in
    let e = (says_same (padded (copy_fields q)) (take 508 p)).true_so (and_true (fits_copy_block q) (same (padded (copy_fields q)) (take 508 p)) t).1 in
    sym (get_or-take 508 p 0 0 (omega arith)) ∙ ap (λ (x : List ℕ). get_or x 0 0) (sym e) ∙ first_byte q

-- the shape of an entry's block has 5 in its first byte
pub entry_first : (p : List ℕ) {e : _} → T (shaped_block p) → parse_copy_block p ≡ entry_block e → get_or p 0 0 ≡ 5
unfolding kind
entry_first p t q = shaped-kind p t ∙ ap kind q

entry-kind : (q : CopyBlock) → T (is_entry q) → kind q ≡ 5
unfolding kind
entry-kind (seat_block seat) t = absurd t
entry-kind (entry_block e) t = refl

kind-entry : (q : CopyBlock) → kind q ≡ 5 → T (is_entry q)
unfolding kind
kind-entry (seat_block seat) e = absurd (omega arith)
kind-entry (entry_block e) k = tt

itself : (b : Bool) → Says b (T b)
itself b = record { true_so = λ t. t; so_true = λ t. t }

says-ok : (k : ℕ) (p : List ℕ) → Says (ok_block k p) (T (sealed p) × (get_or p 0 0 ≡ k) × T (shaped_block p))
unfolding ok_block
says-ok k p = says_and3 (itself (sealed p)) (says_eq (get_or p 0 0) k) (itself (shaped_block p))

-- ---- all of them

all-and : {A : Type 0} (f : A → Bool) (x : A) (xs : List A) → T (f x) → T (all f xs) → T (all f (x ∷ xs))
all-and f x xs = true_and (f x) (all f xs)

and-all : {A : Type 0} (f : A → Bool) (x : A) (xs : List A) → T (all f (x ∷ xs)) → T (f x) × T (all f xs)
and-all f x xs = and_true (f x) (all f xs)

entries_pass : (ps : List (List ℕ)) → T (all sealed ps) → T (all shaped_block ps) → T (all is_entry (map parse_copy_block ps)) → T (all (ok_block 5) ps)
entries_pass [] s t u = tt
entries_pass (p ∷ ps) s t u =
    let a = and-all sealed p ps s in
    let b = and-all shaped_block p ps t in
    let d = and-all is_entry (parse_copy_block p) (map parse_copy_block ps) u in
    all-and (ok_block 5) p ps ((says-ok 5 p).so_true (a.0, shaped-kind p b.0 ∙ entry-kind (parse_copy_block p) d.0, b.0))
    (entries_pass ps a.1 b.1 d.1)

pass_entries : (ps : List (List ℕ)) → T (all (ok_block 5) ps) → T (all sealed ps) × T (all shaped_block ps) × T (all is_entry (map parse_copy_block ps))
pass_entries [] t = (tt, tt, tt)
pass_entries (p ∷ ps) t =
    let a = and-all (ok_block 5) p ps t in
    let b = (says-ok 5 p).true_so a.0 in
    let r = pass_entries ps a.1 in (
      all-and sealed p ps b.0 r.0,
      all-and shaped_block p ps b.2 r.1,
      all-and is_entry (parse_copy_block p) (map parse_copy_block ps) (kind-entry (parse_copy_block p) (sym (shaped-kind p b.2) ∙ b.1)) r.2,
    )

arranged_so : (q : CopyBlock) (qs : List CopyBlock) → T (arranged (q ∷ qs)) → (kind q ≡ 4) × T (all is_entry qs)
unfolding kind
arranged_so (seat_block seat) qs t = (refl, t)
arranged_so (entry_block e) qs t = absurd t

so_arranged : (q : CopyBlock) (qs : List CopyBlock) → kind q ≡ 4 → T (all is_entry qs) → T (arranged (q ∷ qs))
unfolding kind
so_arranged (seat_block seat) qs k t = t
so_arranged (entry_block e) qs k t = absurd (omega arith)

module _ (l : List ℕ) where
  -- THE STATEMENT: refusal 5 is that a block does not pass
  pub ok_is : copy_ok l ≡ (ok_block 4 (take 512 l) && all (ok_block 5) (parts 32 (drop 512 l)))
  unfolding copy_ok copy_blocks_of
  ok_is =
      let p = take 512 l in
      let ps = parts 32 (drop 512 l) in
      let q = parse_copy_block p in
      let qs = map parse_copy_block ps in
      says_alike (itself (all sealed (p ∷ ps) && (all shaped_block (p ∷ ps) && arranged (q ∷ qs)))) (itself (ok_block 4 p && all (ok_block 5) ps))
      (λ t.
      let a = and_true (all sealed (p ∷ ps)) (all shaped_block (p ∷ ps) && arranged (q ∷ qs)) t in
      let b = and_true (all shaped_block (p ∷ ps)) (arranged (q ∷ qs)) a.1 in
      let s = and-all sealed p ps a.0 in
      let h = and-all shaped_block p ps b.0 in
      let r = arranged_so q qs b.1 in
      true_and (ok_block 4 p) (all (ok_block 5) ps) ((says-ok 4 p).so_true (s.0, shaped-kind p h.0 ∙ r.0, h.0)) (entries_pass ps s.1 h.1 r.1))
      (λ t.
      let a = and_true (ok_block 4 p) (all (ok_block 5) ps) t in
      let b = (says-ok 4 p).true_so a.0 in
      let r = pass_entries ps a.1 in
      true_and (all sealed (p ∷ ps)) (all shaped_block (p ∷ ps) && arranged (q ∷ qs)) (all-and sealed p ps b.0 r.0)
      (true_and (all shaped_block (p ∷ ps)) (arranged (q ∷ qs)) (all-and shaped_block p ps b.2 r.1) (so_arranged q qs (sym (shaped-kind p b.2) ∙ b.1) r.2)))

  seat_is : ok_block 4 (take 512 l) ≡ true → seat_of l ≡ get_or l 1 0
  unfolding seat_of copy_blocks_of
  seat_is e =
      let b = (says-ok 4 (take 512 l)).true_so (subst T (sym e) tt) in
      ap (λ (q : CopyBlock). seat_in (q ∷ map parse_copy_block (parts 32 (drop 512 l)))) (parse-seat (take 512 l) b.1) ∙ get_or-take 512 l 1 0 (omega arith)

  pub wrong-length : (length l ≡ 16_896 → ⊥) → Err CopyLength ≡ accept_of l
  unfolding accept_of
  wrong-length ne = rw (ne_eqb (length l) 16_896 ne)

  module _ (e : length l ≡ 16_896) where
    pub wrong-seat : ok_block 4 (take 512 l) ≡ false → Err CopyLayout ≡ accept_of l
    unfolding accept_of
    wrong-seat h = rw (eq-eqb (length l) 16_896 e, ok_is, h)

    module _ (h : ok_block 4 (take 512 l) ≡ true) where
      pub wrong-entry : all (ok_block 5) (parts 32 (drop 512 l)) ≡ false → Err CopyLayout ≡ accept_of l
      unfolding accept_of
      wrong-entry g = rw (eq-eqb (length l) 16_896 e, ok_is, h, g)

      pub all_right : {s : ℕ} → all (ok_block 5) (parts 32 (drop 512 l)) ≡ true → s ≡ get_or l 1 0 → Ok s ≡ accept_of l
      unfolding accept_of
      all_right g es = rw (eq-eqb (length l) 16_896 e, ok_is, h, g) (ap Ok (es ∙ sym (seat_is h)))

  -- what an answer of acceptance tells
  pub seat_so : (s : ℕ) → accept_of l ≡ Ok s → Accepted l × (s ≡ seat_of l)
  unfolding accept_of
  seat_so s e = let r = tests (eqb (length l) 16_896) (copy_ok l) e in (record { size = eqb-true (length l) 16_896 r.0; ok = r.1 }, r.2)
    where
      tests : (a b : Bool) → cond a (cond b (Ok (seat_of l)) (Err CopyLayout)) (Err CopyLength) ≡ Ok s → (a ≡ true) × T b × (s ≡ seat_of l)
      tests true true e = (refl, tt, cc)
      tests true false e = let z : ◌≡◌ {A = ℕ} 0 1 = cc in absurd (omega arith)
      tests false b e = let z : ◌≡◌ {A = ℕ} 0 1 = cc in absurd (omega arith)

-- ---- the code's way through the blocks

-- what `chunks_exact` yields are the parts
chunks_give : (n : ℕ) (s : ChunksExact ℕ) → chunks_exact_size s ≡ 512 → length (chunks_exact_rest s) ≡ 512 * n
    → AlwaysYields chunks_exact_steps (λ y. y.now) s (parts n (chunks_exact_rest s))
chunks_give zero s e l = λ x j p. absurd (omega (arith, ap length p.1.0, length-append x.now (chunks_exact_rest j), p.1.1))
chunks_give (suc n) s e l = (
  (λ j p. absurd (omega (arith, p.1.0))),
  λ x j p.
      let k : length x.now ≡ 512 = omega (arith, p.1.1) in
      let r : drop 512 (chunks_exact_rest s) ≡ chunks_exact_rest j = ap (drop 512) p.1.0 ∙ drop_at x.now (chunks_exact_rest j) 512 k in
      let m : length (chunks_exact_rest j) ≡ 512 * n = omega (arith, ap length p.1.0, length-append x.now (chunks_exact_rest j)) in (
        sym (ap (take 512) p.1.0 ∙ take_at x.now (chunks_exact_rest j) 512 k),
        subst (λ (t : List ℕ). AlwaysYields chunks_exact_steps (λ y. y.now) j (parts n t)) (sym r) (chunks_give n j (p.0 ∙ e) m),
      ),
)

pub chunks_are : {s : ChunksExact ℕ} (n : ℕ) (l : List ℕ) → chunks_exact_size s ≡ 512 → chunks_exact_rest s ≡ l → length l ≡ 512 * n
    → YieldsList chunks_exact_steps (λ y. y.now) s (parts n l)
chunks_are {s} n l e r m = record { runs = subst (λ (t : List ℕ). AlwaysYields chunks_exact_steps (λ y. y.now) s (parts n t)) r (chunks_give n s e (ap length r ∙ m)) }

pub all_is : {A : Type 0} (f : A → Bool) (xs : List A) → list_all f xs ≡ all f xs
all_is f [] = refl
all_is f (x ∷ xs) = ap (λ (b : Bool). f x && b) (all_is f xs)
