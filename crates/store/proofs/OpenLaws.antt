-- Opening a store: each refusal in its order, and the pass.
-- Assumes nothing.
use Rattle.std.specs.Prelude.{Err, Ok, Result}
use Prim.Native.Nat.{◌%◌, ◌*◌, ◌-◌, ◌/◌, ◌<◌, ◌≤◌, suc, zero, ℕ}
use mathlib.Core.Bool.{Bool, ◌&&◌, cond, false, not, true}
use mathlib.Core.List.{List, [], ◌++◌, ◌∷◌}
use mathlib.Core.Logic.{inl, inr, ◌⊎◌}
use mathlib.Core.Option.{none, some}
use mathlib.Core.Path.{◌∙◌, ◌≡◌, ap, ap₂, refl, subst, sym}
use native.Mathlib.Omega.{arith}
use borrow.Author.Tests.{eq-eqb, le-ltb, lt-ltb, ne_eqb}
use lib.Dec.{T, eqb}
use lib.ListN.{drop, get_or, length, length-append, length-replicate, replicate, take}
use lib.Seq.{take_at}
use Rattle.block.proofs.Says.{is_true}
use Rattle.block.specs.Lists.{all}
use Rattle.model.specs.Blocks.{Block, blank, bytes_at, commit, content, fields_of, fits_block, label, mark, parse}
use Rattle.model.specs.Codec.{parts, shaped}
use Rattle.model.specs.Layout.{Table}
use Rattle.model.specs.Log.{Log, marks, marks_ok}
use Rattle.model.specs.Pass.{log_all, ok}
use Rattle.model.specs.Store.{bare_in, blocks_of, checked, checked_but, counted_by, filled_in, front, history_of, lawful, lawful_but, on_stem, stem, stem_in, whole_by, whole_in}
use Rattle.model.specs.declared.Refusal.{Refusal}
use Rattle.model.specs.declared.Refusal.TheVariants.{StoreCheck, StoreLayout, StoreLength}
use Rattle.laws.proofs.Untailing.{bare-shaped, bare-stem, shaped_in, stem_split}
use Rattle.marks.proofs.Turns.{markless}
use Rattle.marks.specs.Laid.{Laid}
use Rattle.marks.specs.Revisions.{is_mark}
use Rattle.shape.specs.Rows.{rows_of}
use Rattle.shape.specs.Shape.{kind_of}
use Rattle.shape.specs.declared.BlockKind.TheVariants.{Label}
use Rattle.store.proofs.Blocks.{block_at, blocks-taken, length-blocks, lent, lent_is}
use Rattle.store.proofs.Judged.{Alone, bare_blocks, head_of, judged, judged_alone, judged_passed, judged_by}
use Rattle.store.proofs.PassLaws.{parse-label, rest-step}
use Rattle.store.specs.Known.{Fresh}
use Rattle.store.specs.Opened.{Markless, marked_of, open_of, opened_as, opened_by, passed, passed_all}
use Rattle.store.specs.declared.Header.{Header}
use Rattle.store.specs.declared.Passed.{Passed}
use Rattle.store.specs.declared.Passed.TheVariants.{Plain}

blanks-other : (z : ℕ) → ok (replicate z blank) ≡ false
unfolding ok
blanks-other zero = refl
blanks-other (suc z) = refl

-- blocks whose first is no label
stem-other : (b : Block) (rest : List Block) (z : ℕ) → (kind_of b ≡ Label → ⊥) → ok (bare_blocks z (b ∷ rest)) ≡ false
unfolding ok
stem-other label rest z n = absurd (n refl)
stem-other (content r b) rest z n = go (stem rest)
  where
    go : (s : List Block) → ok (on_stem (content r b) s ++ replicate z blank) ≡ false
    go [] = blanks-other z
    go (c ∷ cs) = refl
stem-other (commit r s t ls) rest z n = go (stem rest)
  where
    go : (x : List Block) → ok (on_stem (commit r s t ls) x ++ replicate z blank) ≡ false
    go [] = refl
    go (c ∷ cs) = refl
stem-other (mark m) rest z n = go (stem rest)
  where
    go : (s : List Block) → ok (on_stem (mark m) s ++ replicate z blank) ≡ false
    go [] = refl
    go (c ∷ cs) = refl
stem-other blank rest z n = go (stem rest)
  where
    go : (s : List Block) → ok (on_stem blank s ++ replicate z blank) ≡ false
    go [] = refl
    go (c ∷ cs) = refl

-- ---- no block is left but zero ones

none-whole : (n : ℕ) (l : List ℕ) → filled_in n l ≡ 0 → whole_in n l ≡ 0
unfolding whole_in
none-whole n l f = ap (λ (k : ℕ). whole_by k l) f

none-checked : (n : ℕ) (l : List ℕ) → filled_in n l ≡ 0 → checked_but n l ≡ true
unfolding checked_but checked
none-checked n l f = ap (λ (k : ℕ). checked (counted_by k) l) f

none_bare : (z : ℕ) (l : List ℕ) → ok (bare_blocks z (blocks_of 0 l)) ≡ false
unfolding blocks_of
none_bare z l = blanks-other z

unshaped : (n : ℕ) (l : List ℕ) → shaped_in n l ≡ false → lawful_but n l ≡ false
unfolding lawful_but
unshaped n l s = rw s (none_of (lawful n (bare_in n l)) (eqb (length (front (blocks_of n (bare_in n l)))) (stem_in n l)))
  where
    none_of : (a b : Bool) → (a && (b && false)) ≡ false
    none_of true true = refl
    none_of true false = refl
    none_of false b = refl

-- ---- the blocks before the tail are the first of the whole ones

stem-short : (w : List Block) → length (stem w) ≤ length w
stem-short w = omega (arith, ap length (stem_split w), length-append (stem w) (drop (length (stem w)) w))

stem-taken : (m : ℕ) (l : List ℕ) → blocks_of (length (stem (blocks_of m l))) l ≡ stem (blocks_of m l)
stem-taken m l =
    let w = blocks_of m l in
    blocks-taken (length (stem w)) m l (omega (arith, stem-short w, length-blocks m l)) ∙ ap (take (length (stem w))) (sym (stem_split w))
    ∙ take_at (stem w) (drop (length (stem w)) w) (length (stem w)) refl

-- ---- what the code counts

pub counted_is : (n f k : ℕ) (l : List ℕ) → f ≡ filled_in n l → k ≡ counted_by f → checked k l ≡ checked_but n l
unfolding checked_but
counted_is n f k l e g = ap (λ (x : ℕ). checked x l) (g ∙ ap counted_by e)

pub whole_is : (n f m : ℕ) (l : List ℕ) → f ≡ filled_in n l → m ≡ whole_by f l → m ≡ whole_in n l
unfolding whole_in
whole_is n f m l e g = g ∙ ap (λ (x : ℕ). whole_by x l) e

module _ (l : List ℕ) where
  -- refusal 1
  pub open_odd : (length l % 512 ≡ 0 → ⊥) → open_of l ≡ Err StoreLength
  unfolding open_of
  open_odd n = rw (ne_eqb (length l % 512) 0 n)

  module _ (e : length l % 512 ≡ 0) where
    pub open_small : length l / 512 < 2 → open_of l ≡ Err StoreLength
    unfolding open_of
    open_small h = rw (eq-eqb (length l % 512) 0 e, lt-ltb (length l / 512) 2 h)

    module _ (low : 2 ≤ length l / 512) where
      pub open_large : 4_096 < length l / 512 → open_of l ≡ Err StoreLength
      unfolding open_of
      open_large g = rw (eq-eqb (length l % 512) 0 e, le-ltb (length l / 512) 2 low, lt-ltb 4_096 (length l / 512) g)

      module _ (high : length l / 512 ≤ 4_096) where
        abbrev n : ℕ
        n = length l / 512

        size : length l ≡ n * 512
        size = omega arith

        -- refusals 2 and 3
        pub open_unchecked : checked_but (length l / 512) l ≡ false → open_of l ≡ Err StoreCheck
        unfolding open_of
        open_unchecked c = rw (eq-eqb (length l % 512) 0 e, le-ltb (length l / 512) 2 low, le-ltb 4_096 (length l / 512) high, c)

        module _ (c : checked_but (length l / 512) l ≡ true) where
          judge : open_of l ≡ opened_by (cond (not (lawful_but n l)) (some 3) none) (head_of (blocks_of n (bare_in n l)))
          unfolding open_of history_of
          judge = rw (eq-eqb (length l % 512) 0 e, le-ltb (length l / 512) 2 low, le-ltb 4_096 (length l / 512) high, c)

          passes : (t : Bool) (h : Header) → opened_by (cond (not t) (some 3) none) h ≡ cond t (Ok h) (Err StoreLayout)
          passes true h = refl
          passes false h = refl

          unlawful : lawful_but n l ≡ false → open_of l ≡ Err StoreLayout
          unlawful o = judge ∙ passes (lawful_but n l) (head_of (blocks_of n (bare_in n l))) ∙ ap (λ (t : Bool). cond t (Ok (head_of (blocks_of n (bare_in n l)))) (Err StoreLayout)) o

          pub open_unshaped : shaped_in (length l / 512) l ≡ false → open_of l ≡ Err StoreLayout
          open_unshaped s = unlawful (unshaped n l s)

          module _ (s : shaped_in (length l / 512) l ≡ true) where
            S : T (shaped_in n l)
            S = subst T (sym s) tt

            -- the whole blocks, and the same as if the tail were zero blocks
            abbrev W : List Block
            W = blocks_of (whole_in n l) l

            abbrev B : List Block
            B = bare_blocks (n - stem_in n l) (blocks_of (whole_in n l) l)

            lawful_is : lawful_but n l ≡ (judged (n - stem_in n l) W && marks_ok (marks (log_all B)))
            unfolding lawful_but lawful history_of stem_in
            lawful_is =
                let b : all (shaped fields_of parse fits_block) (parts n (bare_in n l)) ≡ true = is_true (all (shaped fields_of parse fits_block) (parts n (bare_in n l))) (bare-shaped n l size c S) in
                let k : whole_in n l ≡ length (blocks_of (whole_in n l) l) = sym (length-blocks (whole_in n l) l) in
                rw (b, s) (swap (ok (blocks_of n (bare_in n l))) (marks_ok (marks (log_all (blocks_of n (bare_in n l))))) _
                ∙ (λ i. judged_by W (bare-stem n l size c S i) (stem_in n l) (k i) && marks_ok (marks (log_all (bare-stem n l size c S i)))))
              where
                swap : (x y z : Bool) → ((x && y) && z) ≡ ((x && z) && y)
                swap true true true = refl
                swap true true false = refl
                swap true false true = refl
                swap true false false = refl
                swap false y z = refl

            opened : open_of l ≡ cond (judged (n - stem_in n l) W && marks_ok (marks (log_all B))) (Ok (head_of B)) (Err StoreLayout)
            opened =
                judge ∙ passes (lawful_but n l) (head_of (blocks_of n (bare_in n l)))
                ∙ ap₂ (λ (t : Bool) (x : List Block). cond t (Ok (head_of x)) (Err StoreLayout)) lawful_is (bare-stem n l size c S)

            module _ (some-whole : 1 ≤ whole_in (length l / 512) l) where
              first : blocks_of (whole_in n l) l ≡ parse (lent l 0) ∷ drop 1 (blocks_of (whole_in n l) l)
              first = rest-step (whole_in n l) l 0 (omega arith)

              pub open_unlabelled : (kind_of (parse (lent l 0)) ≡ Label → ⊥) → open_of l ≡ Err StoreLayout
              open_unlabelled k =
                  let R = drop 1 (blocks_of (whole_in n l) l) in
                  let o : ok (bare_blocks (n - stem_in n l) (blocks_of (whole_in n l) l)) ≡ false =
                  ap (λ (x : List Block). ok (bare_blocks (n - stem_in n l) x)) first ∙ stem-other (parse (lent l 0)) R (n - stem_in n l) k in
                  opened ∙ rw o

              module _ (k : kind_of (parse (lent l 0)) ≡ Label) where
                labelled : W ≡ label ∷ drop 1 W
                labelled = first ∙ ap (λ (x : Block). x ∷ drop 1 W) (parse-label (lent l 0) k)

                pass_judged : passed_all (whole_in n l) l ≡ cond (judged (n - stem_in n l) W) (Ok (head_of B)) (Err StoreLayout)
                unfolding passed_all
                pass_judged =
                    ap (λ (x : List Block). passed (bytes_at x) 1 0 (replicate 32 0 ∷ []) (drop 1 W)) labelled ∙ judged_passed (n - stem_in n l) (drop 1 W)
                    ∙ sym (ap (λ (x : List Block). cond (judged (n - stem_in n l) x) (Ok (head_of (bare_blocks (n - stem_in n l) x))) (Err StoreLayout)) labelled)

                module _ (j : judged (n - stem_in n l) W ≡ true) where
                  alone : Alone (stem W) B
                  alone =
                      subst (λ (x : List Block). T (judged (n - stem_in n l) x) → Alone (stem x) (bare_blocks (n - stem_in n l) x)) (sym labelled)
                      (judged_alone (n - stem_in n l) (drop 1 W)) (subst T (sym j) tt)

                  -- the used blocks
                  used_are : blocks_of (length (front B)) l ≡ stem W
                  used_are = ap (λ (x : ℕ). blocks_of x l) alone.used ∙ stem-taken (whole_in n l) l

                -- what the test of all marks together asks
                pub open_laid : whole_in (length l / 512) l ≤ length l / 512 → (h : Header) → passed_all (whole_in (length l / 512) l) l ≡ Ok h → Laid l h.used
                open_laid w h e = go (judged (n - stem_in n l) W) refl (sym pass_judged ∙ e)
                  where
                    go : (t : Bool) → judged (n - stem_in n l) W ≡ t → cond t (Ok (head_of B)) (Err StoreLayout) ≡ Ok h → Laid l h.used
                    go false j q = let z : ◌≡◌ {A = ℕ} 0 1 = cc in absurd (omega arith)
                    go true j q =
                        let u : head_of B ≡ h = cc in
                        let m : length (front B) ≤ whole_in n l = omega (arith, (alone j).used, stem-short W, length-blocks (whole_in n l) l) in
                        subst (λ (x : Header). Laid l x.used) u (record { room = omega (arith, m, w, size); few = omega (arith, m, w, high); laid = ap ok (used_are j) ∙ (alone j).laid })

                pub open_marked : marked_of l (passed_all (whole_in (length l / 512) l) l) ≡ open_of l
                open_marked = ap (marked_of l) pass_judged ∙ go (judged (n - stem_in n l) W) refl ∙ sym opened
                  where
                    go : (t : Bool) → judged (n - stem_in n l) W ≡ t
                        → marked_of l (cond t (Ok (head_of B)) (Err StoreLayout)) ≡ cond (t && marks_ok (marks (log_all B))) (Ok (head_of B)) (Err StoreLayout)
                    go false j = refl
                    go true j = ap (λ (g : Log). cond (marks_ok (marks g)) (Ok (head_of B)) (Err StoreLayout)) (ap log_all (used_are j) ∙ (alone j).log)

        -- no block but zero ones
        pub open_none : filled_in (length l / 512) l ≡ 0 → open_of l ≡ Err StoreLayout
        open_none f =
            let w : whole_in n l ≡ 0 = none-whole n l f in
            let c : checked_but n l ≡ true = none-checked n l f in
            let s : shaped_in n l ≡ true = ap (λ (k : ℕ). all (shaped fields_of parse fits_block) (parts k l)) w in
            let o : ok (bare_blocks (n - stem_in n l) (blocks_of (whole_in n l) l)) ≡ false =
            ap (λ (k : ℕ). ok (bare_blocks (n - stem_in n l) (blocks_of k l))) w ∙ none_bare (n - stem_in n l) l in
            opened c s ∙ rw o

-- a size that is no store's
pub open_short : (l : List ℕ) → (length l % 512 ≡ 0 → ⊥) ⊎ (((length l % 512 ≡ 0) × (length l / 512 < 2)) ⊎ ((length l % 512 ≡ 0) × (2 ≤ length l / 512) × (4_096 < length l / 512)))
    → open_of l ≡ Err StoreLength
open_short l (inl n) = open_odd l n
open_short l (inr (inl h)) = open_small l h.0 h.1
open_short l (inr (inr h)) = open_large l h.0 h.1 h.2

-- the same, over what the code knows: the f blocks up to the last that is not all zero have right checks but for the last, and m of them are whole
pub record Sealed (l : List ℕ) (m : ℕ) : Type 0 where
  pub even : length l % 512 ≡ 0
  pub low : 2 ≤ length l / 512
  pub high : length l / 512 ≤ 4_096
  pub checks : checked_but (length l / 512) l ≡ true
  pub whole : m ≡ whole_in (length l / 512) l
  pub some-whole : 1 ≤ m
  pub most : m ≤ length l / 512

pub sealed : (l : List ℕ) {f k m : ℕ} → length l % 512 ≡ 0 → 2 ≤ length l / 512 → length l / 512 ≤ 4_096
    → (f ≡ filled_in (length l / 512) l) × (f ≤ length l / 512) → (k ≡ counted_by f) × (k ≤ f) → checked k l ≡ true → (m ≡ whole_by f l) × (1 ≤ m) × (m ≤ f) → Sealed l m
sealed l {f} {k} {m} e lo hi F K C M =
    record { even = e; low = lo; high = hi; checks = sym (counted_is (length l / 512) f k l F.0 K.0) ∙ C; whole = whole_is (length l / 512) f m l F.0 M.0; some-whole = M.1; most = omega (arith, F.1, M.2) }

module _ {l : List ℕ} {m : ℕ} (S : Sealed l m) where
  shapes : (b : Bool) → all (shaped fields_of parse fits_block) (parts m l) ≡ b → shaped_in (length l / 512) l ≡ b
  shapes b s = ap (λ (x : ℕ). all (shaped fields_of parse fits_block) (parts x l)) (sym S.whole) ∙ s

  pub unshaped_open : all (shaped fields_of parse fits_block) (parts m l) ≡ false → open_of l ≡ Err StoreLayout
  unshaped_open s = open_unshaped l S.even S.low S.high S.checks (shapes false s)

  module _ (s : all (shaped fields_of parse fits_block) (parts m l) ≡ true) where
    some-here : 1 ≤ whole_in (length l / 512) l
    some-here = subst (λ (x : ℕ). 1 ≤ x) S.whole S.some-whole

    pub unlabelled_open : (kind_of (parse (take 512 l)) ≡ Label → ⊥) → open_of l ≡ Err StoreLayout
    unlabelled_open k = open_unlabelled l S.even S.low S.high S.checks (shapes true s) some-here k

    module _ (k : kind_of (parse (take 512 l)) ≡ Label) where
      pub laid_open : (h : Header) → passed_all m l ≡ Ok h → Laid l h.used
      laid_open h e =
          open_laid l S.even S.low S.high S.checks (shapes true s) some-here k (subst (λ (x : ℕ). x ≤ length l / 512) S.whole S.most) h
          (ap (λ (x : ℕ). passed_all x l) (sym S.whole) ∙ e)

      pub marked_open : marked_of l (passed_all m l) ≡ open_of l
      marked_open =
          ap (λ (x : ℕ). marked_of l (passed_all x l)) S.whole ∙ open_marked l S.even S.low S.high S.checks (shapes true s) some-here k

-- the first block is the label
first_plain : (bs : List Block) → ok bs ≡ true → is_mark (get_or bs 0 blank) ≡ false
unfolding ok
first_plain [] q = refl
first_plain (label ∷ bs) q = refl
first_plain (content r b ∷ bs) q = refl
first_plain (commit r seat stamp ls ∷ bs) q = refl
first_plain (mark x ∷ bs) q = let z : ◌≡◌ {A = ℕ} 0 1 = cc in absurd (omega arith)
first_plain (blank ∷ bs) q = refl

-- where the pass met no mark, they go together
pub open_plain : (l : List ℕ) {o : Result Passed Refusal} {h : Header} → o ≡ Ok (Plain h) → ((x : Header) → opened_as o ≡ Ok x → Laid l x.used) → Markless l o
    → Ok h ≡ marked_of l (opened_as o)
open_plain l {o} {h} e f m =
    let L : Laid l h.used = f h (ap opened_as e) in
    let M : Markless l (Ok (Plain h)) = subst (Markless l) e m in
    ap (λ (t : Bool). cond t (Ok h) (Err StoreLayout)) (markless l h.used L (λ p g. none_here p (omega (arith, length-blocks h.used l)) L M))
    ∙ sym (ap (λ (x : Result Passed Refusal). marked_of l (opened_as x)) e)
  where
    -- the label, or a block that is no mark
    none_here : (p : ℕ) → p < h.used → Laid l h.used → Markless l (Ok (Plain h)) → is_mark (get_or (blocks_of h.used l) p blank) ≡ false
    none_here zero g L M = first_plain (blocks_of h.used l) L.laid
    none_here (suc p) g L M = ap is_mark (block_at h.used (suc p) l g ∙ ap parse (lent_is l (suc p))) ∙ M (suc p) (omega arith) g

-- the table

take-zeros : (k m : ℕ) → k ≤ m → take {A = ℕ} k (replicate m 0) ≡ replicate k 0
take-zeros zero m h = refl
take-zeros (suc k) zero h = absurd (omega arith)
take-zeros (suc k) (suc m) h = ap {B = List ℕ} (λ x. 0 ∷ x) (take-zeros k m (omega arith))

fresh-row : (m : ℕ) → 32 ≤ m → rows_of 1 (replicate m 0) ≡ replicate 32 0 ∷ []
unfolding rows_of
fresh-row m h = ap {B = List Table} (λ x. x ∷ []) (take-zeros 32 m h)

pub fresh : (s : List ℕ) (n m : ℕ) → n * 512 ≤ length s → 1 ≤ n → n ≤ 4_096 → 32 * n ≤ m → Fresh s n (replicate m 0)
fresh s n m w low few e =
    record { whole = w; some = low; few = few; room = omega (arith, length-replicate {A = ℕ} m 0); first = fresh-row m (omega arith) }
