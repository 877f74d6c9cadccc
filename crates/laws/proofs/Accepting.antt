-- Every accepted store holds a sound history, and more used blocks than commits; so what holds of the machine's states holds of every pair of buffers that
-- no line from 1 to 6 refuses, whoever wrote them.
-- Assumes nothing.
use Prim.Native.Nat.{◌+◌, ◌<◌, ◌^◌, ◌≤◌, suc, zero, ℕ}
use mathlib.Core.Bool.{Bool, ◌&&◌, cond, false, true}
use mathlib.Core.List.{List, [], ◌++◌, ◌∷◌, append_assoc, append-nil, map}
use mathlib.Core.Logic.{inl, inr}
use mathlib.Core.Option.{some}
use mathlib.Core.Path.{◌∙◌, ◌≡◌, ap, refl, subst, sym}
use native.Mathlib.Omega.{arith}
use borrow.Author.Tests.{eq-eqb, leb-false, leb-true, ne_eqb}
use lib.Dec.{T, eqb, eqb→eq, leb, lit≤}
use lib.ListN.{get_or-append, get_or-eq_default, get_or, length, length-append, replicate, set, take}
use lib.Seq.{get_or-append_seam, take-append-le, take-length}
use Rattle.block.proofs.Says.{and_true, eq_or}
use Rattle.block.specs.Lists.{All, all}
use Rattle.model.specs.Blocks.{Action, Block, FitsBlock, Line, adds, blank, bytes_at, changes, commit, content, copies, deletes, held, label, mark}
use Rattle.model.specs.History.{Change, Commit, History, applied, newest, nothing, present, sheet, tree, tree_from, tree₀}
use Rattle.model.specs.Invariant.{Made, Right, Short, Sound}
use Rattle.model.specs.Layout.{Laid, Lays, NoneTwice, Rule, RuleAs, Table, latest, means, means_as, next, one_if, pointed, puts, user}
use Rattle.model.specs.Machine.{count}
use Rattle.model.specs.Pass.{grown, is_blank, laid, no_changes, ok, ok_from, read_all, read_from, stands, stated}
use Rattle.model.specs.Rows.{total}
use Rattle.model.specs.Store.{front}
use Rattle.laws.proofs.Acceptance.{laid_so, lays_accepted, no_change, places}
use Rattle.laws.proofs.All.{All-get_or, All-map, All-snoc}
use Rattle.laws.proofs.Append.{Below, grown_below, wider, zero_below}
use Rattle.laws.proofs.Bridge.{has, lacks}
use Rattle.laws.proofs.Puts.{length-puts, puts-other}
use Rattle.laws.proofs.Rows.{set-any}
use Rattle.laws.proofs.Tables.{latest_snoc, length-next, next-tree, slot}
use Rattle.laws.proofs.Trees.{sound-grown, tree_from-append}

-- ---- sums over the rows of a commit

-- a row that was empty, filled
total-set : (f : Change → ℕ) (cs : List Change) (i : ℕ) (v : Change) → f nothing ≡ 0 → i < length cs → get_or cs i nothing ≡ nothing → total f (set cs i v) ≡ f v + total f cs
total-set f [] i v z l e = absurd (omega arith)
total-set f (c ∷ cs) zero v z l e = let q : f c ≡ 0 = ap f e ∙ z in omega (arith, q)
total-set f (c ∷ cs) (suc i) v z l e = let q : total f (set cs i v) ≡ f v + total f cs = total-set f cs i v z (omega arith) e in omega (arith, q)

total-none : (f : Change → ℕ) (n : ℕ) → f nothing ≡ 0 → total f (replicate n nothing) ≡ 0
total-none f zero z = refl
total-none f (suc n) z = omega (arith, total-none f n z, z)

pub total-puts : (f : Change → ℕ) (look : ℕ → List ℕ) (ls : List Line) → f nothing ≡ 0 → NoneTwice ls → All (λ (l : Line). l.sheet < 32) ls
    → total f (puts (means look) ls no_changes) ≡ total (λ (l : Line). f (means look l)) ls
unfolding no_changes
total-puts f look [] z n a = total-none f 32 z
total-puts f look (l ∷ ls) z n a =
    let cs : List Change = puts (means look) ls no_changes in
    let w : length cs ≡ 32 = length-puts (means look) ls no_changes ∙ places in
    let e : get_or cs l.sheet nothing ≡ nothing = puts-other (means look) ls no_changes l.sheet nothing n.0 ∙ no_change l.sheet in
    total-set f cs l.sheet (means look l) z (omega (arith, w, a.0)) e
    ∙ ap (λ (m : ℕ). f (means look l) + m) (total-puts f look ls z n.1 a.1)

-- "number of changes m": each line is one named row
pub count-lines : (look : ℕ → List ℕ) (ls : List Line) → total (λ (l : Line). count (means look l)) ls ≡ length ls
unfolding means
count-lines look [] = refl
count-lines look (l ∷ ls) = let q : total (λ (l : Line). count (means look l)) ls ≡ length ls = count-lines look ls in go l.action q
  where
    go : (a : Action) → total (λ (l : Line). count (means look l)) ls ≡ length ls → count (means_as look a l) + total (λ (l : Line). count (means look l)) ls ≡ suc (length ls)
    go adds q = omega arith
    go changes q = omega arith
    go deletes q = omega arith
    go copies q = omega arith

-- ---- each content block is pointed to by just one line: so as many lines have one as there are

-- 1 where b is one of the n numbers from a on, else 0
abbrev hit : ℕ → ℕ → ℕ → ℕ
hit a zero b = 0
hit a (suc n) b = cond (eqb b a) 1 0 + hit (suc a) n b

hit_out : (a n b : ℕ) → b < a → hit a n b ≡ 0
hit_out a zero b h = refl
hit_out a (suc n) b h = rw (ne_eqb b a (λ e. omega arith)) (omega (arith, hit_out (suc a) n b (omega arith)))

-- how often the n blocks from a on are pointed to
abbrev pointers : ℕ → ℕ → List Line → ℕ
pointers a zero ls = 0
pointers a (suc n) ls = pointed a ls + pointers (suc a) n ls

pointers_none : (a n : ℕ) → pointers a n [] ≡ 0
pointers_none a zero = refl
pointers_none a (suc n) = omega (arith, pointers_none (suc a) n)

one-cond : (t : Bool) (n : ℕ) → one_if t n ≡ cond t 1 0 + n
one-cond true n = omega arith
one-cond false n = omega arith

pointers_cons : (a n : ℕ) (l : Line) (ls : List Line) → pointers a n (l ∷ ls) ≡ hit a n l.block + pointers a n ls
pointers_cons a zero l ls = refl
pointers_cons a (suc n) l ls = omega (arith, one-cond (eqb l.block a) (pointed a ls), pointers_cons (suc a) n l ls)

pointers_each : (a n : ℕ) (ls : List Line) → ((p : ℕ) → a ≤ p → p < a + n → pointed p ls ≡ 1) → pointers a n ls ≡ n
pointers_each a zero ls f = refl
pointers_each a (suc n) ls f =
    omega (arith, f a (omega arith) (omega arith), pointers_each (suc a) n ls (λ p h g. f p (omega arith) (omega arith)))

hit_few : (a n b : ℕ) → hit a n b ≤ 1
hit_few a zero b = omega arith
hit_few a (suc n) b =
    elim (eq_or b a) [
      | inl e ↦ rw (eq-eqb b a e) (omega (arith, hit_out (suc a) n b (omega arith)))
      | inr ne ↦ rw (ne_eqb b a ne) (omega (arith, hit_few (suc a) n b))
    ]

pointers_few : (a n : ℕ) (ls : List Line) → pointers a n ls ≤ length ls
pointers_few a n [] = omega (arith, pointers_none a n)
pointers_few a n (l ∷ ls) = omega (arith, pointers_few a n ls, pointers_cons a n l ls, hit_few a n l.block)

-- no more blocks than lines
pub pointed-few : (a n : ℕ) (ls : List Line) → ((p : ℕ) → a ≤ p → p < a + n → pointed p ls ≡ 1) → n ≤ length ls
pointed-few a n ls f = omega (arith, pointers_each a n ls f, pointers_few a n ls)

-- ---- one commit block

short-held : (b : Block) → FitsBlock b → Short (held b)
short-held label f = record { size = lit≤ tt; bytes = tt }
short-held (content r x) f = record { size = f.1; bytes = f.2 }
short-held (commit r s t ls) f = record { size = lit≤ tt; bytes = tt }
short-held (mark m) f = record { size = lit≤ tt; bytes = tt }
short-held blank f = record { size = lit≤ tt; bytes = tt }

-- the tables so far are the trees of the commits so far
pub record Known (look : ℕ → List ℕ) (tables : List Table) (g : History) : Type 0 where
  pub count : length tables ≡ suc (length g)
  pub each : (v : ℕ) → v ≤ length g → map (slot look) (get_or tables v []) ≡ tree g v
  pub wide : All (λ (t : Table). length t ≡ 32) tables
  pub newest : map (slot look) (latest tables) ≡ tree g (length g)

module _ (look : ℕ → List ℕ) (short : (p : ℕ) → Short (look p)) (at k : ℕ) (tables : List Table) (g : History)
    (low : 1 ≤ at) (N : Known look tables g) (below : All (Below at) tables)
  where
    gone : (i : ℕ) → get_or (latest tables) i 0 ≡ 0 → present (newest g i) ≡ false
    gone i q = ap present (lacks look (latest tables) (tree g (length g)) N.newest i q)

    here : (i : ℕ) → (get_or (latest tables) i 0 ≡ 0 → ⊥) → present (newest g i) ≡ true
    here i q = ap present (has look (latest tables) (tree g (length g)) N.newest i q)

    source : (v s : ℕ) → v < length tables → (user look at k tables v s ≡ 0 → ⊥) → sheet g v s ≡ some (look (user look at k tables v s))
    source v s h n = has look (get_or tables v []) (tree g v) (N.each v (omega (arith, N.count))) s n

    source-low : (v s : ℕ) → v < length tables → (user look at k tables v s ≡ 0 → ⊥) → s ≤ 31
    source-low v s h n = go (leb s 31) refl
      where
        go : (t : Bool) → leb s 31 ≡ t → s ≤ 31
        go true e = leb-true s 31 e
        go false e =
            let w : length (get_or tables v []) ≤ 32 = All-get_or (λ (t : Table). length t ≤ 32) tables v [] (All-map (λ (t : Table). length t ≡ 32) (λ (t : Table). length t ≤ 32) tables (λ t q. omega arith) N.wide) (lit≤ tt) in
            absurd (n (get_or-eq_default (get_or tables v []) 0 {n = s} (omega (arith, leb-false s 31 e))))

    right-line : (l : Line) → Rule look at k tables l → Right g l.sheet (means look l)
    unfolding means
    right-line l r = go l.action r.1
      where
        go : (a : Action) → RuleAs look at k tables a l → Right g l.sheet (means_as look a l)
        go adds q = (gone l.sheet q.0, short l.block)
        go changes q = (here l.sheet q.0, short l.block)
        go deletes q = here l.sheet q.0
        go copies q = (
          gone l.sheet q.0,
          source-low l.revision l.source q.1.1 q.2,
          record { low = q.1.0; high = omega (arith, q.1.1, N.count); there = ap present (source l.revision l.source q.1.1 q.2) },
          short l.block,
        )

    right-rows : (ls : List Line) (i : ℕ) → All (Rule look at k tables) ls → Right g i (get_or (puts (means look) ls no_changes) i nothing)
    right-rows [] i a = subst (Right g i) (sym (no_change i)) tt
    right-rows (l ∷ ls) i a =
        set-any (Right g i) (puts (means look) ls no_changes) l.sheet i nothing
        (λ e. subst (λ (j : ℕ). Right g j (means look l)) (sym e) (right-line l a.0))
        (right-rows ls i a.1)

    module _ (seat stamp : ℕ) (ls : List Line) (t : T (laid look at k tables seat ls)) where
      block : Laid look at k tables ls (stated look seat stamp ls)
      block = laid_so look at k tables seat stamp ls t

      inside : All (λ (l : Line). l.sheet < 32) ls
      inside = All-map (Rule look at k tables) (λ (l : Line). l.sheet < 32) ls (λ l r. r.0) block.rules

      -- the changes that log counts are the commit block's
      pub changes-count : total count (puts (means look) ls no_changes) ≡ length ls
      changes-count = total-puts count look ls refl block.none_twice_holds inside ∙ count-lines look ls

      pub made-block : stamp < 2 ^ 32 → Made g (stated look seat stamp ls)
      unfolding stated
      made-block small = record {
        low = block.seat-low;
        high = block.seat-high;
        stamp = small;
        wide = block.size;
        some = omega (arith, changes-count, block.some-line);
        right = λ i. right-rows ls i block.rules;
      }

      wide-latest : (ts : List Table) (n : ℕ) → length ts ≡ suc n → All (λ (t : Table). length t ≡ 32) ts → length (latest ts) ≡ 32
      wide-latest [] n e a = absurd (omega arith)
      wide-latest (u ∷ []) n e a = a.0
      wide-latest (u ∷ (w ∷ ts)) n e a = wide-latest (w ∷ ts) (length ts) refl a.1

      -- one commit more
      pub known_next : Known look (grown tables ls) (g ++ (stated look seat stamp ls ∷ []))
      unfolding tree stated
      known_next =
          let c : Commit = stated look seat stamp ls in
          let lc : length (g ++ (c ∷ [])) ≡ suc (length g) = omega (arith, length-append g (c ∷ [])) in
          let wl : length (latest tables) ≡ 32 = wide-latest tables (length g) N.count N.wide in
          let top : map (slot look) (next ls (latest tables)) ≡ tree_from tree₀ (take (suc (length g)) (g ++ (c ∷ []))) =
          next-tree look at k tables low ls (latest tables) block.rules wl
          ∙ ap (applied c.changes) (N.newest ∙ ap (tree_from tree₀) (take-length g))
          ∙ sym (tree_from-append tree₀ g (c ∷ []))
          ∙ ap (tree_from tree₀) (sym (take-length (g ++ (c ∷ []))) ∙ ap (λ (n : ℕ). take n (g ++ (c ∷ []))) lc) in
          record {
            count = (let e : length (tables ++ (next ls (latest tables) ∷ [])) ≡ length tables + 1 = length-append tables (next ls (latest tables) ∷ []) in omega (arith, e, lc, N.count));
            each = λ v h. elim (eq_or v (suc (length g))) [
              | inl e ↦
                  (let z : v ≡ length tables = omega (arith, N.count) in
                  ap (λ (n : ℕ). map (slot look) (get_or (tables ++ (next ls (latest tables) ∷ [])) n [])) z
                  ∙ ap (map (slot look)) (get_or-append_seam tables (next ls (latest tables)) [] [])
                  ∙ top ∙ ap (λ (n : ℕ). tree_from tree₀ (take n (g ++ (c ∷ [])))) (sym e))
              | inr ne ↦
                  (let le : v ≤ length g = omega (arith, lc) in
                  ap (map (slot look)) (get_or-append tables (next ls (latest tables) ∷ []) [] v (omega (arith, N.count)))
                  ∙ N.each v le ∙ ap (tree_from tree₀) (sym (take-append-le v g (c ∷ []) le)))
            ];
            wide = All-snoc (λ (t : Table). length t ≡ 32) tables (next ls (latest tables)) N.wide (length-next ls (latest tables) ∙ wl);
            newest = ap (map (slot look)) (latest_snoc tables (next ls (latest tables))) ∙ top ∙ ap (λ (n : ℕ). tree_from tree₀ (take n (g ++ (c ∷ [])))) (sym lc);
          }

-- ---- the whole store

module _ (look : ℕ → List ℕ) (short : (p : ℕ) → Short (look p)) where
  -- from the commits g on, whose blocks end before block `at`, past k content blocks
  accept_from : (at k : ℕ) (tables : List Table) (g : History) (bs : List Block) → 1 ≤ at → Known look tables g → All (Below at) tables → length g < at → Sound g
      → All FitsBlock bs → T (ok_from look at k tables bs) → Sound (g ++ read_from look bs) × (length (g ++ read_from look bs) < at + k + length (front bs))
  unfolding ok_from read_from
  accept_from at k tables g [] low N below u s f t =
      let e : g ++ [] ≡ g = append-nil g in
      let z : k ≡ 0 = eqb→eq k 0 t in
      (rw e s, rw e (omega (arith, z)))
  accept_from at k tables g (label ∷ bs) low N below u s f t = absurd t
  accept_from at k tables g (content r b ∷ bs) low N below u s f t =
      let p = and_true (eqb r (length tables)) (ok_from look at (suc k) tables bs) t in
      let q = accept_from at (suc k) tables g bs low N below u s f.1 p.1 in
      (q.0, omega (arith, q.1))
  accept_from at k tables g (commit r seat stamp ls ∷ bs) low N below u s f t =
      let p = and_true (eqb r (length tables)) (laid look at k tables seat ls && ok_from look (suc (at + k)) 0 (grown tables ls) bs) t in
      let o = and_true (laid look at k tables seat ls) (ok_from look (suc (at + k)) 0 (grown tables ls) bs) p.1 in
      let c : Commit = stated look seat stamp ls in
      let m : Made g c = made-block look short at k tables g low N below seat stamp ls o.0 f.0.2 in
      let n : length (g ++ (c ∷ [])) < suc (at + k) = omega (arith, length-append g (c ∷ [])) in
      let q = accept_from (suc (at + k)) 0 (grown tables ls) (g ++ (c ∷ [])) bs (omega arith) (known_next look short at k tables g low N below seat stamp ls o.0)
      (grown_below look look (at + k) (λ p h. refl) at k tables low (omega arith) below seat ls o.0) n (sound-grown g c s m) f.1 o.1 in
      let e : (g ++ (c ∷ [])) ++ read_from look bs ≡ g ++ (c ∷ read_from look bs) = append_assoc g (c ∷ []) (read_from look bs) in
      (subst Sound e q.0, omega (arith, q.1, ap length e))
  accept_from at k tables g (mark m ∷ bs) low N below u s f t =
      let p = and_true (eqb k 0) (stands tables m && ok_from look (suc at) 0 tables bs) t in
      let q = accept_from (suc at) 0 tables g bs (omega arith) N (wider at tables below) (omega arith) s f.1 (and_true (stands tables m) (ok_from look (suc at) 0 tables bs) p.1).1 in
      (q.0, omega (arith, q.1))
  accept_from at k tables g (blank ∷ bs) low N below u s f t =
      let e : g ++ [] ≡ g = append-nil g in
      let z : k ≡ 0 = eqb→eq k 0 (and_true (eqb k 0) (all is_blank bs) t).0 in
      (rw e s, rw e (omega (arith, z)))

short_at : (bs : List Block) → All FitsBlock bs → (p : ℕ) → Short (bytes_at bs p)
unfolding bytes_at
short_at bs f p = short-held (get_or bs p blank) (All-get_or FitsBlock bs p blank f tt)

known_start : (look : ℕ → List ℕ) → Known look (replicate 32 0 ∷ []) []
unfolding tree slot
known_start look = record { count = refl; each = each; wide = (refl, tt); newest = refl }
  where
    each : (v : ℕ) → v ≤ 0 → map (slot look) (get_or (replicate 32 0 ∷ []) v []) ≡ tree [] v
    each zero h = refl
    each (suc v) h = absurd (omega arith)

-- THE STATEMENT: the history in an accepted store is sound, and shorter than the used blocks are many
pub accepted-sound : (bs : List Block) (h : History) → All FitsBlock bs → Lays bs h → Sound h × (length h < length (front bs))
unfolding ok read_all
accepted-sound bs h f m = go bs f (lays_accepted bs h m)
  where
    go : (bs : List Block) → All FitsBlock bs → T (ok bs) × (read_all bs ≡ h) → Sound h × (length h < length (front bs))
    go [] f a = absurd a.0
    go (label ∷ bs) f a =
        let look = bytes_at (label ∷ bs) in
        let r = accept_from look (short_at (label ∷ bs) f) 1 0 (replicate 32 0 ∷ []) [] bs (lit≤ tt) (known_start look) (zero_below 32, tt) (omega arith) (λ r lt. absurd (omega arith)) f.1 a.0 in
        (subst Sound a.1 r.0, omega (arith, r.1, ap length a.1))
    go (content r b ∷ bs) f a = absurd a.0
    go (commit r seat stamp ls ∷ bs) f a = absurd a.0
    go (mark m ∷ bs) f a = absurd a.0
    go (blank ∷ bs) f a = absurd a.0
