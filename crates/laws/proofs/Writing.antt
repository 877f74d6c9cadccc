-- A commit that the machine makes, written after the used blocks, leaves the layout of the longer history.
-- Assumes nothing.
use Prim.Native.Nat.{◌+◌, ◌-◌, ◌<◌, ◌≤◌, suc, ℕ}
use mathlib.Core.Bool.{Bool, ◌&&◌, cond, false, not, true}
use mathlib.Core.List.{List, [], ◌++◌, ◌∷◌, map}
use mathlib.Core.Option.{Option, none, some}
use mathlib.Core.Path.{◌∙◌, ◌≡◌, ap, refl, subst, sym}
use native.Mathlib.Nat.{zero-add}
use native.Mathlib.Omega.{arith}
use lib.Dec.{T, eqb}
use lib.ListN.{drop, get_or, length, length-append, length-drop, length-map, replicate}
use Rattle.block.proofs.Says.{and_true}
use Rattle.block.specs.Lists.{All, all, same}
use Rattle.model.specs.Blocks.{Block, FitsBlock, FitsLine, blank, bytes_at, commit, content, fields_of, fits_block, label, mark, parse}
use Rattle.model.specs.Codec.{joined, parts}
use Rattle.model.specs.History.{Bytes, Change, Commit, History, add, change, copy, delete, is_bytes, last, newest, nothing, present, sheet, tree}
use Rattle.model.specs.Invariant.{Base, Made, Right, Short}
use Rattle.model.specs.Layout.{Lays, LaysLog, Table, user}
use Rattle.model.specs.Log.{Log, Marked, a_commit, commits, marks}
use Rattle.model.specs.Machine.{blocks_for, content_of, count}
use Rattle.model.specs.Pass.{grown, is_blank, laid, log_all, ok, ok_from, stands, tables_after, tables_of}
use Rattle.model.specs.Rows.{total}
use Rattle.model.specs.Tail.{Stored}
use Rattle.model.specs.Store.{Holds, HoldsLog, blanks, blocks_of, front}
use Rattle.model.specs.Writing.{Plan, contents_for, lines_for, new_blocks, new_contents, new_lines, plan_copy, plan_of, with_commit}
use Rattle.laws.proofs.Acceptance.{lays_accepted, log_lays, logs-accepted}
use Rattle.laws.proofs.All.{all_append, all_drop, all_left, all_right}
use Rattle.laws.proofs.Append.{user-low}
use Rattle.laws.proofs.BlockCodes.{block_coded}
use Rattle.laws.proofs.Bridge.{Allowed, Trees, has, lacks, trees_of}
use Rattle.laws.proofs.Codec.{so_parts}
use Rattle.laws.proofs.Grows.{AllowedFrom, allowed_lays, tables_below}
use Rattle.laws.proofs.Logs.{commits-append, marks-commit}

-- ---- the used blocks and the blank ones

pub front-blanks : (bs : List Block) → front bs ++ blanks bs ≡ bs
front-blanks [] = refl
front-blanks (label ∷ bs) = ap (λ (l : List Block). label ∷ l) (front-blanks bs)
front-blanks (content r b ∷ bs) = ap (λ (l : List Block). content r b ∷ l) (front-blanks bs)
front-blanks (commit r s t ls ∷ bs) = ap (λ (l : List Block). commit r s t ls ∷ l) (front-blanks bs)
front-blanks (mark m ∷ bs) = ap (λ (l : List Block). mark m ∷ l) (front-blanks bs)
front-blanks (blank ∷ bs) = refl

pub no_blank : (bs : List Block) → T (all (λ b. not (is_blank b)) (front bs))
no_blank [] = tt
no_blank (label ∷ bs) = no_blank bs
no_blank (content r b ∷ bs) = no_blank bs
no_blank (commit r s t ls ∷ bs) = no_blank bs
no_blank (mark m ∷ bs) = no_blank bs
no_blank (blank ∷ bs) = tt

all-blank : (bs : List Block) → T (all is_blank bs) → All (λ (b : Block). b ≡ blank) bs
all-blank [] t = tt
all-blank (label ∷ bs) t = absurd t
all-blank (content r b ∷ bs) t = absurd t
all-blank (commit r s u ls ∷ bs) t = absurd t
all-blank (mark m ∷ bs) t = absurd t
all-blank (blank ∷ bs) t = (refl, all-blank bs t)

blank-after : (look : ℕ → List ℕ) (at k : ℕ) (tables : List Table) (bs : List Block) → T (ok_from look at k tables bs) → All (λ (b : Block). b ≡ blank) (blanks bs)
unfolding ok_from
blank-after look at k tables [] t = tt
blank-after look at k tables (label ∷ bs) t = absurd t
blank-after look at k tables (content r b ∷ bs) t =
    blank-after look at (suc k) tables bs (and_true (eqb r (length tables)) (ok_from look at (suc k) tables bs) t).1
blank-after look at k tables (commit r seat stamp ls ∷ bs) t =
    let p = and_true (eqb r (length tables)) (laid look at k tables seat ls && ok_from look (suc (at + k)) 0 (grown tables ls) bs) t in
    blank-after look (suc (at + k)) 0 (grown tables ls) bs (and_true (laid look at k tables seat ls) (ok_from look (suc (at + k)) 0 (grown tables ls) bs) p.1).1
blank-after look at k tables (mark m ∷ bs) t =
    let p = and_true (eqb k 0) (stands tables m && ok_from look (suc at) 0 tables bs) t in
    blank-after look (suc at) 0 tables bs (and_true (stands tables m) (ok_from look (suc at) 0 tables bs) p.1).1
blank-after look at k tables (blank ∷ bs) t = (refl, all-blank bs (and_true (eqb k 0) (all is_blank bs) t).1)

pub blank-rest : (bs : List Block) → T (ok bs) → All (λ (b : Block). b ≡ blank) (blanks bs)
unfolding ok
blank-rest [] t = absurd t
blank-rest (label ∷ bs) t = blank-after (bytes_at (label ∷ bs)) 1 0 (replicate 32 0 ∷ []) bs t
blank-rest (content r b ∷ bs) t = absurd t
blank-rest (commit r seat stamp ls ∷ bs) t = absurd t
blank-rest (mark m ∷ bs) t = absurd t
blank-rest (blank ∷ bs) t = absurd t

pub some-front : (bs : List Block) → T (ok bs) → 1 ≤ length (front bs)
unfolding ok
some-front [] t = absurd t
some-front (label ∷ bs) t = omega arith
some-front (content r b ∷ bs) t = absurd t
some-front (commit r seat stamp ls ∷ bs) t = absurd t
some-front (mark m ∷ bs) t = absurd t
some-front (blank ∷ bs) t = absurd t

pub front-append : (f g : List Block) → T (all (λ b. not (is_blank b)) f) → front (f ++ g) ≡ f ++ front g
front-append [] g t = refl
front-append (label ∷ f) g t = ap (λ (l : List Block). label ∷ l) (front-append f g t)
front-append (content r b ∷ f) g t = ap (λ (l : List Block). content r b ∷ l) (front-append f g t)
front-append (commit r s u ls ∷ f) g t = ap (λ (l : List Block). commit r s u ls ∷ l) (front-append f g t)
front-append (mark m ∷ f) g t = ap (λ (l : List Block). mark m ∷ l) (front-append f g t)
front-append (blank ∷ f) g t = absurd t

front-contents : (r : ℕ) (cs : List (List ℕ)) (g : List Block) → front (map (content r) cs ++ g) ≡ map (content r) cs ++ front g
front-contents r [] g = refl
front-contents r (b ∷ cs) g = ap (λ (l : List Block). content r b ∷ l) (front-contents r cs g)

pub front-none : (bs : List Block) → All (λ (b : Block). b ≡ blank) bs → front bs ≡ []
front-none [] a = refl
front-none (b ∷ bs) a = ap (λ (x : Block). front (x ∷ bs)) a.0

-- ---- what a store's blocks are

pub record Blocks (n : ℕ) (l : Bytes) (h : History) (bs : List Block) : Type 0 where
  pub count : length bs ≡ n
  pub fit : All FitsBlock bs
  pub bytes : joined fields_of bs ≡ l
  pub lays : Lays bs h

-- the same with the marks
pub record Logged (n : ℕ) (l : Bytes) (g : Log) (bs : List Block) : Type 0 where
  pub count : length bs ≡ n
  pub fit : All FitsBlock bs
  pub bytes : joined fields_of bs ≡ l
  pub lays : LaysLog bs g
  pub marked : Marked (marks g)

pub blocks-back : (n : ℕ) (bs : List Block) → length bs ≡ n → All FitsBlock bs → blocks_of n (joined fields_of bs) ≡ bs
unfolding blocks_of
blocks-back n bs e a =
    ap (λ (m : ℕ). map parse (parts m (joined fields_of bs))) (sym e) ∙ (so_parts fields_of parse fits_block FitsBlock block_coded bs a).2

pub holds-log : (n : ℕ) (l : Bytes) (g : Log) → HoldsLog n l g → Logged n l g (blocks_of n l)
unfolding HoldsLog
holds-log n l g m =
    let e : blocks_of n l ≡ m.0 = ap (blocks_of n) (sym m.3) ∙ blocks-back n m.0 m.1 m.2 in
    subst (Logged n l g) (sym e) (record { count = m.1; fit = m.2; bytes = m.3; lays = m.4; marked = m.5 })

pub holds-blocks : (n : ℕ) (l : Bytes) (h : History) → Holds n l h → Blocks n l h (blocks_of n l)
unfolding Holds
holds-blocks n l h m =
    let B = holds-log n l m.0 m.2 in
    record { count = B.count; fit = B.fit; bytes = B.bytes; lays = subst (Lays (blocks_of n l)) m.1 (log_lays (blocks_of n l) m.0 B.lays) }

-- ---- one commit

abbrev RightFrom : History → ℕ → List Change → Type 0
RightFrom h i [] = Unit {0}
RightFrom h i (c ∷ cs) = Right h i c × RightFrom h (suc i) cs

right_from : (h : History) (i : ℕ) (cs : List Change) → ((j : ℕ) → Right h (i + j) (get_or cs j nothing)) → RightFrom h i cs
right_from h i [] f = tt
right_from h i (c ∷ cs) f =
    (let e : i + 0 ≡ i = omega arith in rw e at (f 0), right_from h (suc i) cs (λ j. let e : i + suc j ≡ suc i + j = omega arith in rw e at (f (suc j))))

pub is_none : (o : Option Bytes) → present o ≡ false → o ≡ none
is_none none e = refl
is_none (some x) e = let z : ◌≡◌ {A = ℕ} 0 1 = cc in absurd (omega arith)

pub is_some : (o : Option Bytes) → present o ≡ true → o ≡ none → ⊥
is_some none e q = let z : ◌≡◌ {A = ℕ} 0 1 = cc in omega arith
is_some (some x) e q = let z : ◌≡◌ {A = ℕ} 0 1 = cc in omega arith

allowed : (h : History) (i : ℕ) (c : Change) → Right h i c → Allowed h i c
allowed h i nothing r = tt
allowed h i (add x) r = is_none (newest h i) r.0
allowed h i (change x) r = is_some (newest h i) r.0
allowed h i delete r = is_some (newest h i) r
allowed h i (copy s v x) r = (is_none (newest h i) r.0, (r.2.low, r.2.high), is_some (sheet h v s) r.2.there)

alloweds : (h : History) (i : ℕ) (cs : List Change) → RightFrom h i cs → AllowedFrom h i cs
alloweds h i [] r = tt
alloweds h i (c ∷ cs) r = (allowed h i c r.0, alloweds h (suc i) cs r.1)

total-low : (cs : List Change) → total count cs ≤ length cs
total-low [] = omega arith
total-low (nothing ∷ cs) = omega (arith, total-low cs)
total-low (add x ∷ cs) = omega (arith, total-low cs)
total-low (change x ∷ cs) = omega (arith, total-low cs)
total-low (delete ∷ cs) = omega (arith, total-low cs)
total-low (copy s r x ∷ cs) = omega (arith, total-low cs)

-- each copy has a source that is there
abbrev pub Sources : History → List Change → Type 0
Sources h [] = Unit {0}
Sources h (nothing ∷ cs) = Sources h cs
Sources h (add x ∷ cs) = Sources h cs
Sources h (change x ∷ cs) = Sources h cs
Sources h (delete ∷ cs) = Sources h cs
Sources h (copy s v x ∷ cs) = Base h v s × Sources h cs

right_sources : (h : History) (i : ℕ) (cs : List Change) → RightFrom h i cs → Sources h cs
right_sources h i [] r = tt
right_sources h i (nothing ∷ cs) r = right_sources h (suc i) cs r.1
right_sources h i (add x ∷ cs) r = right_sources h (suc i) cs r.1
right_sources h i (change x ∷ cs) r = right_sources h (suc i) cs r.1
right_sources h i (delete ∷ cs) r = right_sources h (suc i) cs r.1
right_sources h i (copy s v x ∷ cs) r = (r.0.2, right_sources h (suc i) cs r.1)

pub made_sources : (h : History) (c : Commit) → Made h c → Sources h c.changes
made_sources h c M = right_sources h 0 c.changes (right_from h 0 c.changes (λ j. rw zero-add (M.right j)))

fits-contents : (r : ℕ) (bs : List (List ℕ)) → r < 65_536 → All Short bs → All FitsBlock (map (content r) bs)
fits-contents r [] h a = tt
fits-contents r (b ∷ bs) h a = ((h, a.0.size, a.0.bytes), fits-contents r bs h a.1)

module _ (look : ℕ → List ℕ) (at : ℕ) (tables : List Table) (h : History)
    (source : (v s : ℕ) → Base h v s → sheet h v s ≡ some (look (user look at 0 tables v s)))
    (below : (v s : ℕ) → user look at 0 tables v s < at) (room : at ≤ 4_096) (short : last h < 65_536)
  where
    abbrev plan : Change → Plan
    plan = plan_of look at 0 tables

    pub line-count : (cs : List Change) (i p : ℕ) → length (lines_for i p (map plan cs)) ≡ total count cs
    line-count [] i p = refl
    line-count (nothing ∷ cs) i p = line-count cs (suc i) p ∙ sym (zero-add (total count cs))
    line-count (add x ∷ cs) i p = omega (arith, line-count cs (suc i) (suc p))
    line-count (change x ∷ cs) i p = omega (arith, line-count cs (suc i) (suc p))
    line-count (delete ∷ cs) i p = omega (arith, line-count cs (suc i) p)
    line-count (copy s v x ∷ cs) i p = go (same x (look (user look at 0 tables v s))) (line-count cs (suc i) (suc p)) (line-count cs (suc i) p)
      where
        go : (t : Bool) → length (lines_for (suc i) (suc p) (map plan cs)) ≡ total count cs → length (lines_for (suc i) p (map plan cs)) ≡ total count cs
            → length (lines_for i p (plan_copy look at 0 tables t s v ∷ map plan cs)) ≡ 1 + total count cs
        go true e f = omega arith
        go false e f = omega arith

    -- k, as the machine counts it
    pub content-count : (cs : List Change) → Sources h cs → length (contents_for cs (map plan cs)) ≡ total (content_of h) cs
    content-count [] r = refl
    content-count (nothing ∷ cs) r = content-count cs r ∙ sym (zero-add (total (content_of h) cs))
    content-count (add x ∷ cs) r = omega (arith, content-count cs r)
    content-count (change x ∷ cs) r = omega (arith, content-count cs r)
    content-count (delete ∷ cs) r = content-count cs r ∙ sym (zero-add (total (content_of h) cs))
    content-count (copy s v x ∷ cs) r =
        go (same x (look (user look at 0 tables v s))) (content-count cs r.1)
        ∙ ap (λ (o : Option Bytes). cond (is_bytes x o) 0 1 + total (content_of h) cs) (sym (source v s r.0))
      where
        go : (t : Bool) → length (contents_for cs (map plan cs)) ≡ total (content_of h) cs
            → length (contents_for (copy s v x ∷ cs) (plan_copy look at 0 tables t s v ∷ map plan cs)) ≡ cond t 0 1 + total (content_of h) cs
        go true e = omega arith
        go false e = omega arith

    short-contents : (cs : List Change) (i : ℕ) → RightFrom h i cs → All Short (contents_for cs (map plan cs))
    short-contents [] i r = tt
    short-contents (nothing ∷ cs) i r = short-contents cs (suc i) r.1
    short-contents (add x ∷ cs) i r = (r.0.1, short-contents cs (suc i) r.1)
    short-contents (change x ∷ cs) i r = (r.0.1, short-contents cs (suc i) r.1)
    short-contents (delete ∷ cs) i r = short-contents cs (suc i) r.1
    short-contents (copy s v x ∷ cs) i r = go (same x (look (user look at 0 tables v s))) (short-contents cs (suc i) r.1)
      where
        go : (t : Bool) → All Short (contents_for cs (map plan cs)) → All Short (contents_for (copy s v x ∷ cs) (plan_copy look at 0 tables t s v ∷ map plan cs))
        go true a = a
        go false a = (r.0.3, a)

    fits-lines : (cs : List Change) (i p : ℕ) → RightFrom h i cs → i + length cs ≤ 32 → p + length (contents_for cs (map plan cs)) ≤ 4_096
        → All FitsLine (lines_for i p (map plan cs))
    fits-lines [] i p r n q = tt
    fits-lines (nothing ∷ cs) i p r n q = fits-lines cs (suc i) p r.1 (omega arith) q
    fits-lines (add x ∷ cs) i p r n q = ((omega arith, omega arith, omega arith, omega arith), fits-lines cs (suc i) (suc p) r.1 (omega arith) (omega arith))
    fits-lines (change x ∷ cs) i p r n q = ((omega arith, omega arith, omega arith, omega arith), fits-lines cs (suc i) (suc p) r.1 (omega arith) (omega arith))
    fits-lines (delete ∷ cs) i p r n q = ((omega arith, omega arith, omega arith, omega arith), fits-lines cs (suc i) p r.1 (omega arith) q)
    fits-lines (copy s v x ∷ cs) i p r n q =
        go (same x (look (user look at 0 tables v s))) q (λ e. fits-lines cs (suc i) p r.1 (omega arith) e) (λ e. fits-lines cs (suc i) (suc p) r.1 (omega arith) e)
      where
        go : (t : Bool) → p + length (contents_for (copy s v x ∷ cs) (plan_copy look at 0 tables t s v ∷ map plan cs)) ≤ 4_096
            → (p + length (contents_for cs (map plan cs)) ≤ 4_096 → All FitsLine (lines_for (suc i) p (map plan cs)))
            → (suc p + length (contents_for cs (map plan cs)) ≤ 4_096 → All FitsLine (lines_for (suc i) (suc p) (map plan cs)))
            → All FitsLine (lines_for i p (plan_copy look at 0 tables t s v ∷ map plan cs))
        go true q f g = ((omega arith, omega (arith, below v s), omega (arith, r.0.1), omega (arith, r.0.2.high)), f q)
        go false q f g = ((omega arith, omega arith, omega (arith, r.0.1), omega (arith, r.0.2.high)), g (omega arith))

after_front : (ts : List Table) (bs : List Block) → tables_after ts (front bs) ≡ tables_after ts bs
unfolding tables_after
after_front ts [] = refl
after_front ts (label ∷ bs) = refl
after_front ts (content r b ∷ bs) = after_front ts bs
after_front ts (commit r s t ls ∷ bs) = after_front (grown ts ls) bs
after_front ts (mark m ∷ bs) = after_front ts bs
after_front ts (blank ∷ bs) = refl

-- what is known of the used blocks: the tables' block numbers are theirs, and the trees' bytes are in them
module _ (bs : List Block) (h : History) (L : Lays bs h) where
  passed : T (ok bs)
  passed = (lays_accepted bs h L).0

  pub lays_split : Lays (front bs ++ blanks bs) h
  lays_split = subst (λ (x : List Block). Lays x h) (sym (front-blanks bs)) L

  pub tables_used : tables_of (front bs) ≡ tables_of bs
  unfolding Lays LaysLog tables_of
  tables_used = subst (λ (x : List Block). tables_of (front x) ≡ tables_of x) (sym L.2.1) (after_front (replicate 32 0 ∷ []) L.2.0)

  pub some-used : 1 ≤ length (front bs)
  some-used = some-front bs passed

  pub trees_in : Trees (front bs) (blanks bs) h
  trees_in = trees_of (front bs) (blanks bs) h (no_blank bs) (blank-rest bs passed) some-used lays_split

  pub source-bytes : (v s : ℕ) → Base h v s
      → sheet h v s ≡ some (bytes_at (front bs ++ blanks bs) (user (bytes_at (front bs ++ blanks bs)) (length (front bs)) 0 (tables_of (front bs)) v s))
  source-bytes v s B =
      let t = trees_in.each v B.high in
      has (bytes_at (front bs ++ blanks bs)) (get_or (tables_of (front bs)) v []) (tree h v) t s
      (λ q. is_some (sheet h v s) B.there (lacks (bytes_at (front bs ++ blanks bs)) (get_or (tables_of (front bs)) v []) (tree h v) t s q))

  pub user_below : (v s : ℕ) → user (bytes_at (front bs ++ blanks bs)) (length (front bs)) 0 (tables_of (front bs)) v s < length (front bs)
  user_below =
      user-low (bytes_at (front bs ++ blanks bs)) (length (front bs)) 0 (tables_of (front bs)) some-used
      (tables_below (front bs) (blanks bs) h (no_blank bs) some-used lays_split)

module _ (bs : List Block) (h : History) (c : Commit) (few : length bs ≤ 4_096) (F : All FitsBlock bs) (L : Lays bs h) (M : Made h c) (short : last h < 65_535)
    (room : length (front bs) + blocks_for h c.changes ≤ length bs)
  where
    abbrev look : ℕ → List ℕ
    look = bytes_at (front bs ++ blanks bs)

    abbrev at : ℕ
    at = length (front bs)

    abbrev tables : List Table
    tables = tables_of (front bs)

    rights : RightFrom h 0 c.changes
    rights = right_from h 0 c.changes (λ j. rw zero-add (M.right j))

    lengths : at + length (blanks bs) ≡ length bs
    lengths = sym (length-append (front bs) (blanks bs)) ∙ ap length (front-blanks bs)

    low : at ≤ 4_096
    low = omega (arith, lengths)

    pub contents : length (new_contents (front bs) (blanks bs) c) ≡ total (content_of h) c.changes
    contents = content-count look at tables h (source-bytes bs h L) (user_below bs h L) low (omega arith) c.changes (made_sources h c M)

    pub new_tables : length tables ≡ suc (last h)
    new_tables = (trees_in bs h L).count

    abbrev after : List Block
    after = drop (suc (length (new_contents (front bs) (blanks bs) c))) (blanks bs)

    blank-left : All (λ (b : Block). b ≡ blank) after
    blank-left = all_drop (λ (b : Block). b ≡ blank) (suc (length (new_contents (front bs) (blanks bs) c))) (blanks bs) (blank-rest bs (passed bs h L))

    some-line : 1 ≤ length (new_lines (front bs) (blanks bs) c)
    some-line = omega (arith, M.some, line-count look at tables h (source-bytes bs h L) (user_below bs h L) low (omega arith) c.changes 0 at)

    pub written-log : (g : Log) → commits g ≡ h → LaysLog bs g → LaysLog (with_commit bs c) (g ++ (a_commit c ∷ []))
    written-log g e G =
        allowed_lays (front bs) (blanks bs) after g c (no_blank bs) (blank-rest bs (passed bs h L)) blank-left (some-used bs h L)
        (subst (λ (x : List Block). LaysLog x g) (sym (front-blanks bs)) G) M.low M.high M.wide
        (subst (λ (x : History). AllowedFrom x 0 c.changes) (sym e) (alloweds h 0 c.changes rights)) some-line

    fits-commit : FitsBlock (commit (length tables) c.seat c.stamp (new_lines (front bs) (blanks bs) c))
    fits-commit = (
      omega (arith, new_tables),
      omega (arith, M.high),
      M.stamp,
      (
        omega (arith, line-count look at tables h (source-bytes bs h L) (user_below bs h L) low (omega arith) c.changes 0 at, total-low c.changes, M.wide),
        fits-lines look at tables h (source-bytes bs h L) (user_below bs h L) low (omega arith) c.changes 0 at rights (omega (arith, M.wide)) (omega (arith, contents)),
      ),
    )

    pub written-fits : All FitsBlock (with_commit bs c)
    written-fits =
        let split : All FitsBlock (front bs ++ blanks bs) = subst (All FitsBlock) (sym (front-blanks bs)) F in
        all_append FitsBlock (front bs) (new_blocks (front bs) (blanks bs) c after) (all_left FitsBlock (front bs) (blanks bs) split)
        (all_append FitsBlock (map (content (length tables)) (new_contents (front bs) (blanks bs) c)) (commit (length tables) c.seat c.stamp (new_lines (front bs) (blanks bs) c) ∷ after)
        (fits-contents (length tables) (new_contents (front bs) (blanks bs) c) (omega (arith, new_tables))
        (short-contents look at tables h (source-bytes bs h L) (user_below bs h L) low (omega arith) c.changes 0 rights))
        (fits-commit, all_drop FitsBlock (suc (length (new_contents (front bs) (blanks bs) c))) (blanks bs) (all_right FitsBlock (front bs) (blanks bs) split)))

    pub written-length : length (with_commit bs c) ≡ length bs
    written-length =
        let new = map (content (length tables)) (new_contents (front bs) (blanks bs) c) in
        let last' = commit (length tables) c.seat c.stamp (new_lines (front bs) (blanks bs) c) ∷ after in
        let a : length (front bs ++ (new ++ last')) ≡ at + length (new ++ last') = length-append (front bs) (new ++ last') in
        let b : length (new ++ last') ≡ length new + length last' = length-append new last' in
        let d : length new ≡ length (new_contents (front bs) (blanks bs) c) = length-map (new_contents (front bs) (blanks bs) c) (content (length tables)) in
        let e : length after ≡ length (blanks bs) - suc (length (new_contents (front bs) (blanks bs) c)) = length-drop (suc (length (new_contents (front bs) (blanks bs) c))) (blanks bs) in
        omega (arith, a, b, d, e, lengths, contents, room)

    -- the blocks that are read in its bytes are those that are written
    pub written_back : (n : ℕ) → length bs ≡ n → blocks_of n (joined fields_of (with_commit bs c)) ≡ with_commit bs c
    written_back n e = blocks-back n (with_commit bs c) (written-length ∙ e) written-fits

    -- the used blocks are those that were, and the commit's
    pub written-front : front (with_commit bs c) ≡ front bs ++ new_blocks (front bs) (blanks bs) c []
    written-front =
        let new = map (content (length tables)) (new_contents (front bs) (blanks bs) c) in
        let one : Block = commit (length tables) c.seat c.stamp (new_lines (front bs) (blanks bs) c) in
        front-append (front bs) (new ++ (one ∷ after)) (no_blank bs)
        ∙ ap (λ (l : List Block). front bs ++ l) (front-contents (length tables) (new_contents (front bs) (blanks bs) c) (one ∷ after)
        ∙ ap (λ (l : List Block). new ++ (one ∷ l)) (front-none after blank-left))

    pub written-used : length (front (with_commit bs c)) ≡ length (front bs) + blocks_for h c.changes
    written-used =
        let new = map (content (length tables)) (new_contents (front bs) (blanks bs) c) in
        let one : Block = commit (length tables) c.seat c.stamp (new_lines (front bs) (blanks bs) c) in
        let d : length new ≡ length (new_contents (front bs) (blanks bs) c) = length-map (new_contents (front bs) (blanks bs) c) (content (length tables)) in
        ap length written-front ∙ length-append (front bs) (new ++ (one ∷ [])) ∙ omega (arith, length-append new (one ∷ []), d, contents)

-- THE STATEMENT: the store with the commit written shows the longer history, and as many used blocks as the machine counts
module _ (N : ℕ) (store : Bytes) (h : History) (used : ℕ) (c : Commit) (many : N ≤ 4_096) (short : last h < 65_535) (S : Stored N store h used) (M : Made h c)
    (room : used + blocks_for h c.changes ≤ N)
  where
    abbrev blocks : List Block
    blocks = blocks_of N store

    B : Blocks N store h blocks
    B = holds-blocks N store h S.holds

    few : length blocks ≤ 4_096
    few = omega (arith, B.count)

    fit_in : length (front blocks) + blocks_for h c.changes ≤ length blocks
    fit_in = omega (arith, B.count, S.uses, room)

    fits : All FitsBlock (with_commit blocks c)
    fits = written-fits blocks h c few B.fit B.lays M short fit_in

    size : length (with_commit blocks c) ≡ N
    size = written-length blocks h c few B.fit B.lays M short fit_in ∙ B.count

    pub stored-commit : Stored N (joined fields_of (with_commit blocks c)) (h ++ (c ∷ [])) (used + blocks_for h c.changes)
    unfolding Holds HoldsLog
    stored-commit =
        let g : Log = S.holds.0 in
        let G = holds-log N store g S.holds.2 in
        record {
          holds = (
            g ++ (a_commit c ∷ []),
            commits-append g (a_commit c ∷ []) ∙ ap (λ (x : History). x ++ (c ∷ [])) S.holds.1,
            (
              with_commit blocks c,
              size,
              fits,
              refl,
              written-log blocks h c few B.fit B.lays M short fit_in g S.holds.1 G.lays,
              subst Marked (sym (marks-commit g c)) G.marked,
            ),
          );
          uses =
              ap (λ (x : List Block). length (front x)) (blocks-back N (with_commit blocks c) size fits)
              ∙ written-used blocks h c few B.fit B.lays M short fit_in ∙ ap (λ (m : ℕ). m + blocks_for h c.changes) S.uses;
        }

    -- and the commit stands last among commits and marks
    pub log-commit : log_all (blocks_of N (joined fields_of (with_commit blocks c))) ≡ log_all blocks ++ (a_commit c ∷ [])
    unfolding Holds
    log-commit =
        let g : Log = S.holds.0 in
        let G = holds-log N store g S.holds.2 in
        let new = written-log blocks h c few B.fit B.lays M short fit_in g S.holds.1 G.lays in
        ap log_all (blocks-back N (with_commit blocks c) size fits) ∙ (logs-accepted (with_commit blocks c) (g ++ (a_commit c ∷ [])) new).1
        ∙ ap (λ (x : Log). x ++ (a_commit c ∷ [])) (sym (logs-accepted blocks g G.lays).1)
