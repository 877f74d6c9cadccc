-- A store is accepted exactly when its blocks are the layout of a history, and that history is what is read.
-- Assumes nothing.
use Prim.Native.Nat.{◌+◌, ◌<◌, ◌≤◌, suc, ℕ}
use mathlib.Core.Bool.{Bool, ◌&&◌, cond, false, not, true}
use mathlib.Core.List.{List, [], ◌++◌, ◌∷◌, map}
use mathlib.Core.Logic.{◌↔◌, inl, inr}
use mathlib.Core.Option.{none, some}
use mathlib.Core.Path.{◌∙◌, ◌≡◌, ap, refl, subst, sym}
use native.Mathlib.Nat.{add-suc, add-zero, suc-add, zero-add}
use native.Mathlib.Omega.{arith}
use lib.Dec.{T, eqb, eqb→eq}
use lib.ListN.{get_or, length, length-replicate, replicate}
use lib.Seq.{ext_get_or}
use Rattle.block.proofs.Says.{Says, and_true, eq_or, says, says_all, says-all_from, says-and, says_eq, says-le, says-lt, true_and}
use Rattle.block.specs.Lists.{All, all}
use Rattle.model.specs.Blocks.{Action, Block, Line, adds, blank, bytes_at, changes, commit, content, copies, deletes, label, mark}
use Rattle.model.specs.History.{Change, Commit, History, nothing}
use Rattle.model.specs.Layout.{Laid, Lays, LaysFrom, LaysLog, NoneTwice, Rule, RuleAs, Stands, Table, means, named, pointed, puts}
use Rattle.model.specs.Log.{Log, Mark, a_commit, a_mark, commits, released}
use Rattle.model.specs.Pass.{decode_store, grown, is_blank, laid, log_all, log_from, no_changes, none_twice, ok, ok_from, read_all, read_from, rule, rule_as, stands, stated}
use Rattle.laws.proofs.Puts.{length-puts, puts-each, puts-named, puts-other}
use Rattle.laws.proofs.Rows.{replicate-any}

says_twice : (ls : List Line) → Says (none_twice ls) (NoneTwice ls)
says_twice [] = record { true_so = λ t. tt; so_true = λ t. tt }
says_twice (l ∷ ls) = says-and (says_eq (named l.sheet ls) 0) (says_twice ls)

says-blank : (b : Block) → Says (is_blank b) (b ≡ blank)
says-blank label = record { true_so = λ t. absurd t; so_true = λ e. subst (λ (x : Block). T (not (is_blank x))) e tt }
says-blank (content r b) = record { true_so = λ t. absurd t; so_true = λ e. subst (λ (x : Block). T (not (is_blank x))) e tt }
says-blank (commit r s t ls) = record { true_so = λ t. absurd t; so_true = λ e. subst (λ (x : Block). T (not (is_blank x))) e tt }
says-blank (mark m) = record { true_so = λ t. absurd t; so_true = λ e. subst (λ (x : Block). T (not (is_blank x))) e tt }
says-blank blank = record { true_so = λ t. refl; so_true = λ e. tt }

-- `nothing` stands at every place of 32 of them, and past the end
pub no_change : (i : ℕ) → get_or no_changes i nothing ≡ nothing
unfolding no_changes
no_change i = replicate-any (λ (c : Change). c ≡ nothing) 32 i nothing nothing refl refl

pub places : length no_changes ≡ 32
unfolding no_changes
places = length-replicate 32 nothing

module _ (look : ℕ → List ℕ) (at k : ℕ) (tables : List Table) where
  says-rule_as : (a : Action) (l : Line) → Says (rule_as look at k tables a l) (RuleAs look at k tables a l)
  says-rule_as adds l = search says depth 9
  says-rule_as changes l = search says depth 9
  says-rule_as deletes l = search says depth 9
  says-rule_as copies l = search says depth 9

  says-rule : (l : Line) → Says (rule look at k tables l) (Rule look at k tables l)
  unfolding rule
  says-rule l = says-and (says-lt l.sheet 32) (says-rule_as l.action l)

  -- the seven tests of a commit block, as one statement
  abbrev pub Tested : ℕ → List Line → Type 0
  Tested seat ls =
      (1 ≤ seat) × ((seat ≤ 4) × ((1 ≤ length ls) × ((length ls ≤ 32)
      × (All (Rule look at k tables) ls × (NoneTwice ls × ((p : ℕ) → at ≤ p → p < at + k → pointed p ls ≡ 1))))))

  pub says-laid : (seat : ℕ) (ls : List Line) → Says (laid look at k tables seat ls) (Tested seat ls)
  unfolding laid
  says-laid seat ls =
      says-and (says-le 1 seat) (says-and (says-le seat 4) (says-and (says-le 1 (length ls)) (says-and (says-le (length ls) 32)
      (says-and (says_all (rule look at k tables) (Rule look at k tables) says-rule ls) (says-and (says_twice ls)
      (says-all_from (λ p. eqb (pointed p ls) 1) (λ p. pointed p ls ≡ 1) (λ p. says_eq (pointed p ls) 1) at k))))))

  inside : (ls : List Line) → All (Rule look at k tables) ls → All (λ (l : Line). l.sheet < length no_changes) ls
  inside [] a = tt
  inside (l ∷ ls) a = (rw places a.0.0, inside ls a.1)

  pub laid_so : (seat stamp : ℕ) (ls : List Line) → T (laid look at k tables seat ls) → Laid look at k tables ls (stated look seat stamp ls)
  unfolding stated
  laid_so seat stamp ls t =
      let w = (says-laid seat ls).true_so t in
      record {
        seat-low = w.0;
        seat-high = w.1.0;
        some-line = w.1.1.0;
        few-lines = w.1.1.1.0;
        rules = w.1.1.1.1.0;
        none_twice_holds = w.1.1.1.1.1.0;
        one_each = w.1.1.1.1.1.1;
        size = length-puts (means look) ls no_changes ∙ places;
        meant = puts-each (means look) ls no_changes nothing w.1.1.1.1.1.0 (inside ls w.1.1.1.1.0);
        others = λ i z. puts-other (means look) ls no_changes i nothing z ∙ no_change i;
      }

  pub so_laid : (ls : List Line) (c : Commit) → Laid look at k tables ls c → T (laid look at k tables c.seat ls)
  so_laid ls c w =
      (says-laid c.seat ls).so_true
      (w.seat-low, (w.seat-high, (w.some-line, (w.few-lines, (w.rules, (w.none_twice_holds, w.one_each))))))

  -- a commit that a commit block is the layout of is the one that it states
  pub so_stated : (ls : List Line) (c : Commit) → Laid look at k tables ls c → c ≡ stated look c.seat c.stamp ls
  unfolding stated
  so_stated ls c w = λ i. record { seat = c.seat; stamp = c.stamp; changes = same-changes i }
    where
      each : (i : ℕ) → i < length no_changes → get_or c.changes i nothing ≡ get_or (puts (means look) ls no_changes) i nothing
      each i h =
          elim (eq_or (named i ls) 0) [
            | inl z ↦ w.others i z ∙ sym (puts-other (means look) ls no_changes i nothing z ∙ no_change i)
            | inr n ↦ sym (puts-named (means look) ls no_changes (λ j. get_or c.changes j nothing) i nothing h w.meant n)
          ]

      same-changes : c.changes ≡ puts (means look) ls no_changes
      same-changes = ext_get_or nothing c.changes _ (w.size ∙ sym (length-puts (means look) ls no_changes ∙ places)) (λ i h. each i (rw (places, ← w.size) h))

says-stands : (tables : List Table) (m : Mark) → Says (stands tables m) (Stands tables m)
says-stands tables (released R seat stamp) = search says depth 9

-- what is left of a store, once n content blocks of commit R were passed
pub record Onward (look : ℕ → List ℕ) (at n : ℕ) (tables : List Table) (c : Commit) (h : Log) (ls : List Line) (rest : List Block) : Type 0 where
  pub this : Laid look at n tables ls c
  pub then : LaysFrom look (suc (at + n)) (grown tables ls) h rest

-- `LaysFrom` in the middle of a commit, where k of its content blocks were passed
abbrev pub Midway : (ℕ → List ℕ) → ℕ → ℕ → List Table → Log → List Block → Type 0
Midway look at k tables [] bs = (k ≡ 0) × All (λ (b : Block). b ≡ blank) bs
Midway look at k tables (a_mark m ∷ h) bs = (k ≡ 0) × ((rest : List Block) × (bs ≡ mark m ∷ rest) × Stands tables m × LaysFrom look (suc at) tables h rest)
Midway look at k tables (a_commit c ∷ h) bs =
    (contents : List (List ℕ)) × (ls : List Line) × (rest : List Block) × (n : ℕ)
    × (bs ≡ map (content (length tables)) contents ++ (commit (length tables) c.seat c.stamp ls ∷ rest))
    × (n ≡ k + length contents)
    × Onward look at n tables c h ls rest

module _ (look : ℕ → List ℕ) where
  pub start : (at : ℕ) (tables : List Table) (h : Log) (bs : List Block) → Midway look at 0 tables h bs → LaysFrom look at tables h bs
  unfolding LaysFrom
  start at tables [] bs m = m.1
  start at tables (a_mark w ∷ h) bs m = m.1
  start at tables (a_commit c ∷ h) bs m =
      let e : m.3 ≡ length m.0 = omega (arith, m.5) in
      let o : Onward look at (length m.0) tables c h m.1 m.2 = rw e at m.6 in
      (m.0, m.1, m.2, m.4, o.this, o.then)

  push : (at k r : ℕ) (tables : List Table) (b : List ℕ) (h : Log) (bs : List Block) → r ≡ length tables
      → Midway look at (suc k) tables h bs → Midway look at k tables h (content r b ∷ bs)
  push at k r tables b [] bs e m = absurd (omega (arith, m.0))
  push at k r tables b (a_mark w ∷ h) bs e m = absurd (omega (arith, m.0))
  push at k r tables b (a_commit c ∷ h) bs e m = (b ∷ m.0, m.1, m.2, m.3, cc (m.4, e), omega (arith, m.5), m.6)

  pub sound : (at k : ℕ) (tables : List Table) (bs : List Block) → T (ok_from look at k tables bs) → Midway look at k tables (log_from look bs) bs
  unfolding ok_from log_from stated
  sound at k tables [] t = (eqb→eq k 0 t, tt)
  sound at k tables (label ∷ bs) t = absurd t
  sound at k tables (content r b ∷ bs) t =
      let p = and_true (eqb r (length tables)) (ok_from look at (suc k) tables bs) t in
      push at k r tables b (log_from look bs) bs (eqb→eq r (length tables) p.0) (sound at (suc k) tables bs p.1)
  sound at k tables (commit r seat stamp ls ∷ bs) t =
      let p = and_true (eqb r (length tables)) (laid look at k tables seat ls && ok_from look (suc (at + k)) 0 (grown tables ls) bs) t in
      let q = and_true (laid look at k tables seat ls) (ok_from look (suc (at + k)) 0 (grown tables ls) bs) p.1 in (
        [],
        ls,
        bs,
        k,
        rw (eqb→eq r (length tables) p.0),
        omega arith,
        record {
          this = laid_so look at k tables seat stamp ls q.0;
          then = start (suc (at + k)) (grown tables ls) (log_from look bs) bs (sound (suc (at + k)) 0 (grown tables ls) bs q.1);
        },
      )
  sound at k tables (mark m ∷ bs) t =
      let p = and_true (eqb k 0) (stands tables m && ok_from look (suc at) 0 tables bs) t in
      let q = and_true (stands tables m) (ok_from look (suc at) 0 tables bs) p.1 in
      (eqb→eq k 0 p.0, (bs, refl, (says-stands tables m).true_so q.0, start (suc at) tables (log_from look bs) bs (sound (suc at) 0 tables bs q.1)))
  sound at k tables (blank ∷ bs) t =
      let p = and_true (eqb k 0) (all is_blank bs) t in
      (eqb→eq k 0 p.0, (refl, (says_all is_blank (λ b. b ≡ blank) says-blank bs).true_so p.1))

  ok-run : (at k : ℕ) (tables : List Table) (cs : List (List ℕ)) (bs : List Block) → T (ok_from look at (k + length cs) tables bs)
      → T (ok_from look at k tables (map (content (length tables)) cs ++ bs))
  unfolding ok_from
  ok-run at k tables [] bs t = rw add-zero at t
  ok-run at k tables (b ∷ cs) bs t =
      true_and (eqb (length tables) (length tables)) (ok_from look at (suc k) tables (map (content (length tables)) cs ++ bs))
      ((says_eq (length tables) (length tables)).so_true refl) (ok-run at (suc k) tables cs bs (rw (suc-add, ← add-suc) t))

  read_run : (r : ℕ) (cs : List (List ℕ)) (bs : List Block) → log_from look (map (content r) cs ++ bs) ≡ log_from look bs
  unfolding log_from
  read_run r [] bs = refl
  read_run r (b ∷ cs) bs = read_run r cs bs

  blanks : (at : ℕ) (tables : List Table) (bs : List Block) → All (λ (b : Block). b ≡ blank) bs
      → T (ok_from look at 0 tables bs) × (log_from look bs ≡ [])
  unfolding ok_from log_from
  blanks at tables [] a = (tt, refl)
  blanks at tables (b ∷ bs) a =
      subst (λ (x : Block). T (ok_from look at 0 tables (x ∷ bs)) × (log_from look (x ∷ bs) ≡ [])) (sym a.0)
      ((says_all is_blank (λ b. b ≡ blank) says-blank bs).so_true a.1, refl)

  ok-commit : (at k seat stamp : ℕ) (tables : List Table) (ls : List Line) (bs : List Block) → T (laid look at k tables seat ls)
      → T (ok_from look (suc (at + k)) 0 (grown tables ls) bs) → T (ok_from look at k tables (commit (length tables) seat stamp ls ∷ bs))
  unfolding ok_from
  ok-commit at k seat stamp tables ls bs t u =
      true_and (eqb (length tables) (length tables)) (laid look at k tables seat ls && ok_from look (suc (at + k)) 0 (grown tables ls) bs)
      ((says_eq (length tables) (length tables)).so_true refl)
      (true_and (laid look at k tables seat ls) (ok_from look (suc (at + k)) 0 (grown tables ls) bs) t u)

  read_commit : (r seat stamp : ℕ) (ls : List Line) (bs : List Block)
      → log_from look (commit r seat stamp ls ∷ bs) ≡ a_commit (stated look seat stamp ls) ∷ log_from look bs
  unfolding log_from
  read_commit r seat stamp ls bs = refl

  ok-mark : (at : ℕ) (tables : List Table) (m : Mark) (bs : List Block) → T (stands tables m) → T (ok_from look (suc at) 0 tables bs) → T (ok_from look at 0 tables (mark m ∷ bs))
  unfolding ok_from
  ok-mark at tables m bs t u = true_and (stands tables m) (ok_from look (suc at) 0 tables bs) t u

  read_mark : (m : Mark) (bs : List Block) → log_from look (mark m ∷ bs) ≡ a_mark m ∷ log_from look bs
  unfolding log_from
  read_mark m bs = refl

  pub complete : (at : ℕ) (tables : List Table) (h : Log) (bs : List Block) → LaysFrom look at tables h bs
      → T (ok_from look at 0 tables bs) × (log_from look bs ≡ h)
  unfolding LaysFrom
  complete at tables [] bs m = blanks at tables bs m
  complete at tables (a_mark w ∷ h) bs m =
      let ih = complete (suc at) tables h m.0 m.3 in
      (rw m.1 (ok-mark at tables w m.0 ((says-stands tables w).so_true m.2) ih.0), rw m.1 (read_mark w m.0 ∙ cc ih.1))
  complete at tables (a_commit c ∷ h) bs m =
      let ih = complete (suc (at + length m.0)) (grown tables m.1) h m.2 m.5 in
      let after = commit (length tables) c.seat c.stamp m.1 ∷ m.2 in
      let passed : T (ok_from look at (0 + length m.0) tables after) =
      rw zero-add (ok-commit at (length m.0) c.seat c.stamp tables m.1 m.2 (so_laid look at (length m.0) tables m.1 c m.4) ih.0) in (
        rw m.3 (ok-run at 0 tables m.0 after passed),
        rw m.3 (read_run (length tables) m.0 after ∙ read_commit (length tables) c.seat c.stamp m.1 m.2
            ∙ cc (so_stated look at (length m.0) tables m.1 c m.4, ih.1)),
      )

  -- the commits of what is read
  pub commits_read : (bs : List Block) → commits (log_from look bs) ≡ read_from look bs
  unfolding log_from read_from
  commits_read [] = refl
  commits_read (label ∷ bs) = refl
  commits_read (content r b ∷ bs) = commits_read bs
  commits_read (commit r seat stamp ls ∷ bs) = cc (commits_read bs)
  commits_read (mark m ∷ bs) = commits_read bs
  commits_read (blank ∷ bs) = refl

pub commits-all : (bs : List Block) → commits (log_all bs) ≡ read_all bs
unfolding log_all read_all
commits-all [] = refl
commits-all (b ∷ bs) = commits_read (bytes_at (b ∷ bs)) bs

-- what is accepted is a layout, of what is read
pub accepted-logs : (bs : List Block) → T (ok bs) → LaysLog bs (log_all bs)
unfolding ok log_all LaysLog
accepted-logs [] t = absurd t
accepted-logs (label ∷ bs) t =
    (bs, refl, start (bytes_at (label ∷ bs)) 1 (replicate 32 0 ∷ []) (log_from (bytes_at (label ∷ bs)) bs) bs (sound (bytes_at (label ∷ bs)) 1 0 (replicate 32 0 ∷ []) bs t))
accepted-logs (content r b ∷ bs) t = absurd t
accepted-logs (commit r seat stamp ls ∷ bs) t = absurd t
accepted-logs (mark m ∷ bs) t = absurd t
accepted-logs (blank ∷ bs) t = absurd t

-- every layout is accepted, and read back as the log that it is the layout of
pub logs-accepted : (bs : List Block) (g : Log) → LaysLog bs g → T (ok bs) × (log_all bs ≡ g)
unfolding ok log_all LaysLog
logs-accepted bs g m =
    subst (λ (x : List Block). T (ok x) × (log_all x ≡ g)) (sym m.1)
    (complete (bytes_at (label ∷ m.0)) 1 (replicate 32 0 ∷ []) g m.0
    (subst (λ (x : List Block). LaysFrom (bytes_at x) 1 (replicate 32 0 ∷ []) g m.0) m.1 m.2))

-- the same of the commits alone
pub log_lays : (bs : List Block) (g : Log) → LaysLog bs g → Lays bs (commits g)
unfolding Lays
log_lays bs g m = (g, refl, m)

pub accepted_lays : (bs : List Block) → T (ok bs) → Lays bs (read_all bs)
unfolding Lays
accepted_lays bs t = (log_all bs, commits-all bs, accepted-logs bs t)

pub lays_accepted : (bs : List Block) (h : History) → Lays bs h → T (ok bs) × (read_all bs ≡ h)
unfolding Lays
lays_accepted bs h m =
    let a = logs-accepted bs m.0 m.2 in
    (a.0, sym (commits-all bs) ∙ ap commits a.1 ∙ m.1)

-- a store is the layout of one history at most
pub lays_unique : (bs : List Block) (h g : History) → Lays bs h → Lays bs g → h ≡ g
lays_unique bs h g m n = sym (lays_accepted bs h m).1 ∙ (lays_accepted bs g n).1

-- THE STATEMENT: the decoder answers g exactly where the blocks are the layout of g
pub decode_lays : (bs : List Block) (g : Log) → (decode_store bs ≡ some g) ↔ LaysLog bs g
unfolding decode_store
decode_lays bs g = (
  λ d. subst (λ (x : Log). LaysLog bs x) (picked (ok bs) d).1 (accepted-logs bs (picked (ok bs) d).0),
  λ m. let a = logs-accepted bs g m in picks (ok bs) a.0 a.1,
)
  where
    picked : (t : Bool) → cond t (some (log_all bs)) none ≡ some g → T t × (log_all bs ≡ g)
    picked true e = (tt, cc)
    picked false e = let z : ◌≡◌ {A = ℕ} 0 1 = cc in absurd (omega arith)

    picks : (t : Bool) → T t → log_all bs ≡ g → cond t (some (log_all bs)) none ≡ some g
    picks true u e = cc
    picks false u e = absurd u
