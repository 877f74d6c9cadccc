-- More commits after the last: the blocks that were there, then those of the new commits, are the layout of the longer history.
-- Assumes nothing.
use Prim.Native.Nat.{◌+◌, ◌<◌, ◌≤◌, suc, zero, ℕ}
use mathlib.Core.Bool.{◌&&◌, not}
use mathlib.Core.List.{List, [], ◌++◌, ◌∷◌}
use mathlib.Core.Logic.{inl, inr}
use mathlib.Core.Path.{◌∙◌, ◌≡◌, ap, refl, subst, sym}
use native.Mathlib.Omega.{arith}
use lib.Dec.{T, eqb, eqb→eq, lit<, lit≤}
use lib.ListN.{get_or-append, get_or, length, replicate}
use Rattle.block.proofs.Says.{and_true, true_and}
use Rattle.block.specs.Lists.{All, all}
use Rattle.model.specs.Blocks.{Action, Block, Line, adds, blank, bytes_at, changes, commit, content, copies, deletes, held, label, mark}
use Rattle.model.specs.History.{add, change, copy}
use Rattle.model.specs.Layout.{LaysFrom, LaysLog, Rule, RuleAs, Table, latest, means, means_as, next, puts, user}
use Rattle.model.specs.Log.{Log}
use Rattle.model.specs.Pass.{grown, is_blank, laid, log_all, log_from, no_changes, ok, ok_from, stands, stated, tables_after, tables_of}
use Rattle.laws.proofs.Acceptance.{accepted-logs, complete, logs-accepted, says-laid}
use Rattle.laws.proofs.All.{All-get_or, All-map, All-set, All-snoc}

pub All-puts : {A : Type 0} (P : A → Type 0) (f : Line → A) (ls : List Line) (base : List A) → All (λ (l : Line). P (f l)) ls → All P base → All P (puts f ls base)
All-puts P f [] base a b = b
All-puts P f (l ∷ ls) base a b = All-set P (puts f ls base) l.sheet (f l) (All-puts P f ls base a.1 b) a.0

-- every block number of a table is below n
abbrev pub Below : ℕ → Table → Type 0
Below n t = All (λ (p : ℕ). p < n) t

latest_below : (n : ℕ) (ts : List Table) → All (Below n) ts → Below n (latest ts)
latest_below n [] a = tt
latest_below n (t ∷ []) a = a.0
latest_below n (t ∷ (u ∷ ts)) a = latest_below n (u ∷ ts) a.1

-- one block more
pub wider : (n : ℕ) (ts : List Table) → All (Below n) ts → All (Below (suc n)) ts
wider n ts a = All-map (Below n) (Below (suc n)) ts (λ t b. All-map (λ (p : ℕ). p < n) (λ (p : ℕ). p < suc n) t (λ p h. omega arith) b) a

-- so is the block that a source uses
pub user-low : (look : ℕ → List ℕ) (at k : ℕ) (tables : List Table) → 1 ≤ at → All (Below at) tables → (v s : ℕ) → user look at k tables v s < at
user-low look at k tables low below v s = All-get_or (λ (p : ℕ). p < at) (get_or tables v []) s 0 (All-get_or (Below at) tables v [] below tt) low

module _ (look look' : ℕ → List ℕ) (n : ℕ) (agree : (p : ℕ) → p < n → look p ≡ look' p) where
  module _ (at k : ℕ) (tables : List Table) (low : 1 ≤ at) (top : at + k ≤ n) (below : All (Below at) tables) where
    -- the rules ask for nothing past block n
    move_rule : (a : Action) (l : Line) → RuleAs look at k tables a l → RuleAs look' at k tables a l
    move_rule adds l r = r
    move_rule changes l r = r
    move_rule deletes l r = r
    move_rule copies l r =
        let u = user-low look at k tables low below l.revision l.source in (
          r.0,
          r.1,
          r.2,
          elim r.3 [
            | inl o ↦ inl (o.0, λ e. o.1 (agree l.block (omega (arith, o.0)) ∙ e ∙ sym (agree (user look at k tables l.revision l.source) (omega arith))))
            | inr q ↦ inr q
          ],
        )

    small : (a : Action) (l : Line) → RuleAs look at k tables a l → l.block < at + k
    small adds l r = r.1.1
    small changes l r = r.1.1
    small deletes l r = omega (arith, r.1)
    small copies l r = elim r.3 [ inl o ↦ o.0.1 | inr q ↦ omega (arith, q, user-low look at k tables low below l.revision l.source) ]

    smalls : (ls : List Line) → All (Rule look at k tables) ls → All (λ (l : Line). l.block < at + k) ls
    smalls ls a = All-map (Rule look at k tables) (λ (l : Line). l.block < at + k) ls (λ l r. small l.action l r.1) a

    move_laid : (seat : ℕ) (ls : List Line) → T (laid look at k tables seat ls) → T (laid look' at k tables seat ls)
    move_laid seat ls t =
        let w = (says-laid look at k tables seat ls).true_so t in
        (says-laid look' at k tables seat ls).so_true (
          w.0,
          (
            w.1.0,
            (
              w.1.1.0,
              (
                w.1.1.1.0,
                (
                  All-map (Rule look at k tables) (Rule look' at k tables) ls (λ l r. (r.0, move_rule l.action l r.1)) w.1.1.1.1.0,
                  w.1.1.1.1.1,
                ),
              ),
            ),
          ),
        )

    pub grown_below : (seat : ℕ) (ls : List Line) → T (laid look at k tables seat ls) → All (Below (suc (at + k))) (grown tables ls)
    unfolding next
    grown_below seat ls t =
        let w = (says-laid look at k tables seat ls).true_so t in
        All-snoc (Below (suc (at + k))) tables (next ls (latest tables))
        (All-map (Below at) (Below (suc (at + k))) tables (λ u. wider u) below)
        (All-puts (λ (p : ℕ). p < suc (at + k)) (λ (l : Line). l.block) ls (latest tables)
        (All-map (λ (l : Line). l.block < at + k) (λ (l : Line). l.block < suc (at + k)) ls (λ l h. omega arith) (smalls ls w.1.1.1.1.0))
        (wider (latest tables) (latest_below at tables below)))
      where
        wider : (u : Table) → Below at u → Below (suc (at + k)) u
        wider u b = All-map (λ (p : ℕ). p < at) (λ (p : ℕ). p < suc (at + k)) u (λ p h. omega arith) b

    same-means : (l : Line) → l.block < at + k → means look l ≡ means look' l
    unfolding means
    same-means l h = go l.action
      where
        go : (a : Action) → means_as look a l ≡ means_as look' a l
        go adds = ap add (agree l.block (omega arith))
        go changes = ap change (agree l.block (omega arith))
        go deletes = refl
        go copies = ap (copy l.source l.revision) (agree l.block (omega arith))

    same-puts : (ls : List Line) → All (λ (l : Line). l.block < at + k) ls → puts (means look) ls no_changes ≡ puts (means look') ls no_changes
    same-puts [] a = refl
    same-puts (l ∷ ls) a = cc (same-puts ls a.1, same-means l a.0)

    same-stated : (seat stamp : ℕ) (ls : List Line) → T (laid look at k tables seat ls) → stated look seat stamp ls ≡ stated look' seat stamp ls
    unfolding stated
    same-stated seat stamp ls t =
        let w = (says-laid look at k tables seat ls).true_so t in
        let e = same-puts ls (smalls ls w.1.1.1.1.0) in
        λ i. record { seat = seat; stamp = stamp; changes = e i }

  stop : (at k : ℕ) (tables : List Table) (bl : List Block) → All (λ (b : Block). b ≡ blank) bl → T (ok_from look at k tables bl)
      → (k ≡ 0) × (log_from look bl ≡ [])
  unfolding ok_from log_from
  stop at k tables [] z t = (eqb→eq k 0 t, refl)
  stop at k tables (b ∷ bs) z t =
      let t' : T (ok_from look at k tables (blank ∷ bs)) = subst (λ (x : Block). T (ok_from look at k tables (x ∷ bs))) z.0 t in
      (eqb→eq k 0 (and_true (eqb k 0) (all is_blank bs) t').0, ap (λ (x : Block). log_from look (x ∷ bs)) z.0)

  -- a run of blocks before blank ones is as good before other blocks, and reads the same
  pub run : (at k : ℕ) (tables : List Table) (front bl new : List Block) → 1 ≤ at → at + k + length front ≤ n → All (Below at) tables
      → T (all (λ b. not (is_blank b)) front) → All (λ (b : Block). b ≡ blank) bl
      → T (ok_from look at k tables (front ++ bl)) → T (ok_from look' (at + k + length front) 0 (tables_after tables front) new)
      → T (ok_from look' at k tables (front ++ new)) × (log_from look' (front ++ new) ≡ log_from look (front ++ bl) ++ log_from look' new)
  unfolding ok_from log_from tables_after
  run at k tables [] bl new low top below nb z t u =
      let q = stop at k tables bl z t in
      let e : at + k + 0 ≡ at = omega (arith, q.0) in
      (rw q.0 (rw e at u), rw q.1)
  run at k tables (label ∷ front) bl new low top below nb z t u = absurd t
  run at k tables (content r b ∷ front) bl new low top below nb z t u =
      let p = and_true (eqb r (length tables)) (ok_from look at (suc k) tables (front ++ bl)) t in
      let e : at + k + suc (length front) ≡ at + suc k + length front = omega arith in
      let ih = run at (suc k) tables front bl new low (omega arith) below nb z p.1 (rw e at u) in
      (true_and (eqb r (length tables)) (ok_from look' at (suc k) tables (front ++ new)) p.0 ih.0, ih.1)
  run at k tables (commit r seat stamp ls ∷ front) bl new low top below nb z t u =
      let p = and_true (eqb r (length tables)) (laid look at k tables seat ls && ok_from look (suc (at + k)) 0 (grown tables ls) (front ++ bl)) t in
      let q = and_true (laid look at k tables seat ls) (ok_from look (suc (at + k)) 0 (grown tables ls) (front ++ bl)) p.1 in
      let e : at + k + suc (length front) ≡ suc (at + k) + 0 + length front = omega arith in
      let ih = run (suc (at + k)) 0 (grown tables ls) front bl new (omega arith) (omega arith) (grown_below at k tables low (omega arith) below seat ls q.0) nb z q.1 (rw e at u) in (
        true_and (eqb r (length tables)) (laid look' at k tables seat ls && ok_from look' (suc (at + k)) 0 (grown tables ls) (front ++ new)) p.0
            (true_and (laid look' at k tables seat ls) (ok_from look' (suc (at + k)) 0 (grown tables ls) (front ++ new))
            (move_laid at k tables low (omega arith) below seat ls q.0) ih.0),
        cc (same-stated at k tables low (omega arith) below seat stamp ls q.0, ih.1),
      )
  run at k tables (mark m ∷ front) bl new low top below nb z t u =
      let p = and_true (eqb k 0) (stands tables m && ok_from look (suc at) 0 tables (front ++ bl)) t in
      let q = and_true (stands tables m) (ok_from look (suc at) 0 tables (front ++ bl)) p.1 in
      let k0 : k ≡ 0 = eqb→eq k 0 p.0 in
      let e : at + k + suc (length front) ≡ suc at + 0 + length front = omega arith in
      let ih = run (suc at) 0 tables front bl new (omega arith) (omega arith) (wider at tables below) nb z q.1 (rw e at u) in (
        true_and (eqb k 0) (stands tables m && ok_from look' (suc at) 0 tables (front ++ new)) p.0
            (true_and (stands tables m) (ok_from look' (suc at) 0 tables (front ++ new)) q.0 ih.0),
        cc ih.1,
      )
  run at k tables (blank ∷ front) bl new low top below nb z t u = absurd nb

pub zero_below : (m : ℕ) → Below 1 (replicate m 0)
zero_below zero = tt
zero_below (suc m) = (lit< tt, zero_below m)

pub unmoved : (front bl new : List Block) (p : ℕ) → p < length front → bytes_at (front ++ bl) p ≡ bytes_at (front ++ new) p
unfolding bytes_at
unmoved front bl new p h = ap held (get_or-append front bl blank p h ∙ sym (get_or-append front new blank p h))

-- THE STATEMENT: blocks of further commits and marks g, put in the place of the blank ones
pub append : (front bl new : List Block) (h g : Log) → T (all (λ b. not (is_blank b)) front) → All (λ (b : Block). b ≡ blank) bl → 1 ≤ length front
    → LaysLog (front ++ bl) h → LaysFrom (bytes_at (front ++ new)) (length front) (tables_of front) g new → LaysLog (front ++ new) (h ++ g)
unfolding ok log_all tables_of
append [] bl new h g nb z some m w = absurd (omega arith)
append (label ∷ front) bl new h g nb z some m w =
    let old = bytes_at (label ∷ (front ++ bl)) in
    let now = bytes_at (label ∷ (front ++ new)) in
    let a = logs-accepted (label ∷ (front ++ bl)) h m in
    let c = complete now (suc (length front)) (tables_after (replicate 32 0 ∷ []) front) g new w in
    let e : suc (length front) ≡ 1 + 0 + length front = omega arith in
    let r = run old now (suc (length front)) (unmoved (label ∷ front) bl new) 1 0 (replicate 32 0 ∷ []) front bl new (lit≤ tt) (omega arith)
    (zero_below 32, tt) nb z a.0 (rw e at c.0) in
    subst (λ (x : Log). LaysLog (label ∷ (front ++ new)) x) (cc (r.1, a.1, c.1)) (accepted-logs (label ∷ (front ++ new)) r.0)
append (content r b ∷ front) bl new h g nb z some m w = absurd (logs-accepted (content r b ∷ (front ++ bl)) h m).0
append (commit r seat stamp ls ∷ front) bl new h g nb z some m w = absurd (logs-accepted (commit r seat stamp ls ∷ (front ++ bl)) h m).0
append (mark q ∷ front) bl new h g nb z some m w = absurd (logs-accepted (mark q ∷ (front ++ bl)) h m).0
append (blank ∷ front) bl new h g nb z some m w = absurd nb
