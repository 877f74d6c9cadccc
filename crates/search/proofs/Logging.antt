-- The block before the bound of revision r is commit r's commit block, and what it says is what log answers.
-- Assumes nothing.
use Rattle.std.specs.Prelude.{Ok}
use Prim.Native.Nat.{◌+◌, ◌-◌, ◌<◌, ◌≤◌, suc, zero, ℕ}
use mathlib.Core.Bool.{◌&&◌}
use mathlib.Core.List.{List, [], ◌∷◌}
use mathlib.Core.Path.{◌∙◌, ◌≡◌, ap, refl, subst, sym}
use native.Mathlib.Omega.{arith}
use lib.Dec.{T, eqb}
use lib.ListN.{drop, get_or, length, replicate, take}
use Rattle.block.proofs.Says.{and_true}
use Rattle.block.specs.Field.{four_at, two_at}
use Rattle.model.specs.Blocks.{Block, Line, blank, bytes_at, commit, content, label, mark, parse, parse_lines}
use Rattle.model.specs.Calls.{store_side}
use Rattle.model.specs.History.{Bytes, Commit, History, commit_at, last, no_commit}
use Rattle.model.specs.Layout.{Rule, Table, means, puts}
use Rattle.model.specs.Machine.{Log, count as counts, doing, log_of}
use Rattle.model.specs.Pass.{grown, laid, no_changes, ok_from, read_from, stated}
use Rattle.model.specs.Rows.{total}
use Rattle.model.specs.Store.{blocks_of, history_of, store_history}
use Rattle.model.specs.Types.{answer_of}
use Rattle.model.specs.declared.Answer.TheVariants.{Logged}
use Rattle.model.specs.declared.LogEntry.{LogEntry}
use Rattle.laws.proofs.Acceptance.{laid_so}
use Rattle.laws.proofs.Accepting.{count-lines, total-puts}
use Rattle.laws.proofs.All.{All-map}
use Rattle.search.proofs.BackLaws.{few-changes}
use Rattle.search.proofs.DeedLaws.{does-lines}
use Rattle.search.proofs.Revisions.{Passed, after-mark, count-one, counted, era_rest, first_read, ok_all, opened, passed, same-history, used_high, used_is, used_in}
use Rattle.search.specs.Deed.{deed_in}
use Rattle.search.specs.Find.{Accepted, Bound, count, era_at}
use Rattle.shape.proofs.Shapes.{length-parse}
use Rattle.shape.specs.Shape.{kind_of}
use Rattle.shape.specs.declared.BlockKind.TheVariants.{Commit as CommitKind}
use Rattle.store.proofs.Blocks.{block_at, lent, part_size}
use Rattle.store.proofs.PassLaws.{commit_of, parse-commit}

-- block p is a commit block, and the history has its commit
pub record CommitAt (look : ℕ → List ℕ) (bs : List Block) (p : ℕ) : Type 0 where
  pub revision : ℕ
  pub seat : ℕ
  pub stamp : ℕ
  pub lines : List Line
  pub is : get_or bs p blank ≡ commit revision seat stamp lines
  pub states : get_or (read_from look bs) (count (take p bs)) no_commit ≡ stated look seat stamp lines
  pub many : total counts (puts (means look) lines no_changes) ≡ length lines

-- a block that adds to the count of commits
commit-there : (look : ℕ → List ℕ) (at k : ℕ) (tables : List Table) (bs : List Block) → T (ok_from look at k tables bs) → (p : ℕ) → p < used_in bs
    → count (take p bs) < count (take (suc p) bs) → CommitAt look bs p
unfolding ok_from read_from
commit-there look at k tables [] t p h c = absurd (omega arith)
commit-there look at k tables (label ∷ bs) t p h c = absurd t
commit-there look at k tables (blank ∷ bs) t p h c = absurd (omega arith)
commit-there look at k tables (content r b ∷ bs) t zero h c = absurd (omega arith)
commit-there look at k tables (content r b ∷ bs) t (suc p) h c =
    let q = commit-there look at (suc k) tables bs (and_true (eqb r (length tables)) (ok_from look at (suc k) tables bs) t).1 p (omega arith) c in
    record { revision = q.revision; seat = q.seat; stamp = q.stamp; lines = q.lines; is = q.is; states = q.states; many = q.many }
commit-there look at k tables (commit r s q ls ∷ bs) t zero h c =
    let u = (and_true (eqb r (length tables)) (laid look at k tables s ls && ok_from look (suc (at + k)) 0 (grown tables ls) bs) t).1 in
    let L = laid_so look at k tables s q ls (and_true (laid look at k tables s ls) (ok_from look (suc (at + k)) 0 (grown tables ls) bs) u).0 in
    record {
      revision = r;
      seat = s;
      stamp = q;
      lines = ls;
      is = refl;
      states = refl;
      many = total-puts counts look ls refl L.none_twice_holds (All-map (Rule look at k tables) (λ (l : Line). l.sheet < 32) ls (λ l x. x.0) L.rules) ∙ count-lines look ls;
    }
commit-there look at k tables (commit r s q ls ∷ bs) t (suc p) h c =
    let u = (and_true (eqb r (length tables)) (laid look at k tables s ls && ok_from look (suc (at + k)) 0 (grown tables ls) bs) t).1 in
    let w = commit-there look (suc (at + k)) 0 (grown tables ls) bs
    (and_true (laid look at k tables s ls) (ok_from look (suc (at + k)) 0 (grown tables ls) bs) u).1 p (omega arith) (omega arith) in
    record { revision = w.revision; seat = w.seat; stamp = w.stamp; lines = w.lines; is = w.is; states = w.states; many = w.many }
commit-there look at k tables (mark m ∷ bs) t zero h c = absurd (omega arith)
commit-there look at k tables (mark m ∷ bs) t (suc p) h c =
    let q = commit-there look (suc at) 0 tables bs (after-mark look at k tables m bs t) p (omega arith) c in
    record { revision = q.revision; seat = q.seat; stamp = q.stamp; lines = q.lines; is = q.is; states = q.states; many = q.many }

module _ (s : Bytes) (n used : ℕ) (A : Accepted s n used) (r b : ℕ) (G : Bound (blocks_of used s) used r b) (low : 1 ≤ r) (high : r ≤ last (store_history s)) where
  P : Passed s used used
  P = passed s n used A

  high' : r ≤ length (history_of used s)
  high' = subst (λ (x : History). r ≤ length x) (sym (same-history s n used A)) high

  abbrev rest : List Block
  rest = (opened (blocks_of used s) (ok_all s used used P)).0

  abbrev look : ℕ → List ℕ
  look = bytes_at (blocks_of used s)

  far : 2 ≤ b
  far = go b (counted s used used P r high' b G)
    where
      go : (x : ℕ) → count (take (x - 1) rest) ≡ r → 2 ≤ x
      go zero e = absurd (omega (arith, e))
      go (suc zero) e = absurd (omega (arith, e))
      go (suc (suc x)) e = omega arith

  before_in : b - 1 < used
  before_in = omega (arith, far, G.high, used_high s used used P)

  -- r − 1 commits stand before it
  just : count (take (b - 2) rest) ≡ r - 1
  just =
      let v = era_rest s used used P (b - 1) (omega (arith, far)) in
      let w = G.before (b - 1) (omega (arith, far)) (omega (arith, far)) in
      let d : b - 1 - 1 ≡ b - 2 = omega arith in
      let v' : era_at (blocks_of used s) (b - 1) ≡ 1 + count (take (b - 2) rest) = subst (λ (x : ℕ). era_at (blocks_of used s) (b - 1) ≡ 1 + count (take x rest)) d v in
      let e : b - 2 + 1 ≡ b - 1 = omega (arith, far) in
      let o = subst (λ (x : ℕ). count (take x rest) ≤ count (take (b - 2) rest) + 1) e (count-one rest (b - 2)) in
      omega (arith, v', w, o, counted s used used P r high' b G)

  there : CommitAt look rest (b - 2)
  there =
      let e : suc (b - 2) ≡ b - 1 = omega (arith, far) in
      let m = subst (λ (x : ℕ). count (take x rest) ≡ r) (sym e) (counted s used used P r high' b G) in
      commit-there look 1 0 (replicate 32 0 ∷ []) rest (opened (blocks_of used s) (ok_all s used used P)).2 (b - 2) (omega (arith, far, G.high, used_is s used used P)) (omega (arith, m, just))

  abbrev bytes : List ℕ
  bytes = lent s (b - 1)

  parsed : parse bytes ≡ commit there.revision there.seat there.stamp there.lines
  parsed =
      let e : suc (b - 2) ≡ b - 1 = omega (arith, far) in
      sym (block_at used (b - 1) s before_in)
      ∙ ap (λ (x : List Block). get_or x (b - 1) blank) (opened (blocks_of used s) (ok_all s used used P)).1
      ∙ ap (λ (x : ℕ). get_or (label ∷ rest) x blank) (sym e)
      ∙ there.is

  before-commit : kind_of (parse bytes) ≡ CommitKind
  before-commit = ap kind_of parsed

  pub before-few : two_at bytes 2 ≤ 32
  before-few = few-changes used (b - 1) s P.laws before_in before-commit

  pub before-size : length bytes ≡ 512
  before-size = part_size s used (b - 1) P.whole before_in

  fields : commit_of bytes ≡ commit there.revision there.seat there.stamp there.lines
  fields = sym (parse-commit bytes before-commit) ∙ parsed

  its_commit : commit_at (store_history s) r ≡ stated look there.seat there.stamp there.lines
  unfolding history_of
  its_commit =
      ap (λ (x : History). get_or x (r - 1) no_commit) (sym (same-history s n used A))
      ∙ ap (λ (x : History). get_or x (r - 1) no_commit) (first_read (blocks_of used s) rest (opened (blocks_of used s) (ok_all s used used P)).1)
      ∙ ap (λ (x : ℕ). get_or (read_from look rest) x no_commit) (sym just)
      ∙ there.states

  -- THE STATEMENT: what stands in the block is what log answers
  pub log_is : (i : ℕ) → i < 32 → (x : LogEntry) → x.seat ≡ get_or bytes 6 0 → x.stamp ≡ four_at bytes 8 → x.changes ≡ two_at bytes 2
      → x.action ≡ deed_in i (parse_lines (two_at bytes 2) (drop 16 bytes)) → answer_of (Ok (Logged x)) ≡ (doing (store_side s) (Log r i)).0
  unfolding stated
  log_is i h x es et em ea =
      let q : get_or bytes 6 0 ≡ there.seat = cc fields in
      let t : four_at bytes 8 ≡ there.stamp = cc fields in
      let l : parse_lines (two_at bytes 2) (drop 16 bytes) ≡ there.lines = cc fields in
      let d = does-lines look i h there.lines in
      let a : x.action ≡ deed_in i there.lines = ea ∙ ap (deed_in i) l in
      let m : x.changes ≡ total counts (puts (means look) there.lines no_changes) = em ∙ sym (length-parse (two_at bytes 2) (drop 16 bytes)) ∙ ap length l ∙ sym there.many in
      let y : answer_of (Ok (Logged x)) ≡ log_of (stated look there.seat there.stamp there.lines) i = rw (es ∙ q, et ∙ t, m, a, d.action, d.sheet, d.revision) in
      y ∙ sym (ap (λ (c : Commit). log_of c i) its_commit)
