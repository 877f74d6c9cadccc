-- A store's bytes pass the tests exactly where they are the layout of a log, and that is the log that is read; its commits are the history.
-- Assumes nothing.
use Prim.Native.Nat.{◌*◌, ℕ}
use mathlib.Core.Bool.{◌&&◌}
use mathlib.Core.List.{List, map}
use mathlib.Core.Path.{◌∙◌, ◌≡◌, ap, subst, subst₂, sym}
use lib.Dec.{T}
use lib.ListN.{length}
use Rattle.block.proofs.Says.{and_true, true_and}
use Rattle.block.specs.Check.{sealed}
use Rattle.block.specs.Lists.{all}
use Rattle.model.specs.Blocks.{FitsBlock, fields_of, fits_block, parse}
use Rattle.model.specs.Codec.{joined, parts, shaped}
use Rattle.model.specs.History.{History}
use Rattle.model.specs.Log.{Log, commits, marks, marks_ok}
use Rattle.model.specs.Pass.{log_all, ok}
use Rattle.model.specs.Store.{Holds, HoldsLog, blocks_of, checked, history_of, lawful}
use Rattle.laws.proofs.Acceptance.{accepted-logs, commits-all, logs-accepted}
use Rattle.laws.proofs.BlockCodes.{block_coded}
use Rattle.laws.proofs.Codec.{length-parts, parts_so, so_parts}
use Rattle.laws.proofs.Logs.{says-marked}

-- THE STATEMENT: a store passes exactly where its bytes are the layout of a log, and that is the one that is read
pub accepted-logged : (n : ℕ) (l : List ℕ) → length l ≡ n * 512 → T (checked n l) → T (lawful n l) → HoldsLog n l (log_all (blocks_of n l))
unfolding checked lawful HoldsLog blocks_of
accepted-logged n l e t u =
    let bs = map parse (parts n l) in
    let p = and_true (all (shaped fields_of parse fits_block) (parts n l)) (ok bs && marks_ok (marks (log_all bs))) u in
    let o = and_true (ok bs) (marks_ok (marks (log_all bs))) p.1 in
    let q = parts_so fields_of parse fits_block FitsBlock block_coded n l e t p.0 in
    (bs, length-parts fields_of parse fits_block FitsBlock block_coded n l, q.0, q.1, accepted-logs bs o.0, (says-marked (marks (log_all bs))).true_so o.1)

pub logged-accepted : (n : ℕ) (l : List ℕ) (g : Log) → HoldsLog n l g → T (checked n l) × T (lawful n l) × (log_all (blocks_of n l) ≡ g)
unfolding checked lawful HoldsLog blocks_of
logged-accepted n l g m =
    let bs = m.0 in
    let p = so_parts fields_of parse fits_block FitsBlock block_coded bs m.2 in
    let q = logs-accepted bs g m.4 in
    let o : T (marks_ok (marks (log_all bs))) = rw q.1 ((says-marked (marks g)).so_true m.5) in
    let ps = parts (length bs) (joined fields_of bs) in
    subst₂ (λ (x : ℕ) (y : List ℕ). T (all sealed (parts x y)) × T (all (shaped fields_of parse fits_block) (parts x y) && (ok (map parse (parts x y)) && marks_ok (marks (log_all (map parse (parts x y)))))) × (log_all (map parse (parts x y)) ≡ g))
    m.1 m.3
    (p.0, true_and (all (shaped fields_of parse fits_block) ps) (ok (map parse ps) && marks_ok (marks (log_all (map parse ps)))) p.1 (rw p.2 (true_and (ok bs) (marks_ok (marks (log_all bs))) q.0 o)), rw p.2 q.1)

-- the commits of what is read are the history
pub history-logged : (n : ℕ) (l : List ℕ) → commits (log_all (blocks_of n l)) ≡ history_of n l
unfolding history_of
history-logged n l = commits-all (blocks_of n l)

-- the same of the commits alone
pub accepted-holds : (n : ℕ) (l : List ℕ) → length l ≡ n * 512 → T (checked n l) → T (lawful n l) → Holds n l (history_of n l)
unfolding Holds
accepted-holds n l e t u = (log_all (blocks_of n l), history-logged n l, accepted-logged n l e t u)

pub holds-accepted : (n : ℕ) (l : List ℕ) (h : History) → Holds n l h → T (checked n l) × T (lawful n l) × (history_of n l ≡ h)
unfolding Holds
holds-accepted n l h m =
    let a = logged-accepted n l m.0 m.2 in
    (a.0, a.1, sym (history-logged n l) ∙ ap commits a.2 ∙ m.1)

-- and the log is the one that is read
pub log-holds : (n : ℕ) (l : List ℕ) (h : History) → Holds n l h → HoldsLog n l (log_all (blocks_of n l))
unfolding Holds
log-holds n l h m = subst (HoldsLog n l) (sym (logged-accepted n l m.0 m.2).2) m.2
