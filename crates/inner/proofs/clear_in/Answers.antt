-- `inner::clear_in` meets its contract: all blocks of the tail are cleared, or it stopped.
-- Assumes nothing.
use Rattle.inner.proofs.Clearing.{clear-all, clear-stopped, may_clear, open_taken}
use Rattle.inner.proofs.clear_in.Goals as goal

pub count-count-requires : goal.count-count-requires
count-count-requires c = open_taken c.args.store.now c.args.h c.requires

pub clear-requires : goal.clear-requires
clear-requires c = may_clear c.args.store.now c.args.h c.requires c.count-count.result c.count-count.ensures

pub returns-then-clear : goal.returns-then-clear
returns-then-clear c =
    let t = c.count-count in
    let w = c.clear in
    clear-all c.args.store.now c.args.h c.requires t.result t.ensures c.args.n w.ensures.0 w.ensures.1 c.if-clear.true

pub returns : goal.returns
returns c =
    let t = c.count-count in
    let w = c.clear in
    clear-stopped c.args.store.now c.args.h c.requires t.result t.ensures c.args.n w.ensures.0 w.ensures.1 c.if-clear.false
