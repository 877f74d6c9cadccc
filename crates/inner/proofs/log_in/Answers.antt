-- `inner::log_in` meets its contract: refused, or what the commit block tells.
-- Assumes nothing.
use Rattle.inner.proofs.Looking.{in_range_lem, log_beyond, log-there, log-zero}
use Rattle.search.proofs.Finding.{open_asked}
use Rattle.std.proofs.Common.{rules, sym, arith, ◌∙◌}
use Rattle.inner.proofs.log_in.Goals as goal

pub returns-then-revision-eq0 : goal.returns-then-revision-eq0
returns-then-revision-eq0 c =
    let a = c.args in log-zero a.store.now a.revision a.sheet a.h c.requires c.if-revision-eq0.true

pub returns-then-beyond : goal.returns-then-beyond
returns-then-beyond c =
    let a = c.args in
    log_beyond a.store.now a.revision a.sheet a.h c.requires c.if-revision-eq0.false (sym c.beyond.ensures ∙ search rules)

pub log_at-requires : goal.log_at-requires
log_at-requires c =
    let a = c.args in
    let w = in_range_lem a.store.now a.revision a.sheet a.h c.requires (sym c.beyond.ensures ∙ search rules) in
    (open_asked a.store.now a.h c.requires, omega arith, w.1, w.0)

pub returns : goal.returns
returns c =
    let a = c.args in
    c.log_at.ensures ∙ log-there a.store.now a.revision a.sheet a.h c.requires (sym c.beyond.ensures ∙ search rules) c.if-revision-eq0.false
