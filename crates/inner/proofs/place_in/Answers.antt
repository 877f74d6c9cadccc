-- `inner::place_in` meets its contract: refused, or the place of the block that the sheet uses.
-- Assumes nothing.
use Rattle.inner.proofs.Looking.{in_range_lem, read_beyond, read_lacking, read_there}
use Rattle.model.specs.Store.{block_count}
use Rattle.search.proofs.Finding.{block_inside, open_asked}
use Rattle.search.specs.declared.Found.{Found}
use Rattle.std.proofs.Common.{rules, sym, ap, arith, ◌∙◌}
use Rattle.inner.proofs.place_in.Goals as goal

pub returns-then-beyond : goal.returns-then-beyond
returns-then-beyond c =
    let a = c.args in
    record { is = read_beyond a.store.now a.revision a.sheet a.h c.requires (sym c.beyond.ensures ∙ search rules); inside = tt }

pub look_up-found-requires : goal.look_up-found-requires
look_up-found-requires c =
    let a = c.args in
    let w = in_range_lem a.store.now a.revision a.sheet a.h c.requires (sym c.beyond.ensures ∙ search rules) in
    (open_asked a.store.now a.h c.requires, w.1, w.0)

pub returns-then-found-eq0 : goal.returns-then-found-eq0
returns-then-found-eq0 c =
    let a = c.args in
    let f = ap (λ (x : Found). x.block) c.look_up-found.ensures in
    record { is = read_lacking a.store.now a.revision a.sheet a.h c.requires (sym c.beyond.ensures ∙ search rules) (sym f ∙ c.if-found-eq0.true); inside = tt }

pub span_at-requires : goal.span_at-requires
span_at-requires c =
    let a = c.args in
    let f = ap (λ (x : Found). x.block) c.look_up-found.ensures in
    omega (arith, f, (block_inside a.store.now (block_count a.store.now) a.h.used (open_asked a.store.now a.h c.requires) a.revision a.sheet).0)

pub returns : goal.returns
returns c =
    let a = c.args in
    record {
      is = read_there a.store.now a.revision a.sheet a.h c.requires (sym c.beyond.ensures ∙ search rules) c.look_up-found.result c.span_at.result c.look_up-found.ensures c.if-found-eq0.false c.span_at.ensures.is;
      inside = c.span_at.ensures.inside;
    }
