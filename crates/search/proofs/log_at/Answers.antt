-- The block before the bound is the commit's own, and `log_is` says what stands there.
-- Assumes nothing.
use Rattle.std.proofs.Common.{◌-◌, ◌∙◌, ap, arith, drop, ℕ}
use Rattle.model.specs.Blocks.{parse_lines}
use Rattle.search.proofs.Logging.{before-few, before-size, log_is}
use Rattle.search.specs.Deed.{deed_in}
use Rattle.store.proofs.Blocks.{lent}
use Rattle.search.proofs.log_at.Goals as goal

pub deed_in-requires : goal.deed_in-requires
deed_in-requires c =
    let a = c.args in (
      before-size a.store.now a.n a.used c.requires.0 a.r c.bound.result c.bound.ensures.bound c.requires.1 c.requires.2,
      omega (arith, c.two_at-changes.ensures.0, before-few a.store.now a.n a.used c.requires.0 a.r c.bound.result c.bound.ensures.bound c.requires.1 c.requires.2),
    )

pub returns : goal.returns
returns c =
    let a = c.args in
    let l = lent a.store.now (c.bound.result - 1) in
    log_is a.store.now a.n a.used c.requires.0 a.r c.bound.result c.bound.ensures.bound c.requires.1 c.requires.2 a.i c.requires.3 _
    c.from.ensures c.get32.ensures c.two_at-changes.ensures.0
    (c.deed_in.ensures ∙ ap (λ (m : ℕ). deed_in a.i (parse_lines m (drop 16 l))) c.two_at-changes.ensures.0)
