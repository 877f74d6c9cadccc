-- `filing::any_stale` meets its contract: a turn looks at the lowest chosen entry that is left.
-- Assumes nothing.
use Rattle.std.proofs.Common.{◌∙◌}
use Rattle.filing.proofs.Looking.{stale_here, stale-next, stale-none}
use Rattle.filing.proofs.any_stale.Goals as goal

pub returns-then-is_stale : goal.returns-then-is_stale
returns-then-is_stale c =
    let a = c.args in
    let s = c.in-Some.ensures.steps in
    stale_here a.store.now a.copy.now c.requires.viewed.accepted s.lowest s.inside c.is_stale.ensures c.if-is_stale.true ∙ c.loop-k.invariant

pub loop-k-preserved : goal.loop-k-preserved
loop-k-preserved c =
    let a = c.args in
    let s = c.in-Some.ensures.steps in
    rw s.cleared (stale-next a.store.now a.copy.now c.requires.viewed.accepted s.lowest s.inside c.is_stale.ensures c.if-is_stale.false ∙ c.loop-k.invariant)

pub returns : goal.returns
returns c = let a = c.args in stale-none a.store.now a.copy.now c.in-None.ensures.steps ∙ c.loop-k.invariant
