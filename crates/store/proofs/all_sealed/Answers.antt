-- The chunks are the store's blocks.
use Rattle.std.proofs.Common.{◌∙◌, arith, rules, tests}
use Rattle.std.proofs.lemmas.Iterator.Search.{all_from_yields_List}
use Rattle.block.specs.Check.{sealed}
use Rattle.model.specs.Store.{checked}
use Rattle.store.proofs.Chunks.{all-parts, yields-pieces}
use Rattle.store.proofs.all_sealed.Goals as goal

pub returns : goal.returns
unfolding checked
returns c =
    let a = c.args in
    all_from_yields_List sealed _ _ _ c.all.ensures.ran
    (yields-pieces 512 a.n a.store.now (omega arith) c.chunks_exact.ensures.size c.chunks_exact.ensures.rest (omega arith)) (λ x b q k. search (rules, tests))
    ∙ all-parts sealed a.n a.store.now
