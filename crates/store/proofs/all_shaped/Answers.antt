-- The chunks are the store's blocks.
use Rattle.std.proofs.Common.{◌∙◌, arith, rules, tests}
use Rattle.std.proofs.lemmas.Iterator.Search.{all_from_yields_List}
use Rattle.model.specs.Blocks.{fields_of, fits_block, parse}
use Rattle.model.specs.Codec.{shaped}
use Rattle.store.proofs.Chunks.{all-parts, yields-pieces}
use Rattle.store.proofs.all_shaped.Goals as goal

pub returns : goal.returns
returns c =
    let a = c.args in
    all_from_yields_List (shaped fields_of parse fits_block) _ _ _ c.all.ensures.ran
    (yields-pieces 512 a.n a.store.now (omega arith) c.chunks_exact.ensures.size c.chunks_exact.ensures.rest (omega arith)) (λ x b q k. search (rules, tests))
    ∙ all-parts (shaped fields_of parse fits_block) a.n a.store.now
