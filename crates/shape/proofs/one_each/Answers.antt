-- The counts of the blocks are what is asked.
use Rattle.std.proofs.Common.{◌∙◌, arith, sym, eqb, drop, rules, tests, take}
use Rattle.std.proofs.lemmas.Iterator.{YieldsList-from_slice}
use Rattle.std.proofs.lemmas.Iterator.Search.{all_from_yields_List}
use Rattle.model.specs.Blocks.{parse_lines}
use Rattle.shape.proofs.Changes.{each_counted, each-many}
use Rattle.shape.proofs.one_each.Goals as goal

pub returns-then-k-gt32 : goal.returns-then-k-gt32
returns-then-k-gt32 c = let a = c.args in sym (each-many a.m a.at a.k (drop a.base a.s.now) (omega arith))

pub returns : goal.returns
returns c =
    let a = c.args in
    all_from_yields_List (λ n. eqb n 1) _ _ _ c.all.ensures.ran (YieldsList-from_slice (take a.k c.tally-counts.result) cc) (λ x b q k. search (rules, tests))
    ∙ each_counted a.k c.tally-counts.result (parse_lines a.m (drop a.base a.s.now)) a.at (omega arith) (λ q h. c.tally-counts.ensures q (omega arith))
