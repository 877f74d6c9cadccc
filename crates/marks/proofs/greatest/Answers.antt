-- The greatest of the revisions that the walk gives.
use Rattle.std.proofs.Common.{rules, tests, ◌∙◌, ap, leb, max}
use Rattle.std.specs.List.{filter, fold}
use Rattle.std.proofs.lemmas.Iterator.Consumers.{YieldsList-from_filter, YieldsList-from_filter_map, fold_from_yields_List}
use Rattle.marks.proofs.Turns.{greatest_is}
use Rattle.marks.proofs.Walk.{blocks_come, of_block, releases_come}
use Rattle.marks.proofs.greatest.Goals as goal

pub returns : goal.returns
returns c =
    let store = c.args.store.now in
    let r = c.args.r in
    fold_from_yields_List _ max 0 _ c.fold.ensures.ran
    (YieldsList-from_filter _ (λ x. leb x r)
    (YieldsList-from_filter_map _ of_block (blocks_come store c.args.n _ c.requires.room (cc) (cc)) c.filter_map.ensures.closure (λ x o q k. search rules))
    c.filter.ensures.closure (λ x b q k. search (rules, tests)))
    (λ most x b q k. search rules)
    ∙ ap (λ xs. fold max 0 (filter (λ x. leb x r) xs)) (releases_come store c.args.n c.requires)
    ∙ greatest_is r _
