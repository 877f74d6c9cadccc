-- The blocks from block `used` on that are not zero are the tail.
use Rattle.std.proofs.Common.{rules, tests, ◌*◌, ◌≤◌, ◌∙◌, arith, drop, length, not, refl}
use Rattle.std.proofs.lemmas.Iterator.Consumers.{YieldsList-at, count_from_yields_List}
use Rattle.std.proofs.lemmas.Iterator.Search.{YieldsList-from_take_while}
use Rattle.std.proofs.lemmas.List.Folds.{length-prefix_len}
use Rattle.block.specs.Check.{is_zero}
use Rattle.tails.proofs.Parts.{all_parts, parts_come, to_end}
use Rattle.tails.proofs.Standing.{tail_counted, tail_room}
use Rattle.tails.proofs.count.Goals as goal

pub overflow_mul-used : goal.overflow_mul-used
overflow_mul-used c = omega (arith, tail_room c.args.store.now c.args.used c.requires)

pub slice_bounds-chunks_exact-count : goal.slice_bounds-chunks_exact-count
slice_bounds-chunks_exact-count c = omega (arith, tail_room c.args.store.now c.args.used c.requires)

pub slice_bounds-chunks_exact-start : goal.slice_bounds-chunks_exact-start
slice_bounds-chunks_exact-start c = let h : c.args.used * 512 ≤ length c.args.store.now = omega (arith, tail_room c.args.store.now c.args.used c.requires) in search rules

pub returns : goal.returns
returns c =
    let at = c.args.used * 512 in
    let rest = drop at c.args.store.now in
    count_from_yields_List _ _ c.count.ensures.ran
    (YieldsList-from_take_while _ (λ b. not (is_zero b)) (YieldsList-at c.take_while.ensures.source (parts_come rest c.chunks_exact.result c.chunks_exact.ensures.size (c.chunks_exact.ensures.rest ∙ to_end at c.args.store.now))) c.take_while.ensures.closure c.take_while.ensures.done (λ x b q k. search (rules, tests)))
    ∙ length-prefix_len (λ b. not (is_zero b)) (all_parts rest)
    ∙ tail_counted c.args.store.now c.args.used c.requires _ refl
