-- Revision r is one of those that the walk gives. There is no revision 0.
use Rattle.std.proofs.Common.{rules, tests, arith, ◌∙◌, ◌≡◌, ap, eqb, sym}
use Rattle.std.specs.List.{list_any}
use Rattle.std.proofs.lemmas.Iterator.Consumers.{YieldsList-from_filter_map}
use Rattle.std.proofs.lemmas.Iterator.Search.{any_from_yields_List}
use Rattle.model.specs.Log.{among, marks, releases}
use Rattle.model.specs.Pass.{log_all}
use Rattle.model.specs.Store.{blocks_of}
use Rattle.marks.proofs.Accepted.{laid_revisions}
use Rattle.marks.proofs.Turns.{among-zero, among_any}
use Rattle.marks.proofs.Walk.{blocks_come, of_block, releases_come}
use Rattle.marks.proofs.is_released.Goals as goal

pub returns-then-r-ne0 : goal.returns-then-r-ne0
returns-then-r-ne0 c =
    any_from_yields_List (λ x. eqb x c.args.r) _ _ _ c.any.ensures.ran
    (YieldsList-from_filter_map _ of_block (blocks_come c.args.store.now c.args.n _ c.requires.room (cc) (cc))
    c.filter_map.ensures.closure (λ x r q k. search rules))
    (λ x b q k. search (rules, tests))
    ∙ ap (list_any (λ x. eqb x c.args.r)) (releases_come c.args.store.now c.args.n c.requires) ∙ among_any c.args.r _

pub returns-else-r-ne0 : goal.returns-else-r-ne0
returns-else-r-ne0 c =
    let s = c.args.store.now in
    let n = c.args.n in
    let none : c.args.r ≡ 0 = omega arith in
    sym (ap (λ x. among x (releases (marks (log_all (blocks_of n s))))) none ∙ ap (among 0) (sym (laid_revisions s n c.requires)) ∙ among-zero (blocks_of n s)
    ∙ rw none)
