-- Each revision that the walk gives is the next that is released, and has its place in the table.
use Rattle.std.proofs.Common.{arith, rules, ◌∙◌, length-set, refl, sym, true}
use Rattle.std.proofs.lemmas.List.{length_push}
use Rattle.std.proofs.lemmas.Iterator.Consumers.{YieldsList-from_filter_map}
use Rattle.marks.proofs.Turns.{apart_all, apart_fails, apart_none, apart_step}
use Rattle.marks.proofs.Walk.{all_came, blocks_come, next_is, of_block, released_in}
use Rattle.marks.proofs.together.Goals as goal

pub loop-x-init : goal.loop-x-init
loop-x-init c = (search rules, search rules, refl, apart_all 4096 (released_in c.args.store.now c.args.n))

pub bounds-seen-x : goal.bounds-seen-x
bounds-seen-x c = (next_is c.args.store.now c.args.n c.requires
    (YieldsList-from_filter_map _ of_block (blocks_come c.args.store.now c.args.n _ c.requires.room (cc) (cc)) (cc) (λ x r q k. search rules))
    c.loop-x.yielded _ c.loop-x.yielded_by _ _ c.in-Some.x c.in-Some.is c.next.ensures.steps).low

pub bounds-seen-x-in-loop-x : goal.bounds-seen-x-in-loop-x
bounds-seen-x-in-loop-x c = (next_is c.args.store.now c.args.n c.requires
    (YieldsList-from_filter_map _ of_block (blocks_come c.args.store.now c.args.n _ c.requires.room (cc) (cc)) (cc) (λ x r q k. search rules))
    c.loop-x.yielded _ c.loop-x.yielded_by _ _ c.in-Some.x c.in-Some.is c.next.ensures.steps).low

pub returns-then-seen-x : goal.returns-then-seen-x
returns-then-seen-x c =
    let t = next_is c.args.store.now c.args.n c.requires
    (YieldsList-from_filter_map _ of_block (blocks_come c.args.store.now c.args.n _ c.requires.room (cc) (cc)) (cc) (λ x r q k. search rules))
    c.loop-x.yielded _ c.loop-x.yielded_by _ _ c.in-Some.x c.in-Some.is c.next.ensures.steps in
    sym (apart_fails c.loop-x.seen _ _ c.in-Some.x t.place t.item c.if-seen-x.true) ∙ c.loop-x.invariant.3

pub loop-x-preserved : goal.loop-x-preserved
loop-x-preserved c =
    let t = next_is c.args.store.now c.args.n c.requires
    (YieldsList-from_filter_map _ of_block (blocks_come c.args.store.now c.args.n _ c.requires.room (cc) (cc)) (cc) (λ x r q k. search rules))
    c.loop-x.yielded _ c.loop-x.yielded_by _ _ c.in-Some.x c.in-Some.is c.next.ensures.steps in
    let seen = c.loop-x.seen in (
      search rules,
      search rules,
      length-set seen c.in-Some.x true ∙ c.loop-x.invariant.2,
      rw (length_push c.loop-x.yielded c.in-Some.x) (apart_step seen _ _ c.in-Some.x t.place t.item (omega (arith, t.low, c.loop-x.invariant.2)) c.if-seen-x.false ∙ c.loop-x.invariant.3),
    )

pub returns : goal.returns
returns c = sym (apart_none c.loop-x.seen _ _ (all_came c.args.store.now c.args.n c.requires
    (YieldsList-from_filter_map _ of_block (blocks_come c.args.store.now c.args.n _ c.requires.room (cc) (cc)) (cc) (λ x r q k. search rules))
    c.loop-x.yielded _ c.loop-x.yielded_by _ _ c.in-None.is c.next.ensures.steps)) ∙ c.loop-x.invariant.3
