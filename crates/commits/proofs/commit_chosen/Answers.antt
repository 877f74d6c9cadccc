-- Each way that it ends is the machine's answer.
use Rattle.std.proofs.Common.{false-eqb, sym}
use Rattle.std.proofs.lemmas.Bool.{eqb-true}
use Rattle.commits.proofs.Join.{may_plan, may_write, says-done, says-no_room, says_nothing, says-stopped}
use Rattle.commits.proofs.commit_chosen.Goals as goal

pub make_plan-count-requires : goal.make_plan-count-requires
make_plan-count-requires c =
    let a = c.args in
    may_plan a.store.now a.copy.now a.used a.revision a.seat a.mask a.changed.now a.places.now c.requires

pub returns-then-is_empty : goal.returns-then-is_empty
returns-then-is_empty c =
    let a = c.args in
    let w = c.make_plan-count in
    says_nothing a.store.now a.copy.now a.used a.revision a.seat a.mask a.changed.now a.places.now c.requires
    w.result.lines w.result.count w.result.next w.ensures a.stamp a.n (eqb-true _ _ (sym (c.if-is_empty.ensures)))

pub returns-then-store-next : goal.returns-then-store-next
returns-then-store-next c =
    let a = c.args in
    let w = c.make_plan-count in
    says-no_room a.store.now a.copy.now a.used a.revision a.seat a.mask a.changed.now a.places.now c.requires
    w.result.lines w.result.count w.result.next w.ensures a.stamp a.n (false-eqb _ _ (c.if-is_empty.ensures)) c.if-store-next.true

pub write_some-end-requires : goal.write_some-end-requires
write_some-end-requires c =
    let a = c.args in
    let w = c.make_plan-count in
    may_write a.store.now a.copy.now a.used a.revision a.seat a.mask a.changed.now a.places.now c.requires
    w.result.lines w.result.count w.result.next w.ensures c.if-store-next.false

pub returns-then-end-next : goal.returns-then-end-next
returns-then-end-next c =
    let a = c.args in
    let w = c.make_plan-count in
    let v = c.write_some-end in
    says-stopped a.store.now a.copy.now a.used a.revision a.seat a.mask a.changed.now a.places.now c.requires
    w.result.lines w.result.count w.result.next w.ensures a.stamp a.n v.new.store v.result
    (false-eqb _ _ (c.if-is_empty.ensures)) c.if-store-next.false v.ensures c.if-end-next.true

pub returns : goal.returns
returns c =
    let a = c.args in
    let w = c.make_plan-count in
    let v = c.write_some-end in
    says-done a.store.now a.copy.now a.used a.revision a.seat a.mask a.changed.now a.places.now c.requires
    w.result.lines w.result.count w.result.next w.ensures a.stamp a.n v.new.store v.result
    (false-eqb _ _ (c.if-is_empty.ensures)) c.if-store-next.false v.ensures c.if-end-next.false
