-- The seat stands there already, or gets the first place behind the line, or four stand there.
use Rattle.std.proofs.Common.{arith, sym}
use Rattle.turns.proofs.Cascade.{full, joins, line-none, line-one, line-three, line-two, stays}
use Rattle.turns.proofs.joined.Goals as goal

pub returns-then-contains : goal.returns-then-contains
returns-then-contains c =
    let t = c.args.t in
    stays t.holder t.first t.second t.third c.requires c.args.seat (sym c.if-contains.ensures.value)

pub returns-then-t-eq0 : goal.returns-then-t-eq0
returns-then-t-eq0 c =
    let t = c.args.t in
    joins t.holder t.first t.second t.third c.requires c.args.seat (sym c.if-contains.ensures.value)
    (line-none t.holder t.first t.second t.third c.if-t-eq0.true) (omega arith)

pub returns-then-t-eq0-2 : goal.returns-then-t-eq0-2
returns-then-t-eq0-2 c =
    let t = c.args.t in
    joins t.holder t.first t.second t.third c.requires c.args.seat (sym c.if-contains.ensures.value)
    (line-one t.holder t.first t.second t.third c.if-t-eq0.false c.if-t-eq0-2.true) (omega arith)

pub returns-then-t-eq0-3 : goal.returns-then-t-eq0-3
returns-then-t-eq0-3 c =
    let t = c.args.t in
    joins t.holder t.first t.second t.third c.requires c.args.seat (sym c.if-contains.ensures.value)
    (line-two t.holder t.first t.second t.third c.if-t-eq0.false c.if-t-eq0-2.false c.if-t-eq0-3.true) (omega arith)

pub returns-then-t-eq0-4 : goal.returns-then-t-eq0-4
returns-then-t-eq0-4 c =
    let t = c.args.t in
    joins t.holder t.first t.second t.third c.requires c.args.seat (sym c.if-contains.ensures.value)
    (line-three t.holder t.first t.second t.third c.if-t-eq0.false c.if-t-eq0-2.false c.if-t-eq0-3.false c.if-t-eq0-4.true) (omega arith)

pub returns-else-t-eq0-4 : goal.returns-else-t-eq0-4
returns-else-t-eq0-4 c =
    let t = c.args.t in
    full t.holder t.first t.second t.third c.if-t-eq0.false c.if-t-eq0-2.false c.if-t-eq0-3.false c.if-t-eq0-4.false c.args.seat
