-- `rehearsal::close` meets its contract.
-- Assumes nothing.
use Rattle.std.proofs.Common.{◌∙◌}
use Rattle.rehearsal.specs.Desk.{pool}
use Rattle.rehearsal.proofs.Closing.{closes_so, next-seat}
use Rattle.rehearsal.proofs.close.Goals as goal

pub granted-requires : goal.granted-requires
granted-requires c =
    let L = c.requires.0.line in
    let x = c.given_back-back in
    next-seat c.args.d.turn L.0 L.1 L.2 c.requires.1 x.result x.ensures

pub returns : goal.returns
returns c =
    let a = c.args in
    let f = c.file-through in
    let n = c.counted in
    let x = c.given_back-back in
    let b = pool f.new.store f.new.one f.new.two f.new.three f.new.four in
    c.granted.ensures b
    ∙ closes_so (pool a.store.now a.one.now a.two.now a.three.now a.four.now) b a.d a.d.turn.holder a.step f.result n.result x.result f.ensures n.ensures x.ensures
