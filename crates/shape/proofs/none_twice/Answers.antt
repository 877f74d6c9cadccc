-- At the start no sheet is marked.
use Rattle.std.proofs.Common.{refl}
use Rattle.shape.proofs.Changes.{apart_all}
use Rattle.shape.proofs.none_twice.Goals as goal

pub loop-j-init : goal.loop-j-init
loop-j-init c = (refl, apart_all c.args.s.now c.args.base c.args.m 256)
