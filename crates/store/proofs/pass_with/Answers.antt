-- The table is fresh and has a row for each block.
use Rattle.std.proofs.Common.{arith}
use Rattle.store.proofs.OpenLaws.{fresh}
use Rattle.store.proofs.pass_with.Goals as goal

pub pass-requires : goal.pass-requires
pass-requires g c = fresh c.args.store.now c.args.n _ c.requires.0 c.requires.1 (omega arith) c.requires.2
