-- Assumes nothing.
use Rattle.entries.proofs.Looking.{holding_found}
use Rattle.entries.proofs.look_up.Goals as goal

pub returns-clause-holds : goal.returns-clause-holds
returns-clause-holds c =
    holding_found c.args.store.now c.args.v c.requires.0 c.args.r c.args.i c.requires.1 c.look_up.ensures
