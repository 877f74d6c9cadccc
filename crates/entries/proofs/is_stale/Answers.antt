-- Assumes nothing.
use Rattle.entries.proofs.States.{normal_base}
use Rattle.entries.proofs.is_stale.Goals as goal

pub differs-requires : goal.differs-requires
differs-requires c =
    (c.requires.0.viewed, c.requires.1, normal_base c.args.store.now c.args.copy.now c.args.v c.requires.0 c.entry_at.ensures c.in-Normal.is, c.requires.1)
