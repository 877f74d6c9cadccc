-- `filing::flag_of` meets its contract: the base and the source of an entry are there.
-- Assumes nothing.
use Rattle.entries.proofs.States.{normal_base}
use Rattle.filing.proofs.Looking.{source_near, source_sheet_lem}
use Rattle.filing.proofs.flag_of.Goals as goal

pub differs-requires : goal.differs-requires
differs-requires c =
    let a = c.args in
    (c.requires.0.viewed, c.requires.1, normal_base a.store.now a.copy.now a.v c.requires.0 c.entry_at.ensures c.in-Normal.is, c.requires.1)

pub differs-requires-in-Copied : goal.differs-requires-in-Copied
differs-requires-in-Copied c =
    let a = c.args in
    let r = c.entry_at.ensures in
    let q = c.in-Copied.is in
    (c.requires.0.viewed, c.requires.1, source_near a.store.now a.copy.now r q a.v c.requires.0, source_sheet_lem a.store.now a.copy.now r q a.v c.requires.0)
