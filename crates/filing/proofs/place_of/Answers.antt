-- `filing::place_of` meets its contract: the source of a copied entry is there, in a block of the store.
-- Assumes nothing.
use Rattle.std.proofs.Common.{arith}
use Rattle.filing.proofs.Looking.{source_near, source_sheet_lem, source-small}
use Rattle.filing.proofs.place_of.Goals as goal

pub look_up-requires : goal.look_up-requires
look_up-requires c =
    let a = c.args in
    let r = c.entry_at.ensures in
    let q = c.in-Copied.is in
    let o = c.requires.0.viewed.opened in
    (o.accepted, omega (arith, o.last, source_near a.store.now a.copy.now r q a.v c.requires.0), source_sheet_lem a.store.now a.copy.now r q a.v c.requires.0)

pub overflow_cast-result : goal.overflow_cast-result
overflow_cast-result c =
    let a = c.args in
    omega (arith, source-small a.store.now a.copy.now c.entry_at.ensures c.in-Copied.is a.v c.requires.0 c.look_up.ensures)
