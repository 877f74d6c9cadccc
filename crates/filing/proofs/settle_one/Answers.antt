-- `filing::settle_one` meets its contract: the entry stays, or gets its state after the commit.
-- Assumes nothing.
use Rattle.filing.proofs.Settling.{settle_leaves, settle_put, settle_stays}
use Rattle.filing.proofs.settle_one.Goals as goal

pub returns-then-stays : goal.returns-then-stays
returns-then-stays c = settle_stays c.requires.0 c.requires.1 c.args.flag c.entry_at-e.ensures c.stays.ensures c.if-stays.true

pub set_entry-requires : goal.set_entry-requires
set_entry-requires c = settle_put c.requires.0 c.requires.1 c.args.flag c.entry_at-e.ensures c.stays.ensures c.if-stays.false c.settled_state-state.ensures

pub returns : goal.returns
returns c = settle_leaves c.requires.0 c.requires.1 c.args.flag c.entry_at-e.ensures c.stays.ensures c.if-stays.false c.settled_state-state.ensures c.set_entry.ensures
