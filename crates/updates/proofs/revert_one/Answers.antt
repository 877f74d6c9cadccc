-- Assumes nothing.
use Rattle.std.proofs.Common.{inl, inr}
use Rattle.updates.proofs.Entering.{deleted_base, normal_base, revert_stays}
use Rattle.updates.proofs.revert_one.Goals as goal

pub take_sheet-requires : goal.take_sheet-requires
take_sheet-requires c = (
  c.requires.0,
  c.requires.1,
  elim c.in-Normal.is [ inl q ↦ normal_base c.requires.0 c.entry_at.ensures q | inr q ↦ deleted_base c.requires.0 c.entry_at.ensures q ],
)

pub returns-in-Empty : goal.returns-in-Empty
returns-in-Empty c = revert_stays c.requires.0 c.entry_at.ensures c.in-Empty.is
