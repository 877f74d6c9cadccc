-- Assumes nothing.
use Rattle.std.proofs.Common.{inl, inr}
use Rattle.updates.proofs.Entering.{rebase_put, update_conflict, update_stays, update_takable}
use Rattle.updates.proofs.update_one.Goals as goal

pub take_block-requires : goal.take_block-requires
take_block-requires c =
    update_takable c.requires.0 c.update_of.ensures c.requires.2 c.requires.1 c.in-Take.is

pub set_entry-requires : goal.set_entry-requires
set_entry-requires c =
    rebase_put c.requires.0 c.update_of.ensures c.in-Rebase.is c.entry_at-e.ensures c.rebased-state.ensures c.requires.2 c.requires.1

pub returns-in-Conflict : goal.returns-in-Conflict
returns-in-Conflict c =
    elim c.in-Conflict.is [ inl q ↦ update_conflict c.requires.0 c.update_of.ensures q | inr q ↦ update_stays c.requires.0 c.update_of.ensures q ]
