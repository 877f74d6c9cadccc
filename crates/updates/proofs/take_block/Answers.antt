-- Assumes nothing.
use Rattle.updates.proofs.Entering.{block-there, take-leaves, take_put}
use Rattle.updates.proofs.take_block.Goals as goal

pub span_at-held-requires : goal.span_at-held-requires
span_at-held-requires c = block-there c.requires

pub put_entry-requires : goal.put_entry-requires
put_entry-requires c = take_put c.requires c.span_at-held.ensures

pub returns : goal.returns
returns c = take-leaves c.requires c.span_at-held.ensures c.put_entry.ensures
