-- One answer at a time.
-- Assumes nothing.
use Rattle.std.proofs.Common.{Ok, ap, ◌∙◌}
use Rattle.model.specs.declared.Answer.{Answer}
use Rattle.replay.proofs.Writing.{answered, done_record, refused_record, revision_record, stopped_record}
use Rattle.replay.proofs.put_answer.Goals as goal

pub returns-in-Err : goal.returns-in-Err
returns-in-Err c = answered c.in-Err.is (refused_record c.requires c.in-Err.k c.from.ensures c.put32.ensures)

pub returns-in-Ok-Done : goal.returns-in-Ok-Done
returns-in-Ok-Done c = answered (c.in-Ok-Done.is ∙ ap (λ (x : Answer). Ok x) (rw c.in-Ok-Done.is at c.in-Ok-Done.field-0-is)) (done_record c.requires)

pub returns-in-Ok-Revision : goal.returns-in-Ok-Revision
returns-in-Ok-Revision c = answered (c.in-Ok-Revision.is ∙ ap (λ (x : Answer). Ok x) (rw c.in-Ok-Revision.is at c.in-Ok-Revision.field-0-is)) (revision_record c.requires c.in-Ok-Revision.n c.put32-in-Ok-Revision.ensures)

pub returns-in-Ok-Stopped : goal.returns-in-Ok-Stopped
returns-in-Ok-Stopped c = answered (c.in-Ok-Stopped.is ∙ ap (λ (x : Answer). Ok x) (rw c.in-Ok-Stopped.is at c.in-Ok-Stopped.field-0-is)) (stopped_record c.requires c.put32-in-Ok-Stopped.ensures)
