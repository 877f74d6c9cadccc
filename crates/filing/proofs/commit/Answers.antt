-- `filing::commit` meets its contract: each refusal by its line, and then what the inner commit comes to.
-- Assumes nothing.
use Rattle.std.proofs.Common.{Ok, ap, arith, ◌∙◌}
use Rattle.commits.specs.declared.Outcome.{Outcome}
use Rattle.filing.proofs.Answers.{commit-done, commit-none, commit-refused, commit-stale, commit-stopped, left-committed, may_settle, next_is, next_small, seat-small}
use Rattle.filing.proofs.Keeping.{filed-done, filed-refused, filed-stopped}
use Rattle.model.specs.declared.Refusal.TheVariants.{OutOfDate, Range}
use Rattle.filing.proofs.commit.Goals as goal

pub returns-then-mask-eq0 : goal.returns-then-mask-eq0
returns-then-mask-eq0 c =
    let a = c.args in
    filed-refused a.store.now a.copy.now a.v c.requires.0 a.stamp a.mask a.n Range c.unfiled.ensures (commit-none a.store.now a.copy.now a.stamp a.mask a.n c.if-mask-eq0.true)

pub returns-then-any_stale : goal.returns-then-any_stale
returns-then-any_stale c =
    let a = c.args in
    filed-refused a.store.now a.copy.now a.v c.requires.0 a.stamp a.mask a.n OutOfDate c.unfiled-then-any_stale.ensures
    (commit-stale a.store.now a.copy.now a.stamp a.mask a.n c.if-mask-eq0.false c.any_stale.ensures c.if-any_stale.true)

pub overflow_add-next : goal.overflow_add-next
overflow_add-next c = let a = c.args in omega (arith, next_small a.store.now a.copy.now a.v c.requires.0)

pub overflow_cast-seat : goal.overflow_cast-seat
overflow_cast-seat c = let a = c.args in omega (arith, seat-small a.store.now a.copy.now a.v c.requires.0)

pub overflow_cast-revision : goal.overflow_cast-revision
overflow_cast-revision c = let a = c.args in omega (arith, next_small a.store.now a.copy.now a.v c.requires.0)

pub settle-requires : goal.settle-requires
settle-requires c = let a = c.args in (may_settle a.store.now a.copy.now a.v c.requires.0, c.note_flags-flags.ensures.flags)

pub returns-in-Err : goal.returns-in-Err
returns-in-Err c =
    let a = c.args in
    filed-refused a.store.now a.copy.now a.v c.requires.0 a.stamp a.mask a.n c.in-Err.k c.unfiled-in-Err.ensures
    (commit-refused a.store.now a.copy.now a.stamp a.mask a.n c.if-mask-eq0.false c.any_stale.ensures c.if-any_stale.false c.commit_chosen-o.ensures c.in-Err.is)

pub returns-in-Ok-Stopped : goal.returns-in-Ok-Stopped
returns-in-Ok-Stopped c =
    let a = c.args in
    filed-stopped a.store.now a.copy.now a.v c.requires.0 a.stamp a.mask a.n c.requires.1 (omega (arith, c.ranges.stamp))
    (commit-stopped a.store.now a.copy.now a.stamp a.mask a.n c.if-mask-eq0.false c.any_stale.ensures c.if-any_stale.false c.commit_chosen-o.ensures (c.in-Ok-Stopped.is ∙ ap (λ (x : Outcome). Ok x) (rw c.in-Ok-Stopped.is at c.in-Ok-Stopped.field-0-is)))

pub returns-in-Ok-Done : goal.returns-in-Ok-Done
returns-in-Ok-Done c =
    let a = c.args in
    let P = c.requires in
    filed-done a.store.now a.copy.now a.v P.0 a.stamp a.mask a.n P.1 (omega (arith, c.ranges.stamp)) c.commit_chosen-o.ensures (c.in-Ok-Done.is ∙ ap (λ (x : Outcome). Ok x) (rw c.in-Ok-Done.is at c.in-Ok-Done.field-0-is))
    (commit-done a.store.now a.copy.now a.stamp a.mask a.n c.if-mask-eq0.false c.any_stale.ensures c.if-any_stale.false c.commit_chosen-o.ensures (c.in-Ok-Done.is ∙ ap (λ (x : Outcome). Ok x) (rw c.in-Ok-Done.is at c.in-Ok-Done.field-0-is))
    (next_is a.store.now a.copy.now a.v P.0) (left-committed a.store.now a.copy.now a.v P.0 c.note_flags-flags.ensures c.settle.ensures))
