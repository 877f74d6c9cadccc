-- Assumes nothing.
use Rattle.updates.proofs.Answers.{update_done, update_late, update_none, update_refused}
use Rattle.updates.proofs.update.Goals as goal
use Rattle.updates.proofs.update.Goals.{then-mask-eq0-via-then-mask-eq0, then-mask-eq0-via-else-mask-eq0+then-v-revision}

pub returns-then-mask-eq0 : goal.returns-then-mask-eq0
returns-then-mask-eq0 c =
    let a = c.args in
    elim c.then-mask-eq0.branch [
      | then-mask-eq0-via-then-mask-eq0 w ↦ update_none a.store.now a.copy.now a.mask a.revision w.if-mask-eq0.true
      | then-mask-eq0-via-else-mask-eq0+then-v-revision w ↦ update_late a.store.now a.copy.now a.mask w.if-mask-eq0.false c.requires a.revision w.if-v-revision.true
    ]

pub returns-then-any_conflict : goal.returns-then-any_conflict
returns-then-any_conflict c =
    let a = c.args in
    update_refused a.store.now a.copy.now a.mask c.if-mask-eq0.false c.requires a.revision c.if-v-revision.false c.any_conflict.ensures c.if-any_conflict.true

pub returns : goal.returns
returns c =
    let a = c.args in
    update_done a.store.now a.copy.now a.mask c.if-mask-eq0.false c.requires a.revision c.if-v-revision.false c.any_conflict.ensures c.if-any_conflict.false c.update_all.ensures
