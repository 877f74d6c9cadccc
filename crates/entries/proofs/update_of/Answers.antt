-- Assumes nothing.
use Rattle.std.proofs.Common.{inl, inr}
use Rattle.entries.proofs.States.{deleted_base, normal_base}
use Rattle.entries.proofs.Updating.{agreed-added, agreed-copied, agreed-modified, stay_added, stay_copied, update_empty, update_modified, update_unmodified}
use Rattle.entries.proofs.update_of.Goals as goal

pub look_up-from-requires : goal.look_up-from-requires
look_up-from-requires c =
    (c.requires.0.viewed.opened, normal_base c.args.store.now c.args.copy.now c.args.v c.requires.0 c.entry_at.ensures c.in-Normal.is, c.requires.1)

pub look_up-from-requires-in-Deleted : goal.look_up-from-requires-in-Deleted
look_up-from-requires-in-Deleted c =
    (c.requires.0.viewed.opened, deleted_base c.args.store.now c.args.copy.now c.args.v c.requires.0 c.entry_at.ensures c.in-Deleted.is, c.requires.1)

pub returns-in-Empty : goal.returns-in-Empty
returns-in-Empty c =
    update_empty c.requires.0.viewed.opened c.requires.2 c.look_up-to.ensures.is c.entry_at.ensures c.in-Empty.is c.taken.ensures

pub returns-then-not-unlike : goal.returns-then-not-unlike
returns-then-not-unlike c =
    let b = normal_base c.args.store.now c.args.copy.now c.args.v c.requires.0 c.entry_at.ensures c.in-Normal.is in
    update_unmodified c.requires.0.viewed.opened c.requires.2 c.look_up-to.ensures.is c.entry_at.ensures c.look_up-from.ensures.is c.in-Normal.is b c.unlike.ensures
    c.if-not-unlike.true c.taken-then-not-unlike.ensures

pub returns-then-to-from : goal.returns-then-to-from
returns-then-to-from c =
    let b = normal_base c.args.store.now c.args.copy.now c.args.v c.requires.0 c.entry_at.ensures c.in-Normal.is in
    update_modified c.requires.0.viewed.opened c.requires.2 c.look_up-to.ensures.is c.entry_at.ensures c.look_up-from.ensures.is c.in-Normal.is b c.unlike.ensures
    c.if-not-unlike.false c.if-to-from.true

pub returns-else-to-from : goal.returns-else-to-from
returns-else-to-from c =
    let b = normal_base c.args.store.now c.args.copy.now c.args.v c.requires.0 c.entry_at.ensures c.in-Normal.is in
    agreed-modified c.requires.0.viewed.opened c.requires.2 c.look_up-to.ensures.is c.entry_at.ensures c.look_up-from.ensures.is c.in-Normal.is b c.unlike.ensures
    c.if-not-unlike.false c.if-to-from.false c.agreed.ensures

pub returns-in-Added : goal.returns-in-Added
returns-in-Added c =
    let o = c.requires.0.viewed.opened in
    elim c.in-Added.is [
      | inl q ↦ stay_added o c.requires.2 c.look_up-to.ensures.is c.entry_at.ensures c.if-p-eq0.true q
      | inr q ↦ stay_copied o c.requires.2 c.look_up-to.ensures.is c.entry_at.ensures c.if-p-eq0.true q.1
    ]

pub returns-in-Added-2 : goal.returns-in-Added-2
returns-in-Added-2 c =
    let o = c.requires.0.viewed.opened in
    elim c.in-Added-2.is [
      | inl q ↦ agreed-added o c.requires.2 c.look_up-to.ensures.is c.entry_at.ensures c.if-p-eq0.false c.agreed-in-Added-2.ensures q
      | inr q ↦ agreed-copied o c.requires.2 c.look_up-to.ensures.is c.entry_at.ensures c.if-p-eq0.false c.agreed-in-Added-2.ensures q.1
    ]
