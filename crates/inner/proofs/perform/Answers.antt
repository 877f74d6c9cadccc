-- `inner::perform` meets its contract: one call at a time.
-- Assumes nothing.
use Rattle.inner.proofs.Performing.{clears, clears_cut, files, fitting_open, inner_is, local_is, logs, meant, panels, reads, releases, shows, states, stays, whole}
use Rattle.inner.specs.declared.Reply.TheVariants.{Said}
use Rattle.laws.proofs.Cuts.{whole-clear}
use Rattle.model.specs.Machine.{Add, Commits, CommitsCut, Copy, Delete, Edit, Move, Revert, Update}
use Rattle.std.proofs.Common.{arith, ◌∙◌}
use Rattle.workcopy.proofs.Scan.{all-bytes}
use Rattle.inner.proofs.perform.Goals as goal

pub place_in-requires : goal.place_in-requires
place_in-requires c = fitting_open c.args.store.now c.args.copy.now c.args.v c.requires

pub log_in-requires : goal.log_in-requires
log_in-requires c = fitting_open c.args.store.now c.args.copy.now c.args.v c.requires

pub clear_in-requires : goal.clear_in-requires
clear_in-requires c = fitting_open c.args.store.now c.args.copy.now c.args.v c.requires

pub clear_in-requires-in-ClearCut : goal.clear_in-requires-in-ClearCut
clear_in-requires-in-ClearCut c = fitting_open c.args.store.now c.args.copy.now c.args.v c.requires

pub release_in-requires : goal.release_in-requires
release_in-requires c = fitting_open c.args.store.now c.args.copy.now c.args.v c.requires

pub panel_in-requires : goal.panel_in-requires
panel_in-requires c = fitting_open c.args.store.now c.args.copy.now c.args.v c.requires

pub returns-in-Add : goal.returns-in-Add
returns-in-Add c =
    let a = c.args in
    let F = c.requires in
    let r = c.add.result in
    meant a.store.now a.copy.now a.v F a.bytes.now c.in-Add.is
    (stays a.store.now a.copy.now a.v F (Add c.in-Add.sheet a.bytes.now) (all-bytes a.bytes.now (λ j. omega (arith, c.type_inv.bytes j))) (Said r) (local_is a.store.now a.copy.now a.v F (Add c.in-Add.sheet a.bytes.now) tt r c.add.ensures) tt c.stay.ensures)

pub returns-in-Edit : goal.returns-in-Edit
returns-in-Edit c =
    let a = c.args in
    let F = c.requires in
    let r = c.edit.result in
    meant a.store.now a.copy.now a.v F a.bytes.now c.in-Edit.is
    (stays a.store.now a.copy.now a.v F (Edit c.in-Edit.sheet a.bytes.now) (all-bytes a.bytes.now (λ j. omega (arith, c.type_inv.bytes j))) (Said r) (local_is a.store.now a.copy.now a.v F (Edit c.in-Edit.sheet a.bytes.now) tt r c.edit.ensures) tt c.stay-in-Edit.ensures)

pub returns-in-Delete : goal.returns-in-Delete
returns-in-Delete c =
    let a = c.args in
    let F = c.requires in
    let r = c.delete.result in
    meant a.store.now a.copy.now a.v F a.bytes.now c.in-Delete.is
    (stays a.store.now a.copy.now a.v F (Delete c.in-Delete.sheet) tt (Said r) (local_is a.store.now a.copy.now a.v F (Delete c.in-Delete.sheet) tt r c.delete.ensures) tt c.stay-in-Delete.ensures)

pub returns-in-Copy : goal.returns-in-Copy
returns-in-Copy c =
    let a = c.args in
    let F = c.requires in
    let r = c.copy_sheet.result in
    meant a.store.now a.copy.now a.v F a.bytes.now c.in-Copy.is
    (stays a.store.now a.copy.now a.v F (Copy c.in-Copy.from c.in-Copy.to) tt (Said r) (local_is a.store.now a.copy.now a.v F (Copy c.in-Copy.from c.in-Copy.to) tt r c.copy_sheet.ensures) tt c.stay-in-Copy.ensures)

pub returns-in-Move : goal.returns-in-Move
returns-in-Move c =
    let a = c.args in
    let F = c.requires in
    let r = c.move_sheet.result in
    meant a.store.now a.copy.now a.v F a.bytes.now c.in-Move.is
    (stays a.store.now a.copy.now a.v F (Move c.in-Move.from c.in-Move.to) tt (Said r) (local_is a.store.now a.copy.now a.v F (Move c.in-Move.from c.in-Move.to) tt r c.move_sheet.ensures) tt c.stay-in-Move.ensures)

pub returns-in-Commit : goal.returns-in-Commit
returns-in-Commit c =
    let a = c.args in
    let F = c.requires in
    rw c.moved.ensures (
    meant a.store.now a.copy.now a.v F a.bytes.now c.in-Commit.is
    (files a.store.now a.copy.now a.v F (Commits c.in-Commit.stamp c.in-Commit.mask) (omega arith) c.commit_in.result
    (whole a.store.now a.copy.now a.v F c.in-Commit.stamp c.in-Commit.mask (omega arith) c.commit_in.ensures))
    )

pub returns-in-Update : goal.returns-in-Update
returns-in-Update c =
    let a = c.args in
    let F = c.requires in
    let r = c.update.result in
    meant a.store.now a.copy.now a.v F a.bytes.now c.in-Update.is
    (stays a.store.now a.copy.now a.v F (Update c.in-Update.mask c.in-Update.revision) tt (Said r) (inner_is a.store.now a.copy.now a.v F (Update c.in-Update.mask c.in-Update.revision) tt r c.update.ensures) tt c.stay-in-Update.ensures)

pub returns-in-Revert : goal.returns-in-Revert
returns-in-Revert c =
    let a = c.args in
    let F = c.requires in
    let r = c.revert.result in
    meant a.store.now a.copy.now a.v F a.bytes.now c.in-Revert.is
    (stays a.store.now a.copy.now a.v F (Revert c.in-Revert.mask) tt (Said r) (inner_is a.store.now a.copy.now a.v F (Revert c.in-Revert.mask) tt r c.revert.ensures) tt c.stay-in-Revert.ensures)

pub returns-in-Read : goal.returns-in-Read
returns-in-Read c =
    let a = c.args in
    let F = c.requires in
    meant a.store.now a.copy.now a.v F a.bytes.now c.in-Read.is (reads a.store.now a.copy.now a.v F c.in-Read.revision c.in-Read.sheet c.place_in.result c.place_in.ensures c.stay-in-Read.ensures)

pub returns-in-Show : goal.returns-in-Show
returns-in-Show c =
    let a = c.args in
    let F = c.requires in
    meant a.store.now a.copy.now a.v F a.bytes.now c.in-Show.is (shows a.store.now a.copy.now a.v F c.in-Show.sheet c.shown_in.result c.shown_in.ensures c.stay-in-Show.ensures)

pub returns-in-Status : goal.returns-in-Status
returns-in-Status c =
    let a = c.args in
    let F = c.requires in
    meant a.store.now a.copy.now a.v F a.bytes.now c.in-Status.is (states a.store.now a.copy.now a.v F c.in-Status.sheet c.status_in.result c.status_in.ensures c.stay-in-Status.ensures)

pub returns-in-Log : goal.returns-in-Log
returns-in-Log c =
    let a = c.args in
    let F = c.requires in
    meant a.store.now a.copy.now a.v F a.bytes.now c.in-Log.is (logs a.store.now a.copy.now a.v F c.in-Log.revision c.in-Log.sheet c.log_in.result c.log_in.ensures c.stay-in-Log.ensures)

pub returns-in-Clear : goal.returns-in-Clear
returns-in-Clear c =
    let a = c.args in
    let F = c.requires in
    meant a.store.now a.copy.now a.v F a.bytes.now c.in-Clear.is
    (clears a.store.now a.copy.now a.v F c.clear_in.result (c.clear_in.ensures ∙ whole-clear a.store.now) c.stay-in-Clear.ensures)

pub returns-in-CommitCut : goal.returns-in-CommitCut
returns-in-CommitCut c =
    let a = c.args in
    rw c.moved-in-CommitCut.ensures (
    meant a.store.now a.copy.now a.v c.requires a.bytes.now c.in-CommitCut.is
    (files a.store.now a.copy.now a.v c.requires (CommitsCut c.in-CommitCut.stamp c.in-CommitCut.mask c.in-CommitCut.n) (omega arith) c.commit_in-in-CommitCut.result c.commit_in-in-CommitCut.ensures)
    )

pub returns-in-ClearCut : goal.returns-in-ClearCut
returns-in-ClearCut c =
    let a = c.args in
    let r = c.clear_in-in-ClearCut in
    meant a.store.now a.copy.now a.v c.requires a.bytes.now c.in-ClearCut.is
    (clears_cut a.store.now a.copy.now a.v c.requires c.in-ClearCut.n r.result r.ensures c.stay-in-ClearCut.ensures)

pub returns-in-Release : goal.returns-in-Release
returns-in-Release c =
    let a = c.args in
    let r = c.release_in in
    rw c.moved-in-Release.ensures (
    meant a.store.now a.copy.now a.v c.requires a.bytes.now c.in-Release.is
    (releases a.store.now a.copy.now a.v c.requires c.in-Release.revision c.in-Release.seat c.in-Release.stamp (omega arith) r.result r.ensures)
    )

pub returns-in-Panel : goal.returns-in-Panel
returns-in-Panel c =
    let a = c.args in
    let r = c.panel_in in
    meant a.store.now a.copy.now a.v c.requires a.bytes.now c.in-Panel.is
    (panels a.store.now a.copy.now a.v c.requires c.in-Panel.revision c.in-Panel.sheet r.result r.ensures c.stay-in-Panel.ensures)
