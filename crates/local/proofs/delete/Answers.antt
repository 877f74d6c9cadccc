-- Delete, one law for each answer.
-- Assumes nothing.
use Rattle.std.proofs.Common.{◌∙◌, ap, set}
use Rattle.model.specs.Entry.{Entry}
use Rattle.model.specs.WorkCopy.{copy_bytes, entries_of, seat_of}
use Rattle.local.proofs.States.{delete_is, delete-put, was_nothing}
use Rattle.local.proofs.Tests.{delete-done, delete_far, delete_missing}
use Rattle.local.proofs.delete.Goals as goal

pub returns-then-sheet-gt31 : goal.returns-then-sheet-gt31
returns-then-sheet-gt31 c = delete_far c.args.copy.now c.args.sheet c.if-sheet-gt31.true

pub returns-then-nothing_in : goal.returns-then-nothing_in
returns-then-nothing_in c =
    let a = c.args in
    let e = c.entry_at-was in
    delete_missing a.copy.now a.sheet c.if-sheet-gt31.false (was_nothing a.copy.now a.sheet e.result e.ensures c.nothing_in.ensures c.if-nothing_in.true)

pub set_entry-requires : goal.set_entry-requires
set_entry-requires c =
    let a = c.args in
    let e = c.entry_at-was in
    delete-put a.copy.now c.requires a.sheet c.if-sheet-gt31.false e.result e.ensures c.after_delete-state.result c.after_delete-state.ensures

pub returns : goal.returns
returns c =
    let a = c.args in
    let l = a.copy.now in
    let e = c.entry_at-was in
    delete-done l a.sheet c.if-sheet-gt31.false (was_nothing l a.sheet e.result e.ensures c.nothing_in.ensures c.if-nothing_in.false)
    (c.set_entry.ensures
    ∙ ap (λ (x : Entry). copy_bytes (seat_of l) (set (entries_of l) a.sheet x)) (delete_is l c.requires a.sheet c.if-sheet-gt31.false e.result e.ensures c.after_delete-state.result c.after_delete-state.ensures))
