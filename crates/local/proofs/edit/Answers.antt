-- Edit, one law for each answer.
-- Assumes nothing.
use Rattle.std.proofs.Common.{◌∙◌, ap, arith, set}
use Rattle.model.specs.Entry.{Entry}
use Rattle.model.specs.WorkCopy.{copy_bytes, entries_of, seat_of}
use Rattle.local.proofs.States.{edit_is, edit_put, was_nothing}
use Rattle.local.proofs.Tests.{edit_done, edit_missing, edit_range}
use Rattle.local.proofs.edit.Goals as goal

pub returns-then-sheet-gt31 : goal.returns-then-sheet-gt31
returns-then-sheet-gt31 c = edit_range c.args.copy.now c.args.sheet c.args.bytes.now c.then-sheet-gt31.either

pub returns-then-nothing_in : goal.returns-then-nothing_in
returns-then-nothing_in c =
    let a = c.args in
    let e = c.entry_at-was in
    edit_missing a.copy.now a.sheet a.bytes.now c.if-sheet-gt31.false c.if-bytes-gt480.false
    (was_nothing a.copy.now a.sheet e.result e.ensures c.nothing_in.ensures c.if-nothing_in.true)

pub put_entry-requires : goal.put_entry-requires
put_entry-requires c =
    let a = c.args in
    let e = c.entry_at-was in
    edit_put a.copy.now c.requires a.sheet c.if-sheet-gt31.false e.result e.ensures
    (was_nothing a.copy.now a.sheet e.result e.ensures c.nothing_in.ensures c.if-nothing_in.false)
    a.bytes.now c.if-bytes-gt480.false (λ j. omega (arith, c.type_inv.bytes j))

pub returns : goal.returns
returns c =
    let a = c.args in
    let l = a.copy.now in
    let e = c.entry_at-was in
    edit_done l a.sheet a.bytes.now c.if-sheet-gt31.false c.if-bytes-gt480.false
    (was_nothing l a.sheet e.result e.ensures c.nothing_in.ensures c.if-nothing_in.false)
    (c.put_entry.ensures ∙ ap (λ (x : Entry). copy_bytes (seat_of l) (set (entries_of l) a.sheet x)) (edit_is l c.requires a.sheet c.if-sheet-gt31.false e.result e.ensures a.bytes.now))
