-- Copy, one law for each answer.
-- Assumes nothing.
use Rattle.std.proofs.Common.{◌∙◌, ap, rules, set}
use Rattle.model.specs.Entry.{Entry}
use Rattle.model.specs.WorkCopy.{copy_bytes, entries_of, seat_of}
use Rattle.local.proofs.States.{copy_is, copy-put, not-empty, was_empty, was_nothing}
use Rattle.local.proofs.Tests.{copy_done, copy_missing, copy_occupied, copy_range}
use Rattle.local.proofs.copy_sheet.Goals as goal

pub returns-then-from-gt31 : goal.returns-then-from-gt31
returns-then-from-gt31 c = copy_range c.args.copy.now c.args.from c.args.to c.then-from-gt31.either

pub returns-then-missing : goal.returns-then-missing
returns-then-missing c =
    let a = c.args in
    let e = c.entry_at-old in
    copy_missing a.copy.now a.from a.to c.if-from-gt31.false c.if-to-gt31.false
    (was_nothing a.copy.now a.from e.result e.ensures c.nothing_in-missing.ensures c.if-missing.true)

pub returns-then-occupied : goal.returns-then-occupied
returns-then-occupied c =
    let a = c.args in
    let e = c.entry_at-old in
    let t = c.entry_at in
    copy_occupied a.copy.now a.from a.to c.if-from-gt31.false c.if-to-gt31.false
    (was_nothing a.copy.now a.from e.result e.ensures c.nothing_in-missing.ensures c.if-missing.false)
    (not-empty a.copy.now a.to t.result t.ensures (search rules))

pub copy_entry-requires : goal.copy_entry-requires
copy_entry-requires c =
    let a = c.args in
    let e = c.entry_at-old in
    let t = c.entry_at in
    copy-put a.copy.now c.requires a.from c.if-from-gt31.false e.result e.ensures
    (was_nothing a.copy.now a.from e.result e.ensures c.nothing_in-missing.ensures c.if-missing.false)
    c.copied_from-state.result c.copied_from-state.ensures a.to c.if-to-gt31.false
    (was_empty a.copy.now a.to t.result t.ensures (search rules))

pub returns : goal.returns
returns c =
    let a = c.args in
    let l = a.copy.now in
    let e = c.entry_at-old in
    let t = c.entry_at in
    let n = was_nothing l a.from e.result e.ensures c.nothing_in-missing.ensures c.if-missing.false in
    copy_done l a.from a.to c.if-from-gt31.false c.if-to-gt31.false n (was_empty l a.to t.result t.ensures (search rules))
    (c.copy_entry.ensures
    ∙ ap (λ (x : Entry). copy_bytes (seat_of l) (set (entries_of l) a.to x)) (copy_is l c.requires a.from c.if-from-gt31.false e.result e.ensures n c.copied_from-state.result c.copied_from-state.ensures))
