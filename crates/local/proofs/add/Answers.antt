-- Add, one law for each answer.
-- Assumes nothing.
use Rattle.std.proofs.Common.{arith, rules}
use Rattle.local.proofs.States.{add-put, not-empty, was_empty}
use Rattle.local.proofs.Tests.{add_done, add_occupied, add_range}
use Rattle.local.proofs.add.Goals as goal

pub returns-then-sheet-gt31 : goal.returns-then-sheet-gt31
returns-then-sheet-gt31 c = add_range c.args.copy.now c.args.sheet c.args.bytes.now c.then-sheet-gt31.either

pub returns-then-ne : goal.returns-then-ne
returns-then-ne c =
    let a = c.args in
    let e = c.entry_at-was in
    add_occupied a.copy.now a.sheet a.bytes.now c.if-sheet-gt31.false c.if-bytes-gt480.false
    (not-empty a.copy.now a.sheet e.result e.ensures (search rules))

pub put_entry-requires : goal.put_entry-requires
put_entry-requires c =
    let a = c.args in
    add-put a.copy.now c.requires a.sheet c.if-sheet-gt31.false a.bytes.now c.if-bytes-gt480.false (λ j. omega (arith, c.type_inv.bytes j))

pub returns : goal.returns
returns c =
    let a = c.args in
    let e = c.entry_at-was in
    add_done a.copy.now a.sheet a.bytes.now c.if-sheet-gt31.false c.if-bytes-gt480.false
    (was_empty a.copy.now a.sheet e.result e.ensures (search rules)) c.put_entry.ensures
