-- The chunks are the script's records.
-- Assumes nothing.
use Rattle.std.proofs.Common.{◌%◌, ◌/◌, ◌∙◌, arith, length, rules, tests}
use borrow.Author.Tests.{ne_eqb}
use Rattle.std.proofs.lemmas.Iterator.Search.{all_from_yields_List}
use Rattle.replay.proofs.Reading.{all_good, broken, chunks, whole}
use Rattle.replay.specs.Script.{record_ok}
use Rattle.replay.proofs.script_ok.Goals as goal

pub returns-else-script-eq0 : goal.returns-else-script-eq0
returns-else-script-eq0 c = ne_eqb (length c.args.script.now % 512) 0 c.if-script-eq0.false ∙ broken c.args.script.now c.if-script-eq0.false

pub returns-then-script-eq0 : goal.returns-then-script-eq0
returns-then-script-eq0 c =
    let s = c.args.script.now in
    let n = length s / 512 in
    all_from_yields_List record_ok _ _ _ c.all.ensures.ran (chunks n s c.chunks_exact.result c.chunks_exact.ensures.size c.chunks_exact.ensures.rest (omega arith)) (λ x b q k. search (rules, tests))
    ∙ all_good s 0 n ∙ whole s c.if-script-eq0.true
