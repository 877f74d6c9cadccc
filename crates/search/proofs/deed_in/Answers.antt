-- The first change that names the sheet says what the commit does to it.
-- Assumes nothing.
use Rattle.std.proofs.Common.{◌∙◌, drop, sym}
use Rattle.model.specs.Blocks.{parse_line, parse_lines}
use Rattle.search.proofs.Named.{deed_first, deed_none}
use Rattle.search.proofs.deed_in.Goals as goal

pub returns-in-Some : goal.returns-in-Some
returns-in-Some c =
    let a = c.args in
    c.deed_at.ensures ∙ sym (deed_first a.i (parse_lines a.m (drop 16 a.b.now)) (parse_line (drop c.in-Some.o a.b.now)) c.in-Some.ensures.1)

pub returns-in-None : goal.returns-in-None
returns-in-None c = let a = c.args in sym (deed_none a.i (parse_lines a.m (drop 16 a.b.now)) c.in-None.ensures)
