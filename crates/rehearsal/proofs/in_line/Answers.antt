-- `rehearsal::in_line` meets its contract.
-- Assumes nothing.
use Rattle.rehearsal.proofs.Tallying.{in_line_is}
use Rattle.rehearsal.proofs.in_line.Goals as goal

pub returns : goal.returns
returns c = let t = c.args.t in in_line_is t.holder t.first t.second t.third c.args.seat
