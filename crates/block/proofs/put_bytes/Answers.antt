-- What fits is written a byte a turn, and nothing past the end.
use Rattle.std.proofs.Common.{◌+◌, ◌∙◌, refl, sym, arith, get_or, length-set}
use Rattle.block.proofs.Writing.{write_all, write_done, write_step, written_past}
use Rattle.block.proofs.put_bytes.Goals as goal

pub loop-j-init : goal.loop-j-init
loop-j-init c = record { long = refl; left = write_all c.args.at c.args.b.now c.args.s.now }

pub loop-j-preserved : goal.loop-j-preserved
loop-j-preserved c =
    let l = c.loop-j in
    let a = c.args in
    record {
      long = length-set l.s (a.at + l.j) (get_or a.b.now l.j 0) ∙ l.invariant.long;
      left = write_step a.at l.j a.b.now l.s (omega arith) ∙ l.invariant.left;
    }

pub returns-after-loop-j : goal.returns-after-loop-j
returns-after-loop-j c = sym (write_done c.args.at c.loop-j.j c.args.b.now c.loop-j.s (omega arith)) ∙ c.loop-j.invariant.left

pub returns-else-at-s : goal.returns-else-at-s
returns-else-at-s c = sym (written_past c.args.at c.args.b.now c.args.s.now c.if-at-s.false)
