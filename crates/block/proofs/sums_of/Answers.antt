-- First the whole steps, and then a byte more.
use Rattle.std.proofs.Common.{◌-◌, ◌%◌, ◌∙◌, drop, length, length-take, sym, take, arith}
use Rattle.block.proofs.Fours.{after-fours}
use Rattle.block.proofs.Turns.{sums-step}
use Rattle.block.proofs.sums_of.Goals as goal

pub loop-x-init : goal.loop-x-init
loop-x-init c =
    let end = c.min-end.result in
    let size = length-take end c.args.s.now in
    record {
      first = omega arith;
      second = omega arith;
      left = after-fours c.args.s.now end (end - end % 4) c.in_fours-a.result.a c.in_fours-a.result.b (omega arith) (omega arith) c.in_fours-a.ensures.0;
    }

pub loop-x-preserved : goal.loop-x-preserved
loop-x-preserved c =
    let t = c.loop-x in
    let body = take c.min-end.result c.args.s.now in
    let stepped = c.min-end.result - c.min-end.result % 4 in
    let size = length-take c.min-end.result c.args.s.now in
    let items = length-take (length body - stepped) (drop stepped body) in
    record {
      first = omega arith;
      second = omega arith;
      left = sym (sums-step (take (length body - stepped) (drop stepped body)) t.x-index t.a t.b c.from-a.result (omega arith) c.from-a.ensures) ∙ t.invariant.left;
    }
