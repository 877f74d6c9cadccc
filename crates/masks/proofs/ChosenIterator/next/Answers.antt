-- `Chosen::next` gives the lowest chosen sheet that is left, and clears its bit.
-- Assumes nothing.
use Rattle.std.proofs.Common.{arith}
use Rattle.masks.proofs.Bits.{and_cleared, lowest}
use Rattle.masks.proofs.ChosenIterator.next.Goals as goal

pub returns-clause-steps : goal.returns-clause-steps
returns-clause-steps c =
    let l = lowest 32 c.args.self.now.0 (omega arith) (omega arith) in
    record { lowest = l.1; inside = l.0; cleared = and_cleared l.1 }
