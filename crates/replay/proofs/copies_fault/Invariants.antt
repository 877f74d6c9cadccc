-- What is left from here gives the whole.
-- Assumes nothing.
use Rattle.std.proofs.Common.{◌≡◌, ◌*◌, ◌-◌, ◌≤◌, drop}
use Rattle.std.specs.Slice.Iter.{chunks_exact_rest, chunks_exact_size}
use Rattle.model.specs.Refusals.{first_of}
use Rattle.replay.specs.Replay.{lines_from}
use Rattle.replay.proofs.copies_fault.Given as goal

abbrev pub invariant-loop-k : goal.invariant-loop-k
invariant-loop-k l =
    let k = l.k-iterator.count in
    record {
      size : chunks_exact_size l.k-iterator.iter ≡ 16_896;
      rest : drop (16_896 * k) l.copies ≡ chunks_exact_rest l.k-iterator.iter;
      few : k ≤ 4;
      left : first_of (lines_from l.store l.copies k (4 - k)) ≡ first_of (lines_from l.store l.copies 0 4);
    }
