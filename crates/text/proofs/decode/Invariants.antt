-- What is left to write from pair i on gives the whole.
-- Assumes nothing.
use Rattle.std.proofs.Common.{◌≡◌, true}
use Rattle.std.specs.Slice.Iter.{chunks_exact_rest, chunks_exact_size}
use Rattle.block.specs.Lists.{all}
use Rattle.block.specs.Write.{written}
use Rattle.text.specs.Text.{is_digit, pairs_of}
use Rattle.text.proofs.decode.Given as goal

abbrev pub invariant-loop-i : goal.invariant-loop-i
invariant-loop-i l =
    let rest = chunks_exact_rest l.i-iterator.iter in
    record {
      size : chunks_exact_size l.i-iterator.iter ≡ 2;
      digits : all is_digit rest ≡ true;
      left : written l.i-iterator.count (pairs_of rest) l.out ≡ written 0 (pairs_of l.w) l.initial.out;
    }
