-- No bit of any byte is set where every byte is zero.
use Rattle.std.proofs.Common.{◌≡◌, bit_or, rules}
use Rattle.std.specs.List.{fold}
use Rattle.block.proofs.Turns.{gathered}
use Rattle.block.proofs.is_zero.Goals as goal

pub returns : goal.returns
returns c =
    let e : c.fold.result ≡ fold bit_or 0 c.args.s.now = search rules in
    rw e (gathered 0 c.args.s.now)
