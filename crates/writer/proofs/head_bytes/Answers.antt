-- The bytes of the numbers are those of their fields.
use Rattle.std.proofs.Common.{◌/◌, ◌%◌, ◌≡◌, arith}
use Rattle.writer.specs.Blocks.{head_of}
use Rattle.writer.proofs.head_bytes.Goals as goal

pub returns : goal.returns
unfolding head_of
returns c =
    let n : c.args.n / 256 % 256 ≡ c.args.n / 256 = omega arith in
    let r : c.args.r / 256 % 256 ≡ c.args.r / 256 = omega arith in
    let t₂ : c.args.stamp / 65536 % 256 ≡ c.args.stamp / 256 / 256 % 256 = omega arith in
    let t₃ : c.args.stamp / 16777216 % 256 ≡ c.args.stamp / 256 / 256 / 256 = omega arith in
    rw (c.to_le_bytes.ensures, c.to_le_bytes-2.ensures, c.to_le_bytes-3.ensures, n, r, t₂, t₃)
