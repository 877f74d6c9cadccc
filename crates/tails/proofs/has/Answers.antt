-- The first block after those in use, if it is there, is the tail's exactly where it is not all zero.
use Rattle.std.proofs.Common.{◌∙◌, ap, arith, le-ltb}
use Rattle.block.specs.Check.{is_zero}
use Rattle.laws.proofs.Parts.{lent_block}
use Rattle.tails.proofs.Standing.{tail_none, tail_some}
use Rattle.tails.proofs.has.Goals as goal

pub returns-then-used-store : goal.returns-then-used-store
returns-then-used-store c =
    tail_some c.args.store.now c.args.used c.requires (omega arith) (c.is_zero.ensures ∙ ap is_zero (lent_block c.args.store.now c.args.used))

pub returns-else-used-store : goal.returns-else-used-store
returns-else-used-store c = le-ltb _ _ c.if-used-store.false ∙ tail_none c.args.store.now c.args.used c.requires (omega arith)
