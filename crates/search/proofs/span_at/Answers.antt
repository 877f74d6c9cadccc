-- The block at p holds what the store's block p is read as.
-- Assumes nothing.
use Rattle.std.proofs.Common.{◌*◌, ◌+◌, ◌∙◌, ◌≡◌, ap, arith, length, sym}
use Rattle.model.specs.Blocks.{bytes_at}
use Rattle.model.specs.Store.{block_count, blocks_of}
use Rattle.store.proofs.Blocks.{bytes_in_lem}
use Rattle.search.proofs.span_at.Goals as goal

pub returns : goal.returns
returns c =
    let s = c.args.store.now in
    let p = c.args.p in
    let d : p * 512 + 16 ≡ 512 * p + 16 = omega arith in
    let e : c.size-len.result ≡ length (bytes_at (blocks_of (block_count s) s) p) = c.size-len.ensures.0 ∙ sym (ap length (bytes_in_lem (block_count s) p s c.requires)) in
    record { is = cc (d, e); inside = omega (arith, c.requires, c.size-len.ensures.1) }
