-- `filing::note_flags` meets its contract: a turn notes the flags of the lowest chosen sheet that is left.
-- Assumes nothing.
use Rattle.filing.proofs.Noting.{flag_byte, noting_next}
use Rattle.filing.proofs.note_flags.Goals as goal

pub loop-k-preserved : goal.loop-k-preserved
loop-k-preserved c =
    let a = c.args in
    let s = c.in-Some.ensures.steps in
    rw s.cleared (noting_next a.store.now a.copy.now a.mask c.loop-k.invariant s.lowest s.inside (flag_byte c.flag_of.ensures) c.place_of.ensures)
