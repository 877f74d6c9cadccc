-- Each of the 32 blocks passes.
-- Assumes nothing.
use Rattle.std.proofs.Common.{◌∙◌, ◌≡◌, ◌-◌, arith, drop, length, length-drop, rules}
use borrow.Author.Tests.{tests}
use lib.Seq.{take_all}
use Rattle.std.proofs.lemmas.Iterator.Search.{all_from_yields_List}
use Rattle.model.specs.Codec.{parts}
use Rattle.workcopy.proofs.Accepting.{all_is, chunks_are}
use Rattle.workcopy.specs.Shape.{ok_block}
use Rattle.workcopy.proofs.entries_ok.Goals as goal

pub returns : goal.returns
returns c =
    let l = drop 512 c.args.copy.now in
    let n : length l ≡ 16384 = simp length-drop (omega arith) in
    let r = c.chunks_exact.ensures.rest ∙ take_all (length c.args.copy.now - 512) l (omega arith) in
    all_from_yields_List (ok_block 5) _ _ _ c.all.ensures.ran (chunks_are {s = c.chunks_exact.result} 32 l c.chunks_exact.ensures.size r n) (λ x b q k. search (rules, tests))
    ∙ all_is (ok_block 5) (parts 32 l)
