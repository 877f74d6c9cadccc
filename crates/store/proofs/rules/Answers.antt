-- The chunks are the block's changes.
use Rattle.std.proofs.Common.{◌≡◌, ◌+◌, ◌*◌, ◌-◌, ◌∙◌, ap, arith, drop, rules, take, tests, ℕ}
use Rattle.std.proofs.lemmas.Iterator.Search.{all_from_yields_List}
use Rattle.std.proofs.lemmas.List.{length-drop}
use Rattle.model.specs.Blocks.{bytes_at, parse_line}
use Rattle.model.specs.Pass.{rule}
use Rattle.model.specs.Store.{blocks_of}
use Rattle.shape.specs.Rows.{rows_of}
use Rattle.store.proofs.Chunks.{all-lines, yields-pieces}
use Rattle.store.proofs.rules.Goals as goal

pub returns : goal.returns
returns c =
    let a = c.args in
    let l = drop 16 a.b.now in
    let keeps = rule (bytes_at (blocks_of a.w.n a.store.now)) a.w.at a.w.k (rows_of (a.w.last + 1) a.tab.now) in
    let e : 16 + 8 * a.m - 16 ≡ 8 * a.m = omega arith in
    all_from_yields_List (λ x. keeps (parse_line x)) _ _ _ c.all.ensures.ran
    (yields-pieces 8 a.m l (omega arith) c.chunks_exact.ensures.size (c.chunks_exact.ensures.rest ∙ ap (λ (k : ℕ). take k l) e) (omega (arith, length-drop 16 a.b.now)))
    (λ x b q k. search (rules, tests))
    ∙ all-lines keeps a.m l
