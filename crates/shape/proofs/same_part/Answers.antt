-- Parts of one length are the same where no bits differ; those of two lengths are not.
use Rattle.std.proofs.Common.{rules, ◌≡◌, ◌∙◌, ap, sym, eqb, ne_eqb, zip, fold}
use Rattle.std.proofs.lemmas.Iterator.{YieldsList-from_slice, YieldsList-from_zip}
use Rattle.std.proofs.lemmas.Iterator.Consumers.{fold_from_yields_List}
use Rattle.shape.proofs.Gather.{differ, same_gathered}
use Rattle.shape.proofs.Held.{same_size}
use Rattle.shape.proofs.same_part.Goals as goal

pub returns-then-a-b : goal.returns-then-a-b
returns-then-a-b c =
    let a = c.args.a.now in
    let b = c.args.b.now in
    let e : c.fold.result ≡ fold differ 0 (zip a b) =
    fold_from_yields_List _ differ 0 c.fold.result c.fold.ensures.ran
    (YieldsList-from_zip (YieldsList-from_slice a cc) (YieldsList-from_slice b cc)) (λ off x r q k. search rules) in
    ap (λ n. eqb n 0) e ∙ same_gathered a b c.if-a-b.true

pub returns-else-a-b : goal.returns-else-a-b
returns-else-a-b c = ne_eqb _ _ c.if-a-b.false ∙ sym (same_size c.args.a.now c.args.b.now (λ e. c.if-a-b.false (sym e)))
