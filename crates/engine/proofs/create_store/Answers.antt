-- `engine::create_store` meets its contract: refused, or the label and zero blocks.
-- Assumes nothing.
use Rattle.std.proofs.Common.{List, ap, set, sym, ◌∙◌, ℕ, rules}
use Rattle.block.specs.Buffer.{seal_at}
use Rattle.engine.proofs.Fresh.{all-zero, create_done, create_refused}
use Rattle.engine.proofs.create_store.Goals as goal

pub returns-then-wrong_size : goal.returns-then-wrong_size
returns-then-wrong_size c = create_refused c.args.store.now (sym c.wrong_size.ensures ∙ search rules)

pub returns : goal.returns
returns c =
    let l = c.args.store.now in
    let cleared = c.clear.ensures ∙ all-zero l in
    let put₀ = c.put.ensures ∙ ap (λ (x : List ℕ). set x 0 1) cleared in
    let put₁ = c.put-2.ensures ∙ ap (λ (x : List ℕ). set x 1 1) put₀ in
    create_done l c.seal_at.new.s (sym c.wrong_size.ensures ∙ search rules) (c.seal_at.ensures ∙ ap (λ (x : List ℕ). seal_at x 0) put₁)
