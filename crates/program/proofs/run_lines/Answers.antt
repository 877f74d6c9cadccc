-- The lines on fresh buffers, and so as the machine runs them from its fresh state.
-- Assumes nothing.
use Rattle.std.proofs.Common.{◌≡◌, ◌≤◌, ◌∙◌, ℕ, List, ap, arith, length, sym}
use Rattle.block.specs.Write.{written}
use Rattle.engine.proofs.Fresh.{copy-made, store-made}
use Rattle.model.specs.Calls.{fresh_copy, fresh_store}
use Rattle.text.specs.Text.{lines}
use Rattle.program.specs.Buffers.{pool, transcript_on}
use Rattle.program.specs.Output.{output}
use Rattle.program.proofs.Machine.{fresh-transcript}
use Rattle.program.proofs.Room.{not_long}
use Rattle.program.proofs.run_lines.Goals as goal

made : (input store one two : List ℕ) → length input ≤ 4_096 → store ≡ fresh_store 32 → one ≡ fresh_copy 1 → two ≡ fresh_copy 2 → transcript_on (pool store one two) (lines input) ≡ output input
made input store one two short p q r =
    (λ i. transcript_on (pool (p i) (q i) (r i)) (lines input)) ∙ fresh-transcript (lines input) ∙ sym (not_long input short)

pub returns-clause-value : goal.returns-clause-value
returns-clause-value c =
    let x = c.answer_lines in
    let s = c.create_store in
    let o = c.create_copy in
    let t = c.create_copy-2 in
    let e = made c.args.input.now s.new.store o.new.copy t.new.copy c.requires
    (store-made 32 c.zeros-store.result s.new.store s.result c.zeros-store.ensures.room (omega arith) (omega arith) s.ensures)
    (copy-made c.zeros-one.result o.new.copy o.result 1 c.zeros-one.ensures.room (omega arith) (omega arith) o.ensures)
    (copy-made c.zeros-two.result t.new.copy t.result 2 c.zeros-two.ensures.room (omega arith) (omega arith) t.ensures) in
    x.ensures.value ∙ ap (λ (w : List ℕ). length w) e

pub returns-clause-out_after : goal.returns-clause-out_after
returns-clause-out_after c =
    let x = c.answer_lines in
    let s = c.create_store in
    let o = c.create_copy in
    let t = c.create_copy-2 in
    let e = made c.args.input.now s.new.store o.new.copy t.new.copy c.requires
    (store-made 32 c.zeros-store.result s.new.store s.result c.zeros-store.ensures.room (omega arith) (omega arith) s.ensures)
    (copy-made c.zeros-one.result o.new.copy o.result 1 c.zeros-one.ensures.room (omega arith) (omega arith) o.ensures)
    (copy-made c.zeros-two.result t.new.copy t.result 2 c.zeros-two.ensures.room (omega arith) (omega arith) t.ensures) in
    x.ensures.out_after ∙ ap (λ (w : List ℕ). written 0 w c.args.out.now) e
