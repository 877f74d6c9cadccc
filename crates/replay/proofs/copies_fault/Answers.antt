-- Assumes nothing.
use Rattle.std.proofs.Common.{ℕ, ◌*◌, ◌-◌, ◌∙◌, ap, arith, drop, length, length-drop, sym}
use Rattle.std.proofs.lemmas.Result.{err_from_is_err_and}
use Rattle.std.specs.Slice.Iter.{chunks_exact_rest}
use Rattle.model.specs.Refusals.{first_of}
use Rattle.model.specs.Types.{number_of}
use Rattle.replay.proofs.Faults.{chunk_next, lines_end, lines-free, lines_here, lines-refused}
use Rattle.replay.specs.Faults.{fault_of}
use Rattle.replay.specs.Replay.{lines_from}
use Rattle.replay.proofs.copies_fault.Goals as goal

pub loop-k-preserved : goal.loop-k-preserved
loop-k-preserved c =
    let store = c.args.store.now in
    let copies = c.args.copies.now in
    let k = c.loop-k.k-iterator.count in
    let i = c.loop-k.invariant in
    let s = c.in-Some.ensures.steps in
    let n = chunk_next copies c.in-Some.copy.now (chunks_exact_rest c.next.new.self.iter) k c.requires.1 (i.rest ∙ s.0.1.0) (s.0.1.1 ∙ i.size) in
    record {
      size = s.0.0 ∙ i.size;
      rest = ap (λ (m : ℕ). drop (16_896 * m) copies) s.2 ∙ sym n.2;
      few = omega (arith, s.2, n.0);
      left =
          ap (λ (m : ℕ). first_of (lines_from store copies m (4 - m))) s.2
          ∙ lines-free store copies k n.0 (ap fault_of (sym c.in_ok-copy_fault.was) ∙ lines_here store copies k n.0 n.1 s.1 c.copy_fault.ensures)
          ∙ i.left;
    }

pub returns-in_err-copy_fault : goal.returns-in_err-copy_fault
returns-in_err-copy_fault c =
    let store = c.args.store.now in
    let copies = c.args.copies.now in
    let k = c.loop-k.k-iterator.count in
    let i = c.loop-k.invariant in
    let s = c.in-Some.ensures.steps in
    let n = chunk_next copies c.in-Some.copy.now (chunks_exact_rest c.next.new.self.iter) k c.requires.1 (i.rest ∙ s.0.1.0) (s.0.1.1 ∙ i.size) in
    let p = err_from_is_err_and c.from_residual.result c.from_residual.ensures.1 in
    rw (p.1, p.2)
    (lines-refused store copies k n.0 (number_of c.in_err-copy_fault.field-0.0)
    (ap fault_of (sym c.in_err-copy_fault.was) ∙ lines_here store copies k n.0 n.1 s.1 c.copy_fault.ensures)
    ∙ i.left)

pub returns : goal.returns
returns c =
    let copies = c.args.copies.now in
    let k = c.loop-k.k-iterator.count in
    let i = c.loop-k.invariant in
    lines_end c.args.store.now copies k (omega (arith, c.in-None.ensures.steps.0.1.0, i.size, length-drop (16_896 * k) copies, ap length i.rest, c.requires.1)) ∙ i.left
