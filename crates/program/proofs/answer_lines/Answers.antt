-- The lines: what is left to print, from the line at `at` on, gives the whole.
-- Assumes nothing.
use Rattle.std.proofs.Common.{◌≡◌, ◌+◌, List, arith, drop, length, subst, take}
use Rattle.block.specs.Write.{written}
use Rattle.model.specs.History.{Bytes}
use Rattle.text.proofs.Splitting.{tail}
use Rattle.text.specs.Text.{lines}
use Rattle.program.specs.Buffers.{pool, transcript_on}
use Rattle.program.proofs.Lines.{length-tail, lines_at, no_lines, over, printed}
use Rattle.program.proofs.answer_lines.Goals as goal

pub loop-at-preserved : goal.loop-at-preserved
loop-at-preserved c =
    let a = c.args in
    let input = a.input.now in
    let l = c.loop-at in
    let n = c.span-n.result in
    let x = c.answer_line-to in
    let line = take n (tail l.at input) in
    let ls = lines (drop (l.at + (n + 1)) input) in
    let w = transcript_on (pool a.store.now a.one.now a.two.now) (lines input) in
    let b = pool l.store l.one l.two in
    let b' = pool x.new.store x.new.one x.new.two in
    let g = length-tail l.at input in
    let i = subst (λ (v : List Bytes). (l.to + length (transcript_on b v) ≡ length w) × (written l.to (transcript_on b v) l.out ≡ written 0 w a.out.now)) (lines_at input l.at n (omega arith) c.span-n.ensures.0) l.invariant.2 in (
      omega (arith, g, c.span-n.ensures.1),
      omega (arith, g, c.span-n.ensures.1, x.ensures.upper_bound),
      printed b b' line ls w l.out x.new.out a.out.now l.to x.result x.ensures.value x.ensures.out_after x.ensures.two_after i,
    )

pub returns-clause-value : goal.returns-clause-value
returns-clause-value c =
    let a = c.args in
    let l = c.loop-at in
    (over (pool l.store l.one l.two) (lines (drop l.at a.input.now)) (transcript_on (pool a.store.now a.one.now a.two.now) (lines a.input.now)) l.out a.out.now l.to (no_lines a.input.now l.at (omega arith)) l.invariant.2).0

pub returns-clause-out_after : goal.returns-clause-out_after
returns-clause-out_after c =
    let a = c.args in
    let l = c.loop-at in
    (over (pool l.store l.one l.two) (lines (drop l.at a.input.now)) (transcript_on (pool a.store.now a.one.now a.two.now) (lines a.input.now)) l.out a.out.now l.to (no_lines a.input.now l.at (omega arith)) l.invariant.2).1
