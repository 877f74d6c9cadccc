-- Each turn writes at most one content block more.
use Rattle.std.proofs.Common.{◌∙◌, sym, arith}
use Rattle.writer.proofs.Contents.{put_all, put_none, put_other, put_out, put_own, put_room, sheet_low}
use Rattle.writer.specs.Blocks.{sheet_in}
use Rattle.writer.proofs.put_contents.Goals as goal
use Rattle.writer.proofs.put_contents.Goals.{then-from-next+else-left-eq0, else-from-next}

pub loop-l-init : goal.loop-l-init
loop-l-init c = put_none (sheet_in c.args.copy.now) c.args.store.now c.args.n c.args.used c.args.revision

pub returns-then-left-eq0 : goal.returns-then-left-eq0
returns-then-left-eq0 c = put_out _ _ _ _ _ _ _ _ _ _ c.loop-l.invariant c.if-left-eq0.true

pub put_entry-requires : goal.put_entry-requires
put_entry-requires c =
    let asked = c.requires.1.0 in
    let room = put_room _ _ _ _ _ _ _ _ _ _ c.loop-l.invariant _ c.loop-l-test.true (sym c.from.ensures ∙ c.if-from-next.true) in
    let low = sheet_low _ _ _ c.from-then-from-next.result asked.named c.loop-l-test.true c.from-then-from-next.ensures in
    (omega (arith, room), (omega arith, (asked.whole, (low, asked.sized c.from-then-from-next.result low))))

pub loop-l-preserved : goal.loop-l-preserved
loop-l-preserved c =
    elim c.if-from-next.branch [
      | then-from-next+else-left-eq0 w ↦ (
          rw (w.store-is, w.next-is, w.left-is) (
          put_own _ _ _ _ _ _ _ _ _ _ c.loop-l.invariant _ c.loop-l-test.true (sym c.from.ensures ∙ w.if-from-next.true)
          w.put_entry.new.store w.from-then-from-next.result w.if-left-eq0.false w.from-then-from-next.ensures w.put_entry.ensures
          )
          )
      | else-from-next w ↦ (
          rw (w.store-is, w.next-is, w.left-is) (
          put_other _ _ _ _ _ _ _ _ _ _ c.loop-l.invariant _ c.loop-l-test.true (λ e. w.if-from-next.false (c.from.ensures ∙ e))
          )
          )
    ]

pub returns : goal.returns
returns c = put_all _ _ _ _ _ _ _ _ _ _ c.loop-l.invariant c.loop-l-test.false
