-- `inner::panel_in` meets its contract: refused, or read's place at the greatest released revision.
-- Assumes nothing.
use Rattle.inner.proofs.Releasing.{open_laid, panel_at, panel_late}
use Rattle.std.proofs.Common.{◌∙◌}
use Rattle.inner.proofs.panel_in.Goals as goal

pub returns-then-h-revision : goal.returns-then-h-revision
returns-then-h-revision c = record { is = panel_late c.args.store.now c.args.h c.requires c.args.revision c.args.sheet c.if-h-revision.true; inside = tt }

pub greatest-released-requires : goal.greatest-released-requires
greatest-released-requires c = open_laid c.args.store.now c.args.h c.requires

pub returns : goal.returns
returns c =
    record {
      is = c.place_in.ensures.is ∙ panel_at c.args.store.now c.args.h c.requires c.args.revision c.args.sheet c.if-h-revision.false c.greatest-released.ensures;
      inside = c.place_in.ensures.inside;
    }
