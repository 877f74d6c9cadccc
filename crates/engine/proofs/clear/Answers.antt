-- `engine::clear` meets its contract: 33 block writes are enough for every tail.
-- Assumes nothing.
use Rattle.std.proofs.Common.{◌∙◌}
use Rattle.laws.proofs.Cuts.{whole-clear}
use Rattle.engine.proofs.clear.Goals as goal

pub returns : goal.returns
returns c = c.clear_cut.ensures ∙ whole-clear c.args.store.now
