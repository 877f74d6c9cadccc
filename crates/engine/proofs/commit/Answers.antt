-- `engine::commit` meets its contract: 33 block writes are enough for every commit.
-- Assumes nothing.
use Rattle.std.proofs.Common.{◌∙◌, arith}
use Rattle.laws.proofs.CutCommits.{whole-commit}
use Rattle.engine.proofs.commit.Goals as goal

pub returns : goal.returns
returns c = let a = c.args in c.commit_cut.ensures ∙ whole-commit a.store.now a.copy.now a.stamp a.mask (omega arith)
