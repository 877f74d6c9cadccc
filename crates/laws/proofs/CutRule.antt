-- A cut at any write, of commit, release and clearing: the rule of Cut, whole.
-- Assumes nothing.
use Rattle.model.specs.Cut.{CutAnywhere}
use Rattle.laws.proofs.CutCommits.{cut_commit, refuses}
use Rattle.laws.proofs.CutReleases.{cut_release}
use Rattle.laws.proofs.Cuts.{cut_clearing, keeps}

-- THE RULE
pub cut_anywhere : CutAnywhere
cut_anywhere store copy = record { commits = cut_commit store copy; clears = cut_clearing store; releases = cut_release store; refuses = refuses store copy; keeps = keeps store }
