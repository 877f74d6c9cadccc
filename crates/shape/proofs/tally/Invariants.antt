-- What is counted and what is left make the whole.
use Rattle.shape.proofs.Changes.{Tallied}
use Rattle.shape.proofs.tally.Given as goal

abbrev pub invariant-loop-j : goal.invariant-loop-j
invariant-loop-j l = Tallied l.s l.base l.m l.at 32 l.counts l.j
