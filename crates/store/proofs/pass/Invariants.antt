-- What is left to pass gives the whole, and where no mark was met there is none.
use Rattle.store.proofs.PassLaws.{Reached}
use Rattle.store.proofs.pass.Given as goal

abbrev pub invariant-loop-pos : goal.invariant-loop-pos
invariant-loop-pos l = Reached l.n l.store l.pos l.at l.k l.last l.tab l.met
