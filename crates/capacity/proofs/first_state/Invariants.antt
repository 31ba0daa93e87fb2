use Rattle.capacity.proofs.States.{Reached}
use Rattle.capacity.proofs.first_state.Given as goal

abbrev pub invariant-loop-pages : goal.invariant-loop-pages
invariant-loop-pages l = Reached l.parameters l.stars l.growth l.pages
