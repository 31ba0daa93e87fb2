-- `hashing::follow` meets its contract. The invariant: the page with that code and order is reached after `next-index` steps.
use Rattle.std.proofs.Common.{◌/◌, ◌%◌}
use Rattle.hashing.specs.Moves.{landing}
use Rattle.hashing.proofs.Codes.{Reached}
use Rattle.hashing.proofs.moves.follow.Given as goal

abbrev pub invariant-loop-next : goal.invariant-loop-next
invariant-loop-next l = Reached l.parameters (landing l.parameters (l.start / l.parameters.groups) (l.start % l.parameters.groups) l.next-items) l.next-items l.code l.order l.next-index
