use Rattle.hashing.specs.Limits.{valid_parameters, within}
use Rattle.generator.specs.Generator.{valid_multiplier}
use Rattle.calls.specs.Calls.{make_of, file_fits_lem}
use Rattle.sessions.specs.Commands.{starline, new_file, state_in}
use borrow.Author.Rules.{rules}
use Rattle.sessions.proofs.commands.empty_file.Goals as goal

pub returns : goal.returns
unfolding state_in new_file make_of file_fits_lem starline valid_parameters valid_multiplier within
returns c =
    let leaves = rw c.parameters.ensures at c.make-made.ensures.leaves in
    let after = rw c.parameters.ensures at c.make-made.ensures.growth_after in
    λ i. record { growth = (after i).state; file = leaves.files i }
