use mathlib.Core.Path.{refl}
use Rattle.sessions.specs.Commands.{starline}
use Rattle.sessions.proofs.commands.parameters.Goals as goal

pub returns : goal.returns
unfolding starline
returns c = refl
