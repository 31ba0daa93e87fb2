-- What the code is said by and no promise to a caller cites.
use Rattle.std.specs.Prelude.{◌≡◌}
use Rattle.lines.specs.declared.Command.{Command}
use Rattle.sessions.specs.declared.commands.Replied.{Replied}
use Rattle.sessions.specs.Commands.{State, state_in, reply_to, next_session}

-- a reply and a file after a command
pub record Follows (s : State) (c : Command) (r : Replied) : Type 0 where
  pub replies : r.reply ≡ reply_to s c
  pub leaves : state_in r.file ≡ next_session s c
