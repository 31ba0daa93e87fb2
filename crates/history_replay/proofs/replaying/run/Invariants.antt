-- `history_replay::replaying::run` meets its contract. The invariant: the first i calls are run, and every slice has its length.
use mathlib.Core.Path.{◌≡◌, ◌∙◌}
use Prim.Native.Nat.{◌-◌}
use native.Mathlib.Omega.{arith}
use lib.IntN.{pos}
use lib.ListN.{length, get_or}
use mir.Syntax.{w32}
use mir.Val.{to_z, of_z}
use mir.Facts.{to_z-of_z}
use Rattle.calls.specs.Answers.{lent, pooled}
use Rattle.history_replay.specs.Replay.{lent_history}
use Rattle.history_replay.proofs.Running.{Ongoing, SameLengths, same-lengths, ongoing_none, ongoing_more, ongoing_all}
use Rattle.history_replay.proofs.replaying.run.Given as goal

abbrev pub invariant-loop-i : goal.invariant-loop-i
invariant-loop-i l =
    Ongoing l.parameters (lent_history l.kinds l.callers l.stars l.ras l.decs) l.initial.state (lent l.initial.separators l.initial.numbers l.initial.words l.initial.owners) (pooled l.initial.poolnumbers l.initial.poolwords l.initial.poolowners) l.initial.answers
    l.i l.state l.answers (lent l.separators l.numbers l.words l.owners) (pooled l.poolnumbers l.poolwords l.poolowners)
