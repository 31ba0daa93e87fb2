use Rattle.heatherplane.proofs.Telling.{told_same}
use mathlib.Core.Path.{◌∙◌}
use Rattle.heatherplane.proofs.reading.heatherplane_look_up.Goals as goal

pub returns : goal.returns
returns c =
    told_same _ c.reply_of.ensures c.record_of-growth.ensures (c.sought_answer.ensures ∙ rw c.record_of-growth.ensures at c.look_up-found.ensures.answer)
