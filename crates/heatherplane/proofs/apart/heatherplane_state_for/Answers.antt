use Rattle.heatherplane.proofs.Telling.{told-choice}
use Rattle.heatherplane.proofs.apart.heatherplane_state_for.Goals as goal

pub returns : goal.returns
returns c =
    told-choice _ c.reply_of.ensures c.due_answer.ensures c.state_for-chosen.ensures.choice
