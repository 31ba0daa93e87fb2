use Rattle.heatherplane.proofs.Telling.{told-replay}
use Rattle.heatherplane.proofs.replayed.heatherplane_replay.Goals as goal

pub returns : goal.returns
returns c =
    told-replay _ c.replay_reply.ensures c.resume-resumed.ensures.leaves
