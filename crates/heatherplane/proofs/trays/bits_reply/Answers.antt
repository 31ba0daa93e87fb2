-- `heatherplane::trays::bits_reply` meets its contract.
use Rattle.tray_filter.specs.Shown.{shown}
use Rattle.calls.specs.Answers.{placed, refused_by, spotted}
use Rattle.heatherplane.proofs.trays.bits_reply.Goals as goal

pub returns-in-Bits : goal.returns-in-Bits
unfolding shown
returns-in-Bits c = rw c.in-Bits.is

pub returns-in-Refused : goal.returns-in-Refused
unfolding shown placed refused_by spotted
returns-in-Refused c = rw (c.in-Refused.is, c.placed_answer-answer.ensures)
