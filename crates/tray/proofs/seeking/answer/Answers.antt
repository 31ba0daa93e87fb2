-- `tray::seeking::answer` meets its contract.
use Rattle.calls.specs.Answers.{sought}
use Rattle.reports.specs.TrayCalls.{plain_answer}
use Rattle.tray_list.specs.Latest.{or_plain}
use Rattle.tray.proofs.Sought.{answered-refused}
use Rattle.tray.proofs.seeking.answer.Goals as goal

pub returns-in-Err : goal.returns-in-Err
unfolding sought
returns-in-Err c = rw c.in-Err.is (answered-refused _ _ (rw c.in-Err.is at c.requires))

pub returns-then-found : goal.returns-then-found
unfolding or_plain
returns-then-found c = rw (c.in_default.is, c.if-found.true) c.reported.ensures

pub returns : goal.returns
unfolding or_plain plain_answer
returns c = rw (c.in_default.is, c.if-found.false) c.look_up.ensures.answer
