-- `tray_list::reading::prefer` meets its contract.
use Rattle.tray_list.proofs.reading.prefer.Goals as goal

pub returns-then-one : goal.returns-then-one
returns-then-one c = rw c.if-one.true

pub returns : goal.returns
returns c = rw c.if-one.false
