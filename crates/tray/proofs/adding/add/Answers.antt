-- `tray::adding::add` meets its contract.
use mathlib.Core.Path.{refl}
use Rattle.tray.proofs.adding.add.Goals as goal

pub returns : goal.returns
returns c = record { leaves = rw c.put.ensures (c.decide-adding.ensures c.args.reports.now refl) }
