-- `tray::seeking::all_fit` meets its contract.
use borrow.Author.Tests.{not-true, not-false}
use mathlib.Core.Path.{ap}
use mathlib.Core.Bool.{not}
use Rattle.tray.proofs.seeking.all_fit.Goals as goal

pub returns-then-not-file : goal.returns-then-not-file
returns-then-not-file c = rw (not-true c.args.file (ap not c.if-not-file.true))

pub returns : goal.returns
returns c = rw (not-false c.args.file (ap not c.if-not-file.false))
