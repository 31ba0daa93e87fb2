-- `tray_list::storing::close_up` meets its contract.
use Rattle.std.proofs.Common.{arith, ◌≤◌, length}
use Rattle.reports.specs.Reports.{no_report}
use Rattle.tray_list.proofs.ClosedUp.{blanks, closed_parts}
use Rattle.tray_list.proofs.storing.close_up.Goals as goal

pub returns : goal.returns
unfolding no_report
returns c =
    let most : c.args.places ≤ length c.move_down.new.items = omega (arith, c.move_down.auto.items) in
    rw (c.fill.ensures.after (λ y e. e), blanks _ _ _ most, c.move_down.ensures)
    (closed_parts _ _ _ _ (omega arith) (omega arith))
