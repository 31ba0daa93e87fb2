-- The lent tray and filter by their contents, and what adding a report leaves of them.
use Rattle.std.specs.Prelude.{◌≡◌, List, ℕ}
use Rattle.calls.specs.Answers.{placed}
use Rattle.reports.specs.declared.Report.{Report}
use Rattle.reports.specs.Reports.{Tray}
use Rattle.reports.specs.TrayCalls.{AfterAdding}
use Rattle.tray.specs.declared.adding.Added.{Added}

-- the lent list, and the count that comes with it
abbrev pub tray_of : List Report → ℕ → Tray
tray_of reports count = record { reports = reports; count = count }

-- the answer, the tray and the filter at exit are those of the definition
pub record AddsReport (after : AfterAdding) (added : Added) (reports : List Report) (filter : List ℕ) : Type 0 where
  pub answers : placed added.answer ≡ after.answer
  pub trays : tray_of reports added.count ≡ after.tray
  pub filters : filter ≡ after.filter
