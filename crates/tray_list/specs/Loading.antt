-- Reports as one value of 256 places.
use Rattle.std.specs.Prelude.{List, ◌++◌, ℕ, ◌-◌, length, replicate}
use Rattle.reports.specs.declared.Report.{Report}
use Rattle.reports.specs.Reports.{no_report}

unfoldable pub loaded : List Report → List Report
loaded xs = xs ++ replicate (256 - length xs) no_report
