-- The latest report on a star among those read so far, as a value.
use Rattle.std.specs.Prelude.{false, cond, List, [], ◌∷◌, ℕ, eqb}
use Rattle.calls.specs.declared.answers.Answer.{Answer}
use Rattle.reports.specs.declared.Report.{Report}
use Rattle.reports.specs.Reports.{no_report, reported}
use Rattle.tray_list.specs.declared.reading.Latest.{Latest}

unfoldable pub nothing : Latest
nothing = record { found = false; report = no_report }

-- the report, if it is on the star
abbrev pub if_on_lem : ℕ → Report → Latest
if_on_lem k x = record { found = eqb x.number k; report = x }

unfoldable pub later : ℕ → Latest → Report → Latest
later k latest x = cond (if_on_lem k x).found (if_on_lem k x) latest

-- after these reports
unfoldable pub latest_in : ℕ → Latest → List Report → Latest
latest_in k latest [] = latest
latest_in k latest (x ∷ xs) = latest_in k (later k latest x) xs

-- the report answers, or else `plain`
unfoldable pub or_plain : ℕ → Latest → Answer → Answer
or_plain M latest plain = cond latest.found (reported M latest.report) plain
