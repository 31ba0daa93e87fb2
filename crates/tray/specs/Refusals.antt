-- What adding a report and the combined look-up test before they read or store one, by the lengths of what is lent.
use Rattle.std.specs.Prelude.{Bool, cond, ◌&&◌, ◌||◌, ℕ, eqb, leb, ltb}
use Rattle.hashing.specs.declared.Parameters.{Parameters}
use Rattle.pages.specs.Position.{valid_number, valid_position}
use Rattle.calls.specs.declared.records.GrowthRecord.{GrowthRecord}
use Rattle.calls.specs.Calls.{unless, or_else}
use Rattle.reports.specs.declared.Report.{Report}
use Rattle.reports.specs.Reports.{is_removal, reported_position}
use Rattle.reports.specs.TrayCalls.{tray_refusal}

-- `tray_fits_lem` by the lengths
unfoldable pub tray_lengths : ℕ → ℕ → ℕ → Bool
tray_lengths places count filter = eqb places 256 && (eqb filter 32 && leb count 256)

-- `add_refusal`; `lengths`: tray and filter are as long as they must be
unfoldable pub report_refusal : Parameters → GrowthRecord → Bool → ℕ → Report → ℕ
report_refusal p r lengths count x =
    or_else (tray_refusal p r lengths)
    (or_else (unless (valid_number x.number) 3)
    (or_else (unless (is_removal x || valid_position (reported_position x)) 4) (unless (ltb count 256) 14)))

-- `sought_refusal`; `lengths`: those of the file too
unfoldable pub screen_refusal : Parameters → GrowthRecord → Bool → ℕ → ℕ
screen_refusal p r lengths k = or_else (tray_refusal p r lengths) (unless (valid_number k) 3)

-- how many reports are read: none of a refused call, or if the filter says "no"
unfoldable pub scanned : ℕ → Bool → ℕ → ℕ
scanned refusal passed count = cond (eqb refusal 0) (cond passed count 0) 0
