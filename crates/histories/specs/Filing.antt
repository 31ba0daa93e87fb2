-- The calls that a filing makes: document 02 (xi).
use Rattle.std.specs.Prelude.{Bool, cond, not, ◌&&◌, List, [], ◌∷◌, ℕ, eqb}
use Rattle.hashing.specs.declared.Parameters.{Parameters}
use Rattle.placement.specs.File.{File}
use Rattle.calls.specs.declared.records.GrowthRecord.{GrowthRecord}
use Rattle.calls.specs.Answers.{Pool, cleared}
use Rattle.calls.specs.Calls.{file_fits_lem, pool_fits_lem}
use Rattle.calls.specs.Records.{enter_under, change_under, remove_under}
use Rattle.reports.specs.declared.Report.{Report}
use Rattle.reports.specs.Reports.{Tray, waiting, tray_fits_lem, reported_position, is_removal}
use Rattle.reports.specs.TrayCalls.{tray_refusal}
use Rattle.reports.specs.Filing.{is_not_held, report_filed}
use Rattle.histories.specs.Model.{enter, change, remove, Made, made}

-- a position on this file: a change of a held star, an entry of another
unfoldable pub position_made : Parameters → GrowthRecord → File → Pool → Report → Made
position_made p r f pool x =
    let after = change_under p r f pool x.owner x.number (reported_position x) in
    cond (is_not_held after)
    (made (enter x.owner x.number (reported_position x)) (enter_under p r f pool x.owner x.number (reported_position x)).answer.refusal)
    (made (change x.owner x.number (reported_position x)) after.answer.refusal)

-- a removal; of a star not held it is refused with 7, and so no step
unfoldable pub removal_made : Parameters → GrowthRecord → File → Pool → Report → Made
removal_made p r f pool x =
    made (remove x.owner x.number) (remove_under p r f pool x.owner x.number).answer.refusal

unfoldable pub call_made : Parameters → GrowthRecord → File → Pool → Report → Made
call_made p r f pool x = cond (is_removal x) (removal_made p r f pool x) (position_made p r f pool x)

-- "Filing works through the reports in order", "It stops at the first refusal"
unfoldable pub calls_tried : Parameters → GrowthRecord → File → Pool → List Report → List Made
calls_tried p r f pool [] = []
calls_tried p r f pool (x ∷ xs) =
    let after = report_filed p r f pool x in
    call_made p r f pool x ∷ cond (eqb after.answer.refusal 0) (calls_tried p r after.file pool xs) []

-- not refused with 1, 2 or 16
unfoldable pub begins : Parameters → GrowthRecord → File → Pool → Tray → List ℕ → Bool
begins p r f pool t filter =
    eqb (tray_refusal p r (file_fits_lem p f && (pool_fits_lem p pool && tray_fits_lem t filter))) 0 && not r.growing

-- "Past its own refusals a filing counts as accepted, each report tried as the call it made"
unfoldable pub filing_made : Parameters → GrowthRecord → File → Pool → Tray → List ℕ → List Made
filing_made p r f pool t filter = cond (begins p r f pool t filter) (calls_tried p r f (cleared pool) (waiting t)) []
