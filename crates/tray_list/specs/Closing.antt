-- The list after a filing, place by place.
use Rattle.std.specs.Prelude.{cond, List, [], ◌∷◌, ◌++◌, ℕ, zero, suc, ◌+◌, ltb, get_or, drop}
use Rattle.reports.specs.declared.Report.{Report}
use Rattle.reports.specs.Reports.{no_report}

-- the place whose report comes to place i, if one does
unfoldable pub came_from : ℕ → ℕ → ℕ → ℕ
came_from i from stay = cond (ltb i stay) (from + i) i

unfoldable pub kept_or : ℕ → ℕ → Report → Report
kept_or i stay x = cond (ltb i stay) x no_report

-- what comes to the first n places
unfoldable pub places_after : ℕ → ℕ → ℕ → List Report → List Report
places_after from stay zero reports = []
places_after from stay (suc n) reports = places_after from stay n reports ++ (kept_or n stay (get_or reports (from + n) no_report) ∷ [])

-- the others as they were
unfoldable pub closed_to : ℕ → ℕ → ℕ → List Report → List Report
closed_to from stay n reports = places_after from stay n reports ++ drop n reports
