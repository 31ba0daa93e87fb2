-- A filing is the calls that its reports make, one after another: document 02 (xi).
use Rattle.std.specs.Prelude.{◌≡◌, true, List, map, ℕ}
use Rattle.placement.specs.File.{File}
use Rattle.calls.specs.Answers.{Pool, cleared}
use Rattle.reports.specs.Reports.{Tray}
use Rattle.histories.specs.Model.{Made}
use Rattle.histories.specs.Filing.{begins, filing_made}
use Rattle.histories.specs.Call.{file_reports_lem, Call, element_of, call_of}
use Rattle.histories.specs.Run.{HistoryState, next, end}

-- these calls as elements of a history, each lent the pool of zeros
abbrev pub one_by_one_lem : Pool → File → List Made → List Call
one_by_one_lem pool second calls = map (λ (c : Made). call_of (cleared pool) second c.request) calls

-- "each report tried as the call it made": past the filing's own refusals, from whatever file, the state is that after these calls
abbrev pub FilingIsCalls : Type 0
FilingIsCalls =
    (now : HistoryState) (second : File) (pool : Pool) (t : Tray) (bits : List ℕ)
    → begins now.parameters now.growth now.file pool t bits ≡ true
    → next now (element_of pool second (file_reports_lem t bits))
    ≡ end now (one_by_one_lem pool second (filing_made now.parameters now.growth now.file pool t bits))
