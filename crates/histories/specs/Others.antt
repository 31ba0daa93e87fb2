-- What an observer's calls leave of other owners' stars: document 02 (x).
use Rattle.std.specs.Prelude.{◌≡◌, Bool, ◌&&◌, ℕ, eqb, length}
use mathlib.Core.List.{List, Memᴰ}
use Rattle.std.proofs.Math.Option.{some}
use Rattle.hashing.specs.declared.Parameters.{Parameters}
use Rattle.placement.specs.Rule.{Star, filter}
use Rattle.placement.specs.File.{File, stars_of}
use Rattle.calls.specs.declared.records.GrowthRecord.{GrowthRecord}
use Rattle.calls.specs.Answers.{Pool}
use Rattle.reports.specs.declared.Report.{Report}
use Rattle.reports.specs.Reports.{Tray, waiting}
use Rattle.reports.specs.Filing.{report_filed, filing_of}
use Rattle.histories.specs.Model.{Request, caller_of}
use Rattle.histories.specs.Call.{step}

-- t has the number, word and owner of s
unfoldable pub is_star : Star → Star → Bool
is_star s t = eqb t.number s.number && (eqb t.payload.word s.payload.word && eqb t.payload.owner s.payload.owner)

-- how many places of the file, on whatever page, hold the star s
unfoldable pub copies : Star → File → ℕ
copies s f = length (filter (is_star s) (stars_of f.numbers f.words f.owners))

-- "An observer's entries, changes and removals never alter the word, owner or presence of another's star, but may move it to another page": accepted
-- or refused, on every file, damaged ones included
abbrev pub OthersUntouched : Type 0
OthersUntouched =
    (p : Parameters) (growth : GrowthRecord) (f second lent : File) (pool : Pool) (r : Request) (caller : ℕ) → caller_of r ≡ some caller → (caller ≡ 0 → ⊥)
    → (s : Star) → (s.payload.owner ≡ caller → ⊥) → copies s (step p growth f second lent pool r).file ≡ copies s f

-- a report tried is no more than the call it makes, for its owner: another's star stays, whatever the file
abbrev pub ReportUntouched : Type 0
ReportUntouched =
    (p : Parameters) (growth : GrowthRecord) (f : File) (pool : Pool) (x : Report) → (x.owner ≡ 0 → ⊥)
    → (s : Star) → (s.payload.owner ≡ x.owner → ⊥) → copies s (report_filed p growth f pool x).file ≡ copies s f

-- so a filing alters no star but those of the owners whose reports wait, where none is the institute's: document 02 (xi)
abbrev pub FilingUntouched : Type 0
FilingUntouched =
    (p : Parameters) (growth : GrowthRecord) (f : File) (pool : Pool) (t : Tray) (bits : List ℕ) (s : Star)
    → ((x : Report) → Memᴰ x (waiting t) → (x.owner ≡ 0 → ⊥) × (s.payload.owner ≡ x.owner → ⊥))
    → copies s (filing_of p growth f pool t bits).file ≡ copies s f
