-- What the code is said by and no promise to a caller cites.
use Rattle.std.specs.Prelude.{◌≡◌, List, ℕ, ◌-◌, ◌≤◌, cond, ◌&&◌, eqb, leb, take, drop}
use Rattle.calls.specs.declared.answers.Refusal.{Refusal}
use Rattle.calls.specs.declared.answers.Placed.TheVariants.{Refused}
use Rattle.calls.specs.Answers.{placed, Pool}
use Rattle.reports.specs.declared.Report.{Report}
use Rattle.reports.specs.Reports.{filter_of}
use Rattle.tray.specs.declared.adding.Adding.{Adding}
use Rattle.placement.specs.File.{File}
use Rattle.reports.specs.Filing.{Filed}
use Rattle.tray.specs.declared.filing.Filing.{Filing}
use Rattle.tray.specs.declared.filing.Closing.{Closing}

-- refused: the count stays, and nothing is stored in a list of so many places
abbrev pub turned : Refusal → ℕ → ℕ → Report → Adding
turned refusal count places report =
    record { added = record { answer = Refused refusal 0; count = count }; at = places; report = report }

-- how many reports of the list are taken in: none if the list or the count is wrong
unfoldable pub limit_of : ℕ → ℕ → ℕ
limit_of places count = cond (eqb places 256 && leb count 256) count 0

-- what filing past its own refusals leaves, but for the list: `copy` is the list's copy, d what the reports leave, `pool` the cleared pool
pub record FiledBelow (a count : ℕ) (copy : List Report) (d : Filed) (pool : Pool) (r : Filing) (file : File) (left : Pool) (filter : List ℕ) : Type 0 where
  pub filed : r.filed ≡ d.filed
  pub answers : placed r.answer ≡ d.answer
  pub files : file ≡ d.file
  pub pools : left ≡ pool
  pub counts : r.count ≡ count - r.filed
  pub most : r.filed ≤ count
  pub filters : filter ≡ filter_of a (drop r.filed (take count copy))

-- refused: none is filed, the count stays, and nothing closes up
abbrev pub not_closed : Refusal → ℕ → Closing
not_closed refusal count =
    record { filing = record { answer = Refused refusal 0; filed = 0; count = count }; from = 0; stay = 0; places = 0 }
