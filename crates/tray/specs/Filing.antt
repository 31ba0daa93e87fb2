-- What filing a tray leaves of tray, filter, file and pool.
use Rattle.std.specs.Prelude.{◌≡◌, List, ℕ}
use Rattle.placement.specs.File.{File}
use Rattle.calls.specs.declared.answers.Placed.{Placed}
use Rattle.calls.specs.Answers.{Pool, placed}
use Rattle.reports.specs.declared.Report.{Report}
use Rattle.reports.specs.Filing.{AfterFiling}
use Rattle.tray.specs.Lent.{tray_of}

-- number filed, answer, file, pool, tray and filter at exit are those of the definition
pub record FilesTray (after : AfterFiling) (filed : ℕ) (answer : Placed) (count : ℕ) (file : File) (pool : Pool) (reports : List Report) (filter : List ℕ) : Type 0 where
  pub fileds : filed ≡ after.filed
  pub answers : placed answer ≡ after.answer
  pub files : file ≡ after.file
  pub pools : pool ≡ after.pool
  pub trays : tray_of reports count ≡ after.tray
  pub filters : filter ≡ after.filter
