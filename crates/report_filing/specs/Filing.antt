-- What the code that files reports answers and leaves, by the definitions of crate reports.
use Rattle.std.specs.Prelude.{◌≡◌, true, ◌||◌, List, ℕ}
use Rattle.hashing.specs.declared.Parameters.{Parameters}
use Rattle.hashing.specs.declared.Growth.{Growth}
use Rattle.pages.specs.Position.{valid_number, valid_position}
use Rattle.placement.specs.File.{File}
use Rattle.reach.specs.Known.{Known}
use Rattle.calls.specs.declared.answers.Answer.{Answer}
use Rattle.calls.specs.Answers.{Pool, placed}
use Rattle.calls.specs.Shape.{Stores}
use Rattle.calls.specs.Calls.{pool_fits_lem}
use Rattle.calls.specs.Records.{closed_record}
use Rattle.named_page.specs.declared.finding.Named.{Named}
use Rattle.named_page.specs.Named.{NamedAs}
use Rattle.reports.specs.declared.Report.{Report}
use Rattle.reports.specs.Reports.{is_removal, reported_position}
use Rattle.reports.specs.Filing.{report_filed}
use Rattle.reports.specs.Filing as reports
use Rattle.report_filing.specs.declared.filing.Filed.{Filed}

-- the number filed, the answer and the file at exit are those of the definition
pub record Files (d : reports.Filed) (r : Filed) (file : File) : Type 0 where
  pub filed : r.filed ≡ d.filed
  pub answers : placed r.answer ≡ d.answer
  pub files : file ≡ d.file

-- the answer and the file of one report, whatever a pool of these lengths holds
abbrev pub ReportFiled : Parameters → Growth → File → Report → Answer → File → Type 0
ReportFiled p g f x answer file =
    (pool : Pool) → pool_fits_lem p pool ≡ true → Stores (report_filed p (closed_record g) f pool x) answer file

-- a report that meets neither 3 nor 4, and what its search found: the named page is readable, and the pool has its homes
pub record Sought (p : Parameters) (g : Growth) (f : File) (homes : List ℕ) (x : Report) (r : Named) : Type 0 where
  pub number : valid_number x.number ≡ true
  pub position : is_removal x || valid_position (reported_position x) ≡ true
  pub named : NamedAs p g f x.number r
  pub readable : r.readable ≡ true
  pub known : Known p g f homes r.page
