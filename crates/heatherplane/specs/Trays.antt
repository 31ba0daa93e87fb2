-- What the tray's calls tell C programs.
use Rattle.std.specs.Prelude.{◌≡◌, List, ℕ}
use Rattle.hashing.specs.declared.Parameters.{Parameters}
use Rattle.placement.specs.File.{File}
use Rattle.calls.specs.declared.records.GrowthRecord.{GrowthRecord}
use Rattle.calls.specs.Answers.{Pool}
use Rattle.reports.specs.declared.Report.{Report}
use Rattle.reports.specs.Bits.{BitCount}
use Rattle.reports.specs.Filing.{AfterFiling}
use Rattle.reports.specs.TrayCalls.{AfterAdding}
use Rattle.heatherplane.specs.declared.trays.Added.{Added}
use Rattle.heatherplane.specs.declared.trays.Bits.{Bits}
use Rattle.heatherplane.specs.declared.trays.Filed.{Filed}
use Rattle.heatherplane.specs.declared.trays.Parameters.{Parameters as Numbers}
use Rattle.heatherplane.specs.declared.replies.Growth.{Growth}
use Rattle.heatherplane.specs.Reply.{parameters_of_lem, record_of_lem}

-- parameters and record in numbers
abbrev pub parameters_in : Numbers → Parameters
parameters_in p = parameters_of_lem p.places p.groups p.width p.step p.bits p.load p.pages p.multiplier

abbrev pub record_in : Growth → GrowthRecord
record_in g = record_of_lem g.expansions g.expanded g.growing g.steps

abbrev pub bits_reply_lem : BitCount → Bits
bits_reply_lem n = record { refusal = n.refusal; bits = n.bits }

-- the reply, the tray and the filter at exit are those of the definition
pub record RepliesAdding (after : AfterAdding) (reply : Added) (reports : List Report) (filter : List ℕ) : Type 0 where
  pub refusals : reply.refusal ≡ after.answer.refusal
  pub counts : reply.count ≡ after.tray.count
  pub lists : reports ≡ after.tray.reports
  pub filters : filter ≡ after.filter

-- the reply, file, pool, tray and filter at exit are those of the definition
pub record RepliesFiling (after : AfterFiling) (reply : Filed) (file : File) (pool : Pool) (reports : List Report) (filter : List ℕ) : Type 0 where
  pub refusals : reply.refusal ≡ after.answer.refusal
  pub pages : reply.page ≡ after.answer.page
  pub places : reply.place ≡ after.answer.place
  pub fileds : reply.filed ≡ after.filed
  pub counts : reply.count ≡ after.tray.count
  pub files : file ≡ after.file
  pub pools : pool ≡ after.pool
  pub lists : reports ≡ after.tray.reports
  pub filters : filter ≡ after.filter
