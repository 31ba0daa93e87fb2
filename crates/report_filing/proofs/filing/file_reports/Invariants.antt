-- `report_filing::filing::file_reports` meets its contract.
use Prim.Native.Nat.{◌-◌}
use Rattle.placement.specs.Hash.{lent}
use Rattle.calls.specs.Answers.{pooled, cleared}
use Rattle.calls.specs.Records.{closed_record}
use Rattle.report_filing.proofs.Ordered.{Ongoing}
use Rattle.report_filing.proofs.filing.file_reports.Given as goal

abbrev pub invariant-loop-filed : goal.invariant-loop-filed
invariant-loop-filed l =
    Ongoing l.geometry.parameters (closed_record l.geometry.growth) (cleared (pooled l.initial.poolnumbers l.initial.poolwords l.initial.poolowners)) (lent l.initial.separators l.initial.numbers l.initial.words l.initial.owners) l.reports l.count l.filed (lent l.separators l.numbers l.words l.owners) (pooled l.poolnumbers l.poolwords l.poolowners)
