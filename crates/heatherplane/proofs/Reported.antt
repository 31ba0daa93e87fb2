-- What a call of crate tray leaves, told by its reply.
use mathlib.Core.Path.{◌≡◌, ap, ◌∙◌}
use mathlib.Core.List.{List}
use Prim.Native.Nat.{ℕ}
use Rattle.placement.specs.File.{File}
use Rattle.calls.specs.declared.answers.Answer.{Answer}
use Rattle.calls.specs.Answers.{Pool}
use Rattle.reports.specs.declared.Report.{Report}
use Rattle.reports.specs.Reports.{Tray}
use Rattle.reports.specs.Filing.{AfterFiling}
use Rattle.reports.specs.TrayCalls.{AfterAdding}
use Rattle.tray.specs.declared.adding.Added.{Added as Adding}
use Rattle.tray.specs.declared.filing.Filing.{Filing}
use Rattle.tray.specs.Filing.{FilesTray}
use Rattle.tray.specs.Lent.{AddsReport}
use Rattle.heatherplane.specs.declared.trays.Added.{Added}
use Rattle.heatherplane.specs.declared.trays.Filed.{Filed}
use Rattle.heatherplane.specs.Trays.{RepliesAdding, RepliesFiling}
use Rattle.heatherplane.specs.Shape.{added_reply_lem, filed_reply_lem}

pub told-added : {after : AfterAdding} {reports : List Report} {filter : List ℕ} (d : Adding) (reply : Added) →
    reply ≡ added_reply_lem d → AddsReport after d reports filter → RepliesAdding after reply reports filter
told-added d reply e adds =
    record {
      refusals = ap (λ (r : Added). r.refusal) e ∙ ap (λ (a : Answer). a.refusal) adds.answers;
      counts = ap (λ (r : Added). r.count) e ∙ ap (λ (t : Tray). t.count) adds.trays;
      lists = ap (λ (t : Tray). t.reports) adds.trays;
      filters = adds.filters;
    }

pub told-filed : {after : AfterFiling} {file : File} {pool : Pool} {reports : List Report} {filter : List ℕ} (d : Filing) (reply : Filed) →
    reply ≡ filed_reply_lem d → FilesTray after d.filed d.answer d.count file pool reports filter → RepliesFiling after reply file pool reports filter
told-filed d reply e files =
    record {
      refusals = ap (λ (r : Filed). r.refusal) e ∙ ap (λ (a : Answer). a.refusal) files.answers;
      pages = ap (λ (r : Filed). r.page) e ∙ ap (λ (a : Answer). a.page) files.answers;
      places = ap (λ (r : Filed). r.place) e ∙ ap (λ (a : Answer). a.place) files.answers;
      fileds = ap (λ (r : Filed). r.filed) e ∙ files.fileds;
      counts = ap (λ (r : Filed). r.count) e ∙ ap (λ (t : Tray). t.count) files.trays;
      files = files.files;
      pools = files.pools;
      lists = ap (λ (t : Tray). t.reports) files.trays;
      filters = files.filters;
    }
