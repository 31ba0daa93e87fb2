-- `report_filing::filing::file_reports` meets its contract.
use mathlib.Core.Path.{◌∙◌}
use borrow.Author.Rules.{rules}
use native.Mathlib.Omega.{arith}
use Rattle.placement.proofs.Prepared.{ready}
use Rattle.calls.specs.Answers.{pooled, cleared}
use Rattle.calls.specs.Records.{closed_record}
use Rattle.call_guard.proofs.Admitting.{tabled}
use Rattle.report_filing.proofs.Ordered.{ordered-none, ordered-more, ordered-stop, ordered-all, cleared-pool}
use Rattle.report_filing.proofs.filing.file_reports.Goals as goal

pub first_multipliers-table-requires : goal.first_multipliers-table-requires
first_multipliers-table-requires c = tabled c.requires.admitted

pub loop-filed-init : goal.loop-filed-init
loop-filed-init c = record {
  long = search rules;
  most = c.requires.count_bound;
  ordered = ordered-none _ _ _ _ _;
  sized = c.requires.admitted.sized;
  pooled = c.requires.pooled;
}

pub file_report-answer-requires : goal.file_report-answer-requires
file_report-answer-requires c =
    let inv = c.loop-filed.invariant in
    record {
      ready = ready c.first_multipliers-table.ensures c.requires.admitted.homing.valid c.requires.admitted.homing.growth inv.sized;
      pooled = inv.pooled;
    }

pub returns-in-Refused : goal.returns-in-Refused
returns-in-Refused c =
    let pool = cleared (pooled c.args.poolnumbers.now c.args.poolwords.now c.args.poolowners.now) in
    ordered-stop c.args.geometry.parameters (closed_record c.args.geometry.growth) pool _ _ _ _ _ _ c.loop-filed.invariant c.loop-filed-test.true _ _ _ _ _ c.in-Refused.is
    (c.file_report-answer.ensures pool (cleared-pool c.requires.pooled))

pub loop-filed-preserved : goal.loop-filed-preserved
loop-filed-preserved c =
    let pool = cleared (pooled c.args.poolnumbers.now c.args.poolwords.now c.args.poolowners.now) in
    let inv = c.loop-filed.invariant in
    let called = c.file_report-answer in
    record {
      long = inv.long;
      most = inv.most;
      ordered = ordered-more c.args.geometry.parameters (closed_record c.args.geometry.growth) pool _ _ _ _ _ _ inv c.loop-filed-test.true _ _ _ _ _ c.in_default.is (called.ensures pool (cleared-pool c.requires.pooled));
      sized =
          record {
            of_separators = called.auto.separators ∙ inv.sized.of_separators;
            of_numbers = called.auto.numbers ∙ inv.sized.of_numbers;
            of_words_lem = called.auto.words ∙ inv.sized.of_words_lem;
            of_owners = called.auto.owners ∙ inv.sized.of_owners;
          };
      pooled =
          record {
            of_numbers = called.auto.poolnumbers ∙ inv.pooled.of_numbers;
            of_words_lem = called.auto.poolwords ∙ inv.pooled.of_words_lem;
            of_owners = called.auto.poolowners ∙ inv.pooled.of_owners;
          };
    }

pub returns : goal.returns
returns c =
    let pool = cleared (pooled c.args.poolnumbers.now c.args.poolwords.now c.args.poolowners.now) in
    ordered-all c.args.geometry.parameters (closed_record c.args.geometry.growth) pool _ _ _ _ _ _ c.loop-filed.invariant c.loop-filed-test.false (omega arith)
