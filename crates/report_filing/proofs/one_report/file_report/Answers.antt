-- `report_filing::one_report::file_report` meets its contract.
use mathlib.Core.Path.{◌≡◌, sym, ap, ◌∙◌}
use mathlib.Core.Bool.{true, not}
use Prim.Native.Nat.{ℕ}
use native.Mathlib.Omega.{arith}
use borrow.Author.Tests.{ne_eqb, not-true, not-false}
use Rattle.hashing.proofs.Bounds.{limits, passed, failed}
use Rattle.placement.specs.Hash.{lent}
use Rattle.calls.specs.Answers.{placed, refused_by, refused}
use Rattle.report_filing.specs.Filing.{Sought}
use Rattle.report_filing.proofs.Reporting.{bad_number, bad_position, damaged}
use Rattle.report_filing.proofs.Searched.{filed-nothing}
use Rattle.report_filing.proofs.one_report.file_report.Goals as goal

pub returns-then-not-number_valid : goal.returns-then-not-number_valid
unfolding placed refused_by
returns-then-not-number_valid c pool fits = bad_number c.requires.ready pool c.args.report fits (failed _ _ c.number_valid.ensures (ap not c.if-not-number_valid.true))

pub returns-then-not-position_fits : goal.returns-then-not-position_fits
unfolding placed refused_by
returns-then-not-position_fits c pool fits =
    let numbered = passed _ _ c.number_valid.ensures (ap not c.if-not-number_valid.false) in
    bad_position c.requires.ready pool c.args.report fits numbered (failed _ _ c.position_fits.ensures (ap not c.if-not-position_fits.true))

pub find_kept-named-requires : goal.find_kept-named-requires
find_kept-named-requires c = record {
  ready = c.requires.ready;
  pool_len = c.requires.pooled.of_numbers;
  number_value = passed _ _ c.number_valid.ensures (ap not c.if-not-number_valid.false);
}

pub overflow_cast-page : goal.overflow_cast-page
overflow_cast-page c = omega (arith, c.find_kept-named.ensures.named_as.page_most, (limits _ c.requires.ready.homing.valid).pages_most)

pub returns-then-not-named : goal.returns-then-not-named
unfolding placed refused_by
returns-then-not-named c pool fits =
    let numbered = passed _ _ c.number_valid.ensures (ap not c.if-not-number_valid.false) in
    let positioned = passed _ _ c.position_fits.ensures (ap not c.if-not-position_fits.false) in
    let found = c.find_kept-named.ensures.named_as in
    let d = damaged c.requires.ready pool c.args.report fits numbered positioned (sym found.readable_is ∙ not-true _ c.if-not-named.true) in
    record { answers = ap (λ (q : ℕ). refused 5 q) found.page_is ∙ d.answers; files = d.files }

pub file_held-requires : goal.file_held-requires
file_held-requires c =
    let numbered = passed _ _ c.number_valid.ensures (ap not c.if-not-number_valid.false) in
    let positioned = passed _ _ c.position_fits.ensures (ap not c.if-not-position_fits.false) in
    let opened = not-false _ c.if-not-named.false in
    let sought : Sought c.args.geometry.parameters c.args.geometry.growth (lent c.args.separators.now c.args.numbers.now c.args.words.now c.args.owners.now) c.find_kept-named.new.pool c.args.report c.find_kept-named.result =
    record {
      number = numbered;
      position = positioned;
      named = c.find_kept-named.ensures.named_as;
      readable = opened;
      known = c.find_kept-named.ensures.known opened;
    } in
    record {
      ready = c.requires.ready;
      pooled = record { of_numbers = c.find_kept-named.auto.pool ∙ c.requires.pooled.of_numbers; of_words_lem = c.requires.pooled.of_words_lem; of_owners = c.requires.pooled.of_owners };
      sought = sought;
      held_value = c.if-named.true;
    }

pub returns-then-report-ne0 : goal.returns-then-report-ne0
unfolding placed
returns-then-report-ne0 c pool fits =
    let numbered = passed _ _ c.number_valid.ensures (ap not c.if-not-number_valid.false) in
    let positioned = passed _ _ c.position_fits.ensures (ap not c.if-not-position_fits.false) in
    let opened = not-false _ c.if-not-named.false in
    let sought : Sought c.args.geometry.parameters c.args.geometry.growth (lent c.args.separators.now c.args.numbers.now c.args.words.now c.args.owners.now) c.find_kept-named.new.pool c.args.report c.find_kept-named.result =
    record {
      number = numbered;
      position = positioned;
      named = c.find_kept-named.ensures.named_as;
      readable = opened;
      known = c.find_kept-named.ensures.known opened;
    } in
    filed-nothing c.requires.ready sought pool fits c.if-named.false (ap not (ne_eqb _ 0 c.if-report-ne0.true))

pub file_new-requires : goal.file_new-requires
file_new-requires c =
    let numbered = passed _ _ c.number_valid.ensures (ap not c.if-not-number_valid.false) in
    let positioned = passed _ _ c.position_fits.ensures (ap not c.if-not-position_fits.false) in
    let opened = not-false _ c.if-not-named.false in
    let sought : Sought c.args.geometry.parameters c.args.geometry.growth (lent c.args.separators.now c.args.numbers.now c.args.words.now c.args.owners.now) c.find_kept-named.new.pool c.args.report c.find_kept-named.result =
    record {
      number = numbered;
      position = positioned;
      named = c.find_kept-named.ensures.named_as;
      readable = opened;
      known = c.find_kept-named.ensures.known opened;
    } in
    record {
      ready = c.requires.ready;
      pooled = record { of_numbers = c.find_kept-named.auto.pool ∙ c.requires.pooled.of_numbers; of_words_lem = c.requires.pooled.of_words_lem; of_owners = c.requires.pooled.of_owners };
      sought = sought;
      held_value = (c.if-named.false, c.if-report-ne0.false);
    }
