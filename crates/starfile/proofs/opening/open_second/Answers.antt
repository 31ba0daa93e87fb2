-- `starfile::opening::open_second` meets its contract.
use Rattle.placement.specs.Hash.{lent}
use Rattle.hashing.proofs.Bounds.{passed, failed}
use Rattle.starfile.proofs.Steps.{open_late, open_refused, open_accepted}
use mathlib.Core.Path.{ap}
use mathlib.Core.Bool.{not}
use Rattle.starfile.proofs.opening.open_second.Goals as goal

pub returns-then-growth : goal.returns-then-growth
returns-then-growth c =
    let f = lent c.args.separators.now c.args.numbers.now c.args.words.now c.args.owners.now in
    let second = lent c.args.secondseparators.now c.args.secondnumbers.now c.args.secondwords.now c.args.secondowners.now in
    open_late c.args.parameters c.args.growth f second c.if-growth.true

pub plan_whole-grown-requires : goal.plan_whole-grown-requires
plan_whole-grown-requires c = record {
  admitted = c.requires.admitted;
  poolnumbers_len = c.requires.poolnumbers_len;
  poolwords_len = c.requires.poolwords_len;
}

pub returns-then-not-accepted : goal.returns-then-not-accepted
returns-then-not-accepted c =
    let f = lent c.args.separators.now c.args.numbers.now c.args.words.now c.args.owners.now in
    let second = lent c.args.secondseparators.now c.args.secondnumbers.now c.args.secondwords.now c.args.secondowners.now in
    open_refused c.args.parameters c.args.growth f second c.plan_whole-grown.result c.if-growth.false c.plan_whole-grown.ensures (failed _ _ c.accepted.ensures (ap not c.if-not-accepted.true))

pub empty-requires : goal.empty-requires
empty-requires c = record { parameters_value = c.requires.admitted.homing.valid; sized = c.requires.sized }

pub returns : goal.returns
returns c =
    let f = lent c.args.separators.now c.args.numbers.now c.args.words.now c.args.owners.now in
    let second = lent c.args.secondseparators.now c.args.secondnumbers.now c.args.secondwords.now c.args.secondowners.now in
    open_accepted c.args.parameters c.args.growth f second c.plan_whole-grown.result c.if-growth.false c.plan_whole-grown.ensures (passed _ _ c.accepted.ensures (ap not c.if-not-accepted.false)) c.empty.ensures
