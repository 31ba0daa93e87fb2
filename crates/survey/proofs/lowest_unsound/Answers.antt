use mathlib.Core.Path.{◌≡◌}
use Prim.Native.Nat.{◌+◌, ◌-◌, ◌/◌, ◌≤◌}
use native.Mathlib.Nat.{mul-le-mul_right, div-mul-le_self, le-div_iff_mul-le, zero-add}
use native.Mathlib.Omega.{arith}
use borrow.Author.Rules.{rules}
use Rattle.std.proofs.Common.{min}
use Rattle.hashing.proofs.Bounds.{limits}
use Rattle.placement.specs.Hash.{lent}
use Rattle.reach.proofs.Surveyed.{lowest_first_lem, lowest_wider, passed_on}
use Rattle.soundness.proofs.Lent.{passed_none, passed_then, passed-all}
use Rattle.survey.proofs.lowest_unsound.Goals as goal

pub nonzero_div-most : goal.nonzero_div-most
nonzero_div-most c = (limits _ c.requires.homing.valid).places_least

pub loop-page-init : goal.loop-page-init
loop-page-init c = passed_none _ _ _ (omega arith)

pub first_unsound-unsound-requires : goal.first_unsound-unsound-requires
first_unsound-unsound-requires c =
    let b = c.args.geometry.parameters.places in
    let step : c.min.result ≡ min (1024 / b) (c.args.geometry.parameters.pages - c.loop-page.page) = search rules in
    let most : c.loop-page.page + c.min.result - c.loop-page.page ≤ 1024 / b = omega arith in
    record {
      ready = c.requires;
      from_le_stop = (omega arith, omega arith);
      places_bound = omega (arith, mul-le-mul_right b most, div-mul-le_self 1024 b);
    }

pub returns-then-unsound-stop : goal.returns-then-unsound-stop
returns-then-unsound-stop c =
    let a = c.args in
    let file = lent a.separators.now a.numbers.now a.words.now a.owners.now in
    let pages = a.geometry.parameters.pages in
    let step : c.min.result ≡ min (1024 / a.geometry.parameters.places) (pages - c.loop-page.page) = search rules in
    let found = lowest_wider _ _ file _ _ _ c.first_unsound-unsound.ensures pages c.if-unsound-stop.true (omega arith) in
    lowest_first_lem _ _ file _ _ _ (passed_then c.loop-page.invariant found) _ (zero-add _)

pub loop-page-smaller : goal.loop-page-smaller
loop-page-smaller c =
    let b = c.args.geometry.parameters.places in
    let l = limits c.args.geometry.parameters c.requires.homing.valid in
    let step : c.min.result ≡ min (1024 / b) (c.args.geometry.parameters.pages - c.loop-page.page) = search rules in
    let least : 1 ≤ 1024 / b = (le-div_iff_mul-le l.places_least).1 (omega (arith, l.places_most)) in
    omega arith

pub loop-page-preserved : goal.loop-page-preserved
loop-page-preserved c =
    let b = c.args.geometry.parameters.places in
    let step : c.min.result ≡ min (1024 / b) (c.args.geometry.parameters.pages - c.loop-page.page) = search rules in
    passed_on c.loop-page.invariant c.first_unsound-unsound.ensures c.if-unsound-stop.false (omega arith)

pub returns : goal.returns
returns c =
    let a = c.args in
    lowest_first_lem _ _ (lent a.separators.now a.numbers.now a.words.now a.owners.now) _ _ _ (passed-all c.loop-page.invariant c.loop-page-test.false) _ (zero-add _)
