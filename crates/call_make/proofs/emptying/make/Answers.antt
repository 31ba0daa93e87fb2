-- `call_make::emptying::make` meets its contract.
use mathlib.Core.Path.{◌≡◌}
use mathlib.Core.Bool.{Bool}
use lib.ListN.{length}
use Rattle.hashing.specs.declared.Parameters.{Parameters}
use Rattle.hashing.specs.Geometry.{ungrown}
use Rattle.placement.specs.File.{File}
use Rattle.placement.specs.Hash.{lent}
use Rattle.std.specs.Prelude.{Result, Ok, Err}
use Rattle.calls.specs.declared.answers.Refusal.{Refusal}
use Rattle.calls.specs.Answers.{placed, unpooled}
use Rattle.calls.specs.Calls.{file_fits_lem, file_lengths, unlent}
use Rattle.calls.specs.Shape.{Admitted, admission_number}
use Rattle.calls.proofs.Refusals.{unlent-facts, refusal_is, none_is, admitted}
use Rattle.call_make.proofs.Making.{make_refused, make_empty}
use Rattle.call_make.proofs.emptying.make.Goals as goal

-- what is known past the guard
none : (p : Parameters) (f : File) {fits : Bool} {a : Result (Unit {0}) Refusal} → admission_number a ≡ unlent p ungrown fits
    → fits ≡ file_lengths p (length f.separators) (length f.numbers) (length f.words) (length f.owners) → a ≡ Ok tt → unlent p ungrown (file_fits_lem p f) ≡ 0
unfolding file_fits_lem
none p f e l t = none_is _ _ e l t

pub returns-in-Err : goal.returns-in-Err
unfolding placed file_fits_lem
returns-in-Err c =
    let made =
    make_refused c.args.parameters (lent c.args.separators.now c.args.numbers.now c.args.words.now c.args.owners.now) unpooled _
    (refusal_is _ _ c.guard.ensures c.file_fits-fits.ensures c.in-Err.is) in
    record { leaves = made.0; growth_value = made.1 }

pub empty-requires : goal.empty-requires
empty-requires c =
    let well = admitted _ _ _ (none c.args.parameters (lent c.args.separators.now c.args.numbers.now c.args.words.now c.args.owners.now) c.guard.ensures c.file_fits-fits.ensures c.in_default.is) in
    record { parameters_value = well.homing.valid; sized = well.sized }

pub returns : goal.returns
unfolding placed
returns c =
    let f = lent c.args.separators.now c.args.numbers.now c.args.words.now c.args.owners.now in
    let passed = none c.args.parameters f c.guard.ensures c.file_fits-fits.ensures c.in_default.is in
    let made = make_empty c.args.parameters f unpooled _ (admitted _ _ _ passed).homing.valid (unlent-facts _ _ _ passed).1 c.empty.ensures in
    record { leaves = made.0; growth_value = made.1 }
