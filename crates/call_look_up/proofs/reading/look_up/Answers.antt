-- `call_look_up::reading::look_up` meets its contract.
use mathlib.Core.Path.{◌≡◌, refl, sym, ap, ◌∙◌}
use mathlib.Core.Bool.{Bool, true, not}
use lib.ListN.{length}
use native.Mathlib.Omega.{arith}
use borrow.Author.Tests.{not-true, not-false}
use Rattle.hashing.proofs.Bounds.{limits, passed, failed}
use Rattle.pages.specs.Position.{valid_number}
use Rattle.placement.specs.File.{File}
use Rattle.placement.specs.Hash.{lent}
use Rattle.calls.specs.Answers.{After, sought, refused_by}
use Rattle.calls.specs.Shape.{Admitted, admission_number}
use Rattle.calls.specs.Calls.{unlent, look_up_of, looked_up, file_fits_lem, file_lengths}
use Rattle.calls.proofs.Refusals.{turned-away-first, refusal_is, none_is, admitted}
use Rattle.call_guard.proofs.Admitting.{prepared, tabled}
use borrow.Author.Rules.{rules}
use Rattle.std.specs.Prelude.{Result, Ok, Err}
use Rattle.calls.specs.declared.answers.Refusal.{Refusal}
use Rattle.hashing.specs.declared.Parameters.{Parameters}
use Rattle.hashing.specs.declared.Growth.{Growth}
use Rattle.call_look_up.proofs.reading.look_up.Goals as goal

pub returns-in-Err : goal.returns-in-Err
unfolding look_up_of sought file_fits_lem
returns-in-Err c = sym (ap (λ (x : After). x.answer) (turned-away-first _ _ _ _ _ _ _ _ (refusal_is _ _ c.guard.ensures c.file_fits-fits.ensures c.in-Err.is)))

-- what is known past the guard
none : (p : Parameters) (g : Growth) (f : File) {fits : Bool} {a : Result (Unit {0}) Refusal} → admission_number a ≡ unlent p g fits
    → fits ≡ file_lengths p (length f.separators) (length f.numbers) (length f.words) (length f.owners) → a ≡ Ok tt → unlent p g (file_fits_lem p f) ≡ 0
unfolding file_fits_lem
none p g f e l t = none_is _ _ e l t

pub returns-then-not-number_valid : goal.returns-then-not-number_valid
unfolding look_up_of sought refused_by
returns-then-not-number_valid c =
    let passed-guard = none c.args.parameters c.args.growth (lent c.args.separators.now c.args.numbers.now c.args.words.now c.args.owners.now) c.guard.ensures c.file_fits-fits.ensures c.in_default.is in
    rw (passed-guard, failed _ _ c.number_valid.ensures (ap not c.if-not-number_valid.true))

pub first_multipliers-table-requires : goal.first_multipliers-table-requires
first_multipliers-table-requires c =
    let passed-guard = none c.args.parameters c.args.growth (lent c.args.separators.now c.args.numbers.now c.args.words.now c.args.owners.now) c.guard.ensures c.file_fits-fits.ensures c.in_default.is in
    tabled (admitted _ _ _ passed-guard)

pub home-home-requires : goal.home-home-requires
home-home-requires c =
    let passed-guard = none c.args.parameters c.args.growth (lent c.args.separators.now c.args.numbers.now c.args.words.now c.args.owners.now) c.guard.ensures c.file_fits-fits.ensures c.in_default.is in
    let well = admitted _ _ _ passed-guard in
    record {
      table_value = c.first_multipliers-table.ensures;
      parameters_value = well.homing.valid;
      growth_value = well.homing.growth;
    }

pub find-named-requires : goal.find-named-requires
find-named-requires c =
    let passed-guard = none c.args.parameters c.args.growth (lent c.args.separators.now c.args.numbers.now c.args.words.now c.args.owners.now) c.guard.ensures c.file_fits-fits.ensures c.in_default.is in
    let well = admitted _ _ _ passed-guard in
    let numbered = passed _ _ c.number_valid.ensures (ap not c.if-not-number_valid.false) in
    record {
      ready = prepared c.first_multipliers-table.ensures well;
      number_value = numbered;
      home_value = c.home-home.ensures;
      homes_len = refl;
    }

pub overflow_cast-page : goal.overflow_cast-page
overflow_cast-page c =
    let passed-guard = none c.args.parameters c.args.growth (lent c.args.separators.now c.args.numbers.now c.args.words.now c.args.owners.now) c.guard.ensures c.file_fits-fits.ensures c.in_default.is in
    let well = admitted _ _ _ passed-guard in
    omega (arith, c.find-named.ensures.named_as.page_most, (limits _ well.homing.valid).pages_most)

pub returns-then-not-named : goal.returns-then-not-named
unfolding look_up_of looked_up sought refused_by
returns-then-not-named c =
    let passed-guard = none c.args.parameters c.args.growth (lent c.args.separators.now c.args.numbers.now c.args.words.now c.args.owners.now) c.guard.ensures c.file_fits-fits.ensures c.in_default.is in
    let numbered = passed _ _ c.number_valid.ensures (ap not c.if-not-number_valid.false) in
    let found = c.find-named.ensures.named_as in
    rw (passed-guard, numbered, sym found.readable_is ∙ (not-true _ c.if-not-named.true), found.page_is)

pub returns-then-not-named-2 : goal.returns-then-not-named-2
unfolding look_up_of looked_up sought
returns-then-not-named-2 c =
    let passed-guard = none c.args.parameters c.args.growth (lent c.args.separators.now c.args.numbers.now c.args.words.now c.args.owners.now) c.guard.ensures c.file_fits-fits.ensures c.in_default.is in
    let numbered = passed _ _ c.number_valid.ensures (ap not c.if-not-number_valid.false) in
    let found = c.find-named.ensures.named_as in
    let read = (not-false _ c.if-not-named.false) in
    rw (passed-guard, numbered, sym found.readable_is ∙ read, sym (found.held_is read) ∙ (not-true _ c.if-not-named-2.true), ← found.place_is_lem read, found.page_is)

pub unpack-requires : goal.unpack-requires
unpack-requires c = c.find-named.ensures.named_as.word_valid_lem (not-false _ c.if-not-named-2.false)

pub returns : goal.returns
unfolding look_up_of looked_up sought
returns c =
    let passed-guard = none c.args.parameters c.args.growth (lent c.args.separators.now c.args.numbers.now c.args.words.now c.args.owners.now) c.guard.ensures c.file_fits-fits.ensures c.in_default.is in
    let numbered = passed _ _ c.number_valid.ensures (ap not c.if-not-number_valid.false) in
    let found = c.find-named.ensures.named_as in
    let read = (not-false _ c.if-not-named.false) in
    let held = (not-false _ c.if-not-named-2.false) in
    rw (passed-guard, numbered, sym found.readable_is ∙ read, sym (found.held_is read) ∙ held, c.unpack.ensures, found.word_is held, ← found.place_is_lem read, found.page_is)
