use mathlib.Core.Path.{◌≡◌, refl, sym, subst, ◌∙◌, ap}
use mathlib.Core.Bool.{true, not}
use mathlib.Core.List.{List}
use Prim.Native.Nat.{ℕ, ◌*◌, ◌≤◌}
use native.Mathlib.Nat.{mul-le-mul}
use native.Mathlib.Omega.{arith}
use lib.ListN.{replicate}
use Rattle.hashing.proofs.Bounds.{limits, passed, failed}
use Rattle.placement.specs.Hash.{lent}
use Rattle.placement.specs.Shape.{homes_of}
use Rattle.call_guard.proofs.Admitting.{prepared, tabled}
use Rattle.calls.specs.Answers.{pooled, cleared}
use Rattle.calls.specs.Mend.{valid_items}
use Rattle.mending.specs.Collect.{Collectable, Collects}
use Rattle.mending.proofs.Renewed.{mend_invalid, collectable, mend_differs, kept-sourced, kept-groups, mend_over, mend_done}
use Rattle.mending.proofs.call.mend_file.Goals as goal

-- past 15 for an item
-- the homes are found
pub shape_of-numbers-then-not-items_valid : goal.shape_of-numbers-then-not-items_valid
shape_of-numbers-then-not-items_valid c = refl

pub shape_of-words-then-not-items_valid : goal.shape_of-words-then-not-items_valid
shape_of-words-then-not-items_valid c = refl

pub shape_of-owners-then-not-items_valid : goal.shape_of-owners-then-not-items_valid
shape_of-owners-then-not-items_valid c = refl

pub returns-then-not-items_valid : goal.returns-then-not-items_valid
returns-then-not-items_valid c = mend_invalid _ _ (lent c.args.separators.now c.args.numbers.now c.args.words.now c.args.owners.now) (cleared (pooled c.args.poolnumbers.now c.args.poolwords.now c.args.poolowners.now)) c.requires.admitted (failed _ _ c.items_valid.ensures (ap not c.if-not-items_valid.true))

pub first_multipliers-table-requires : goal.first_multipliers-table-requires
first_multipliers-table-requires c = tabled c.requires.admitted

pub find_homes-requires : goal.find_homes-requires
find_homes-requires c =
    let few : c.args.parameters.pages * c.args.parameters.places ≤ 32768 = let l = limits c.args.parameters c.requires.admitted.homing.valid in omega (arith, mul-le-mul l.pages_most l.places_most) in
    let a = c.requires.admitted in
    record {
      homing = (prepared c.first_multipliers-table.ensures a).homing;
      homes_len = (omega (arith, a.sized.of_numbers, c.requires.pooled.of_numbers), omega (arith, a.sized.of_numbers, few));
    }

pub collect-collected-requires : goal.collect-collected-requires
collect-collected-requires c =
    let valid : valid_items (lent c.args.separators.now c.args.numbers.now c.args.words.now c.args.owners.now).numbers (lent c.args.separators.now c.args.numbers.now c.args.words.now c.args.owners.now).words (lent c.args.separators.now c.args.numbers.now c.args.words.now c.args.owners.now).owners ≡ true = passed _ _ c.items_valid.ensures (ap not c.if-not-items_valid.false) in
    subst (λ (h : List ℕ). Collectable c.args.parameters (lent c.args.separators.now c.args.numbers.now c.args.words.now c.args.owners.now).numbers h c.args.poolwords.now (replicate {A = ℕ} 1024 0)) (sym c.find_homes.ensures)
    (collectable c.args.parameters c.args.growth (lent c.args.separators.now c.args.numbers.now c.args.words.now c.args.owners.now) (cleared (pooled c.args.poolnumbers.now c.args.poolwords.now c.args.poolowners.now)) c.requires.admitted valid c.args.poolwords.now (replicate {A = ℕ} 1024 0) c.requires.pooled.of_words_lem refl)

pub shape_of-numbers-then-not-collected : goal.shape_of-numbers-then-not-collected
shape_of-numbers-then-not-collected c = refl

pub shape_of-words-then-not-collected : goal.shape_of-words-then-not-collected
shape_of-words-then-not-collected c = refl

pub shape_of-owners-then-not-collected : goal.shape_of-owners-then-not-collected
shape_of-owners-then-not-collected c = refl

pub returns-then-not-collected : goal.returns-then-not-collected
returns-then-not-collected c =
    let valid : valid_items (lent c.args.separators.now c.args.numbers.now c.args.words.now c.args.owners.now).numbers (lent c.args.separators.now c.args.numbers.now c.args.words.now c.args.owners.now).words (lent c.args.separators.now c.args.numbers.now c.args.words.now c.args.owners.now).owners ≡ true = passed _ _ c.items_valid.ensures (ap not c.if-not-items_valid.false) in
    let collected : Collects c.args.parameters (lent c.args.separators.now c.args.numbers.now c.args.words.now c.args.owners.now).numbers (lent c.args.separators.now c.args.numbers.now c.args.words.now c.args.owners.now).words (lent c.args.separators.now c.args.numbers.now c.args.words.now c.args.owners.now).owners (homes_of c.args.parameters c.args.growth (lent c.args.separators.now c.args.numbers.now c.args.words.now c.args.owners.now).numbers) c.collect-collected.new.waiting c.collect-collected.new.ends c.collect-collected.result = subst (λ (h : List ℕ). Collects c.args.parameters (lent c.args.separators.now c.args.numbers.now c.args.words.now c.args.owners.now).numbers (lent c.args.separators.now c.args.numbers.now c.args.words.now c.args.owners.now).words (lent c.args.separators.now c.args.numbers.now c.args.words.now c.args.owners.now).owners h c.collect-collected.new.waiting c.collect-collected.new.ends c.collect-collected.result) c.find_homes.ensures c.collect-collected.ensures in
    mend_differs c.args.parameters c.args.growth (lent c.args.separators.now c.args.numbers.now c.args.words.now c.args.owners.now) (cleared (pooled c.args.poolnumbers.now c.args.poolwords.now c.args.poolowners.now)) c.requires.admitted valid _ _ _ collected (failed _ _ refl c.if-not-collected.true)

pub renew-requires : goal.renew-requires
renew-requires c =
    let few : c.args.parameters.pages * c.args.parameters.places ≤ 32768 = let l = limits c.args.parameters c.requires.admitted.homing.valid in omega (arith, mul-le-mul l.pages_most l.places_most) in
    let valid : valid_items (lent c.args.separators.now c.args.numbers.now c.args.words.now c.args.owners.now).numbers (lent c.args.separators.now c.args.numbers.now c.args.words.now c.args.owners.now).words (lent c.args.separators.now c.args.numbers.now c.args.words.now c.args.owners.now).owners ≡ true = passed _ _ c.items_valid.ensures (ap not c.if-not-items_valid.false) in
    let collected : Collects c.args.parameters (lent c.args.separators.now c.args.numbers.now c.args.words.now c.args.owners.now).numbers (lent c.args.separators.now c.args.numbers.now c.args.words.now c.args.owners.now).words (lent c.args.separators.now c.args.numbers.now c.args.words.now c.args.owners.now).owners (homes_of c.args.parameters c.args.growth (lent c.args.separators.now c.args.numbers.now c.args.words.now c.args.owners.now).numbers) c.collect-collected.new.waiting c.collect-collected.new.ends c.collect-collected.result = subst (λ (h : List ℕ). Collects c.args.parameters (lent c.args.separators.now c.args.numbers.now c.args.words.now c.args.owners.now).numbers (lent c.args.separators.now c.args.numbers.now c.args.words.now c.args.owners.now).words (lent c.args.separators.now c.args.numbers.now c.args.words.now c.args.owners.now).owners h c.collect-collected.new.waiting c.collect-collected.new.ends c.collect-collected.result) c.find_homes.ensures c.collect-collected.ensures in
    let a = c.requires.admitted in
    let o = c.requires.pooled in
    let t = passed _ _ refl c.if-not-collected.false in
    let v = valid in record {
      parameters_value = a.homing.valid;
      sized = a.sized;
      pooled = record { of_numbers = c.find_homes.auto.homes ∙ o.of_numbers; of_words_lem = c.collect-collected.auto.waiting ∙ o.of_words_lem; of_owners = o.of_owners };
      in_groups = kept-groups c.args.parameters c.args.growth (lent c.args.separators.now c.args.numbers.now c.args.words.now c.args.owners.now) (cleared (pooled c.args.poolnumbers.now c.args.poolwords.now c.args.poolowners.now)) a v _ _ _ collected t (omega (arith, c.collect-collected.auto.waiting, o.of_words_lem, few)) c.collect-collected.auto.ends;
      waiting_value = kept-sourced c.args.parameters c.args.growth (lent c.args.separators.now c.args.numbers.now c.args.words.now c.args.owners.now) (cleared (pooled c.args.poolnumbers.now c.args.poolwords.now c.args.poolowners.now)) a v _ _ _ collected t;
    }

pub shape_of-poolnumbers-then-not-renew : goal.shape_of-poolnumbers-then-not-renew
shape_of-poolnumbers-then-not-renew c =
    c.renew.auto.pool ∙ c.find_homes.auto.homes

pub returns-then-not-renew : goal.returns-then-not-renew
returns-then-not-renew c =
    let valid : valid_items (lent c.args.separators.now c.args.numbers.now c.args.words.now c.args.owners.now).numbers (lent c.args.separators.now c.args.numbers.now c.args.words.now c.args.owners.now).words (lent c.args.separators.now c.args.numbers.now c.args.words.now c.args.owners.now).owners ≡ true = passed _ _ c.items_valid.ensures (ap not c.if-not-items_valid.false) in
    let collected : Collects c.args.parameters (lent c.args.separators.now c.args.numbers.now c.args.words.now c.args.owners.now).numbers (lent c.args.separators.now c.args.numbers.now c.args.words.now c.args.owners.now).words (lent c.args.separators.now c.args.numbers.now c.args.words.now c.args.owners.now).owners (homes_of c.args.parameters c.args.growth (lent c.args.separators.now c.args.numbers.now c.args.words.now c.args.owners.now).numbers) c.collect-collected.new.waiting c.collect-collected.new.ends c.collect-collected.result = subst (λ (h : List ℕ). Collects c.args.parameters (lent c.args.separators.now c.args.numbers.now c.args.words.now c.args.owners.now).numbers (lent c.args.separators.now c.args.numbers.now c.args.words.now c.args.owners.now).words (lent c.args.separators.now c.args.numbers.now c.args.words.now c.args.owners.now).owners h c.collect-collected.new.waiting c.collect-collected.new.ends c.collect-collected.result) c.find_homes.ensures c.collect-collected.ensures in
    let t = passed _ _ refl c.if-not-collected.false in
    mend_over c.args.parameters c.args.growth (lent c.args.separators.now c.args.numbers.now c.args.words.now c.args.owners.now) (cleared (pooled c.args.poolnumbers.now c.args.poolwords.now c.args.poolowners.now)) c.requires.admitted valid _ _ _ collected t (sym (failed _ _ c.renew.ensures.value (ap not c.if-not-renew.true))) _ c.renew.ensures.owners_value

pub shape_of-poolnumbers : goal.shape_of-poolnumbers
shape_of-poolnumbers c =
    c.renew.auto.pool ∙ c.find_homes.auto.homes

pub returns : goal.returns
returns c =
    let valid : valid_items (lent c.args.separators.now c.args.numbers.now c.args.words.now c.args.owners.now).numbers (lent c.args.separators.now c.args.numbers.now c.args.words.now c.args.owners.now).words (lent c.args.separators.now c.args.numbers.now c.args.words.now c.args.owners.now).owners ≡ true = passed _ _ c.items_valid.ensures (ap not c.if-not-items_valid.false) in
    let collected : Collects c.args.parameters (lent c.args.separators.now c.args.numbers.now c.args.words.now c.args.owners.now).numbers (lent c.args.separators.now c.args.numbers.now c.args.words.now c.args.owners.now).words (lent c.args.separators.now c.args.numbers.now c.args.words.now c.args.owners.now).owners (homes_of c.args.parameters c.args.growth (lent c.args.separators.now c.args.numbers.now c.args.words.now c.args.owners.now).numbers) c.collect-collected.new.waiting c.collect-collected.new.ends c.collect-collected.result = subst (λ (h : List ℕ). Collects c.args.parameters (lent c.args.separators.now c.args.numbers.now c.args.words.now c.args.owners.now).numbers (lent c.args.separators.now c.args.numbers.now c.args.words.now c.args.owners.now).words (lent c.args.separators.now c.args.numbers.now c.args.words.now c.args.owners.now).owners h c.collect-collected.new.waiting c.collect-collected.new.ends c.collect-collected.result) c.find_homes.ensures c.collect-collected.ensures in
    let t = passed _ _ refl c.if-not-collected.false in
    mend_done c.args.parameters c.args.growth (lent c.args.separators.now c.args.numbers.now c.args.words.now c.args.owners.now) (cleared (pooled c.args.poolnumbers.now c.args.poolwords.now c.args.poolowners.now)) c.requires.admitted valid _ _ _ collected t (sym (passed _ _ c.renew.ensures.value (ap not c.if-not-renew.false))) _ c.renew.ensures.owners_value
