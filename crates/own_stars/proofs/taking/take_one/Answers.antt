-- `own_stars::taking::take_one` meets its contract.
use mathlib.Core.Path.{◌≡◌}
use Prim.Native.Nat.{ℕ, ◌+◌, ◌*◌, ◌≤◌}
use borrow.Author.Rules.{rules}
use Rattle.hashing.proofs.Bounds.{limits}
use Rattle.pages.specs.Page.{part, place_of}
use Rattle.pages.proofs.Parts.{page-fits}
use Rattle.placement.specs.Hash.{lent}
use Rattle.own_stars.proofs.Laying.{take-decides, taken-one}
use Rattle.own_stars.proofs.Placing.{found_at}
use Rattle.own_stars.proofs.taking.take_one.Goals as goal

pub load-value-requires : goal.load-value-requires
load-value-requires c =
    let fits : (n : ℕ) → n ≡ c.args.geometry.parameters.pages * c.args.geometry.parameters.places → c.args.page * c.args.geometry.parameters.places + c.args.geometry.parameters.places ≤ n = λ n e. page-fits _ _ _ c.requires.takeable.inside e in
    let z = c.requires.ready.sized in
    record {
      places_bound = (limits _ c.requires.ready.homing.valid).places_most;
      places_in_bounds = fits _ z.of_numbers;
      places_in_bounds_2 = fits _ z.of_words_lem;
      places_in_bounds_3 = fits _ z.of_owners;
    }

pub search-found-requires : goal.search-found-requires
search-found-requires c = ((limits _ c.requires.ready.homing.valid).places_most, search (rules, c.load-value.type_inv))

pub carry_out-requires : goal.carry_out-requires
carry_out-requires c =
    let fits : (n : ℕ) → n ≡ c.args.geometry.parameters.pages * c.args.geometry.parameters.places → c.args.page * c.args.geometry.parameters.places + c.args.geometry.parameters.places ≤ n = λ n e. page-fits _ _ _ c.requires.takeable.inside e in
    let there : c.search-found.result.at ≡ place_of c.args.number (part c.args.geometry.parameters.places c.args.page c.args.numbers.now) = found_at _ _ _ _ _ _ _ _ c.load-value.ensures c.search-found.ensures (fits _ c.requires.ready.sized.of_numbers) in
    let t = c.requires.takeable in record {
      parameters_value = c.requires.ready.homing.valid;
      sized = c.requires.ready.sized;
      pooled = c.requires.pooled;
      feasible = (take-decides _ _ (lent c.args.separators.now c.args.numbers.now c.args.words.now c.args.owners.now) t.stars c.requires.ready.homing.valid c.requires.ready.homing.growth t.laid_out c.args.page c.args.number t.inside t.homed t.top t.star t.named t.member _ there c.args.pool.now c.args.separators.now).feasible;
    }

pub returns : goal.returns
returns c t laid star named member =
    let fits : (n : ℕ) → n ≡ c.args.geometry.parameters.pages * c.args.geometry.parameters.places → c.args.page * c.args.geometry.parameters.places + c.args.geometry.parameters.places ≤ n = λ n e. page-fits _ _ _ c.requires.takeable.inside e in
    let there : c.search-found.result.at ≡ place_of c.args.number (part c.args.geometry.parameters.places c.args.page c.args.numbers.now) = found_at _ _ _ _ _ _ _ _ c.load-value.ensures c.search-found.ensures (fits _ c.requires.ready.sized.of_numbers) in
    let e = c.requires.takeable in
    taken-one _ _ (lent c.args.separators.now c.args.numbers.now c.args.words.now c.args.owners.now) t c.requires.ready.homing.valid c.requires.ready.homing.growth laid c.args.page c.args.number e.inside e.homed e.top star named member _ _ c.args.pool.now c.args.separators.now there
    c.carry_out.ensures
