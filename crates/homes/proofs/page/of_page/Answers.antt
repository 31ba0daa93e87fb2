-- `homes::of_page` meets its contract: the pages after the last step are the homes of the keys, and so of the numbers.
use mathlib.Core.Path.{◌≡◌, ◌∙◌, refl, sym, ap}
use mathlib.Core.List.{List}
use Prim.Native.Nat.{ℕ, ◌*◌, ◌≤◌}
use native.Mathlib.Nat.{mul-le-mul}
use native.Mathlib.Omega.{arith}
use lib.ListN.{get_or}
use Rattle.generator.specs.Shape.{power}
use Rattle.hashing.specs.Geometry.{multiplier_of}
use Rattle.hashing.specs.Home.{home}
use Rattle.hashing.proofs.Bounds.{Limits, limits}
use Rattle.generator.proofs.Powers.{power_below}
use Rattle.homes.specs.Lanes.{keys_at, pages_after_lem}
use Rattle.homes.proofs.Lists.{blocks-map}
use Rattle.homes.proofs.Prepared.{first-factor}
use Rattle.homes.proofs.Steps.{starts-are, homes-are}
use Rattle.homes.proofs.page.of_page.Goals as goal
use Rattle.homes.proofs.page.of_page.Goals.{Start}

bounds : (c : Start) → Limits c.args.geometry.parameters
bounds c = limits c.args.geometry.parameters c.requires.parameters_value

factor_eq : (c : Start) → get_or c.args.powers.now 0 0 ≡ power (multiplier_of c.args.geometry.parameters) 1
factor_eq c = rw c.requires.powers_value (first-factor (multiplier_of c.args.geometry.parameters))

span-most : (c : Start) → c.args.geometry.parameters.width * c.args.geometry.parameters.groups ≤ 1024
span-most c = let l = bounds c in omega (arith, l.pages_least, l.pages_most)

pub overflow_mul-span : goal.overflow_mul-span
overflow_mul-span c = omega (arith, span-most c.before)

pub overflow_cast-span : goal.overflow_cast-span
overflow_cast-span c = omega (arith, span-most c.before)

pub prepare-requires : goal.prepare-requires
prepare-requires c =
    let s = c.before.before.before.before.before.before in
    let l = bounds s in record {
      factor_lt_modulus = rw (factor_eq s) (power_below (multiplier_of s.args.geometry.parameters) 1);
      le_span = (omega (arith, mul-le-mul l.width_least l.groups_least), span-most s);
      places_bound = s.requires.places_bound;
      keys_len = (refl, s.requires.numbers_len.1);
    }

pub steps-requires : goal.steps-requires
steps-requires c =
    let s = c.before.before.before.before.before.before.before.before.before in
    let p = s.args.geometry.parameters in
    let a = multiplier_of p in
    let g = s.args.geometry.growth in
    let made = c.prepare.ensures in record {
      powers_value = s.requires.powers_value;
      parameters_value = s.requires.parameters_value;
      growth_value = s.requires.growth_value;
      places_bound = s.requires.places_bound;
      pages_len = made.pages_len;
      blocks = (λ b m h. (made.blocks b m h).1);
      blocks_2 = (λ b m h.
          made.blocks_2 b m h
          ∙ starts-are a (get_or s.args.powers.now 0 0) p g (keys_at s.args.numbers.now b) (factor_eq s)
          ∙ ap (λ (k : List ℕ). pages_after_lem a p g k 0) (sym (made.blocks b m h).0));
    }

pub returns : goal.returns
returns c =
    let s = c.before.before.before.before.before.before.before.before.before.before in
    let p = s.args.geometry.parameters in
    let a = multiplier_of p in
    let g = s.args.geometry.growth in
    let made = c.prepare.ensures in
    let found = c.steps.ensures in
    blocks-map (home a p g) s.args.numbers.now _ s.args.places (omega (arith, s.requires.places_bound, s.requires.numbers_len.0)) (omega (arith, s.requires.places_bound, found.pages_len_2))
    (λ b m h i l.
    ap (λ (x : List ℕ). get_or x i 0) (found.blocks_3 b m h)
    ∙ homes-are a p g s.args.numbers.now _ b (made.blocks b m h).0 i l)
