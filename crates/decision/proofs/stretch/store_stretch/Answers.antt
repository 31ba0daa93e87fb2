use Prim.Native.Nat.{ℕ, ◌+◌, ◌*◌, ◌≤◌}
use native.Mathlib.Nat.{add-mul, mul-le-mul, mul-le-mul_right}
use native.Mathlib.Omega.{arith}
use mathlib.Core.Path.{◌≡◌, ◌∙◌}
use mathlib.Core.Bool.{true}
use borrow.Author.Rules.{rules}
use Rattle.hashing.specs.declared.Parameters.{Parameters}
use Rattle.hashing.specs.Limits.{valid_parameters}
use Rattle.hashing.proofs.Bounds.{limits}
use Rattle.placement.specs.Hash.{lent}
use Rattle.decision.proofs.Stretched.{stretch-stored}
use Rattle.decision.proofs.stretch.store_stretch.Goals as goal

items : (p : Parameters) (lo count : ℕ) → lo + count ≤ p.pages → (lo + count) * p.places ≤ p.pages * p.places
items p lo count h = mul-le-mul_right p.places h

small : (p : Parameters) → valid_parameters p ≡ true → p.pages * p.places ≤ 1024 * 32
small p v = let l = limits p v in mul-le-mul l.pages_most l.places_most

pub overflow_mul-lo : goal.overflow_mul-lo
overflow_mul-lo c =
    omega (arith, items c.args.parameters c.args.lo c.args.count c.requires.count_bound.0, small c.args.parameters c.requires.parameters_value, add-mul c.args.lo c.args.count c.args.parameters.places)

pub overflow_mul-count : goal.overflow_mul-count
overflow_mul-count c =
    omega (arith, items c.args.parameters c.args.lo c.args.count c.requires.count_bound.0, small c.args.parameters c.requires.parameters_value, add-mul c.args.lo c.args.count c.args.parameters.places)

pub fetch-requires : goal.fetch-requires
fetch-requires c =
    let sum = add-mul c.args.lo c.args.count c.args.parameters.places in
    let lengths = c.requires.pooled in
    record {
      in_bounds = omega (arith, items c.args.parameters c.args.lo c.args.count c.requires.count_bound.0, sum, lengths.of_numbers);
      in_bounds_2 = omega (arith, items c.args.parameters c.args.lo c.args.count c.requires.count_bound.0, sum, lengths.of_words_lem);
      in_bounds_3 = omega (arith, items c.args.parameters c.args.lo c.args.count c.requires.count_bound.0, sum, lengths.of_owners);
    }

pub store-requires : goal.store-requires
store-requires c =
    let sized = c.requires.sized in
    let lengths = c.requires.pooled in
    record {
      count_in_bounds = (omega (arith, c.requires.count_bound, sized.of_separators), c.requires.count_bound.1);
      places_in_bounds = (omega (arith, items c.args.parameters c.args.lo c.args.count c.requires.count_bound.0, sized.of_numbers), omega (arith, items c.args.parameters c.args.lo c.args.count c.requires.count_bound.0, lengths.of_numbers, c.fetch.auto.pool));
      places_in_bounds_2 = (omega (arith, items c.args.parameters c.args.lo c.args.count c.requires.count_bound.0, sized.of_words_lem), omega (arith, items c.args.parameters c.args.lo c.args.count c.requires.count_bound.0, lengths.of_words_lem, c.fetch.auto.waiting));
      places_in_bounds_3 = (omega (arith, items c.args.parameters c.args.lo c.args.count c.requires.count_bound.0, sized.of_owners), omega (arith, items c.args.parameters c.args.lo c.args.count c.requires.count_bound.0, lengths.of_owners, c.fetch.auto.poolowners));
    }

pub returns : goal.returns
returns c =
    let a = c.args in
    let fetched = c.fetch in
    let stored = c.store.ensures in
    let lengths = c.requires.pooled in
    let f = lent a.separators.now a.numbers.now a.words.now a.owners.now in
    stretch-stored a.upward a.parameters.places a.lo a.count a.parameters.pages a.limit a.star.number a.star.word a.star.owner f
    a.pool.now a.waiting.now a.poolowners.now a.planned.now fetched.new.pool fetched.new.waiting fetched.new.poolowners
    c.requires.count_bound.0 c.requires.sized lengths.of_numbers lengths.of_words_lem lengths.of_owners c.requires.count_bound.1
    (fetched.auto.pool ∙ lengths.of_numbers) (fetched.auto.waiting ∙ lengths.of_words_lem) (fetched.auto.poolowners ∙ lengths.of_owners)
    fetched.ensures.pool_after fetched.ensures.waiting_after fetched.ensures.poolowners_after _ _ _ _ stored.separators_after stored.numbers_after stored.words_after stored.owners_after
