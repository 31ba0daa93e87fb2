-- What was planned is applied, and the star stands on the page that the new separators name.
use mathlib.Core.Path.{◌≡◌, ap, ◌∙◌, subst}
use Prim.Native.Nat.{ℕ, ◌+◌, ◌-◌, ◌*◌, ◌≤◌, ◌<◌}
use native.Mathlib.Nat.{mul-le-mul_right}
use native.Mathlib.Omega.{arith}
use Rattle.hashing.proofs.Bounds.{Limits, limits}
use Rattle.placement.specs.File.{File, replaced}
use Rattle.placement.specs.Hash.{lent, named_page_lem}
use Rattle.reach.specs.Reach.{pages_to}
use Rattle.page_plan.proofs.Applying.{applied}
use Rattle.entry_reach.specs.declared.blocks.Reach.{Reach}
use Rattle.entry_reach.specs.declared.blocks.Reach.TheVariants.{Ends, Unsound, Overflows}
use Rattle.entry_reach.specs.Entry.{new_star_lem}
use Rattle.entry_reach.proofs.Holding.{lists-applied}
use Rattle.entry_cascade.specs.Cascade.{visited, Plans, CascadeKept}
use Rattle.entry_cascade.proofs.Entered.{stopped-answer, spilled_answer, kept-answer, kept-file, named-holds}
use Rattle.entry_cascade.proofs.entry.cascade.Goals as goal

pub overflow_add-page : goal.overflow_add-page
overflow_add-page c =
    let bounds : Limits c.args.geometry.parameters = limits c.args.geometry.parameters c.requires.enters.ready.homing.valid in
    omega (arith, c.requires.enters.here, c.requires.enters.unheld.named, bounds.pages_most)

pub push-requires : goal.push-requires
push-requires c =
    let bounds : Limits c.args.geometry.parameters = limits c.args.geometry.parameters c.requires.enters.ready.homing.valid in
    record {
      enters = c.requires.enters;
      pool_len = (c.requires.pooled.of_numbers, c.requires.pooled.of_words_lem);
      pages_in_bounds = bounds.pages_most;
      known_to = λ q a h. let same : q ≡ c.args.page = omega arith in rw same c.requires.known;
    }

pub overflow_add-last : goal.overflow_add-last
overflow_add-last c =
    let bounds : Limits c.args.geometry.parameters = limits c.args.geometry.parameters c.requires.enters.ready.homing.valid in
    let known : (r : Reach) → c.push.result ≡ r → Plans c.args.geometry.parameters c.args.geometry.growth (lent c.args.separators.now c.args.numbers.now c.args.words.now c.args.owners.now) c.args.number c.args.page c.push.new.pool c.push.new.planned r = λ r e. subst (λ (r : Reach). Plans c.args.geometry.parameters c.args.geometry.growth (lent c.args.separators.now c.args.numbers.now c.args.words.now c.args.owners.now) c.args.number c.args.page c.push.new.pool c.push.new.planned r) e c.push.ensures in
    let last : ℕ = c.in-Ends.last in
    let ends : (c.args.page ≤ last) × ((last < c.args.geometry.parameters.pages) × ((word owner : ℕ) → CascadeKept c.args.geometry.parameters c.args.geometry.growth (lent c.args.separators.now c.args.numbers.now c.args.words.now c.args.owners.now) c.args.number word owner c.args.page c.push.new.pool c.push.new.planned last)) = known (Ends last) c.in-Ends.is in
    omega (arith, ends.1.0, bounds.pages_most)

pub overflow_sub-last : goal.overflow_sub-last
overflow_sub-last c =
    let known : (r : Reach) → c.push.result ≡ r → Plans c.args.geometry.parameters c.args.geometry.growth (lent c.args.separators.now c.args.numbers.now c.args.words.now c.args.owners.now) c.args.number c.args.page c.push.new.pool c.push.new.planned r = λ r e. subst (λ (r : Reach). Plans c.args.geometry.parameters c.args.geometry.growth (lent c.args.separators.now c.args.numbers.now c.args.words.now c.args.owners.now) c.args.number c.args.page c.push.new.pool c.push.new.planned r) e c.push.ensures in
    let last : ℕ = c.in-Ends.last in
    let ends : (c.args.page ≤ last) × ((last < c.args.geometry.parameters.pages) × ((word owner : ℕ) → CascadeKept c.args.geometry.parameters c.args.geometry.growth (lent c.args.separators.now c.args.numbers.now c.args.words.now c.args.owners.now) c.args.number word owner c.args.page c.push.new.pool c.push.new.planned last)) = known (Ends last) c.in-Ends.is in
    omega (arith, ends.0)

pub apply-requires : goal.apply-requires
apply-requires c =
    let bounds : Limits c.args.geometry.parameters = limits c.args.geometry.parameters c.requires.enters.ready.homing.valid in
    let known : (r : Reach) → c.push.result ≡ r → Plans c.args.geometry.parameters c.args.geometry.growth (lent c.args.separators.now c.args.numbers.now c.args.words.now c.args.owners.now) c.args.number c.args.page c.push.new.pool c.push.new.planned r = λ r e. subst (λ (r : Reach). Plans c.args.geometry.parameters c.args.geometry.growth (lent c.args.separators.now c.args.numbers.now c.args.words.now c.args.owners.now) c.args.number c.args.page c.push.new.pool c.push.new.planned r) e c.push.ensures in
    let last : ℕ = c.in-Ends.last in
    let ends : (c.args.page ≤ last) × ((last < c.args.geometry.parameters.pages) × ((word owner : ℕ) → CascadeKept c.args.geometry.parameters c.args.geometry.growth (lent c.args.separators.now c.args.numbers.now c.args.words.now c.args.owners.now) c.args.number word owner c.args.page c.push.new.pool c.push.new.planned last)) = known (Ends last) c.in-Ends.is in
    let stop : c.args.page + (last + 1 - c.args.page) ≡ last + 1 = omega (arith, ends.0) in
    let items : (c.args.page + (last + 1 - c.args.page)) * c.args.geometry.parameters.places ≤ c.args.geometry.parameters.pages * c.args.geometry.parameters.places = mul-le-mul_right c.args.geometry.parameters.places (omega (arith, stop, ends.1.0)) in
    let high = ends.1.0 in
    let sized = c.requires.enters.ready.sized in record {
      places_bound = (bounds.places_most, omega (arith, stop, high, bounds.pages_most));
      count_in_bounds = (omega (arith, stop, high, sized.of_separators), omega (arith, stop, high, bounds.pages_most, c.push.auto.planned));
      places_in_bounds = (omega (arith, items, sized.of_numbers), omega (arith, items, sized.of_words_lem));
      places_in_bounds_2 = (omega (arith, items, c.requires.pooled.of_numbers, c.push.auto.pool), omega (arith, items, c.requires.pooled.of_words_lem, c.push.auto.waiting));
      places_in_bounds_3 = (omega (arith, items, sized.of_owners), omega (arith, items, c.requires.pooled.of_owners));
    }

pub named_from-on-requires : goal.named_from-on-requires
named_from-on-requires c =
    record {
      homing = c.requires.enters.ready.homing;
      separators_len = c.apply.auto.separators ∙ c.requires.enters.ready.sized.of_separators;
      home_value = c.requires.enters.homed;
    }

pub returns-in-Unsound : goal.returns-in-Unsound
returns-in-Unsound c =
    let known : (r : Reach) → c.push.result ≡ r → Plans c.args.geometry.parameters c.args.geometry.growth (lent c.args.separators.now c.args.numbers.now c.args.words.now c.args.owners.now) c.args.number c.args.page c.push.new.pool c.push.new.planned r = λ r e. subst (λ (r : Reach). Plans c.args.geometry.parameters c.args.geometry.growth (lent c.args.separators.now c.args.numbers.now c.args.words.now c.args.owners.now) c.args.number c.args.page c.push.new.pool c.push.new.planned r) e c.push.ensures in
    record {
      value = (stopped-answer c.args.geometry.parameters c.args.geometry.growth (lent c.args.separators.now c.args.numbers.now c.args.words.now c.args.owners.now) (new_star_lem c.args.number c.args.word c.args.owner) c.args.page c.in-Unsound.bad (known (Unsound c.in-Unsound.bad) c.in-Unsound.is c.args.word c.args.owner)).0;
      owners_value = (stopped-answer c.args.geometry.parameters c.args.geometry.growth (lent c.args.separators.now c.args.numbers.now c.args.words.now c.args.owners.now) (new_star_lem c.args.number c.args.word c.args.owner) c.args.page c.in-Unsound.bad (known (Unsound c.in-Unsound.bad) c.in-Unsound.is c.args.word c.args.owner)).1;
    }

pub returns-in-Overflows : goal.returns-in-Overflows
returns-in-Overflows c =
    let known : (r : Reach) → c.push.result ≡ r → Plans c.args.geometry.parameters c.args.geometry.growth (lent c.args.separators.now c.args.numbers.now c.args.words.now c.args.owners.now) c.args.number c.args.page c.push.new.pool c.push.new.planned r = λ r e. subst (λ (r : Reach). Plans c.args.geometry.parameters c.args.geometry.growth (lent c.args.separators.now c.args.numbers.now c.args.words.now c.args.owners.now) c.args.number c.args.page c.push.new.pool c.push.new.planned r) e c.push.ensures in
    record {
      value = (spilled_answer c.args.geometry.parameters c.args.geometry.growth (lent c.args.separators.now c.args.numbers.now c.args.words.now c.args.owners.now) (new_star_lem c.args.number c.args.word c.args.owner) c.args.page (known Overflows c.in-Overflows.is c.args.word c.args.owner)).0;
      owners_value = (spilled_answer c.args.geometry.parameters c.args.geometry.growth (lent c.args.separators.now c.args.numbers.now c.args.words.now c.args.owners.now) (new_star_lem c.args.number c.args.word c.args.owner) c.args.page (known Overflows c.in-Overflows.is c.args.word c.args.owner)).1;
    }

pub returns-in-Ends : goal.returns-in-Ends
returns-in-Ends c =
    let p = c.args.geometry.parameters in
    let g = c.args.geometry.growth in
    let known : (r : Reach) → c.push.result ≡ r → Plans c.args.geometry.parameters c.args.geometry.growth (lent c.args.separators.now c.args.numbers.now c.args.words.now c.args.owners.now) c.args.number c.args.page c.push.new.pool c.push.new.planned r = λ r e. subst (λ (r : Reach). Plans c.args.geometry.parameters c.args.geometry.growth (lent c.args.separators.now c.args.numbers.now c.args.words.now c.args.owners.now) c.args.number c.args.page c.push.new.pool c.push.new.planned r) e c.push.ensures in
    let last : ℕ = c.in-Ends.last in
    let ends : (c.args.page ≤ last) × ((last < c.args.geometry.parameters.pages) × ((word owner : ℕ) → CascadeKept c.args.geometry.parameters c.args.geometry.growth (lent c.args.separators.now c.args.numbers.now c.args.words.now c.args.owners.now) c.args.number word owner c.args.page c.push.new.pool c.push.new.planned last)) = known (Ends last) c.in-Ends.is in
    let pool = c.push.new.pool in
    let planned = c.push.new.planned in
    let y = c.apply in
    let k : CascadeKept p g (lent c.args.separators.now c.args.numbers.now c.args.words.now c.args.owners.now) c.args.number c.args.word c.args.owner c.args.page pool planned last = ends.1.1 c.args.word c.args.owner in
    let count : last + 1 - c.args.page ≡ pages_to c.args.page last = omega (arith, ends.0) in
    let whole : lent y.new.separators y.new.numbers y.new.words y.new.owners ≡ replaced p.places (lent c.args.separators.now c.args.numbers.now c.args.words.now c.args.owners.now) c.args.page (visited p g (lent c.args.separators.now c.args.numbers.now c.args.words.now c.args.owners.now) (new_star_lem c.args.number c.args.word c.args.owner) c.args.page) =
    lists-applied p.places c.args.page (last + 1 - c.args.page) c.args.number c.args.word c.args.owner pool planned (lent c.args.separators.now c.args.numbers.now c.args.words.now c.args.owners.now) y.new.separators y.new.numbers y.new.words y.new.owners
    y.ensures.separators_after y.ensures.numbers_after y.ensures.words_after y.ensures.owners_after
    ∙ ap (λ (n : ℕ). applied p.places c.args.page n c.args.number c.args.word c.args.owner pool planned (lent c.args.separators.now c.args.numbers.now c.args.words.now c.args.owners.now)) count
    ∙ k.applies in record {
      value = kept-answer p g (lent c.args.separators.now c.args.numbers.now c.args.words.now c.args.owners.now) c.args.number c.args.word c.args.owner c.args.page pool planned last k c.named_from-on.result
          (c.named_from-on.ensures
          ∙ ap (λ (f : File). named_page_lem p g f.separators c.args.number) whole
          ∙ named-holds p g (lent c.args.separators.now c.args.numbers.now c.args.words.now c.args.owners.now) c.args.number c.args.word c.args.owner c.args.page pool planned last k c.requires.enters.here (omega (arith, ends.0, ends.1.0, c.requires.enters.ready.sized.of_separators)));
      owners_value = whole ∙ kept-file p g (lent c.args.separators.now c.args.numbers.now c.args.words.now c.args.owners.now) c.args.number c.args.word c.args.owner c.args.page pool planned last k;
    }
