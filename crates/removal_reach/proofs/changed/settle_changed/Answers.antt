-- As page_plan's settle_pages, ended early.
use mathlib.Core.Path.{◌≡◌, ap, ◌∙◌}
use Prim.Native.Nat.{ℕ, ◌+◌, ◌*◌, ◌≤◌}
use native.Mathlib.Nat.{mul-le-mul, mul-le-mul_right}
use native.Mathlib.Omega.{arith}
use lib.ListN.{length, get_or}
use Rattle.pages.specs.Shape.{stretch}
use Rattle.hashing.proofs.Bounds.{limits}
use Rattle.page_plan.specs.Gather.{stars_in}
use Rattle.page_plan.proofs.Stretch.{page-inside, settling-none, settling-next, probed-near, probed-inside, probed-within}
use Rattle.removal_reach.proofs.Counted.{stars-none, stars-more, stars-few, from-most, changed}
use Rattle.removal_reach.proofs.changed.settle_changed.Goals as goal

pub loop-v-init : goal.loop-v-init
loop-v-init c =
    let a = c.args in
    (settling-none _ _ _ _ _ _ _ _, stars-none a.parameters.places a.lo a.numbers.now)

pub overflow_cast-reach : goal.overflow_cast-reach
overflow_cast-reach c =
    let p = c.requires.settleable in
    let is = p.grouped_are.ended c.loop-v.v c.loop-v-test.true in
    let reached : get_or c.args.ends.now c.loop-v.v 0 ≤ length c.loop-v.waiting = rw is (probed-within _ _ _ _ _ _ _ _ _ p.grouped_are _ _ _ _ _ c.loop-v.invariant.0 c.loop-v-test.true) in
    let few : length c.loop-v.waiting ≤ 32768 = omega (arith, c.loop-v.invariant.0.long_waiting, p.few) in
    record { fits = omega (arith, reached, few) }

pub plan_page-from-requires : goal.plan_page-from-requires
plan_page-from-requires c =
    let p = c.requires.settleable in
    let is = p.grouped_are.ended c.loop-v.v c.loop-v-test.true in
    let reached : get_or c.args.ends.now c.loop-v.v 0 ≤ length c.loop-v.waiting = rw is (probed-within _ _ _ _ _ _ _ _ _ p.grouped_are _ _ _ _ _ c.loop-v.invariant.0 c.loop-v-test.true) in
    let few : length c.loop-v.waiting ≤ 32768 = omega (arith, c.loop-v.invariant.0.long_waiting, p.few) in
    let a = c.args in
    let inv = c.loop-v.invariant.0 in record {
      parameters_value = p.valid;
      probing = record {
        order = rw is (probed-inside _ _ _ _ _ _ _ _ _ p.grouped_are _ _ _ _ _ inv c.loop-v-test.true);
        inside = reached;
        most = omega (arith, reached, few);
        page = omega (arith, c.loop-v-test.true, p.pages);
        homes = rw is (probed-near _ _ _ _ _ _ _ _ _ p.grouped_are _ _ _ _ _ inv c.loop-v-test.true p.near);
      };
      page_in_bounds = (
        omega (arith, c.loop-v-test.true, p.of_planned, inv.long_planned),
        rw inv.long_pool
            (page-inside a.lo c.loop-v.v a.count a.parameters.places (length a.pool.now) c.loop-v-test.true p.of_pool),
      );
    }

pub overflow_mul-page : goal.overflow_mul-page
overflow_mul-page c =
    let a = c.args in
    let first : (a.lo + c.loop-v.v) * a.parameters.places ≤ (a.lo + c.loop-v.v + 1) * a.parameters.places = mul-le-mul_right a.parameters.places (omega arith) in
    let items : (a.lo + c.loop-v.v + 1) * a.parameters.places ≤ (a.lo + a.count) * a.parameters.places = mul-le-mul_right a.parameters.places (omega (arith, c.loop-v-test.true)) in
    let most : (a.lo + a.count) * a.parameters.places ≤ 1024 * 32 = mul-le-mul c.requires.settleable.pages (limits a.parameters c.requires.settleable.valid).places_most in
    record { fits = omega (arith, first, items, most) }

pub overflow_mul-page-in-loop-v : goal.overflow_mul-page-in-loop-v
overflow_mul-page-in-loop-v c =
    let a = c.args in
    let first : (a.lo + c.loop-v.v) * a.parameters.places ≤ (a.lo + c.loop-v.v + 1) * a.parameters.places = mul-le-mul_right a.parameters.places (omega arith) in
    let items : (a.lo + c.loop-v.v + 1) * a.parameters.places ≤ (a.lo + a.count) * a.parameters.places = mul-le-mul_right a.parameters.places (omega (arith, c.loop-v-test.true)) in
    let most : (a.lo + a.count) * a.parameters.places ≤ 1024 * 32 = mul-le-mul c.requires.settleable.pages (limits a.parameters c.requires.settleable.valid).places_most in
    record { fits = omega (arith, items, most) }

pub count_stars-stored-requires : goal.count_stars-stored-requires
count_stars-stored-requires c =
    let a = c.args in
    let first : (a.lo + c.loop-v.v) * a.parameters.places ≤ (a.lo + c.loop-v.v + 1) * a.parameters.places = mul-le-mul_right a.parameters.places (omega arith) in
    let items : (a.lo + c.loop-v.v + 1) * a.parameters.places ≤ (a.lo + a.count) * a.parameters.places = mul-le-mul_right a.parameters.places (omega (arith, c.loop-v-test.true)) in
    let most : (a.lo + a.count) * a.parameters.places ≤ 1024 * 32 = mul-le-mul c.requires.settleable.pages (limits a.parameters c.requires.settleable.valid).places_most in
    (first, omega (arith, items, c.requires.places_in_bounds))

pub overflow_add-stored : goal.overflow_add-stored
overflow_add-stored c =
    let a = c.args in
    let stored : c.loop-v.stored + c.count_stars-stored.result ≡ stars_in 0 (stretch a.parameters.places a.lo (c.loop-v.v + 1) a.numbers.now) =
    ap (λ (n : ℕ). n + c.count_stars-stored.result) c.loop-v.invariant.1
    ∙ ap (λ (n : ℕ). stars_in 0 (stretch a.parameters.places a.lo c.loop-v.v a.numbers.now) + n) c.count_stars-stored.ensures
    ∙ stars-more a.parameters.places a.lo c.loop-v.v a.numbers.now in
    let p = c.requires.settleable in
    let above : (a.lo + (c.loop-v.v + 1)) * a.parameters.places ≤ (a.lo + a.count) * a.parameters.places = mul-le-mul_right a.parameters.places (omega (arith, c.loop-v-test.true)) in
    record {
      fits =
          omega (
            arith,
            stored,
            stars-few a.parameters.places a.lo (c.loop-v.v + 1) a.numbers.now (omega (arith, above, c.requires.places_in_bounds)) (omega (arith, c.loop-v-test.true, p.pages)) (limits a.parameters p.valid).places_most,
          );
    }

pub overflow_add-from : goal.overflow_add-from
overflow_add-from c =
    let p = c.requires.settleable in
    let d = c.plan_page-from in
    let next = settling-next _ _ _ _ _ _ _ _ _ p.grouped_are _ _ _ _ _ c.loop-v.invariant.0 c.loop-v-test.true _ (p.grouped_are.ended c.loop-v.v c.loop-v-test.true) _ _ _ _ d.ensures p.of_pool p.of_planned d.auto.pool d.auto.waiting d.auto.planned in
    record { fits = omega (arith, from-most _ _ _ _ _ _ _ _ p.grouped_are _ _ _ _ _ next, p.few) }

pub returns-then-from-stored : goal.returns-then-from-stored
returns-then-from-stored c =
    let p = c.requires.settleable in
    let d = c.plan_page-from in
    let next = settling-next _ _ _ _ _ _ _ _ _ p.grouped_are _ _ _ _ _ c.loop-v.invariant.0 c.loop-v-test.true _ (p.grouped_are.ended c.loop-v.v c.loop-v-test.true) _ _ _ _ d.ensures p.of_pool p.of_planned d.auto.pool d.auto.waiting d.auto.planned in
    let a = c.args in
    let stored : c.loop-v.stored + c.count_stars-stored.result ≡ stars_in 0 (stretch a.parameters.places a.lo (c.loop-v.v + 1) a.numbers.now) =
    ap (λ (n : ℕ). n + c.count_stars-stored.result) c.loop-v.invariant.1
    ∙ ap (λ (n : ℕ). stars_in 0 (stretch a.parameters.places a.lo c.loop-v.v a.numbers.now) + n) c.count_stars-stored.ensures
    ∙ stars-more a.parameters.places a.lo c.loop-v.v a.numbers.now in
    changed _ _ _ _ _ _ _ _ p.grouped_are _ _ _ _ _ next a.numbers.now _ stored (λ h. c.if-from-stored.true)

pub loop-v-preserved : goal.loop-v-preserved
loop-v-preserved c =
    let p = c.requires.settleable in
    let d = c.plan_page-from in
    let next = settling-next _ _ _ _ _ _ _ _ _ p.grouped_are _ _ _ _ _ c.loop-v.invariant.0 c.loop-v-test.true _ (p.grouped_are.ended c.loop-v.v c.loop-v-test.true) _ _ _ _ d.ensures p.of_pool p.of_planned d.auto.pool d.auto.waiting d.auto.planned in
    let a = c.args in
    let stored : c.loop-v.stored + c.count_stars-stored.result ≡ stars_in 0 (stretch a.parameters.places a.lo (c.loop-v.v + 1) a.numbers.now) =
    ap (λ (n : ℕ). n + c.count_stars-stored.result) c.loop-v.invariant.1
    ∙ ap (λ (n : ℕ). stars_in 0 (stretch a.parameters.places a.lo c.loop-v.v a.numbers.now) + n) c.count_stars-stored.ensures
    ∙ stars-more a.parameters.places a.lo c.loop-v.v a.numbers.now in
    (next, stored)

pub returns : goal.returns
returns c =
    let end : c.loop-v.v ≡ c.args.count = omega (arith, c.loop-v-test.false) in
    rw end at
    (changed _ _ _ _ _ _ _ _ c.requires.settleable.grouped_are _ _ _ _ _ c.loop-v.invariant.0 c.args.numbers.now c.loop-v.stored c.loop-v.invariant.1 (λ h. absurd (omega (arith, c.loop-v-test.false))))
