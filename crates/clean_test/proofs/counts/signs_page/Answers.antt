-- A page at most half as many as the table's entries has no star beyond them.
use mathlib.Core.Path.{refl}
use Prim.Native.Nat.{◌+◌, ◌*◌, ◌≤◌}
use native.Mathlib.Nat.{suc-mul, mul-le-mul}
use native.Mathlib.Omega.{arith}
use borrow.Author.Tests.{eqb-true}
use Rattle.clean_test.proofs.Counters.{page-signable}
use Rattle.clean_test.proofs.counts.signs_page.Goals as goal
use Rattle.clean_test.proofs.counts.signs_page.Goals.{Start}

few : (s : Start) → s.args.page * s.args.places + s.args.places ≤ 32768
few s = omega (arith, suc-mul s.args.page s.args.places, mul-le-mul s.requires.entries_nonzero.1.0 s.requires.entries_nonzero.1.1)

pub overflow_sub-reach : goal.overflow_sub-reach
overflow_sub-reach c = omega arith

pub returns-then-page-reach : goal.returns-then-page-reach
returns-then-page-reach c = record {
  signable_passed = λ _ q i f h l star. omega (arith, c.if-page-reach.true);
  value = λ _. refl;
}

pub overflow_mul-first : goal.overflow_mul-first
overflow_mul-first c = omega (arith, few c.before.before.before.before)

pub overflow_sub-low : goal.overflow_sub-low
overflow_sub-low c = omega (arith, c.if-page-reach.false)

pub count_below-requires : goal.count_below-requires
count_below-requires c =
    let s = c.before.before.before.before in
    record {
      first_le_last = (omega arith, s.requires.places_in_bounds);
      last_bound = few s;
    }

pub returns : goal.returns
returns c =
    let k = c.before.before in
    let a = k.args in record {
      signable_passed = λ e. page-signable _ _ a.numbers.now a.homes.now _ _ (omega (arith, k.if-page-reach.false)) (c.count_below.ensures (eqb-true _ 0 e));
      value = λ h. absurd (omega (arith, k.if-page-reach.false));
    }
