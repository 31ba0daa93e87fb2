-- More stars than places are too many; else the plan tells.
use mathlib.Core.Path.{◌≡◌, sym, ap, ◌∙◌}
use mathlib.Core.Bool.{false≢true}
use lib.Seq.{take-length}
use native.Mathlib.Omega.{arith}
use borrow.Author.Tests.{ne_eqb}
use Rattle.hashing.proofs.Bounds.{limits}
use Rattle.placement.proofs.Prepared.{homing}
use Rattle.page_plan.specs.Gather.{stars_in}
use Rattle.carrying.proofs.Placing.{words-crowded}
use Rattle.carrying.proofs.stars.plan_all.Goals as goal

pub returns-then-pool-count_stars : goal.returns-then-pool-count_stars
returns-then-pool-count_stars c =
    let counted : c.count_stars.result ≡ stars_in 0 c.args.numbers.now = c.count_stars.ensures ∙ ap (stars_in 0) (take-length c.args.numbers.now) in
    record {
      fits = sym (ne_eqb _ 0 (words-crowded c.args.geometry c.requires.parameters_value.0 c.requires.parameters_value.1 c.args.numbers.now c.requires.numbers_len_bound.0 c.requires.numbers_len_bound.1
          (omega (arith, c.if-pool-count_stars.true, counted, c.requires.pool_len))));
      sources = λ e. absurd (false≢true e);
      separators_are = λ e. absurd (false≢true e);
    }

pub first_multipliers-table-requires : goal.first_multipliers-table-requires
first_multipliers-table-requires c =
    (limits c.args.geometry.parameters c.requires.parameters_value.0).multiplier_valid

pub shift_for-shift-requires : goal.shift_for-shift-requires
shift_for-shift-requires c = tt

pub plan_stars-requires : goal.plan_stars-requires
plan_stars-requires c =
    let counted : c.count_stars.result ≡ stars_in 0 c.args.numbers.now = c.count_stars.ensures ∙ ap (stars_in 0) (take-length c.args.numbers.now) in
    record {
      homing = homing c.first_multipliers-table.ensures c.requires.parameters_value.0 c.requires.parameters_value.1;
      shift_bound = c.shift_for-shift.ensures;
      numbers_len_bound = c.requires.numbers_len_bound;
      pool_len = c.requires.pool_len;
      waiting_len = c.requires.waiting_len;
      planned_len = c.requires.planned_len;
      numbers_in_bounds = omega (arith, c.if-pool-count_stars.false, counted);
    }
