use mathlib.Core.Path.{ap, ◌∙◌}
use mathlib.Core.List.{List}
use Prim.Native.Nat.{ℕ, ◌*◌}
use native.Mathlib.Omega.{arith}
use lib.ListN.{drop, length-drop}
use lib.Seq.{paste}
use Rattle.buffers.proofs.Written.{paste_written}
use Rattle.pages.specs.Page.{part}
use Rattle.plan_transfer.proofs.Fetched.{fetched-back}
use Rattle.growth_plan.proofs.steps.write_planned.Goals as goal

-- from the page fetched on
pub copy-requires-2 : goal.copy-requires-2
copy-requires-2 c =
    record {
      in_bounds = omega (arith, c.requires, c.fetch.auto);
      in_bounds_2 = omega (arith, c.requires, c.fetch.auto);
    }

pub copy-requires-3 : goal.copy-requires-3
copy-requires-3 c =
    record {
      in_bounds = omega (arith, c.requires, c.fetch.auto);
      in_bounds_2 = omega (arith, c.requires, c.fetch.auto);
    }

pub copy-requires-4 : goal.copy-requires-4
copy-requires-4 c =
    record {
      in_bounds = omega (arith, c.requires, c.fetch.auto);
      in_bounds_2 = omega (arith, c.requires, c.fetch.auto);
    }

pub returns : goal.returns
unfolding part
returns c =
    let at = c.args.step * c.args.places in record {
      secondseparators_after = c.copy.ensures ∙ paste_written c.args.secondseparators.now c.args.step (drop c.args.step c.args.planned.now) 1 (rw (length-drop c.args.step c.args.planned.now) (omega (arith, c.requires)));
      secondnumbers_after = c.copy-2.ensures ∙ ap (λ (l : List ℕ). paste c.args.secondnumbers.now at (drop at l) c.args.places) c.fetch.ensures.pool_after ∙ fetched-back c.args.secondnumbers.now c.args.pool.now c.args.numbers.now c.args.pool.now 0 at c.args.places (omega (arith, c.requires)) (omega (arith, c.requires));
      secondwords_after = c.copy-3.ensures ∙ ap (λ (l : List ℕ). paste c.args.secondwords.now at (drop at l) c.args.places) c.fetch.ensures.waiting_after ∙ fetched-back c.args.secondwords.now c.args.waiting.now c.args.words.now c.args.pool.now 0 at c.args.places (omega (arith, c.requires)) (omega (arith, c.requires));
      secondowners_after = c.copy-4.ensures ∙ ap (λ (l : List ℕ). paste c.args.secondowners.now at (drop at l) c.args.places) c.fetch.ensures.poolowners_after ∙ fetched-back c.args.secondowners.now c.args.poolowners.now c.args.owners.now c.args.pool.now 0 at c.args.places (omega (arith, c.requires)) (omega (arith, c.requires));
    }
