use mathlib.Core.Path.{ap, ◌∙◌}
use mathlib.Core.List.{List, ◌++◌}
use Prim.Native.Nat.{ℕ}
use native.Mathlib.Omega.{arith}
use lib.ListN.{take}
use Rattle.page_plan.specs.Gather.{stretch_words}
use Rattle.entry_reach.proofs.PushLoop.{one-group}
use Rattle.entry_reach.proofs.newcomers.join_page.Goals as goal

pub gather-requires : goal.gather-requires
gather-requires c =
    let s = c.before.before.before.before.before.before in
    record {
      places_bound = (s.requires.places_bound.0, (omega arith, omega (arith, s.requires.places_bound.1)));
      places_in_bounds = s.requires.places_in_bounds;
      numbers_value = s.requires.numbers_value;
      homes_value = s.requires.pool_value;
      count_in_bounds = (omega arith, s.requires.end_bound.0);
      numbers_in_bounds = s.requires.end_bound.1;
    }

pub returns : goal.returns
returns c =
    let d = c.before.before.before.before in
    let s = d.before.before.before.before.before.before in
    let l : List ℕ = stretch_words s.args.places s.args.page 1 0 s.args.numbers.now s.args.pool.now in record {
      value = d.gather.ensures.value;
      waiting_after = ap (λ (n : ℕ). take n d.gather.new.waiting) d.gather.ensures.value
          ∙ d.gather.ensures.scatters.words
          ∙ ap (λ (t : List ℕ). take s.args.end s.args.waiting.now ++ t) (one-group s.args.page l s.requires.pool_value_2);
    }
