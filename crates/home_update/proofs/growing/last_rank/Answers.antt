-- `home_update::last_rank` meets its contract.
use mathlib.Core.Path.{◌∙◌}
use Prim.Native.Nat.{◌≤◌}
use native.Mathlib.Nat.{mod-lt, le_refl}
use borrow.Author.Rules.{rules}
use Rattle.hashing.specs.Home.{rank_at}
use Rattle.hashing.specs.Moves.{Narrow}
use Rattle.hashing.proofs.Bounds.{limits, growth_within}
use Rattle.hashing.proofs.Codes.{code_count_lem, code_narrow, count-of_least}
use Rattle.home_update.proofs.growing.last_rank.Goals as goal
use Rattle.home_update.proofs.growing.last_rank.Goals.{After-count_of, Start}

narrow : (c : Start) → Narrow c.args.geometry.parameters c.args.last
narrow c = rw c.requires.last_value (code_narrow _ _ _ (limits _ c.requires.parameters_value) (growth_within _ _ c.requires.growth_value) (le_refl c.args.geometry.growth.expansions))

some : (c : After-count_of) → 1 ≤ c.count_of.result
some c = let start = c.before.before in rw c.count_of.ensures (count-of_least start.args.geometry.parameters start.args.last (limits _ start.requires.parameters_value))

pub count_of-requires : goal.count_of-requires
count_of-requires c = record {
  parameters_value = c.requires.parameters_value;
  code_bound = (narrow c.before).0;
}

pub nonzero_rem-group : goal.nonzero_rem-group
nonzero_rem-group c = some c

pub ranked-order-requires : goal.ranked-order-requires
ranked-order-requires c =
    let start = c.before.before.before in
    record {
      parameters_value = start.requires.parameters_value;
      inverse_value = c.inverse_of.ensures;
      group_bound = (rw (← c.count_of.ensures) (mod-lt start.args.page {m = c.count_of.result} (some c.before)), (narrow start).0);
    }

pub returns : goal.returns
unfolding rank_at
returns c =
    let start = c.before.before.before.before in
    c.ranked-order.ensures
    ∙ rw (c.count_of.ensures, start.requires.last_value, code_count_lem start.args.geometry.parameters start.args.geometry.growth.expansions (limits _ start.requires.parameters_value))
