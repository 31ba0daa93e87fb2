-- `hashing::Geometry::group_count` meets its contract.
use borrow.Author.Rules.{rules}
use Rattle.hashing.proofs.Bounds.{limits, growth_within, spread}
use Rattle.hashing.proofs.Geometry.group_count.Goals as goal

pub count_at-requires : goal.count_at-requires
count_at-requires c = record {
  parameters_value = c.requires.parameters_value;
  width_bound = (spread _ _ (limits _ c.requires.parameters_value) (growth_within _ _ c.requires.growth_value)).doublings;
}
