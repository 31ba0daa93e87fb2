use mathlib.Core.Path.{refl, ◌∙◌}
use native.Mathlib.Omega.{arith}
use borrow.Author.Tests.{eqb-true}
use Rattle.growth_in_place.proofs.Block.{block-ready, block-placed, block-stays, block-homed, block-ruled}
use Rattle.growth_in_place.proofs.renewing.replace_block.Goals as goal

pub returns-then-separators-lo : goal.returns-then-separators-lo
returns-then-separators-lo c =
    record {
      owners_value = block-stays _ _ _ _ _ _ _ c.requires (omega arith) (omega (arith, eqb-true, c.if-separators-lo.true, c.top_of.ensures));
      pool_unchanged = refl;
    }

pub stays-requires : goal.stays-requires
stays-requires c =
    record {
      parameters_value = c.requires.ready.valid;
      homed = block-homed _ _ _ _ _ _ _ c.requires;
    }

pub returns-then-stays : goal.returns-then-stays
returns-then-stays c =
    record {
      owners_value = block-ruled _ _ _ _ _ _ _ c.requires (c.stays.ensures c.if-stays.true);
      pool_unchanged = refl;
    }

pub replace_stretch-requires : goal.replace_stretch-requires
replace_stretch-requires c =
    record {
      parameters_value = c.requires.ready.valid;
      stretch_ready = block-ready _ _ _ _ _ _ _ c.requires;
    }

pub returns : goal.returns
returns c =
    let left = c.replace_stretch.ensures in
    record {
      owners_value = left.owners_value ∙ block-placed _ _ _ _ _ _ _ c.requires;
      pool_unchanged = left.pool_unchanged;
    }
