-- `soundness::star_homes::find_block` meets its contract.
use mathlib.Core.Path.{refl, ◌∙◌}
use native.Mathlib.Omega.{arith}
use lib.ListN.{drop, length-drop}
use Rattle.soundness.proofs.Stars.{items-homed}
use Rattle.soundness.proofs.star_homes.find_block.Goals as goal

pub of_page-requires : goal.of_page-requires
of_page-requires c =
    let h = c.requires.homing in
    let g = c.gather-taken.ensures in
    record {
      powers_value = h.table;
      parameters_value = h.valid;
      growth_value = h.growth;
      places_bound = g.most;
      numbers_len = (g.long, refl);
    }

pub returns : goal.returns
returns c =
    let s = c.before.before.before.before.before.before.before.before.before.before.before.before.before in
    let g = c.gather-taken.ensures in record {
      lower_bound = (g.some, g.within);
      homes_after = c.spread.ensures
          ∙ items-homed s.args.geometry (drop s.args.first s.args.numbers.now) _ _ s.args.homes.now s.args.to _ c.gather-taken.result.items
          (omega (arith, length-drop s.args.first s.args.numbers.now, g.within, s.requires.le.1.0)) g.most g.counted g.taken c.of_page.ensures;
    }
