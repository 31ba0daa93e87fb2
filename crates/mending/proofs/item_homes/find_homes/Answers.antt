-- `mending::item_homes::find_homes` meets its contract.
use mathlib.Core.Path.{◌≡◌, ◌∙◌}
use lib.ListN.{length, length-map}
use Rattle.buffers.proofs.Written.{pasted_whole}
use Rattle.placement.specs.Shape.{home_in, homes_of}
use Rattle.mending.proofs.item_homes.find_homes.Goals as goal

-- each item has a home or 0
pub returns : goal.returns
unfolding homes_of
returns c =
    let homes-long : length (homes_of c.args.geometry.parameters c.args.geometry.growth c.args.numbers.now) ≡ length c.args.numbers.now = length-map c.args.numbers.now (home_in c.args.geometry.parameters c.args.geometry.growth) in
    c.find_homes.ensures
    ∙ pasted_whole c.args.homes.now (homes_of c.args.geometry.parameters c.args.geometry.growth c.args.numbers.now) (length c.args.numbers.now) c.requires.homes_len.0 homes-long
