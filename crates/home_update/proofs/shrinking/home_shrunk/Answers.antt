-- `home_update::home_shrunk` meets its contract, by the law of a home before the latest growth.
use mathlib.Core.Path.{◌∙◌, sym}
use borrow.Author.Rules.{rules}
use Rattle.hashing.proofs.Shrinking.{shrunk-valid}
use Rattle.home_update.proofs.Rehomed.{home-shrunk}
use Rattle.home_update.proofs.shrinking.home_shrunk.Goals as goal

pub returns-then-old-highest_address : goal.returns-then-old-highest_address
returns-then-old-highest_address c =
    let start = c.before.before in
    let p = start.args.geometry.parameters in
    let g = start.args.geometry.growth in
    let old = start.requires.value in
    old ∙ sym (home-shrunk p g start.requires.parameters_value start.requires.growth_value_2 start.requires.growth_value p.multiplier start.args.number (λ e. c.if-old-highest_address.true (old ∙ (e ∙ sym c.highest_address.ensures))))

pub home-requires : goal.home-requires
home-requires c =
    let start = c.before.before.before.before in
    record {
      table_value = start.requires.table_value;
      parameters_value = start.requires.parameters_value;
      growth_value = rw c.shrunk-growth.ensures (shrunk-valid _ _ start.requires.parameters_value start.requires.growth_value_2 start.requires.growth_value);
    }

pub returns : goal.returns
returns c = rw (← c.shrunk-growth.ensures) c.home.ensures
