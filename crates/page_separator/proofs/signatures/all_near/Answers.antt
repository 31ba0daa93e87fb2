-- The words are homed at page − 43 or above.
use Rattle.std.proofs.Common.{◌≡◌, ◌-◌, ◌≤◌, length, get_or, arith, rules}
use Rattle.std.specs.Prelude.{EachIndex, IsTrue, ◌↔◌, slice_index}
use Rattle.std.proofs.lemmas.Grind.{common_steps}
use Rattle.page_separator.proofs.Packing.{home-least}
use Rattle.page_separator.proofs.signatures.all_near.Goals as goal

pub returns : goal.returns
returns c = λ e i f h.
    let each : IsTrue c.all.result ↔ EachIndex c.iter.result.rest.now (λ k. c.pack-least.result ≤ slice_index c.iter.result.rest.now k) = search rules in
    let size : length c.iter.result.rest.now ≡ c.args.reach - c.args.from = grind (arith, common_steps) in
    let item : get_or c.iter.result.rest.now (i - c.args.from) 0 ≡ get_or c.args.waiting.now i 0 = grind (arith, common_steps) in
    let least : c.pack-least.result ≤ get_or c.iter.result.rest.now (i - c.args.from) 0 = each.0 e (i - c.args.from) (omega arith) in
    omega (arith, home-least (c.args.page - 43) (get_or c.args.waiting.now i 0) (omega arith))
