-- `pages::page::load` meets its contract.
use mathlib.Core.Path.{◌≡◌}
use native.Mathlib.Omega.{arith}
use Rattle.pages.proofs.Parts.{loaded-none, loaded-more, loaded-all}
use Rattle.pages.proofs.page.load.Goals as goal

pub loop-i-init : goal.loop-i-init
loop-i-init c = record { numbers = loaded-none _ _; words = loaded-none _ _; owners = loaded-none _ _ }

pub loop-i-preserved : goal.loop-i-preserved
loop-i-preserved c =
    let was = c.loop-i.invariant in record {
      numbers = loaded-more (omega arith) (omega arith) was.numbers;
      words = loaded-more (omega arith) (omega arith) was.words;
      owners = loaded-more (omega arith) (omega arith) was.owners;
    }

pub returns : goal.returns
returns c =
    let done : c.loop-i.i ≡ c.args.places = omega arith in
    let was = c.loop-i.invariant in
    let ns = loaded-all _ _ _ c.requires.places_in_bounds done was.numbers in
    let ws = loaded-all _ _ _ c.requires.places_in_bounds_2 done was.words in
    let os = loaded-all _ _ _ c.requires.places_in_bounds_3 done was.owners in
    λ t. record { numbers = ns t; words = ws t; owners = os t }
