-- `homes::scalars::keyed` meets its contract.
use mathlib.Core.Path.{refl}
use native.Mathlib.Omega.{arith}
use borrow.Author.Rules.{rules}
use Rattle.homes.specs.Lanes.{residue_of}
use Rattle.homes.proofs.scalars.keyed.Goals as goal

pub returns : goal.returns
unfolding residue_of
returns c = (refl, omega (arith, c.ranges.number))
