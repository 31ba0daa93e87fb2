use mathlib.Core.Bool.{false≢true}
use native.Mathlib.Omega.{arith}
use Rattle.hashing.specs.Geometry.{highest}
use Rattle.hashing.proofs.Bounds.{limits, growth_within, spread}
use Rattle.growth_block.proofs.block.is_local.Goals as goal

pub returns-then-step-geometry : goal.returns-then-step-geometry
returns-then-step-geometry c = λ e. absurd (false≢true e)

pub returns-then-step-highest_address : goal.returns-then-step-highest_address
returns-then-step-highest_address c = λ e. absurd (false≢true e)

pub returns : goal.returns
unfolding highest
returns c =
    let p = c.args.geometry.parameters in
    let g = c.args.geometry.growth in
    λ e.
    record {
      spacious = c.is_spacious.ensures e;
      other =
          λ d.
          c.if-step-highest_address.false
          (omega (arith, d, c.highest_address.ensures, (spread p g (limits p c.requires.homing.valid) (growth_within p g c.requires.homing.growth)).pages_low));
      inner = omega (arith, c.if-step-geometry.false, c.requires.step_lt_pages);
    }
