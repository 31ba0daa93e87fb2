-- `placement::top_of` meets its contract.
-- Assumes nothing.
use native.Mathlib.Omega.{arith}
use Rattle.hashing.proofs.Bounds.{Limits, limits}
use Rattle.generator.proofs.Scrambling.{top_least, top_most, top_shifted}
use Rattle.placement.proofs.top_of.Goals as goal
use Rattle.placement.proofs.top_of.Goals.{After-struct_known-1}

bounds : (c : After-struct_known-1) → Limits c.args.parameters
bounds c = limits c.args.parameters c.requires

pub overflow_shl-result : goal.overflow_shl-result
overflow_shl-result c = omega (arith, bounds c)

pub overflow_sub-result : goal.overflow_sub-result
overflow_sub-result c = omega (arith, top_shifted c.args.parameters.bits (bounds c).bits_most, top_least c.args.parameters.bits (bounds c).bits_least)

pub overflow_cast-result : goal.overflow_cast-result
overflow_cast-result c = omega (arith, top_shifted c.args.parameters.bits (bounds c).bits_most, top_most c.args.parameters.bits (bounds c).bits_most)

pub returns : goal.returns
returns c = top_shifted c.args.parameters.bits (bounds c).bits_most
