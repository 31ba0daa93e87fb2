-- `generator::below_top` meets its contract.
use mathlib.Core.Path.{◌∙◌, sym}
use native.Mathlib.Nat.{mod-one}
use native.Mathlib.Omega.{arith}
use Rattle.generator.proofs.Scrambling.{top_at_lem}
use Rattle.generator.proofs.signatures.below_top.Goals as goal

pub returns-then-bits-ge8 : goal.returns-then-bits-ge8
returns-then-bits-ge8 c = top_at_lem c.args.number c.args.bits 8 (omega (arith, c.requires))

pub returns-then-bits-ge7 : goal.returns-then-bits-ge7
returns-then-bits-ge7 c = top_at_lem c.args.number c.args.bits 7 (omega (arith, c.requires))

pub returns-then-bits-ge6 : goal.returns-then-bits-ge6
returns-then-bits-ge6 c = top_at_lem c.args.number c.args.bits 6 (omega (arith, c.requires))

pub returns-then-bits-ge5 : goal.returns-then-bits-ge5
returns-then-bits-ge5 c = top_at_lem c.args.number c.args.bits 5 (omega (arith, c.requires))

pub returns-then-bits-ge4 : goal.returns-then-bits-ge4
returns-then-bits-ge4 c = top_at_lem c.args.number c.args.bits 4 (omega (arith, c.requires))

pub returns-then-bits-ge3 : goal.returns-then-bits-ge3
returns-then-bits-ge3 c = top_at_lem c.args.number c.args.bits 3 (omega (arith, c.requires))

pub returns-then-bits-ge2 : goal.returns-then-bits-ge2
returns-then-bits-ge2 c = top_at_lem c.args.number c.args.bits 2 (omega (arith, c.requires))

pub returns : goal.returns
returns c =
    let start = c.before.before.before.before.before.before.before in
    sym (mod-one start.args.number) ∙ top_at_lem start.args.number start.args.bits 1 (omega (arith, start.requires))
