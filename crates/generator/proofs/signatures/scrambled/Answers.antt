-- `generator::scrambled` meets its contract.
use mathlib.Core.Path.{◌≡◌, ◌∙◌}
use Prim.Native.Nat.{◌+◌, ◌-◌, ◌%◌}
use native.Mathlib.Omega.{arith}
use Rattle.generator.specs.Generator.{modulus, multipliers}
use Rattle.generator.proofs.Powers.{entry-below, times_entry}
use Rattle.generator.proofs.Scrambling.{scrambled-key}
use Rattle.generator.proofs.signatures.scrambled.Goals as goal

pub residue-requires : goal.residue-requires
unfolding multipliers
residue-requires c =
    (rw c.multipliers-table.ensures (entry-below c.args.multiplier 2049 (c.args.j - 1) (omega arith)), omega arith)

pub returns : goal.returns
unfolding multipliers
returns c =
    let s = c.before.before in
    let e : s.args.j - 1 + 1 ≡ s.args.j = omega (arith, s.requires.le_j.0) in
    c.residue.ensures
    ∙ rw (c.multipliers-table.ensures, times_entry s.args.multiplier 2049 (s.args.j - 1) (s.args.number % modulus) (omega arith), e, scrambled-key s.args.multiplier s.args.j s.args.number)
