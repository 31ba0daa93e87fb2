-- `generator::signature_by` meets its contract.
use mathlib.Core.Path.{◌∙◌, ap}
use Prim.Native.Nat.{ℕ, ◌%◌}
use Rattle.generator.specs.Generator.{modulus, top_of_lem}
use Rattle.generator.proofs.Numbers.{mul_mod_right}
use Rattle.generator.proofs.signatures.signature_by.Goals as goal

pub returns : goal.returns
returns c =
    let a = c.args in
    c.below_top.ensures
    ∙ ap (λ (x : ℕ). x % top_of_lem a.bits) (c.residue.ensures ∙ mul_mod_right a.factor modulus a.number)
