use mathlib.Core.Path.{◌∙◌, ap}
use Prim.Native.Nat.{ℕ, ◌+◌, ◌-◌, ◌*◌, ◌%◌}
use Rattle.generator.specs.Generator.{modulus, top_of_lem}
use Rattle.hashing.proofs.Bounds.{limits}
use Rattle.page_separator.specs.Words.{home_of}
use Rattle.page_separator.proofs.Factors.{factor_below, factor_signs}
use Rattle.page_separator.proofs.signatures.signature_of.Goals as goal

pub signature_by-requires : goal.signature_by-requires
signature_by-requires c =
    let s = c.before in
    let a = s.args in
    let l = limits a.parameters s.requires.parameters_value in
    (factor_below a.parameters a.factor (a.page - home_of a.word + 1) s.requires.factor_value, (l.bits_least, l.bits_most))

pub returns : goal.returns
returns c =
    let s = c.before.before in
    let a = s.args in
    c.signature_by.ensures
    ∙ ap (λ (n : ℕ). a.factor.value * n % modulus % top_of_lem a.parameters.bits) c.number_of.ensures
    ∙ factor_signs a.parameters a.page a.word a.factor s.requires.factor_value
