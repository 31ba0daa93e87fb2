-- What the work below the calls needs, from what the calls test.
use mathlib.Core.Path.{◌≡◌, ◌∙◌, ap}
use mathlib.Core.Bool.{true}
use mathlib.Core.List.{List}
use Prim.Native.Nat.{ℕ, ◌*◌, ◌≤◌}
use native.Mathlib.Omega.{arith}
use lib.ListN.{length}
use Rattle.hashing.specs.declared.Parameters.{Parameters}
use Rattle.hashing.specs.declared.Geometry.{Geometry}
use Rattle.generator.specs.Generator.{chain, multipliers}
use Rattle.generator.specs.Shape.{first_multipliers_lem}
use Rattle.generator.proofs.Powers.{length-chain, lent-chain}
use Rattle.hashing.specs.Geometry.{multiplier_of}
use Rattle.hashing.specs.Limits.{valid_parameters, valid_growth}
use Rattle.placement.specs.File.{File}
use Rattle.placement.specs.Shape.{Sized}
use Rattle.placement.specs.Ready.{Signers, Homing, Ready, Pooled}

pub homing : {g : Geometry} {t : List ℕ} → t ≡ first_multipliers_lem (multiplier_of g.parameters) → valid_parameters g.parameters ≡ true
    → valid_growth g.parameters g.growth ≡ true → Homing g t
homing table valid growth = record { table = table; valid = valid; growth = growth }

pub ready : {g : Geometry} {t : List ℕ} {f : File} → t ≡ first_multipliers_lem (multiplier_of g.parameters) → valid_parameters g.parameters ≡ true
    → valid_growth g.parameters g.growth ≡ true → Sized g.parameters.places g.parameters.pages f → Ready g t f
ready table valid growth sized = record { homing = homing table valid growth; sized = sized }

pub pool-ready : {p : Parameters} {ns ws os : List ℕ} → (length ns ≡ p.pages * p.places) × ((length ws ≡ p.pages * p.places) × (length os ≡ p.pages * p.places)) → Pooled p ns ws os
pool-ready lengths = record { of_numbers = lengths.0; of_words_lem = lengths.1.0; of_owners = lengths.1.1 }

-- the first ninety multipliers, or all

pub first-long : (a : ℕ) {t : List ℕ} → t ≡ first_multipliers_lem a → length t ≡ 90
unfolding first_multipliers_lem
first-long a e = ap length e ∙ length-chain a 1 90

pub whole_long : (a : ℕ) {t : List ℕ} → t ≡ multipliers a → length t ≡ 2049
unfolding multipliers
whole_long a e = ap length e ∙ length-chain a 1 2049

pub first-signers : {p : Parameters} {t : List ℕ} → t ≡ first_multipliers_lem (multiplier_of p) → valid_parameters p ≡ true → Signers p t
unfolding first_multipliers_lem
first-signers {p} {t} e valid = record { table = lent-chain (multiplier_of p) 90 t e; long = omega (arith, first-long (multiplier_of p) e); valid = valid }

pub whole-signers : {p : Parameters} {t : List ℕ} → t ≡ multipliers (multiplier_of p) → valid_parameters p ≡ true → Signers p t
unfolding multipliers
whole-signers {p} {t} e valid = record { table = lent-chain (multiplier_of p) 2049 t e; long = omega (arith, whole_long (multiplier_of p) e); valid = valid }
