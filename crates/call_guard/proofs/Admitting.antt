-- What a call that passed its guard has.
use mathlib.Core.Path.{◌≡◌, sym, ap, ◌∙◌}
use mathlib.Core.Bool.{Bool, true}
use mathlib.Core.List.{List}
use Prim.Native.Nat.{ℕ, ◌<◌}
use borrow.Author.Tests.{ltb-true}
use Rattle.hashing.specs.declared.Parameters.{Parameters}
use Rattle.hashing.specs.declared.Growth.{Growth}
use Rattle.hashing.specs.declared.Geometry.{Geometry}
use Rattle.generator.specs.Generator.{valid_multiplier}
use Rattle.generator.specs.Shape.{first_multipliers_lem}
use Rattle.hashing.specs.Geometry.{multiplier_of}
use Rattle.hashing.proofs.Bounds.{both, limits}
use Rattle.placement.specs.File.{File}
use Rattle.placement.specs.Hash.{sound_at}
use Rattle.placement.specs.Ready.{Ready}
use Rattle.placement.proofs.Prepared.{ready}
use Rattle.calls.specs.Shape.{Admitted}
use Rattle.calls.specs.Calls.{readable, may_alter_lem}

-- what the calls below need, with the table that the call made
pub prepared : {g : Geometry} {t : List ℕ} {f : File} → t ≡ first_multipliers_lem (multiplier_of g.parameters) → Admitted g.parameters g.growth f → Ready g t f
prepared table a = ready table a.homing.valid a.homing.growth a.sized

-- the multiplier has a table
pub tabled : {p : Parameters} {g : Growth} {f : File} → Admitted p g f → valid_multiplier p.multiplier ≡ true
tabled {p} a = (limits p a.homing.valid).multiplier_valid

pub readable-facts : (p : Parameters) (g : Growth) (f : File) (page : ℕ) → readable p g f page ≡ true → (page < p.pages) × (sound_at p g f page ≡ true)
unfolding readable
readable-facts p g f page e =
    let t = both _ _ e in
    (ltb-true _ _ t.0, t.1)

-- whether the caller may alter the star, said of the lent owners
pub altered : (caller owner owned : ℕ) (r t : Bool) → owner ≡ owned → r ≡ may_alter_lem caller owner → r ≡ t → may_alter_lem caller owned ≡ t
altered caller owner owned r t e a b = ap (may_alter_lem caller) (sym e) ∙ (sym a ∙ b)
