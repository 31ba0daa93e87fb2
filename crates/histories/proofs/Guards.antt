-- The refusals before anything is read, on a fitting model's own file: parameters, growth state and file buffers are never at fault.
use mathlib.Core.Path.{◌≡◌}
use mathlib.Core.Bool.{Bool, ◌&&◌}
use Rattle.hashing.specs.declared.Parameters.{Parameters}
use Rattle.calls.specs.Calls.{file_fits_lem, unless, unlent}
use Rattle.histories.specs.Model.{Model, model_file}
use Rattle.histories.proofs.Fitting.{Fitting, lengths}

-- A call that is accepted has passed them, whatever the file.
module _ (p : Parameters) (m : Model) (t : Fitting p m) where
  pub lent : unlent p m.growth (file_fits_lem p (model_file p m)) ≡ 0
  unfolding unlent
  lent = rw (t.parameters, t.growth, lengths p m t)

  pub lent-pool : (fits : Bool) → unlent p m.growth (file_fits_lem p (model_file p m) && fits) ≡ unless fits 2
  unfolding unlent
  lent-pool fits = rw (t.parameters, t.growth, lengths p m t)
