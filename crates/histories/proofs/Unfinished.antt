-- The second set of an open growth, in a history: page after page of the file that the growth leaves.
use mathlib.Core.Path.{◌≡◌}
use mathlib.Core.Bool.{true}
use Prim.Native.Nat.{ℕ, suc, ◌<◌}
use Rattle.hashing.specs.declared.Parameters.{Parameters}
use Rattle.hashing.specs.Geometry.{grown}
use Rattle.placement.specs.File.{File, pages_at, replaced}
use Rattle.calls.specs.Calls.{file_fits_lem, empty_file_lem}
use Rattle.histories.specs.Model.{Model, updated, model_file, unfinished_file}
use Rattle.histories.specs.Steps.{partly_done}
use Rattle.histories.proofs.Fitting.{Fitting, stars_for, proper}
use Rattle.histories.proofs.Grow.{regrown}
use Rattle.histories.proofs.StepsPages as steps

module _ (p : Parameters) (m : Model) (t : Fitting p m) where
  abbrev finished : File
  finished = model_file p (regrown m (grown p m.growth))

  pub none_done : unfinished_file p m 0 ≡ empty_file_lem p
  unfolding unfinished_file updated partly_done
  none_done = steps.none_done p finished

  pub one_more : (j : ℕ) → j < p.pages → replaced p.places (unfinished_file p m j) j (pages_at p.places finished j 1) ≡ unfinished_file p m (suc j)
  unfolding unfinished_file updated model_file partly_done
  one_more = steps.one_more p (grown p m.growth) t.parameters (stars_for m) (proper p m t)

  pub all_done : unfinished_file p m p.pages ≡ finished
  unfolding unfinished_file updated model_file partly_done
  all_done = steps.all_done p (grown p m.growth) t.parameters (stars_for m) (proper p m t)

  -- its buffers have the right lengths
  pub unfinished_fits : (j : ℕ) → j < p.pages → file_fits_lem p (unfinished_file p m j) ≡ true
  unfolding unfinished_file updated model_file partly_done
  unfinished_fits = steps.partly_fits p (grown p m.growth) t.parameters (stars_for m) (proper p m t)
