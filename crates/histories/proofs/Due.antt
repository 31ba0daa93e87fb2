-- Dues.
use mathlib.Core.Path.{refl}
use Rattle.hashing.specs.declared.Parameters.{Parameters}
use Rattle.calls.specs.Answers.{Pool, counted}
use Rattle.calls.specs.Calls.{unchanged, due_of}
use Rattle.calls.specs.Due.{stars, is_due}
use Rattle.histories.specs.Model.{Model, due, updated, model_file}
use Rattle.histories.proofs.Fitting.{Fitting}
use Rattle.histories.proofs.Guards.{lent}
use Rattle.histories.proofs.Conforms.{Conforms, accepted-conforms}

pub due_conforms : (p : Parameters) (m : Model) → Fitting p m → (pool : Pool) → Conforms p m due (due_of p m.growth (model_file p m) pool)
unfolding due_of updated counted
due_conforms p m t pool =
    rw (lent p m t)
    (accepted-conforms p m t due
    (unchanged m.growth (model_file p m) pool (counted (is_due p m.growth (model_file p m).numbers) (stars (model_file p m).numbers)))
    refl
    refl
    refl
    t
    (λ k e. cc))
