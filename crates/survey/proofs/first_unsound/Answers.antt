-- `survey::first_unsound` meets its contract.
use native.Mathlib.Omega.{arith}
use Rattle.survey.proofs.first_unsound.Goals as goal

pub survey-requires : goal.survey-requires
survey-requires c =
    let p = c.requires in
    record {
      ready = p.ready;
      from_le_stop = p.from_le_stop;
      places_in_bounds = omega (arith, p.places_bound);
    }
