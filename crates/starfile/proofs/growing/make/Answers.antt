-- `starfile::growing::make` meets its contract.
use Rattle.call_guard.proofs.Turned.{restored_by}
use Rattle.starfile.proofs.growing.make.Goals as goal

pub returns : goal.returns
returns c =
    let made = restored_by c.at_rest_after.ensures c.make.ensures.leaves c.make.ensures.growth_value in
    record { leaves = made.0; growth_after = made.1 }
