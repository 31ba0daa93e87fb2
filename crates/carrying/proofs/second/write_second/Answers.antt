-- What the sources name is filled in, then the separators.
use Rattle.carrying.proofs.Carried.{second-written}
use Rattle.carrying.proofs.second.write_second.Goals as goal

pub returns : goal.returns
returns c =
    let filled = c.fill_second.ensures in
    second-written c.args.secondseparators.now c.args.planned.now _ _ _ _ _ _ _ c.requires.secondseparators_in_bounds c.copy.ensures filled.secondnumbers_after filled.secondwords_after filled.secondowners_after
