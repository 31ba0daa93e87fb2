-- `tray_list::reading::later` meets its contract.
use mathlib.Core.Path.{ap, ◌∙◌}
use mathlib.Core.Bool.{cond}
use Rattle.tray_list.specs.declared.reading.Latest.{Latest}
use Rattle.tray_list.specs.Latest.{later as Latest·later}
use Rattle.tray_list.proofs.reading.later.Goals as goal

pub returns : goal.returns
unfolding Latest·later
returns c = c.prefer.ensures ∙ ap (λ (l : Latest). cond l.found l c.args.latest) c.if_on-newer.ensures
