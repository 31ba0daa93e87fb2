-- `tray::filing::file_tray` meets its contract.
use mathlib.Core.Path.{refl, ap, ◌∙◌}
use Prim.Native.Nat.{ℕ}
use lib.ListN.{take}
use Rattle.tray_list.specs.Loading.{loaded}
use Rattle.tray.proofs.filing.file_tray.Goals as goal

pub load-loaded-requires : goal.load-loaded-requires
load-loaded-requires c = c.limit.ensures.1

pub close_up-requires : goal.close_up-requires
close_up-requires c = c.file_loaded-closing.ensures.stay_bound

pub returns : goal.returns
returns c =
    let reports = c.args.reports.now in
    record {
      leaves = rw c.close_up.ensures (c.file_loaded-closing.ensures.files_tray reports refl (c.load-loaded.ensures ∙ ap (λ (n : ℕ). loaded (take n reports)) c.limit.ensures.0));
    }
