-- `tray_list::loading::load` meets its contract.
use Rattle.tray_list.proofs.Loaded.{loaded_part}
use Rattle.tray_list.proofs.loading.load.Goals as goal

pub returns : goal.returns
returns c = rw (c.blanks-copy.ensures, c.copy_from_slice.ensures.after) (loaded_part _ _ c.requires.0 c.requires.1)
