-- `starfits::list_table` meets its contract.
use Rattle.starfits.proofs.Keeping.{listed_all, listed_after}
use Rattle.starfits.proofs.list_table.Goals as goal

pub returns : goal.returns
returns g c =
    listed_after _ _ _ _ _ (listed_all _ _ _ _ _ _ c.keep-begun.ensures.1 c.in_ok-length.ensures.keeps) c.in_ok-list_all.ensures
