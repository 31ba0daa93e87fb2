-- `soundness::probing::passes` meets its contract.
-- Assumes nothing.
use mathlib.Core.Path.{sym}
use native.Mathlib.Omega.{arith}
use Rattle.soundness.proofs.Probed.{none_first, none-probed}
use Rattle.soundness.proofs.probing.passes.Goals as goal

pub returns-then-home-page : goal.returns-then-home-page
returns-then-home-page c = sym (none-probed _ _ _ _ _ c.if-home-page.true c.requires.home_le_page.1.1)

pub probe-requires : goal.probe-requires
probe-requires c =
    let p = c.requires in
    record {
      signers = p.signers;
      home_le_start = (omega arith, (p.home_le_page.0, p.home_le_page.1.1));
      stop_bound = (p.home_le_page.1.0, p.home_in_bounds);
      number_value = none_first _ _ _ _ (omega (arith, p.home_le_page));
    }

pub returns : goal.returns
returns c = rw c.probe.ensures
