-- `call_due::end_of_use` meets its contract.
use mathlib.Core.Path.{◌∙◌, sym}
use native.Mathlib.Omega.{arith}
use Rattle.call_due.proofs.Tallies.{blank-all, blank-block}
use Rattle.call_due.proofs.load.end_of_use.Goals as goal

pub returns-then-occupied-eq0 : goal.returns-then-occupied-eq0
returns-then-occupied-eq0 c =
    record {
      blank = blank-block _ _ (blank-all _) _ (omega arith) (sym c.occupied.ensures ∙ c.if-occupied-eq0.true);
      last = λ h. omega arith;
    }

pub returns : goal.returns
returns c = record { blank = c.used.ensures.blank; last = λ h. c.used.ensures.last (omega arith) }
