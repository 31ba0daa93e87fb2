-- `homes::scalars::reduced` meets its contract.
use mathlib.Core.Path.{sym}
use native.Mathlib.Nat.{mod-eq_of_lt}
use Rattle.homes.proofs.Numbers.{mod_once}
use Rattle.homes.proofs.scalars.reduced.Goals as goal

pub returns-then-value-count : goal.returns-then-value-count
returns-then-value-count c = sym (mod-eq_of_lt c.if-value-count.true)

pub returns : goal.returns
returns c = let start = c.before in sym (mod_once start.args.value start.args.count c.if-value-count.false start.requires)
