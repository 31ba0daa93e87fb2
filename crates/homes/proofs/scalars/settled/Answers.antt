-- `homes::scalars::settled` meets its contract.
use mathlib.Core.Path.{sym}
use native.Mathlib.Nat.{mod-eq_of_lt}
use Rattle.homes.proofs.Numbers.{modulus-only}
use Rattle.homes.proofs.scalars.settled.Goals as goal

pub returns-then-value-lt2147483647 : goal.returns-then-value-lt2147483647
returns-then-value-lt2147483647 c = sym (mod-eq_of_lt c.if-value-lt2147483647.true)

pub returns : goal.returns
returns c = sym (modulus-only c.args.value c.if-value-lt2147483647.false c.requires)
