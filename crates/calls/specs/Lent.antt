-- The lent pool of a call by its contents, as placement's `held`, `before` and `after` give the lent file; and what the work past refusals 1 and 2 needs.
use Rattle.placement.specs.Lent.{Lent}
use Rattle.calls.specs.Answers.{Pool, pooled}

abbrev pub pool_before : Lent → Lent → Lent → Pool
pool_before numbers words owners = pooled numbers.entry.now words.entry.now owners.entry.now

abbrev pub pool_after_lem : Lent → Lent → Lent → Pool
pool_after_lem numbers words owners = pooled numbers.exit.now words.exit.now owners.exit.now
