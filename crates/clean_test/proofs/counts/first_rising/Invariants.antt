-- No page passed over has a separator that could be one greater.
use Prim.Native.Nat.{ℕ, ◌-◌}
use lib.ListN.{get_or}
use Rattle.generator.specs.Generator.{top_of_lem}
use Rattle.reach.proofs.Search.{Sought}
use Rattle.clean_test.specs.Raising.{may_rise}
use Rattle.clean_test.proofs.counts.first_rising.Given as goal

abbrev pub invariant-loop-page : goal.invariant-loop-page
invariant-loop-page l =
    Sought (λ (p : ℕ). may_rise (top_of_lem l.parameters.bits) l.parameters.places (get_or l.separators p 0) (get_or l.counts p 0)) l.from (l.stop - l.from) l.page
