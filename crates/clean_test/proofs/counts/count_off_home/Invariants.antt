-- Those of the first i numbers of the page are counted that passed a page.
use Rattle.clean_test.specs.Raising.{hash_under}
use Rattle.clean_test.proofs.Counters.{PlacesCounted}
use Rattle.clean_test.proofs.counts.count_off_home.Given as goal

abbrev pub invariant-loop-i : goal.invariant-loop-i
invariant-loop-i l = PlacesCounted (hash_under l.geometry) l.separators l.numbers l.from l.page l.i l.initial.counts l.counts
