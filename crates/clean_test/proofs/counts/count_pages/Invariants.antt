-- The pages from `from` up to the one before `page` are counted.
use Rattle.clean_test.specs.Raising.{hash_under, PassersCounted}
use Rattle.clean_test.proofs.counts.count_pages.Given as goal

abbrev pub invariant-loop-page : goal.invariant-loop-page
invariant-loop-page l = PassersCounted (hash_under l.geometry) l.separators l.numbers l.from l.page l.counts
