use mathlib.Core.Path.{◌≡◌}
use Rattle.placement.specs.Hash.{lent}
use Rattle.comparison.proofs.Differences.{Compared}
use Rattle.comparison.proofs.search.compare.Given as goal

abbrev pub invariant-pages : goal.invariant-pages
invariant-pages l = record {
  compared : Compared l.pages l.places (lent l.separators l.numbers l.words l.owners) (lent l.planned l.plannednumbers l.plannedwords l.plannedowners) l.page 0;
  none : (l.spot.page ≡ l.pages) × (l.spot.place ≡ 0);
}

abbrev pub invariant-loop-place : goal.invariant-loop-place
invariant-loop-place l = record {
  compared : Compared l.pages l.places (lent l.separators l.numbers l.words l.owners) (lent l.planned l.plannednumbers l.plannedwords l.plannedowners) l.page l.place;
  none : (l.spot.page ≡ l.pages) × (l.spot.place ≡ 0);
}
