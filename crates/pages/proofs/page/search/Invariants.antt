-- `pages::page::search` meets its contract. The invariant: the search has passed i places.
-- Assumes nothing.
use Rattle.pages.proofs.Places.{Searched}
use Rattle.pages.proofs.page.search.Given as goal

abbrev pub invariant-loop-i : goal.invariant-loop-i
invariant-loop-i l = Searched l.number l.there-items l.i
