use Rattle.page_store.specs.Columns.{columns}
use Rattle.page_store.proofs.Loop.{Storing}
use Rattle.page_store.proofs.in_turn.store_pages.Given as goal

abbrev pub invariant-loop-turn : goal.invariant-loop-turn
invariant-loop-turn l =
    Storing l.upward l.places l.lo l.count l.limit (columns l.initial.numbers l.initial.words l.initial.owners) (columns l.poolnumbers l.poolwords l.poolowners) l.turn l.stored l.numbers l.words l.owners
