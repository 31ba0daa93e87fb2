-- `pages::page::load` meets its contract. The invariant: the first i items of the page are in the value, and its other places are empty.
-- Assumes nothing.
use Rattle.pages.proofs.Parts.{Loaded}
use Rattle.pages.proofs.page.load.Given as goal

abbrev pub invariant-loop-i : goal.invariant-loop-i
invariant-loop-i l = record {
  numbers : Loaded l.numbers l.first l.i l.value.numbers;
  words : Loaded l.words l.first l.i l.value.words;
  owners : Loaded l.owners l.first l.i l.value.owners;
}
