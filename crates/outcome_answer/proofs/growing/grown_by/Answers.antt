-- `outcome_answer::grown_by` meets its contract.
use borrow.Author.Rules.{rules}
use Rattle.outcome_answer.proofs.growing.grown_by.Goals as goal

pub returns-in-On : goal.returns-in-On
returns-in-On c = rw (← c.placed_from.ensures, c.in-On.is)

pub returns-in-Refused : goal.returns-in-Refused
returns-in-Refused c = rw (← c.placed_from.ensures, c.in-Refused.is, c.unmoved.ensures)
