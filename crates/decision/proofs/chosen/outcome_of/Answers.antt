-- `decision::outcome_of` meets its contract.
use mathlib.Core.Path.{sym, ap}
use borrow.Author.Rules.{rules}
use Rattle.decision.specs.Carried.{outcome_of_lem}
use Rattle.decision.proofs.chosen.outcome_of.Goals as goal

pub returns-in-Unsound : goal.returns-in-Unsound
returns-in-Unsound c = sym (ap outcome_of_lem c.in-Unsound.is)

pub returns-in-Put : goal.returns-in-Put
returns-in-Put c = sym (ap outcome_of_lem c.in-Put.is)

pub returns-in-Take : goal.returns-in-Take
returns-in-Take c = sym (ap outcome_of_lem c.in-Take.is)

pub returns-in-Planned : goal.returns-in-Planned
returns-in-Planned c = sym (ap outcome_of_lem c.in-Planned.is)
