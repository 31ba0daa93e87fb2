use borrow.Author.Rules.{rules}
use borrow.Author.Tests.{eq-eqb, ne_eqb}
use Rattle.decision.proofs.edits.take.Goals as goal

pub returns-then-limit-eq0 : goal.returns-then-limit-eq0
returns-then-limit-eq0 c = let none = eq-eqb _ 0 c.if-limit-eq0.true in record { of_numbers = rw none; of_words_lem = rw none; of_owners = rw none }

pub returns : goal.returns
returns c =
    let some = ne_eqb _ 0 c.if-limit-eq0.false in
    let taken = c.take_star.ensures in
    record { of_numbers = rw some taken.of_numbers; of_words_lem = rw some taken.of_words_lem; of_owners = rw some taken.of_owners }
